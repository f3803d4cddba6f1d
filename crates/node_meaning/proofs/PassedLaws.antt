-- Reading the passed commits of an order: the one with a number is the one that its event makes.
use Rattle.std.proofs.Common.{◌≡◌, ℕ, zero, suc, ◌+◌, ◌-◌, ◌≤◌, ◌<◌, Bool, true, false, ◌&&◌, inl, inr, List, [], ◌∷◌, length, Option, None, Some, refl, ap, sym, subst, ◌∙◌, arith, add-one, eq-eqb, eqb→eq, ltb-false, ltb-true, lt-ltb, le-ltb}
use Rattle.std.specs.Prelude.{◌==◌, nat_lt, slice_get, cond, T, map}
use Rattle.std.specs.List.{filter}
use Rattle.std.proofs.lemmas.Option.{slice_get_within}
use Rattle.std.proofs.lemmas.Option.{same_Some}
use Rattle.std.proofs.lemmas.Bool.{and_parts, false_from_ne_true}
use Rattle.key_sets.specs.Keys.{Keys, touches}
use Rattle.key_sets.proofs.ListLemmas.{In}
use Rattle.wsrep_base.specs.Trx.{greatest}
use Rattle.order_event.specs.declared.event.Event.{Event}
use Rattle.cert_meaning.specs.declared.items.CommitItem.{CommitItem}
use Rattle.cert_meaning.specs.State.{RiseWithin, commit_numbered}
use Rattle.cert_meaning.specs.Fold.{state_at, commit_of}
use Rattle.cert_meaning.proofs.FoldLaws.{some_there}
use Rattle.cert_meaning.proofs.CommitLaws.{commits-rise, numbered-at, none-numbered}
use Rattle.node_meaning.specs.Node.{ahead, passed_at}
use Rattle.node_meaning.specs.Steps.{touching_before}
use Rattle.node_meaning.specs.Facts.{commit_at}
use Rattle.node_meaning.proofs.EntryLaws.{some_not_none}

-- ---- one number
differs : (m n : ℕ) → (m ≡ n → ⊥) → m == n ≡ false
differs m n unequal = by (m == n) refl
  where
    by : (b : Bool) → m == n ≡ b → b ≡ false
    by true same = absurd (unequal (eqb→eq m n (subst T (sym same) tt)))
    by false same = refl

zero_none : (above most : ℕ) (commits : List CommitItem) → RiseWithin above most commits → commit_numbered 0 commits ≡ None
zero_none above most [] rise = refl
zero_none above most (c ∷ cs) rise =
    ap (λ b. cond b (Some c) (commit_numbered 0 cs)) (differs c.number 0 (λ same. omega (arith, same, rise.0)))
    ∙ zero_none c.number most cs rise.2

-- the commit numbered k + 1 is the one that event k + 1 of the order makes
pub commit_at-is : (order : List Event) (k : ℕ) (e : Event) → slice_get order k ≡ Some e
    → commit_at order (k + 1) ≡ commit_of (state_at order k) e
commit_at-is order k e there =
    let within : k < length order = slice_get_within order k e there in
    numbered-at order k (k + 1) e (omega arith) (omega arith) there

-- as the number of an event, counted from 1
pub commit_at-before : (order : List Event) (number : ℕ) (e : Event) → 1 ≤ number → slice_get order (number - 1) ≡ Some e
    → commit_at order number ≡ commit_of (state_at order (number - 1)) e
commit_at-before order number e above there =
    let same : (number - 1) + 1 ≡ number = omega arith in
    ap (commit_at order) (sym same) ∙ commit_at-is order (number - 1) e there

numbered_suc : (order : List Event) (k n : ℕ) → suc k ≤ n → n ≤ length order
    → commit_numbered (k + 1) (state_at order n).commits ≡ commit_at order (k + 1)
numbered_suc order k n within fits =
    let there = some_there order k (omega arith) in
    numbered-at order k n there.0 (omega arith) fits there.1
    ∙ sym (commit_at-is order k there.0 there.1)

-- a later state has the same commit with a number
pub numbered_within : (order : List Event) (number n : ℕ) → number ≤ n → n ≤ length order
    → commit_numbered number (state_at order n).commits ≡ commit_at order number
numbered_within order zero n within fits =
    zero_none 0 n (state_at order n).commits (commits-rise order n fits) ∙ sym (zero_none 0 0 (state_at order 0).commits (commits-rise order 0 (omega arith)))
numbered_within order (suc k) n within fits =
    subst (λ m. commit_numbered m (state_at order n).commits ≡ commit_at order m) (add-one k) (numbered_suc order k n within fits)

numbered_here : (n : ℕ) (d : CommitItem) (ds : List CommitItem) (c : CommitItem) (b : Bool) → d.number == n ≡ b
    → cond b (Some d) (commit_numbered n ds) ≡ Some c → (commit_numbered n ds ≡ Some c → In c ds × (c.number ≡ n))
    → In c (d ∷ ds) × (c.number ≡ n)
numbered_here n d ds c true same h later =
    let d_is = same_Some d c h in
    (inl (sym d_is), ap (λ (x : CommitItem). x.number) (sym d_is) ∙ eqb→eq d.number n (subst T (sym same) tt))
numbered_here n d ds c false same h later = let rest = later h in (inr rest.0, rest.1)

-- a commit has the number at which it stands
pub numbered-number : (n : ℕ) (commits : List CommitItem) (c : CommitItem) → commit_numbered n commits ≡ Some c
    → In c commits × (c.number ≡ n)
numbered-number n [] c is = cc
numbered-number n (d ∷ ds) c is = numbered_here n d ds c (d.number == n) refl is (numbered-number n ds c)

pub commit_at-number : (order : List Event) (number : ℕ) (c : CommitItem) → commit_at order number ≡ Some c → c.number ≡ number
commit_at-number order number c is = (numbered-number number (state_at order number).commits c is).1

above_all : (above most : ℕ) (commits : List CommitItem) (c : CommitItem) → RiseWithin above most commits → In c commits
    → (above < c.number) × (c.number ≤ most)
above_all above most [] c rise i = absurd i
above_all above most (d ∷ ds) c rise (inl is) =
    (subst (λ (x : CommitItem). above < x.number) (sym is) rise.0, subst (λ (x : CommitItem). x.number ≤ most) (sym is) rise.1)
above_all above most (d ∷ ds) c rise (inr i) =
    let rest = above_all d.number most ds c rise.2 i in (omega (arith, rest.0, rise.0), rest.1)

-- a member of commits with rising numbers is the one with its number
pub numbered-in : (above most : ℕ) (commits : List CommitItem) (c : CommitItem) → RiseWithin above most commits → In c commits
    → commit_numbered c.number commits ≡ Some c
numbered-in above most [] c rise i = absurd i
numbered-in above most (d ∷ ds) c rise (inl is) =
    ap (λ b. cond b (Some d) (commit_numbered c.number ds)) (eq-eqb d.number c.number (ap (λ (x : CommitItem). x.number) (sym is)))
    ∙ ap Some (sym is)
numbered-in above most (d ∷ ds) c rise (inr i) =
    ap (λ b. cond b (Some d) (commit_numbered c.number ds)) (differs d.number c.number (λ same. omega (arith, same, (above_all d.number most ds c rise.2 i).0)))
    ∙ numbered-in d.number most ds c rise.2 i

-- ---- those that are certified and not committed
kept_at : (committed number : ℕ) (c : CommitItem) (cs : List CommitItem) (kept same : Bool) → nat_lt committed c.number ≡ kept
    → c.number == number ≡ same
    → commit_numbered number (filter (λ (d : CommitItem). nat_lt committed d.number) cs) ≡ cond (nat_lt committed number) (commit_numbered number cs) None
    → commit_numbered number (cond kept (c ∷ filter (λ (d : CommitItem). nat_lt committed d.number) cs) (filter (λ (d : CommitItem). nat_lt committed d.number) cs))
    ≡ cond (nat_lt committed number) (cond same (Some c) (commit_numbered number cs)) None
kept_at committed number c cs true true kept same rest =
    let is : c.number ≡ number = eqb→eq c.number number (subst T (sym same) tt) in
    ap (λ b. cond b (Some c) (commit_numbered number (filter (λ (d : CommitItem). nat_lt committed d.number) cs))) same
    ∙ sym (ap (λ b. cond b (Some c) None) (ap (nat_lt committed) (sym is) ∙ kept))
kept_at committed number c cs true false kept same rest =
    ap (λ b. cond b (Some c) (commit_numbered number (filter (λ (d : CommitItem). nat_lt committed d.number) cs))) same ∙ rest
kept_at committed number c cs false true kept same rest =
    let is : c.number ≡ number = eqb→eq c.number number (subst T (sym same) tt) in
    let none : nat_lt committed number ≡ false = ap (nat_lt committed) (sym is) ∙ kept in
    rest ∙ ap (λ b. cond b (commit_numbered number cs) None) none ∙ sym (ap (λ b. cond b (Some c) None) none)
kept_at committed number c cs false false kept same rest = rest

numbered_filter : (committed number : ℕ) (cs : List CommitItem)
    → commit_numbered number (filter (λ (d : CommitItem). nat_lt committed d.number) cs) ≡ cond (nat_lt committed number) (commit_numbered number cs) None
numbered_filter committed number [] = by (nat_lt committed number)
  where
    by : (b : Bool) → ◌≡◌ {A = Option CommitItem} None (cond b None None)
    by true = refl
    by false = refl
numbered_filter committed number (c ∷ cs) =
    kept_at committed number c cs (nat_lt committed c.number) (c.number == number) refl refl (numbered_filter committed number cs)

-- the passed commit with a number that is certified and not committed is the one of its event
pub passed-is : (order : List Event) (committed certified number : ℕ) → committed < number → number ≤ certified → certified ≤ length order
    → passed_at order committed certified number ≡ commit_at order number
passed-is order committed certified number above within fits =
    numbered_filter committed number (state_at order certified).commits
    ∙ ap (λ b. cond b (commit_numbered number (state_at order certified).commits) None) (lt-ltb committed number above)
    ∙ numbered_within order number certified within fits

-- none where the number is committed already
pub passed-committed : (order : List Event) (committed certified number : ℕ) → number ≤ committed
    → passed_at order committed certified number ≡ None
passed-committed order committed certified number done =
    numbered_filter committed number (state_at order certified).commits
    ∙ ap (λ b. cond b (commit_numbered number (state_at order certified).commits) None) (le-ltb committed number done)

none_either : (b : Bool) (o : Option CommitItem) → o ≡ None → cond b o None ≡ None
none_either true o none = none
none_either false o none = refl

-- none where the number is not certified
pub passed-uncertified : (order : List Event) (committed certified number : ℕ) → certified < number → certified ≤ length order
    → passed_at order committed certified number ≡ None
passed-uncertified order committed certified number after fits =
    numbered_filter committed number (state_at order certified).commits
    ∙ none_either (nat_lt committed number) _ (none-numbered order certified number fits after)

-- a passed commit that a node reads is certified and not committed
pub record IsPassed (order : List Event) (committed certified number : ℕ) (c : CommitItem) : Type 0 where
  pub above : committed < number
  pub within : number ≤ certified
  pub is_commit : commit_at order number ≡ Some c

pub from_passed : (order : List Event) (committed certified number : ℕ) (c : CommitItem) → certified ≤ length order
    → passed_at order committed certified number ≡ Some c → IsPassed order committed certified number c
from_passed order committed certified number c fits is = by (nat_lt committed number) (nat_lt certified number) refl refl
  where
    by : (a u : Bool) → nat_lt committed number ≡ a → nat_lt certified number ≡ u → IsPassed order committed certified number c
    by false u e f = absurd (some_not_none c _ is (passed-committed order committed certified number (ltb-false committed number e)))
    by true true e f = absurd (some_not_none c _ is (passed-uncertified order committed certified number (ltb-true certified number f) fits))
    by true false e f =
        let above : committed < number = ltb-true committed number e in
        let within : number ≤ certified = ltb-false certified number f in
        record { above = above; within = within; is_commit = sym (passed-is order committed certified number above within fits) ∙ is }

-- ---- membership
in_kept : {X : Type 0} (test : X → Bool) (y : X) (ys : List X) (x : X) (b : Bool) → test y ≡ b
    → In x (cond b (y ∷ filter test ys) (filter test ys)) → (In x (filter test ys) → In x ys × (test x ≡ true))
    → In x (y ∷ ys) × (test x ≡ true)
in_kept test y ys x true passes (inl is) more = (inl is, ap test is ∙ passes)
in_kept test y ys x true passes (inr later) more = let rest = more later in (inr rest.0, rest.1)
in_kept test y ys x false passes later more = let rest = more later in (inr rest.0, rest.1)

in_filter : {X : Type 0} (test : X → Bool) (xs : List X) (x : X) → In x (filter test xs) → In x xs × (test x ≡ true)
in_filter test [] x i = absurd i
in_filter test (y ∷ ys) x i = in_kept test y ys x (test y) refl i (in_filter test ys x)

kept_in : {X : Type 0} (y : X) (ys : List X) (x : X) (b : Bool) → In x ys → In x (cond b (y ∷ ys) ys)
kept_in y ys x true later = inr later
kept_in y ys x false later = later

filter_in : {X : Type 0} (test : X → Bool) (xs : List X) (x : X) → In x xs → test x ≡ true → In x (filter test xs)
filter_in test [] x i passes = absurd i
filter_in test (y ∷ ys) x (inl is) passes =
    subst (λ b. In x (cond b (y ∷ filter test ys) (filter test ys))) (sym (ap test (sym is) ∙ passes)) (inl is)
filter_in test (y ∷ ys) x (inr i) passes = kept_in y (filter test ys) x (test y) (filter_in test ys x i passes)

-- what is ahead is what passed and is certified and not committed
pub in_ahead : (order : List Event) (committed certified number : ℕ) (c : CommitItem) → certified ≤ length order
    → IsPassed order committed certified number c → In c (ahead order committed certified)
in_ahead order committed certified number c fits passed =
    let found = numbered-number number (state_at order certified).commits c (numbered_within order number certified passed.within fits ∙ passed.is_commit) in
    filter_in (λ (d : CommitItem). nat_lt committed d.number) (state_at order certified).commits c found.0
    (lt-ltb committed c.number (subst (λ m. committed < m) (sym found.1) passed.above))

pub from_ahead : (order : List Event) (committed certified : ℕ) (c : CommitItem) → certified ≤ length order
    → In c (ahead order committed certified) → IsPassed order committed certified c.number c
from_ahead order committed certified c fits i =
    let found = in_filter (λ (d : CommitItem). nat_lt committed d.number) (state_at order certified).commits c i in
    let rise = commits-rise order certified fits in
    let within = (above_all 0 certified (state_at order certified).commits c rise found.0).1 in
    record {
      above = ltb-true committed c.number found.1;
      within = within;
      is_commit = sym (numbered_within order c.number certified within fits) ∙ numbered-in 0 certified (state_at order certified).commits c rise found.0;
    }

in_map : {X Y : Type 0} (f : X → Y) (xs : List X) (x : X) → In x xs → In (f x) (map f xs)
in_map f [] x i = absurd i
in_map f (y ∷ ys) x (inl is) = inl (ap f is)
in_map f (y ∷ ys) x (inr i) = inr (in_map f ys x i)

from_map : {X Y : Type 0} (f : X → Y) (xs : List X) (y : Y) → In y (map f xs) → (x : X) × In x xs × (y ≡ f x)
from_map f [] y i = absurd i
from_map f (x ∷ xs) y (inl is) = (x, inl refl, is)
from_map f (x ∷ xs) y (inr i) = let rest = from_map f xs y i in (rest.0, inr rest.1, rest.2)

-- an earlier passed commit that touches the keys
pub record IsInTheWay (order : List Event) (committed number : ℕ) (keys : Keys) (earlier : ℕ) : Type 0 where
  pub above : committed < earlier
  pub below : earlier < number
  pub item : CommitItem
  pub is_commit : commit_at order earlier ≡ Some item
  pub touching : touches item.keys keys ≡ true

and_are : (a b : Bool) → a ≡ true → b ≡ true → a && b ≡ true
and_are true b one other = other
and_are false b one other = one

module _ (order : List Event) (committed certified number : ℕ) (keys : Keys) (fits : certified ≤ length order) where
  abbrev in_the_way : CommitItem → Bool
  in_the_way c = nat_lt c.number number && touches c.keys keys

  -- the numbers before a unit that touch it are those of the passed commits in its way
  pub from_touching : (earlier : ℕ) → In earlier (touching_before (ahead order committed certified) number keys)
      → IsInTheWay order committed number keys earlier
  from_touching earlier i =
      let found = from_map (λ (c : CommitItem). c.number) (filter in_the_way (ahead order committed certified)) earlier i in
      let c = found.0 in
      let kept = in_filter in_the_way (ahead order committed certified) c found.1 in
      let passed = from_ahead order committed certified c fits kept.0 in
      let tests = and_parts (nat_lt c.number number) (touches c.keys keys) kept.1 in
      record {
        above = subst (λ m. committed < m) (sym found.2) passed.above;
        below = subst (λ m. m < number) (sym found.2) (ltb-true c.number number tests.0);
        item = c;
        is_commit = subst (λ m. commit_at order m ≡ Some c) (sym found.2) passed.is_commit;
        touching = tests.1;
      }

  pub in_touching : (earlier : ℕ) → earlier ≤ certified → IsInTheWay order committed number keys earlier
      → In earlier (touching_before (ahead order committed certified) number keys)
  in_touching earlier within way =
      let is = commit_at-number order earlier way.item way.is_commit in
      subst (λ m. In m (touching_before (ahead order committed certified) number keys)) is
      (in_map (λ (c : CommitItem). c.number) (filter in_the_way (ahead order committed certified)) way.item
      (filter_in in_the_way (ahead order committed certified) way.item
      (in_ahead order committed certified earlier way.item fits (record { above = way.above; within = within; is_commit = way.is_commit }))
      (and_are (nat_lt way.item.number number) (touches way.item.keys keys)
      (lt-ltb way.item.number number (subst (λ m. m < number) (sym is) way.below)) way.touching)))

  none_in : (ns : List ℕ) (n : ℕ) → greatest ns ≡ None → In n ns → ⊥
  none_in [] n none i = i
  none_in (m ∷ ms) n none i = cc

  -- where there is none, no passed commit between touches the keys
  pub none_touching : number ≤ certified → greatest (touching_before (ahead order committed certified) number keys) ≡ None
      → (earlier : ℕ) (c : CommitItem) → committed < earlier → earlier < number → commit_at order earlier ≡ Some c
      → touches c.keys keys ≡ false
  none_touching within none earlier c above below is =
      false_from_ne_true _ (λ yes.
      none_in (touching_before (ahead order committed certified) number keys) earlier none
      (in_touching earlier (omega (arith, below, within)) (record { above = above; below = below; item = c; is_commit = is; touching = yes })))
