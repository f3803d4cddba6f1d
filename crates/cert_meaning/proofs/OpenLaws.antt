-- The fragments of two open transactions do not touch, and no commit conflicts with an open fragment since what it had seen:
-- each event keeps this.
use Rattle.std.proofs.Common.{◌≡◌, ◌≢◌, ℕ, zero, suc, ◌+◌, ◌≤◌, Bool, true, false, cond, ◌||◌, ◌&&◌, List, [], ◌∷◌, ◌++◌, Option, None, Some, refl, ap, sym, subst, ◌∙◌, arith, true≢false, append-nil}
use Rattle.std.specs.Prelude.{not, fold, flat_map, map, filter, nat_le, nat_lt, slice_get, unwrap_or}
use Rattle.std.specs.List.{AllByRecursion}
use Rattle.std.specs.Ordering.{eq_by_cmp}
use Rattle.std.specs.FinMap.Entries.{find}
use Rattle.std.proofs.lemmas.Bool.{false_from_ne_true}
use Rattle.std.proofs.lemmas.List.Elements.{filter-append}
use Rattle.finite_map.specs.FiniteMap.{FiniteMap, empty, get, insert, remove, retain_keys, get-empty, get-insert, get-remove, get-retain_keys, get-entries}
use Rattle.finite_map.proofs.Edits.{tied, untied, get-taken_beside}
use Rattle.wsrep_base.specs.declared.ids.TrxId.{TrxId}
use Rattle.wsrep_base.specs.Trx.{trx_cmp, greatest}
use Rattle.key_sets.specs.Keys.{Keys, union, conflicts, touches}
use Rattle.key_sets.proofs.KeyLaws.{touches-symm, touches-union, touches-empty, touches_from_conflicts}
use Rattle.order_event.specs.declared.event.Event.{Event}
use Rattle.order_event.specs.declared.event.Event.TheVariants.{Write, View, Report}
use Rattle.write_set.specs.declared.write_set.WriteSet.{WriteSet}
use Rattle.write_set.specs.Reading.{decoded}
use Rattle.cert_meaning.specs.declared.items.CommitItem.{CommitItem}
use Rattle.cert_meaning.specs.declared.items.Fragment.{Fragment}
use Rattle.cert_meaning.specs.declared.members.Standing.{Standing}
use Rattle.cert_meaning.specs.Search.{is_related, greatest_related}
use Rattle.cert_meaning.specs.State.{FoldState, no_events, fragments_of, fragments_but, fragment_keys, whole_keys}
use Rattle.cert_meaning.specs.Verdict.{trx_of, greatest_touching, conflict_of, held_by}
use Rattle.cert_meaning.specs.Fold.{Effect, Same, Closes, Adds, Commits, effect_of, judged_write, affected, written, viewed, reported, is_of, changed_by, settled, after, after_next, state_at, fragment_by, commit_by}
use Rattle.cert_meaning.specs.Open.{IsUnopposed, OpenAreUnopposed, OpenStayUnopposed}
use Rattle.cert_meaning.proofs.TrxLemmas.{transactions, trx_total, trx_exact}
use Rattle.cert_meaning.proofs.WholeLemmas.{fragment_keys-more}
use Rattle.cert_meaning.proofs.VerdictLaws.{HasPassed, IsTaken, taken-passed}

-- ---- lists
all_append : {A : Type 0} (P : A → Type 0) (xs ys : List A) → AllByRecursion P xs → AllByRecursion P ys → AllByRecursion P (xs ++ ys)
all_append P [] ys one other = other
all_append P (x ∷ xs) ys one other = (one.0, all_append P xs ys one.1 other)

all_split : {A : Type 0} (P : A → Type 0) (xs ys : List A) → AllByRecursion P (xs ++ ys) → AllByRecursion P xs × AllByRecursion P ys
all_split P [] ys all = (tt, all)
all_split P (x ∷ xs) ys all = let rest = all_split P xs ys all.1 in ((all.0, rest.0), rest.1)

all_both : {A : Type 0} (P Q R : A → Type 0) → ((x : A) → P x → Q x → R x) → (xs : List A)
    → AllByRecursion P xs → AllByRecursion Q xs → AllByRecursion R xs
all_both P Q R f [] one other = tt
all_both P Q R f (x ∷ xs) one other = (f x one.0 other.0, all_both P Q R f xs one.1 other.1)

neither : (a b : Bool) → a || b ≡ false → (a ≡ false) × (b ≡ false)
neither true b is = cc
neither false b is = (refl, is)

both_false : (a b : Bool) → a ≡ false → b ≡ false → a || b ≡ false
both_false true b one other = cc
both_false false b one other = other

-- ---- keys that touch no fragment
abbrev TouchNone : Keys → List Fragment → Type 0
TouchNone keys fragments = AllByRecursion (λ (f : Fragment). touches f.keys keys ≡ false) fragments

abbrev joined : Keys → List Fragment → Keys
joined all fragments = fold (λ (ks : Keys) (f : Fragment). union ks f.keys) all fragments

touch_none : (all keys : Keys) (fs : List Fragment) → touches (joined all fs) keys ≡ false → (touches all keys ≡ false) × TouchNone keys fs
touch_none all keys [] is = (is, tt)
touch_none all keys (f ∷ fs) is =
    let rest = touch_none (union all f.keys) keys fs is in
    let two = neither (touches all keys) (touches f.keys keys) (sym (touches-union all f.keys keys) ∙ rest.0) in
    (two.0, (two.1, rest.1))

joined_apart : (all keys : Keys) (fs : List Fragment) → touches all keys ≡ false → TouchNone keys fs → touches (joined all fs) keys ≡ false
joined_apart all keys [] start none = start
joined_apart all keys (f ∷ fs) start none =
    joined_apart (union all f.keys) keys fs (touches-union all f.keys keys ∙ both_false _ _ start none.0) none.1

none_greatest : (keys : Keys) (fs : List Fragment) → greatest_touching fs keys ≡ None → TouchNone keys fs
none_greatest keys [] is = tt
none_greatest keys (f ∷ fs) is = by (touches f.keys keys) refl is (none_greatest keys fs)
  where
    by : (b : Bool) → touches f.keys keys ≡ b
        → greatest (map (λ (g : Fragment). g.number) (cond b (f ∷ filter (λ (g : Fragment). touches g.keys keys) fs) (filter (λ (g : Fragment). touches g.keys keys) fs))) ≡ None
        → (greatest_touching fs keys ≡ None → TouchNone keys fs) → TouchNone keys (f ∷ fs)
    by true meets is rest = cc
    by false apart is rest = (apart, rest is)

-- ---- the fragments of each transaction
abbrev in_open : FiniteMap trx_cmp (List Fragment) → TrxId → List Fragment
in_open opened trx = unwrap_or (get opened trx) []

from_entry : (keys : Keys) (entries : List (TrxId × List Fragment)) (trx : TrxId) → TouchNone keys (flat_map (λ e. e.1) entries)
    → TouchNone keys (unwrap_or (find trx_cmp trx entries) [])
from_entry keys [] trx none = tt
from_entry keys (e ∷ es) trx none =
    let two = all_split (λ (f : Fragment). touches f.keys keys ≡ false) e.1 (flat_map (λ e. e.1) es) none in
    by (eq_by_cmp trx_cmp trx e.0) two.0 (from_entry keys es trx two.1)
  where
    by : (b : Bool) → TouchNone keys e.1 → TouchNone keys (unwrap_or (find trx_cmp trx es) [])
        → TouchNone keys (unwrap_or (cond b (Some e.1) (find trx_cmp trx es)) [])
    by true here there = here
    by false here there = there

-- keys that no other transaction holds touch none of its fragments
free_of : (s : FoldState) (own other : TrxId) (keys : Keys) → held_by s own keys ≡ None → other ≢ own
    → touches (fragment_keys (fragments_of s other)) keys ≡ false
unfolding held_by
free_of s own other keys free differs =
    let none = none_greatest keys (fragments_but s.open_trx own) free in
    let beside = get-taken_beside transactions s.open_trx own other (false_from_ne_true _ (λ tie. differs (tied transactions other own tie))) in
    joined_apart empty keys (fragments_of s other) (touches-empty keys)
    (subst (λ (o : Option (List Fragment)). TouchNone keys (unwrap_or o [])) (sym (get-entries (remove s.open_trx own) other) ∙ beside)
    (from_entry keys (remove s.open_trx own).entries other none))

-- ---- fragments that do not touch
abbrev AreApart : (TrxId → List Fragment) → Type 0
AreApart at = (one other : TrxId) → one ≢ other → touches (fragment_keys (at one)) (fragment_keys (at other)) ≡ false

same_apart : (at now : TrxId → List Fragment) → ((trx : TrxId) → now trx ≡ at trx) → AreApart at → AreApart now
same_apart at now same apart one other differs =
    ap (λ fs. touches (fragment_keys fs) (fragment_keys (now other))) (same one)
    ∙ ap (λ fs. touches (fragment_keys (at one)) (fragment_keys fs)) (same other) ∙ apart one other differs

module _ (at : TrxId → List Fragment) (apart : AreApart at) where
  -- some transactions are open no longer
  fewer_apart : (gone : TrxId → Bool) → AreApart (λ trx. cond (gone trx) [] (at trx))
  fewer_apart gone one other differs = by (gone one) (gone other)
    where
      by : (a b : Bool) → touches (fragment_keys (cond a [] (at one))) (fragment_keys (cond b [] (at other))) ≡ false
      by true b = touches-empty _
      by false true = touches-symm _ _ ∙ touches-empty _
      by false false = apart one other differs

  -- one transaction has a fragment more, which touches none of the others
  more_apart : (own : TrxId) (f : Fragment) → ((trx : TrxId) → trx ≢ own → touches (fragment_keys (at trx)) f.keys ≡ false)
      → AreApart (λ trx. cond (eq_by_cmp trx_cmp trx own) (at own ++ f ∷ []) (at trx))
  more_apart own f free one other differs = by (eq_by_cmp trx_cmp one own) (eq_by_cmp trx_cmp other own) refl refl
    where
      grown : (trx : TrxId) → trx ≢ own → touches (fragment_keys (at own ++ f ∷ [])) (fragment_keys (at trx)) ≡ false
      grown trx beside =
          ap (λ keys. touches keys (fragment_keys (at trx))) (fragment_keys-more (at own) f)
          ∙ touches-union (fragment_keys (at own)) f.keys (fragment_keys (at trx))
          ∙ both_false _ _ (apart own trx (λ same. beside (sym same))) (touches-symm f.keys (fragment_keys (at trx)) ∙ free trx beside)

      by : (a b : Bool) → eq_by_cmp trx_cmp one own ≡ a → eq_by_cmp trx_cmp other own ≡ b
          → touches (fragment_keys (cond a (at own ++ f ∷ []) (at one))) (fragment_keys (cond b (at own ++ f ∷ []) (at other))) ≡ false
      by true true here there = absurd (differs (tied transactions one own here ∙ sym (tied transactions other own there)))
      by true false here beside = grown other (untied transactions other own beside)
      by false true beside here = touches-symm _ _ ∙ grown one (untied transactions one own beside)
      by false false one_beside other_beside = apart one other differs

-- what each has after an edit
in_removed : (opened : FiniteMap trx_cmp (List Fragment)) (own trx : TrxId)
    → in_open (remove opened own) trx ≡ cond (eq_by_cmp trx_cmp trx own) [] (in_open opened trx)
in_removed opened own trx = ap (λ o. unwrap_or o []) (get-remove trx_total opened own trx) ∙ by (eq_by_cmp trx_cmp trx own)
  where
    by : (b : Bool) → unwrap_or (cond b None (get opened trx)) [] ≡ cond b [] (in_open opened trx)
    by true = refl
    by false = refl

in_retained : (opened : FiniteMap trx_cmp (List Fragment)) (keep : TrxId → Bool) (trx : TrxId)
    → in_open (retain_keys opened keep) trx ≡ cond (keep trx) (in_open opened trx) []
in_retained opened keep trx =
    ap (λ o. unwrap_or o []) (get-retain_keys opened keep trx (λ x same. ap keep (sym (trx_exact trx x same)))) ∙ by (keep trx)
  where
    by : (b : Bool) → unwrap_or (cond b (get opened trx) None) [] ≡ cond b (in_open opened trx) []
    by true = refl
    by false = refl

in_inserted : (opened : FiniteMap trx_cmp (List Fragment)) (own trx : TrxId) (fs : List Fragment)
    → in_open (insert opened own fs) trx ≡ cond (eq_by_cmp trx_cmp trx own) fs (in_open opened trx)
in_inserted opened own trx fs = ap (λ o. unwrap_or o []) (get-insert trx_total opened own fs trx) ∙ by (eq_by_cmp trx_cmp trx own)
  where
    by : (b : Bool) → unwrap_or (cond b (Some fs) (get opened trx)) [] ≡ cond b fs (in_open opened trx)
    by true = refl
    by false = refl

-- ---- commits that do not conflict
-- a commit that comes behind and does not conflict opposes nothing
clear_more : (commits : List CommitItem) (commit : CommitItem) (above : ℕ) (keys : Keys) → conflicts commit.keys keys ≡ false
    → greatest_related conflicts commits above keys ≡ None → greatest_related conflicts (commits ++ commit ∷ []) above keys ≡ None
clear_more commits commit above keys apart clear =
    ap (λ cs. greatest (map (λ (c : CommitItem). c.number) cs))
    (filter-append (is_related conflicts above keys) commits (commit ∷ [])
    ∙ ap (λ cs. filter (is_related conflicts above keys) commits ++ cs) (by (nat_lt above commit.number) (conflicts commit.keys keys) apart)
    ∙ append-nil (filter (is_related conflicts above keys) commits))
    ∙ clear
  where
    by : (a b : Bool) → b ≡ false → cond (a && b) (commit ∷ []) [] ≡ []
    by true true apart = cc
    by true false apart = refl
    by false b apart = refl

-- whole keys that touch none of these keys do not conflict with them
whole_apart : (fs : List Fragment) (own keys : Keys) → touches (fragment_keys fs) keys ≡ false → touches own keys ≡ false
    → touches (whole_keys fs own) keys ≡ false
whole_apart fs own keys one other = touches-union (fragment_keys fs) own keys ∙ both_false _ _ one other

unrelated : (a b : Keys) → touches a b ≡ false → conflicts a b ≡ false
unrelated a b apart = false_from_ne_true _ (λ meet. true≢false (sym (touches_from_conflicts a b meet) ∙ apart))

-- ---- one step
-- what is unopposed stays so where the number rises and the commits stay
still : (s now : FoldState) → s.number ≤ now.number → now.commits ≡ s.commits → (f : Fragment) → IsUnopposed s f → IsUnopposed now f
unfolding conflict_of
still s now rises same f is = record {
  seen = omega (arith, is.seen, rises);
  clear = ap (λ commits. greatest_related conflicts commits f.last_seen f.keys) same ∙ is.clear;
}

all_still : (s now : FoldState) → s.number ≤ now.number → now.commits ≡ s.commits → (fs : List Fragment)
    → AllByRecursion (IsUnopposed s) fs → AllByRecursion (IsUnopposed now) fs
all_still s now rises same fs all = all_both (IsUnopposed s) (IsUnopposed s) (IsUnopposed now) (λ f is other. still s now rises same f is) fs all all

either : (P : List Fragment → Type 0) (b : Bool) (fs gs : List Fragment) → (b ≡ true → P fs) → (b ≡ false → P gs) → P (cond b fs gs)
either P true fs gs one other = one refl
either P false fs gs one other = other refl

module _ (s : FoldState) (w : WriteSet) (law : OpenAreUnopposed s) where
  closed_apart : AreApart (in_open (remove s.open_trx (trx_of w)))
  closed_apart =
      same_apart _ _ (in_removed s.open_trx (trx_of w))
      (fewer_apart (in_open s.open_trx) law.apart (λ trx. eq_by_cmp trx_cmp trx (trx_of w)))

  closes : OpenAreUnopposed (affected s w Closes)
  closes = record {
    apart = closed_apart;
    clear = λ trx. subst (AllByRecursion (IsUnopposed (affected s w Closes))) (sym (in_removed s.open_trx (trx_of w) trx))
        (either (AllByRecursion (IsUnopposed (affected s w Closes))) (eq_by_cmp trx_cmp trx (trx_of w)) [] (fragments_of s trx)
        (λ tie. tt) (λ beside. all_still s (affected s w Closes) (omega arith) refl (fragments_of s trx) (law.clear trx)));
  }

  module _ (passed : HasPassed s w) where
    free : (trx : TrxId) → trx ≢ trx_of w → touches (fragment_keys (fragments_of s trx)) w.keys ≡ false
    free trx differs = free_of s (trx_of w) trx w.keys passed.apart differs

    adds : OpenAreUnopposed (affected s w Adds)
    unfolding conflict_of
    adds = record {
      apart = same_apart _ _ (λ trx. in_inserted s.open_trx (trx_of w) trx (fragments_of s (trx_of w) ++ fragment_by s w ∷ []))
          (more_apart (in_open s.open_trx) law.apart (trx_of w) (fragment_by s w) free);
      clear = λ trx. subst (AllByRecursion (IsUnopposed (affected s w Adds)))
          (sym (in_inserted s.open_trx (trx_of w) trx (fragments_of s (trx_of w) ++ fragment_by s w ∷ [])))
          (either (AllByRecursion (IsUnopposed (affected s w Adds))) (eq_by_cmp trx_cmp trx (trx_of w))
          (fragments_of s (trx_of w) ++ fragment_by s w ∷ []) (fragments_of s trx)
          (λ tie. all_append (IsUnopposed (affected s w Adds)) (fragments_of s (trx_of w)) (fragment_by s w ∷ [])
          (all_still s (affected s w Adds) (omega arith) refl (fragments_of s (trx_of w)) (law.clear (trx_of w)))
          (record { seen = passed.seen; clear = passed.clear }, tt))
          (λ beside. all_still s (affected s w Adds) (omega arith) refl (fragments_of s trx) (law.clear trx)));
    }

    -- the commit opposes no fragment of another transaction
    beside_commit : (trx : TrxId) → trx ≢ trx_of w → AllByRecursion (IsUnopposed (affected s w Commits)) (fragments_of s trx)
    unfolding conflict_of
    beside_commit trx differs =
        let whole = whole_keys (fragments_of s (trx_of w)) w.keys in
        let apart : touches (fragment_keys (fragments_of s trx)) whole ≡ false =
        touches-symm (fragment_keys (fragments_of s trx)) whole
        ∙ whole_apart (fragments_of s (trx_of w)) w.keys (fragment_keys (fragments_of s trx))
        (law.apart (trx_of w) trx (λ same. differs (sym same)))
        (touches-symm w.keys (fragment_keys (fragments_of s trx)) ∙ free trx differs) in
        all_both (IsUnopposed s) (λ (f : Fragment). touches f.keys whole ≡ false) (IsUnopposed (affected s w Commits))
        (λ f is no_touch. record {
          seen = is.seen;
          clear = clear_more s.commits (commit_by s w) f.last_seen f.keys
              (unrelated whole f.keys (touches-symm whole f.keys ∙ no_touch)) is.clear;
        })
        (fragments_of s trx) (law.clear trx) (touch_none empty whole (fragments_of s trx) apart).1

    commits : OpenAreUnopposed (affected s w Commits)
    commits = record {
      apart = closed_apart;
      clear = λ trx. subst (AllByRecursion (IsUnopposed (affected s w Commits))) (sym (in_removed s.open_trx (trx_of w) trx))
          (either (AllByRecursion (IsUnopposed (affected s w Commits))) (eq_by_cmp trx_cmp trx (trx_of w)) [] (fragments_of s trx)
          (λ tie. tt) (λ beside. beside_commit trx (untied transactions trx (trx_of w) beside)));
    }

  by_effect : (effect : Effect) → (IsTaken effect → HasPassed s w) → OpenAreUnopposed (affected s w effect)
  by_effect Same passed = law
  by_effect Closes passed = closes
  by_effect Adds passed = adds (passed tt)
  by_effect Commits passed = commits (passed tt)

by_write : (s : FoldState) (member : ℕ) (w : Option WriteSet) → OpenAreUnopposed s → OpenAreUnopposed (written s member w)
by_write s member None law = law
by_write s member (Some w) law = by_effect s w law (effect_of (judged_write s member (Some w))) (taken-passed s member w)

by_view : (s : FoldState) (version : ℕ) (members : List ℕ) → OpenAreUnopposed s → OpenAreUnopposed (viewed s version members)
by_view s version members law = record {
  apart = same_apart _ _ (λ trx. in_retained s.open_trx (is_of members) trx ∙ turned (is_of members trx) _)
      (fewer_apart (in_open s.open_trx) law.apart (λ trx. not (is_of members trx)));
  clear = λ trx. subst (AllByRecursion (IsUnopposed (viewed s version members))) (sym (in_retained s.open_trx (is_of members) trx))
      (either (AllByRecursion (IsUnopposed (viewed s version members))) (is_of members trx) (fragments_of s trx) []
      (λ listed. all_still s (viewed s version members) (omega arith) refl (fragments_of s trx) (law.clear trx)) (λ absent. tt));
}
  where
    turned : (b : Bool) (fs : List Fragment) → cond b fs [] ≡ cond (not b) [] fs
    turned true fs = refl
    turned false fs = refl

-- a state with the same number, commits and open transactions
same_law : (s now : FoldState) → s.number ≤ now.number → now.commits ≡ s.commits → now.open_trx ≡ s.open_trx → OpenAreUnopposed s → OpenAreUnopposed now
same_law s now rises commits opened law = record {
  apart = same_apart _ _ (λ trx. ap (λ m. in_open m trx) opened) law.apart;
  clear = λ trx. subst (λ m. AllByRecursion (IsUnopposed now) (in_open m trx)) (sym opened)
      (all_still s now rises commits (fragments_of s trx) (law.clear trx));
}

chosen : (b : Bool) (s now : FoldState) → OpenAreUnopposed s → OpenAreUnopposed now → OpenAreUnopposed (cond b now s)
chosen true s now law other = other
chosen false s now law other = law

by_report : (s : FoldState) (member number : ℕ) (standing : Option Standing) → OpenAreUnopposed s → OpenAreUnopposed (reported s member number standing)
by_report s member number None law = law
by_report s member number (Some standing) law =
    let now : FoldState = record s { members = insert s.members member (record standing { report = number }) } in
    chosen (nat_le standing.report number && nat_lt number (s.number + 1)) s now law (same_law s now (omega arith) refl refl law)

by_event : (s : FoldState) (event : Event) → OpenAreUnopposed s → OpenAreUnopposed (changed_by s event)
by_event s (Write member body) law = by_write s member (decoded body) law
by_event s (View version members) law = by_view s version members law
by_event s (Report member number) law = by_report s member number (get s.members member) law

-- each event keeps the law
pub open-after : (s : FoldState) (event : Event) → OpenAreUnopposed s → OpenAreUnopposed (after s event)
unfolding after
open-after s event law = same_law (changed_by s event) (settled (changed_by s event)) (omega arith) refl refl (by_event s event law)

next_law : (s : FoldState) (event : Option Event) → OpenAreUnopposed s → OpenAreUnopposed (after_next s event)
next_law s None law = law
next_law s (Some event) law = open-after s event law

none_open : (trx : TrxId) → in_open empty trx ≡ []
none_open trx = ap (λ o. unwrap_or o []) (get-empty trx_cmp trx)

start_law : OpenAreUnopposed no_events
unfolding no_events
start_law = record {
  apart = λ one other differs. ap (λ fs. touches (fragment_keys fs) (fragment_keys (in_open empty other))) (none_open one) ∙ touches-empty _;
  clear = λ trx. subst (AllByRecursion (IsUnopposed no_events)) (sym (none_open trx)) tt;
}

-- at every point of an order
pub open_stay : OpenStayUnopposed
unfolding state_at
open_stay order zero = start_law
open_stay order (suc n) = next_law (state_at order n) (slice_get order n) (open_stay order n)
