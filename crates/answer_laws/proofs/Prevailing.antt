-- A verdict by which another came first names an earlier write set that passed: a commit whose keys
-- conflict, or a fragment of another open transaction whose keys touch.
use Rattle.std.proofs.Common.{◌≡◌, ℕ, zero, suc, ◌+◌, ◌≤◌, Bool, true, false, cond, List, [], ◌∷◌, inl, inr, length, map, Option, Some, None, refl, ap, sym, subst, ◌∙◌, arith, add-one}
use Rattle.std.specs.Prelude.{T, ◌&&◌, slice_get, nat_lt, max, unwrap_or}
use Rattle.std.specs.List.{AllByRecursion, filter}
use Rattle.std.specs.Ordering.{is_lt, eq_by_cmp}
use Rattle.std.specs.FinMap.Entries.{find, is_sorted, below_all}
use Rattle.std.proofs.lemmas.Bool.{and_parts, cases_lt}
use Rattle.std.proofs.lemmas.Option.{same_Some, slice_get_within}
use Rattle.finite_map.specs.FiniteMap.{FiniteMap, get, remove, get-empty, get-entries}
use Rattle.finite_map.proofs.Edits.{IsKeyOrder, tied, itself, untied, left}
use Rattle.wsrep_base.specs.declared.ids.TrxId.{TrxId}
use Rattle.wsrep_base.specs.declared.verdict.Verdict.{Verdict}
use Rattle.wsrep_base.specs.declared.verdict.Verdict.TheVariants as verdict
use Rattle.wsrep_base.specs.Trx.{trx_cmp, greatest}
use Rattle.key_sets.specs.Keys.{Keys, conflicts, touches}
use Rattle.key_sets.proofs.ListLemmas.{In, from_flat}
use Rattle.order_event.specs.declared.event.Event.{Event}
use Rattle.order_event.specs.declared.event.Event.TheVariants as event
use Rattle.write_set.specs.declared.write_set.WriteSet.{WriteSet}
use Rattle.cert_meaning.specs.declared.items.CommitItem.{CommitItem}
use Rattle.cert_meaning.specs.declared.items.Fragment.{Fragment}
use Rattle.cert_meaning.specs.Search.{is_related}
use Rattle.cert_meaning.specs.State.{FoldState, no_events, RiseWithin, fragments_of, other_fragments}
use Rattle.cert_meaning.specs.Verdict as rules
use Rattle.cert_meaning.specs.Verdict.{trx_of, is_end, is_rollback, is_broken, conflict_or_held, conflict_of, held_by}
use Rattle.cert_meaning.specs.Fold.{Adds, effect_of, judged_as, state_at, after, after_next, fragment_by}
use Rattle.cert_meaning.proofs.FoldLaws.{number-at}
use Rattle.cert_meaning.proofs.CommitLaws.{commits-rise}
use Rattle.cert_meaning.proofs.TrxLemmas.{trx_total, trx_exact}
use Rattle.node_meaning.specs.Facts.{commit_at}
use Rattle.node_meaning.proofs.PassedLaws.{numbered_within, numbered-in}
use Rattle.node_laws.proofs.Gathering.{Fewer, Same, Gone}
use Rattle.node_laws.proofs.Fates.{Fate, Stays, Grows, fate}
use Rattle.node_laws.proofs.SetLists.{all_push, all_each}
use Rattle.answer_laws.specs.Answers.{IsWriteAt, PassesAt}
use Rattle.answer_laws.proofs.Made.{of_sender}

-- ---- lists
kept_in : {X : Type 0} (test : X → Bool) (y : X) (ys : List X) (x : X) (b : Bool) → test y ≡ b
    → In x (cond b (y ∷ filter test ys) (filter test ys))
    → (In x (filter test ys) → In x ys × (test x ≡ true)) → In x (y ∷ ys) × (test x ≡ true)
kept_in test y ys x true passes (inl is) more = (inl is, ap test is ∙ passes)
kept_in test y ys x true passes (inr later) more = let rest = more later in (inr rest.0, rest.1)
kept_in test y ys x false passes later more = let rest = more later in (inr rest.0, rest.1)

in_filter : {X : Type 0} (test : X → Bool) (xs : List X) (x : X) → In x (filter test xs)
    → In x xs × (test x ≡ true)
in_filter test [] x i = absurd i
in_filter test (y ∷ ys) x i = kept_in test y ys x (test y) refl i (in_filter test ys x)

from_map : {X Y : Type 0} (f : X → Y) (xs : List X) (y : Y) → In y (map f xs)
    → (x : X) × In x xs × (y ≡ f x)
from_map f [] y i = absurd i
from_map f (x ∷ xs) y (inl is) = (x, inl refl, is)
from_map f (x ∷ xs) y (inr i) = let rest = from_map f xs y i in (rest.0, inr rest.1, rest.2)

all_in : {X : Type 0} (P : X → Type 0) (xs : List X) (x : X) → AllByRecursion P xs → In x xs → P x
all_in P [] x all i = absurd i
all_in P (y ∷ ys) x all (inl same) = subst P (sym same) all.0
all_in P (y ∷ ys) x all (inr later) = all_in P ys x all.1 later

numbered_below : (above most : ℕ) (commits : List CommitItem) (c : CommitItem)
    → RiseWithin above most commits → In c commits → c.number ≤ most
numbered_below above most [] c rise i = absurd i
numbered_below above most (d ∷ ds) c rise (inl is) =
    subst (λ (x : CommitItem). x.number ≤ most) (sym is) rise.1
numbered_below above most (d ∷ ds) c rise (inr i) = numbered_below d.number most ds c rise.2 i

-- the greatest is one of them
greater_by : (n : ℕ) (ns : List ℕ) (o : Option ℕ) (v : ℕ) → greatest ns ≡ o
    → max n (unwrap_or o n) ≡ v → ((v : ℕ) → greatest ns ≡ Some v → In v ns) → In v (n ∷ ns)
greater_by n ns None v is same rest = let here : v ≡ n = omega (arith, same) in inl here
greater_by n ns (Some k) v is same rest =
    elim (cases_lt n k) [
      | inl less ↦
          let there : k ≡ v = omega (arith, same, less) in
          inr (subst (λ x. In x ns) there (rest k is))
      | inr more ↦ let here : v ≡ n = omega (arith, same, more) in inl here
    ]

greatest-in : (ns : List ℕ) (v : ℕ) → greatest ns ≡ Some v → In v ns
greatest-in [] v is = cc
greatest-in (n ∷ ns) v is =
    greater_by n ns (greatest ns) v refl (same_Some (max n (unwrap_or (greatest ns) n)) v is)
    (greatest-in ns)

-- ---- entries by transactions
transactions : IsKeyOrder trx_cmp
transactions = record { total = trx_total; exact = trx_exact }

both_true : (a b : Bool) → T (a && b) → T a × T b
both_true true b h = (tt, h)
both_true false b h = absurd h

module _ {X : Type 0} where
  below_none : (p : TrxId) (es : List (TrxId × X)) → T (below_all trx_cmp p es)
      → find trx_cmp p es ≡ None
  below_none p [] h = refl
  below_none p (e ∷ es) h =
      let less = both_true (is_lt (trx_cmp p e.0)) (below_all trx_cmp p es) h in
      grind (arith, less.0, below_none p es less.1)

  not_here : (q : TrxId) (v : X) (e : TrxId × X) (es : List (TrxId × X)) (b : Bool)
      → eq_by_cmp trx_cmp q e.0 ≡ b → find trx_cmp e.0 es ≡ None → find trx_cmp q es ≡ Some v
      → cond b (Some e.1) (find trx_cmp q es) ≡ Some v
  not_here q v e es true same none h =
      let here = ap (λ p. find trx_cmp p es) (tied transactions q e.0 same) in cc
  not_here q v e es false same none h = h

  found_in : (q : TrxId) (v : X) (es : List (TrxId × X)) → T (is_sorted trx_cmp es)
      → In (q, v) es → find trx_cmp q es ≡ Some v
  found_in q v [] rising i = absurd i
  found_in q v (e ∷ es) rising (inl same) =
      ap (λ b. cond b (Some e.1) (find trx_cmp q es))
      (ap (λ (p : TrxId × X). eq_by_cmp trx_cmp q p.0) (sym same) ∙ itself transactions q)
      ∙ ap (λ (p : TrxId × X). Some p.1) (sym same)
  found_in q v (e ∷ es) rising (inr later) =
      let parts = both_true _ _ rising in
      not_here q v e es (eq_by_cmp trx_cmp q e.0) refl (below_none e.0 es parts.0)
      (found_in q v es parts.1 later)

  entry_there : (m : FiniteMap trx_cmp X) (q : TrxId) (v : X) → In (q, v) m.entries
      → get m q ≡ Some v
  entry_there m q v i = get-entries m q ∙ found_in q v m.entries m.sorted i

-- ---- a commit
pub record IsEarlier (order : List Event) (n v : ℕ) (keys : Keys) : Type 0 where
  pub item : CommitItem
  pub within : v ≤ n
  pub is_commit : commit_at order v ≡ Some item
  pub conflicting : conflicts item.keys keys ≡ true

pub conflict_earlier : (order : List Event) (n seen v : ℕ) (keys : Keys) → n ≤ length order
    → conflict_of (state_at order n) seen keys ≡ Some v → IsEarlier order n v keys
unfolding conflict_of
conflict_earlier order n seen v keys inside is =
    let commits = (state_at order n).commits in
    let found = from_map (λ (c : CommitItem). c.number)
    (filter (is_related conflicts seen keys) commits) v (greatest-in _ v is) in
    let c = found.0 in
    let kept = in_filter (is_related conflicts seen keys) commits c found.1 in
    let tests = and_parts (nat_lt seen c.number) (conflicts c.keys keys) kept.1 in
    let rise = commits-rise order n inside in
    let within = numbered_below 0 n commits c rise kept.0 in
    record {
      item = c;
      within = subst (λ k. k ≤ n) (sym found.2) within;
      is_commit = subst (λ k. commit_at order k ≡ Some c) (sym found.2)
          (sym (numbered_within order c.number n within inside)
          ∙ numbered-in 0 n commits c rise kept.0);
      conflicting = tests.1;
    }

-- ---- a fragment
-- an open fragment comes from an event that passed as one
pub record IsFragmentOf (order : List Event) (trx : TrxId) (f : Fragment) : Type 0 where
  pub before : ℕ
  pub number : f.number ≡ suc before
  pub set : WriteSet
  pub write : IsWriteAt order before trx set
  pub passes : PassesAt order before set
  pub no_end : is_end set ≡ false
  pub no_rollback : is_rollback set ≡ false
  pub keys : set.keys ≡ f.keys

-- among the first n
abbrev pub IsFragmentAt : List Event → ℕ → TrxId → Fragment → Type 0
IsFragmentAt order n trx f = IsFragmentOf order trx f × (f.number ≤ n)

adds_by : (w : WriteSet) (v : Verdict) → effect_of (judged_as w v) ≡ Adds
    → (v ≡ verdict.Pass) × (is_end w ≡ false) × (is_rollback w ≡ false)
adds_by w v h = (grind arith, grind arith, grind arith)

abbrev EachAt : List Event → ℕ → TrxId → List Fragment → Type 0
EachAt order n trx fragments = AllByRecursion (IsFragmentAt order n trx) fragments

module _ (order : List Event) (n : ℕ) (trx : TrxId) where
  each_next : (fragments : List Fragment) → EachAt order n trx fragments
      → EachAt order (suc n) trx fragments
  each_next fragments all =
      all_each (IsFragmentAt order n trx) (IsFragmentAt order (suc n) trx)
      (λ f h. (h.0, omega (arith, h.1))) fragments all

  fewer_next : (s : FoldState) → Fewer (state_at order n) s trx
      → EachAt order n trx (fragments_of (state_at order n) trx)
      → EachAt order (suc n) trx (fragments_of s trx)
  fewer_next s (Same is) all = subst (EachAt order (suc n) trx) (sym is) (each_next _ all)
  fewer_next s (Gone is) all = subst (EachAt order (suc n) trx) (sym is) tt

  event_next : (e : Event) → slice_get order n ≡ Some e → Fate (state_at order n) e trx
      → EachAt order n trx (fragments_of (state_at order n) trx)
      → EachAt order (suc n) trx (fragments_of (after (state_at order n) e) trx)
  event_next e there (Stays fewer) all = fewer_next (after (state_at order n) e) fewer all
  event_next e there (Grows member body w is read of_trx adds now) all =
      let s = state_at order n in
      let passed = adds_by w (rules.verdict s member w) adds in
      let home = of_sender s member w passed.0 in
      let inside = slice_get_within order n e there in
      let sender : member ≡ trx.member = sym home ∙ ap (λ (x : TrxId). x.member) of_trx in
      let new : IsFragmentOf order trx (fragment_by s w) = record {
        before = n;
        number = ap (λ k. k + 1) (number-at order n (omega (arith, inside))) ∙ add-one n;
        set = w;
        write = record {
          body = body;
          there = there ∙ ap Some is ∙ ap (λ k. Some (event.Write k body)) sender;
          is = read;
          of_trx = of_trx;
        };
        passes = ap (λ k. rules.verdict s k w) home ∙ passed.0;
        no_end = passed.1;
        no_rollback = passed.2;
        keys = refl;
      } in
      subst (EachAt order (suc n) trx) (sym now)
      (all_push (IsFragmentAt order (suc n) trx) (fragments_of s trx) (fragment_by s w)
      (each_next (fragments_of s trx) all) (new, omega (arith, new.number)))

  order_next : (o : Option Event) → slice_get order n ≡ o
      → EachAt order n trx (fragments_of (state_at order n) trx)
      → EachAt order (suc n) trx (fragments_of (after_next (state_at order n) o) trx)
  order_next None there all = each_next (fragments_of (state_at order n) trx) all
  order_next (Some e) there all = event_next e there (fate (state_at order n) e trx) all

none_open : (order : List Event) (trx : TrxId)
    → EachAt order 0 trx (fragments_of (state_at order 0) trx)
unfolding state_at no_events
none_open order trx =
    subst (λ o. EachAt order 0 trx (unwrap_or o [])) (sym (get-empty trx_cmp trx)) tt

fragments_at : (order : List Event) (n : ℕ) (trx : TrxId)
    → EachAt order n trx (fragments_of (state_at order n) trx)
unfolding state_at
fragments_at order zero trx = none_open order trx
fragments_at order (suc n) trx =
    order_next order n trx (slice_get order n) refl (fragments_at order n trx)

pub record IsHolder (order : List Event) (n v : ℕ) (trx : TrxId) (keys : Keys) : Type 0 where
  pub other : TrxId
  pub differs : other ≡ trx → ⊥
  pub fragment : Fragment
  pub number : v ≡ fragment.number
  pub at : IsFragmentAt order n other fragment
  pub touching : touches fragment.keys keys ≡ true

pub held_earlier : (order : List Event) (n v : ℕ) (trx : TrxId) (keys : Keys)
    → held_by (state_at order n) trx keys ≡ Some v → IsHolder order n v trx keys
unfolding held_by
held_earlier order n v trx keys is =
    let s = state_at order n in
    let found = from_map (λ (f : Fragment). f.number)
    (filter (λ (f : Fragment). touches f.keys keys) (other_fragments s trx)) v
    (greatest-in _ v is) in
    let f = found.0 in
    let kept = in_filter (λ (g : Fragment). touches g.keys keys) (other_fragments s trx) f
    found.1 in
    let entry = from_flat (λ (e : TrxId × List Fragment). e.1) (remove s.open_trx trx).entries f
    kept.0 in
    let there = entry_there (remove s.open_trx trx) entry.0.0 entry.0.1 entry.1 in
    let was = left transactions s.open_trx trx entry.0.0 entry.0.1 there in
    record {
      other = entry.0.0;
      differs = untied transactions entry.0.0 trx was.elsewhere;
      fragment = f;
      number = found.2;
      at = all_in (IsFragmentAt order n entry.0.0) entry.0.1 f
          (subst (EachAt order n entry.0.0) (ap (λ o. unwrap_or o []) was.there)
          (fragments_at order n entry.0.0)) entry.2;
      touching = kept.1;
    }

-- ---- the verdict
pub conflict_is : (s : FoldState) (m : ℕ) (w : WriteSet) (v : ℕ)
    → rules.verdict s m w ≡ verdict.Conflict v
    → (conflict_of s w.last_seen w.keys ≡ Some v) × (is_rollback w ≡ false)
unfolding rules.verdict
conflict_is s m w v is =
    grind arith

pub held_is : (s : FoldState) (m : ℕ) (w : WriteSet) (v : ℕ)
    → rules.verdict s m w ≡ verdict.Held v
    → (held_by s (trx_of w) w.keys ≡ Some v) × (is_rollback w ≡ false)
unfolding rules.verdict
held_is s m w v is =
    grind arith
