-- A member that has entered, and has sent nothing, stands in the fold with its view's number, at
-- any place from that view on.
use Rattle.std.proofs.Common.{◌≡◌, ℕ, zero, suc, ◌+◌, ◌-◌, ◌≤◌, ◌<◌, Bool, true, false, cond, List, [], length, Option, Some, None, refl, ap, sym, subst, ◌∙◌, arith, eq-eqb, true≢false, inl, inr}
use Rattle.std.specs.Prelude.{◌==◌, slice_get}
use Rattle.std.specs.List.{cons_option}
use Rattle.std.specs.Ordering.{nat_cmp}
use Rattle.std.proofs.lemmas.Bool.{cond_both, cases_lt}
use Rattle.std.proofs.lemmas.Option.{slice_get_within}
use Rattle.finite_map.specs.FiniteMap.{FiniteMap, get, get-empty, get-retain_keys}
use Rattle.wsrep_base.specs.Trx.{trx_cmp}
use Rattle.wsrep_base.specs.declared.ids.TrxId.{TrxId}
use Rattle.order_event.specs.declared.event.Event.{Event}
use Rattle.order_event.specs.declared.event.Event.TheVariants as event
use Rattle.order_event.specs.declared.event.Message.TheVariants as message
use Rattle.cert_meaning.specs.declared.items.Fragment.{Fragment}
use Rattle.cert_meaning.specs.declared.members.Standing.{Standing}
use Rattle.cert_meaning.specs.State.{FoldState, no_events}
use Rattle.cert_meaning.specs.Fold.{after, state_at, is_of}
use Rattle.cert_meaning.proofs.FoldLaws.{state_at-next, some_there, number-at}
use Rattle.cert_meaning.proofs.TrxLemmas.{trx_exact}
use Rattle.client_trx.specs.Live.{Live}
use Rattle.node_laws.specs.InStep.{message_of}
use Rattle.node_laws.specs.Views.{ViewLacks}
use Rattle.node_laws.proofs.SetLists.{unequal}
use Rattle.course_laws.specs.Ordered.{Keeps, IsUnaware, IsNewcomer, Entered}
use Rattle.course_laws.proofs.Members.{kept_open, member_foreign, member_view, member_viewed, in_view, member_report_foreign, floor_below}

-- ---- an event that is no message of the member
pub none_first : {X : Type 0} (o : Option X) (xs : List X) → cons_option o xs ≡ []
    → (o ≡ None) × (xs ≡ [])
none_first None xs is = (refl, is)
none_first (Some x) xs is = cc

none_if : {X : Type 0} (b : Bool) (x : X) → cond {A = Option X} b (Some x) None ≡ None → b ≡ false
none_if true x none = cc
none_if false x none = refl

turned : (m sender : ℕ) → sender == m ≡ false → m == sender ≡ false
turned m sender is = unequal m sender (λ same. true≢false (sym (eq-eqb sender m (sym same)) ∙ is))

-- one that is none, and no view that has the member, knows nothing of it
pub silent_unaware : (m : ℕ) (e : Event) → message_of m e ≡ None → ViewLacks m e → IsUnaware m e
silent_unaware m (event.Write sender body) none lacks = none_if (sender == m) _ none
silent_unaware m (event.View version members) none lacks = lacks
silent_unaware m (event.Report sender number) none lacks = none_if (sender == m) _ none

-- one that knows nothing of it is none
unaware_silent : (m : ℕ) (e : Event) → IsUnaware m e → message_of m e ≡ None
unaware_silent m (event.Write sender body) is =
    ap (λ b. cond b (Some (message.Write body)) None) is
unaware_silent m (event.View version members) is = refl
unaware_silent m (event.Report sender number) is =
    ap (λ b. cond b (Some (message.Report number)) None) is

-- ---- what an event keeps
-- nobody enters but by a view that has it
unknown_next : (s : FoldState) (e : Event) (m : ℕ) → IsUnaware m e → get s.members m ≡ None
    → get (after s e).members m ≡ None
unknown_next s (event.Write sender body) m none is =
    member_foreign s sender body m (turned m sender none) ∙ is
unknown_next s (event.View version members) m none is =
    rw (in_view s version members m, none)
unknown_next s (event.Report sender number) m none is =
    member_report_foreign s sender number m (turned m sender none) ∙ is

-- what it never sent is not open
unopened_next : (s : FoldState) (e : Event) (trx : TrxId) → message_of trx.member e ≡ None
    → get s.open_trx trx ≡ None → get (after s e).open_trx trx ≡ None
unfolding after
unopened_next s (event.Write sender body) trx none is =
    kept_open s (event.Write sender body) trx (λ w read from of_trx.
    true≢false (sym (eq-eqb sender trx.member from) ∙ none_if (sender == trx.member) _ none)) ∙ is
unopened_next s (event.View version members) trx none is =
    get-retain_keys s.open_trx (is_of members) trx
    (λ x same. ap (is_of members) (sym (trx_exact trx x same)))
    ∙ cond_both (is_of members trx) (get s.open_trx trx) None
    (λ (o : Option (List Fragment)). o ≡ None) (λ _. is) (λ _. refl)
unopened_next s (event.Report sender number) trx none is =
    kept_open s (event.Report sender number) trx tt ∙ is

-- it stands as it entered
stands_next : (s : FoldState) (e : Event) (m : ℕ) (st : Standing) → message_of m e ≡ None
    → Keeps m e → get s.members m ≡ Some st → get (after s e).members m ≡ Some st
stands_next s (event.Write sender body) m st none has is =
    member_foreign s sender body m (turned m sender (none_if (sender == m) _ none)) ∙ is
stands_next s (event.View version members) m st none has is =
    member_view s version members m st has is
stands_next s (event.Report sender number) m st none has is =
    member_report_foreign s sender number m (turned m sender (none_if (sender == m) _ none)) ∙ is

-- what holds at a place, and is kept by each event up to a limit, holds at each place up to there
module _ (order : List Event) (P : FoldState → Type 0) (from limit : ℕ)
    (fits : limit ≤ length order) (first : P (state_at order from))
    (each : (j : ℕ) (e : Event) → from ≤ j → j < limit → slice_get order j ≡ Some e
    → P (state_at order j) → P (after (state_at order j) e)) where
  kept_more : (more : ℕ) → from + more ≤ limit → P (state_at order (from + more))
  kept_more zero inside = subst (λ k. P (state_at order k)) (omega arith) first
  kept_more (suc more) inside =
      let k = from + more in
      let e = some_there order k (omega (arith, inside, fits)) in
      subst (λ j. P (state_at order j)) (omega arith)
      (subst P (sym (state_at-next order k e.0 e.1))
      (each k e.0 (omega arith) (omega (arith, inside)) e.1
      (kept_more more (omega (arith, inside)))))

  kept_at : (c : ℕ) → from ≤ c → c ≤ limit → P (state_at order c)
  kept_at c up inside =
      subst (λ k. P (state_at order k)) (omega (arith, up))
      (kept_more (c - from) (omega (arith, up, inside)))

unopened_at : (order : List Event) (c : ℕ) (trx : TrxId) → c ≤ length order
    → ((j : ℕ) (e : Event) → j < c → slice_get order j ≡ Some e → message_of trx.member e ≡ None)
    → get (state_at order c).open_trx trx ≡ None
unfolding state_at no_events
unopened_at order c trx inside silent =
    kept_at order (λ (s : FoldState). get s.open_trx trx ≡ None) 0 c inside (get-empty trx_cmp trx)
    (λ j e up below there. unopened_next (state_at order j) e trx (silent j e below there)) c
    (omega arith) (omega arith)

-- one that no event knows is no member
unknown_at : (order : List Event) (m c : ℕ) → c ≤ length order
    → ((j : ℕ) (e : Event) → j < c → slice_get order j ≡ Some e → IsUnaware m e)
    → get (state_at order c).members m ≡ None
unfolding state_at no_events
unknown_at order m c inside unaware =
    kept_at order (λ (s : FoldState). get s.members m ≡ None) 0 c inside (get-empty nat_cmp m)
    (λ j e up below there. unknown_next (state_at order j) e m (unaware j e below there)) c
    (omega arith) (omega arith)

-- from its view on, up to a limit, each event keeps it and none is its message
module _ (order : List Event) (m view : ℕ) (h : IsNewcomer order m view) (limit : ℕ)
    (fits : limit ≤ length order)
    (silent : (j : ℕ) (e : Event) → view ≤ j + 1 → j < limit → slice_get order j ≡ Some e
    → message_of m e ≡ None)
    (keeps : (j : ℕ) (e : Event) → view ≤ j + 1 → j < limit → slice_get order j ≡ Some e
    → Keeps m e) where
  abbrev entered_as : Standing
  entered_as = record { report = view; serial = 0 }

  abbrev Stands : FoldState → Type 0
  Stands s = (get s.members m ≡ Some entered_as) × (s.floor ≤ view)

  stands_after : (s : FoldState) (e : Event) → get (after s e).members m ≡ Some entered_as
      → Stands (after s e)
  stands_after s e is = (is, floor_below s e m entered_as is)

  stands_first : Stands (state_at order (h.before + 1))
  stands_first =
      let first = event.View h.version h.members in
      let within = slice_get_within order h.before first h.opens in
      let s = state_at order h.before in
      subst Stands (sym (state_at-next order h.before first h.opens)) (stands_after s first
      (member_viewed s h.version h.members m None h.has
      (unknown_at order m h.before (omega (arith, within)) h.unaware)
      ∙ ap (λ k. Some (record { report = k; serial = 0 }))
      (ap (λ k. k + 1) (number-at order h.before (omega (arith, within))) ∙ sym h.number)))

  stands_at : (c : ℕ) → view ≤ c → c ≤ limit → Stands (state_at order c)
  stands_at c up inside =
      let number = h.number in
      kept_at order Stands (h.before + 1) limit fits stands_first (λ j e from below there stands.
      stands_after (state_at order j) e (stands_next (state_at order j) e m entered_as
      (silent j e (omega (arith, from, number)) below there)
      (keeps j e (omega (arith, from, number)) below there) stands.0))
      c (omega (arith, up, number)) inside

  -- so none of its events is before
  never : (j : ℕ) (e : Event) → j < limit → slice_get order j ≡ Some e → message_of m e ≡ None
  never j e inside there =
      let number = h.number in
      elim (cases_lt j h.before) [
        | inl below ↦ unaware_silent m e (h.unaware j e below there)
        | inr behind ↦ silent j e (omega (arith, behind, number)) inside there
      ]

  -- what holds over the order so far holds of a node that stands there, where nothing is live
  pub newcomer_entered : (c begin serial p : ℕ) (live : FiniteMap nat_cmp Live) → view ≤ c
      → c ≤ limit → 0 < serial → ((se : ℕ) (t : Live) → get live se ≡ Some t → ⊥)
      → Entered (state_at order c) m view begin serial p live [] []
  newcomer_entered c begin serial p live up inside positive idle = record {
    entered = subst (λ k. view ≤ k) (sym (number-at order c (omega (arith, inside, fits)))) up;
    standing = entered_as;
    is_member = (stands_at c up inside).0;
    floor = (stands_at c up inside).1;
    serials = positive;
    rises = omega arith;
    placed = tt;
    ends = tt;
    each = λ se t there. absurd (idle se t there);
    unbegun = λ trx member above.
        unopened_at order c trx (omega (arith, inside, fits)) (λ j e below there.
        ap (λ k. message_of k e) member ∙ never j e (omega (arith, below, inside)) there);
  }
