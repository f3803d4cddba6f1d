-- What is left once the first seat has taken all others in.
use Rattle.std.proofs.Common.{◌≡◌, ◌≢◌, ℕ, ◌+◌, ◌<◌, ◌⊎◌, true, false, cond, Contains, List, [], ◌∷◌, map, length, set, sym, ap, ◌∙◌, subst, inl, inr, ⊎_elim, arith, count_by, Option, Some}
use Rattle.std.proofs.lemmas.Bool.{false≢true}
use Rattle.std.proofs.lemmas.List.Elements.{All-weaker}
use mathlib.Core.Option.{some, some-injective, some-ne-none}
use mathlib.Core.Logic.{dite}
use native.Mathlib.Decide.{ℕ_discrete}
use lib.ListN.{get_elem?, length-map}
use Rattle.atomic_table.specs.Table.{State, Final, Seen}
use Rattle.atomic_table.specs.Seated.{TableId}
use Rattle.atomic_table.proofs.Lists.{set_else, at_map}
use Rattle.node_gate.specs.declared.view.Lock.TheVariants.{Idle, Serving}
use Rattle.node_gate.specs.declared.view.View.{View}
use Rattle.node_gate.specs.Seats.{Rank, Seats}
use Rattle.node_gate.specs.History.{turns_of}
use Rattle.node_gate.specs.Views.{is_alive, numbers, rank_of}
use Rattle.node_gate.specs.Law.{IsGone, HoldsInTurn, Knows, AtHome, Law}
use Rattle.node_gate.specs.Calls.{known, Ended}
use Rattle.node_gate.proofs.Counts.{read_inside, same_read, count_set}
use Rattle.node_gate.proofs.Histories.{all_at, is_false}
use Rattle.node_gate.proofs.Ranks.{is_first, same_first}

-- the first seat took in all the others
all_in : (rs : List Rank) (i : ℕ) (r : Rank) → Seats rs → get_elem? rs i ≡ some r
    → r.alive ≡ true → r.number ≡ 0 → length r.met ≡ r.splits
    → (j : ℕ) (q : Rank) → get_elem? rs j ≡ some q → j ≢ 0
    → (q.alive ≡ false) × Contains r.met j
all_in rs i r s at alive zero_is all j q at' other =
    let is : s.first ≡ r = same_first rs i r s at alive zero_is in
    let here : i ≡ 0 = is_first rs i r s at alive zero_is in
    let spent : Rank = record r { alive = false } in
    let one : q.alive ≡ true → ⊥ = λ alive'.
    let a : count_by (λ x. x.alive) (set rs i spent) + 1 ≡ count_by (λ x. x.alive) rs + 0 =
    ap (λ b. count_by (λ x. x.alive) (set rs i spent) + cond b 1 0) (sym alive)
    ∙ count_set (λ x. x.alive) rs i r spent at in
    let there : get_elem? (set rs i spent) j ≡ some q =
    set_else rs i j spent (λ e. other (e ∙ here)) ∙ at' in
    let b : count_by (λ x. x.alive) (set (set rs i spent) j spent) + 1
    ≡ count_by (λ x. x.alive) (set rs i spent) + 0 =
    ap (λ b. count_by (λ x. x.alive) (set (set rs i spent) j spent) + cond b 1 0) (sym alive')
    ∙ count_set (λ x. x.alive) (set rs i spent) j q spent there in
    let c = s.counted in let d = s.given in
    let e : s.first.splits ≡ r.splits = ap (λ x. x.splits) is in
    let f : length s.first.met ≡ length r.met = ap (λ x. length x.met) is in omega arith in
    let out : q.alive ≡ false = is_false q.alive one in
    (out, subst (λ x. Contains x.met j) is (s.all_met j q at' out))

only : {A : Type 0} (xs : List A) (x : A) → 1 ≡ length xs → get_elem? xs 0 ≡ some x → xs ≡ x ∷ []
only [] x one at = absurd (some-ne-none x (sym at))
only (y ∷ []) x one at = ap (λ z. z ∷ []) (some-injective y x at)
only (y ∷ z ∷ zs) x one at = absurd (omega arith)

module _ {C E M : Type 0} (entries : C → List E) (count : List E → ℕ) (mark : C → M)
    (may : ℕ → E → Type 0) where
  abbrev Rule : State (Option C) (View E M) → Type 0
  Rule = Law entries count mark may

  -- where the first seat has no turn and took all others in, the value is at home
  home : (s : State (Option C) (View E M)) (r : Rule s) (id : ℕ) (v : View E M)
      → get_elem? s.views id ≡ some v → v.lock ≡ Idle → v.number ≡ 0 → length v.met ≡ v.splits
      → AtHome entries count mark r.its r.shown r.log s.homes s.views
  home s r id v at idle first all = ⊎_elim (λ h. h) (λ o.
      let alive : is_alive v.lock ≡ true = ap is_alive idle in
      let here : id ≡ 0 = is_first (map rank_of s.views) id (rank_of v) r.seats
      (at_map rank_of s.views id v at) alive first in
      let turn = all_at HoldsInTurn s.views o.seat o.holder r.stories.holding o.there o.holds in
      let busy : is_alive o.holder.lock ≡ true = ap is_alive turn.1 in
      absurd (dite (ℕ_discrete o.seat 0)
      (λ e. let is : o.holder ≡ v = same_read s.views id o.holder v
      (subst (λ k. get_elem? s.views k ≡ some o.holder) (e ∙ sym here) o.there) at in
      let clash : Idle ≡ Serving turn.0 = sym idle ∙ ap (λ x. x.lock) (sym is) ∙ turn.1 in cc)
      (λ other. let gone = all_in (map rank_of s.views) id (rank_of v) r.seats
      (at_map rank_of s.views id v at) alive first (length-map v.met (λ m. m.number) ∙ all)
      o.seat (rank_of o.holder) (at_map rank_of s.views o.seat o.holder o.there) other in
      false≢true (sym gone.0 ∙ busy)))) r.place

  pub closes : (gate : TableId) (id : ℕ) (v : View E M) → v.lock ≡ Idle → v.number ≡ 0
      → length v.met ≡ v.splits → (ws : List ℕ) (xs : List (Option C))
      → Final (Seen Rule id v) ws xs
      → (c : C) × (xs ≡ Some c ∷ []) × Ended entries mark may (known gate v) c
  closes gate id v idle first all ws xs f = let s = f.0 in let r = f.1.0 in let at = f.1.1 in
      let alive : is_alive v.lock ≡ true = ap is_alive idle in
      let there = at_map rank_of s.views id v at in
      let here : id ≡ 0 = is_first (map rank_of s.views) id (rank_of v) r.seats there alive first in
      let h = home s r id v at idle first all in
      let known_of = r.stories.each id v at alive in
      let every : length (numbers v.met) ≡ v.splits = length-map v.met (λ m. m.number) ∙ all in (
        h.value,
        only xs (Some h.value) (sym (ap length h.at_home) ∙ f.3)
            (f.4 0 (Some h.value) (ap (λ hs. get_elem? hs 0) h.at_home)),
        record {
          log = r.log;
          has = h.has;
          begins = known_of.saw;
          own = ap (λ n. turns_of n r.log) (sym here) ∙ known_of.own;
          met = All-weaker (λ m. (turns_of m.number r.log ≡ m.turns) × IsGone s.views m.number)
              (λ m. turns_of m.number r.log ≡ m.turns) (λ m t. t.0) v.met known_of.met;
          no_other = All-weaker (λ t. t.seat < length s.views)
              (λ t. (t.seat ≡ 0) ⊎ Contains (numbers v.met) t.seat)
              (λ t low. dite (ℕ_discrete t.seat 0) (λ e. inl e) (λ other.
              let q = read_inside s.views t.seat low in
              inr (all_in (map rank_of s.views) id (rank_of v) r.seats there alive first every t.seat
              (rank_of q.0) (at_map rank_of s.views t.seat q.0 q.1) other).1)) r.log r.stories.known;
          allowed = r.allowed;
          marked = all_at (Knows r.its) s.views id v r.marks at alive ∙ ap Some (sym h.marked);
        },
      )
