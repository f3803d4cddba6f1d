-- The last transaction of each session, once the live ones are read.
use Rattle.std.proofs.Common.{◌≡◌, ℕ, Bool, true, false, List, [], ◌∷◌, inl, inr, ◌⊎◌, Some, None, refl, ap, sym, ◌∙◌}
use Rattle.std.specs.Ordering.{nat_cmp, eq_by_cmp}
use Rattle.std.proofs.lemmas.Bool.{false_from_ne_true}
use Rattle.std.proofs.lemmas.Option.{same_Some}
use Rattle.finite_map.specs.FiniteMap.{FiniteMap, get, insert}
use Rattle.finite_map.proofs.Edits.{numbers, tied, untied, get-put, get-put_beside}
use Rattle.key_sets.proofs.ListLemmas.{In}
use Rattle.client_trx.specs.Live.{Live}
use Rattle.node_meaning.proofs.EntryLaws.{some_not_none, get_from_in, in_from_get}
use Rattle.answer_laws.specs.Answers.{Asker, asker_of, asked_by}

abbrev Askers : Type 0
Askers = FiniteMap nat_cmp Asker

-- a session without an entry keeps its own
asked_out : (s : ℕ) (es : List (ℕ × Live)) (askers : Askers)
    → ((u : Live) → In (s, u) es → ⊥) → get (asked_by es askers) s ≡ get askers s
asked_out s [] askers none = refl
asked_out s (e ∷ es) askers none =
    asked_out s es (insert askers e.0 (asker_of e.1)) (λ u i. none u (inr i))
    ∙ get-put_beside numbers askers e.0 (asker_of e.1) s
    (false_from_ne_true (eq_by_cmp nat_cmp s e.0)
    (λ same. none e.1 (inl (λ i. (tied numbers s e.0 same i, e.1)))))

pub asked_idle : (live : FiniteMap nat_cmp Live) (askers : Askers) (s : ℕ) → get live s ≡ None
    → get (asked_by live.entries askers) s ≡ get askers s
asked_idle live askers s none =
    asked_out s live.entries askers
    (λ u i. some_not_none u (get live s) (get_from_in live s u i) none)

-- and one with an entry has that
module _ (s : ℕ) (t : Live) where
  asked_step : (e : ℕ × Live) (es : List (ℕ × Live)) (askers : Askers) (b : Bool)
      → eq_by_cmp nat_cmp s e.0 ≡ b → ((u : Live) → In (s, u) (e ∷ es) → u ≡ t)
      → (get askers s ≡ Some (asker_of t)) ⊎ In (s, t) (e ∷ es)
      → (get (insert askers e.0 (asker_of e.1)) s ≡ Some (asker_of t)) ⊎ In (s, t) es
  asked_step e es askers true same alone here =
      let key : s ≡ e.0 = tied numbers s e.0 same in
      let value : e.1 ≡ t = alone e.1 (inl (λ i. (key i, e.1))) in
      inl (ap (get (insert askers e.0 (asker_of e.1))) key
      ∙ get-put numbers askers e.0 (asker_of e.1) ∙ ap (λ u. Some (asker_of u)) value)
  asked_step e es askers false differs alone (inl before) =
      inl (get-put_beside numbers askers e.0 (asker_of e.1) s differs ∙ before)
  asked_step e es askers false differs alone (inr (inl same)) =
      absurd (untied numbers s e.0 differs (ap (λ (x : ℕ × Live). x.0) same))
  asked_step e es askers false differs alone (inr (inr later)) = inr later

  asked_all : (es : List (ℕ × Live)) (askers : Askers)
      → ((u : Live) → In (s, u) es → u ≡ t)
      → (get askers s ≡ Some (asker_of t)) ⊎ In (s, t) es
      → get (asked_by es askers) s ≡ Some (asker_of t)
  asked_all [] askers alone (inl before) = before
  asked_all [] askers alone (inr i) = absurd i
  asked_all (e ∷ es) askers alone here =
      asked_all es (insert askers e.0 (asker_of e.1)) (λ u later. alone u (inr later))
      (asked_step e es askers (eq_by_cmp nat_cmp s e.0) refl alone here)

pub asked_live : (live : FiniteMap nat_cmp Live) (askers : Askers) (s : ℕ) (t : Live)
    → get live s ≡ Some t → get (asked_by live.entries askers) s ≡ Some (asker_of t)
asked_live live askers s t is =
    asked_all s t live.entries askers
    (λ u i. same_Some u t (sym (get_from_in live s u i) ∙ is)) (inr (in_from_get live s t is))
