-- The steps of `load` by their places.
use Rattle.std.proofs.Common.{◌≡◌, ℕ, zero, suc, ◌+◌, ◌-◌, ◌<◌, ◌≤◌, Bool, true, false, cond, List, [], ◌∷◌, ◌++◌, length, drop, replicate, map, Option, None, Some, refl, ap, ◌∙◌, arith, add-one, append_assoc}
use Rattle.std.specs.Prelude.{◌%◌, ◌==◌, MatchOption, codes, decimal}
use Rattle.std.specs.List.{slice_get, range_with_len}
use Rattle.std.proofs.lemmas.List.{drop-replicate}
use Rattle.std.proofs.lemmas.List.FromFn.{get_or-map-range_with_len, length-map-range_with_len}
use Rattle.std.proofs.lemmas.Option.{slice_get-get_or, slice_get_past}
use Rattle.row_model.specs.declared.row.RowId.{RowId}
use Rattle.row_model.specs.Names.{padded}
use Rattle.order_event.specs.declared.step.Step.{Step}
use Rattle.order_event.specs.declared.step.Act.TheVariants as act
use Rattle.script_text.specs.declared.rounds.Round.{Round}
use Rattle.script_text.specs.declared.load.Part.{Part}
use Rattle.script_text.specs.declared.load.Part.TheVariants as part
use Rattle.script_text.specs.declared.load.LoadPlace.{LoadPlace}
use Rattle.script_text.specs.Load.{account, each_does, inserts, insert_committed, opening, closing, number_at, round_of, round_steps, reports, rounds}
use Rattle.script_text.specs.LoadPlaces.{part_steps, behind, steps_behind, steps_left}

-- a row, of which the bytes behind the first were written
pub account_written : (cells digits : List ℕ) (number end : ℕ) → cells ≡ digits → digits ≡ decimal number → length digits ≤ 15
    → end ≡ length digits
    → ◌≡◌ {A = RowId} record { table = padded (codes "acct"); row = 114 ∷ (cells ++ drop end (replicate 15 0)) } (account number)
account_written cells digits number end c d few e =
    let room : 15 - length digits ≡ 16 - length (114 ∷ digits) = omega arith in
    ap (λ (l : List ℕ). record { table = padded (codes "acct"); row = 114 ∷ l })
    (rw (c, e, drop-replicate {X = ℕ} (length digits) 15 0, room) (ap (λ (l : List ℕ). l ++ replicate (16 - length (114 ∷ l)) 0) d))

-- lists

front_at : (xs ys : List Step) (i : ℕ) → i < length xs → slice_get (xs ++ ys) i ≡ slice_get xs i
front_at [] ys i h = absurd (omega arith)
front_at (x ∷ xs) ys zero h = refl
front_at (x ∷ xs) ys (suc i) h = front_at xs ys i (omega arith)

drop_before : (xs : List Step) (i : ℕ) (x : Step) → slice_get xs i ≡ Some x → drop i xs ≡ x ∷ drop (suc i) xs
drop_before [] i x e = absurd cc
drop_before (y ∷ xs) zero x e = cc
drop_before (y ∷ xs) (suc i) x e = drop_before xs i x e

-- the element at a place stands before those behind it
pub drop_at : (xs : List Step) (i : ℕ) (x : Step) → slice_get xs i ≡ Some x → drop i xs ≡ x ∷ drop (i + 1) xs
drop_at xs i x e = rw add-one (drop_before xs i x e)

-- nothing stands behind a place without an element
pub drop_past : (xs : List Step) (i : ℕ) → slice_get xs i ≡ None → drop i xs ≡ []
drop_past [] zero e = refl
drop_past [] (suc i) e = refl
drop_past (x ∷ xs) zero e = absurd cc
drop_past (x ∷ xs) (suc i) e = drop_past xs i e

-- parts

abbrev rows : List Step
rows = map inserts (range_with_len 0 64)

row_at : (k : ℕ) → k < 64 → slice_get opening (suc (suc (suc (suc k)))) ≡ Some (inserts k)
unfolding opening
row_at k few =
    front_at rows insert_committed k (omega (arith, length-map-range_with_len inserts 0 64))
    ∙ slice_get-get_or rows k (inserts 0) (omega (arith, length-map-range_with_len inserts 0 64))
    ∙ ap (λ x. Some x) (get_or-map-range_with_len inserts 0 64 k k (inserts 0) few (omega arith))

pub opening_row : (place : ℕ) → 4 ≤ place → place < 68 → slice_get opening place ≡ Some (inserts (place - 4))
opening_row place low high =
    let at : place ≡ suc (suc (suc (suc (place - 4)))) = omega arith in
    ap (slice_get opening) at ∙ row_at (place - 4) (omega arith)

pub opening_end : (place : ℕ) → 73 ≤ place → slice_get opening place ≡ None
unfolding opening
opening_end place past = slice_get_past opening place past

-- the place behind the sixth step of a round
pub report_at : (i k : ℕ) (step : Step) → slice_get (each_does act.Report) k ≡ Some step
    → slice_get (reports i) k ≡ cond (i % 16 == 0) (Some step) None
report_at i k step e = either (i % 16 == 0)
  where
    either : (b : Bool) → slice_get (cond b (each_does act.Report) []) k ≡ cond b (Some step) None
    either true = e
    either false = refl

pub round_end : (r : Round) (place : ℕ) → 9 ≤ place → slice_get (round_steps r) place ≡ None
round_end r place past = slice_get_past (round_steps r) place (few (r.number % 16 == 0))
  where
    few : (b : Bool) → suc (suc (suc (suc (suc (suc (length (cond b (each_does act.Report) []))))))) ≤ place
    few true = past
    few false = omega arith

-- behind each part but the last one stand the rounds that are left
behind_open : (p : Part) (begun count x : ℕ) → (p ≡ part.Closing → ⊥)
    → behind p begun count x ≡ rounds (begun + 1) x (count - begun) ++ closing
behind_open part.Opening begun count x unclosed = refl
behind_open (part.Round r) begun count x unclosed = refl
behind_open part.Closing begun count x unclosed = absurd (unclosed refl)

rounds_more : (i x left : ℕ) → 0 < left
    → rounds i x left ≡ round_steps (round_of i x) ++ rounds (i + 1) (number_at 6 x) (left - 1)
unfolding rounds
rounds_more i x zero some = absurd (omega arith)
rounds_more i x (suc left) some =
    let rest : left ≡ suc left - 1 = omega arith in
    ap (λ n. round_steps (round_of i x) ++ rounds (i + 1) (number_at 6 x) n) rest

-- the next part is a round
pub round_behind : (p : Part) (begun count x y : ℕ) (r : Round) → (p ≡ part.Closing → ⊥) → begun < count
    → r ≡ round_of (begun + 1) x → y ≡ number_at 6 x
    → behind p begun count x ≡ round_steps r ++ behind (part.Round r) (begun + 1) count y
round_behind p begun count x y r unclosed more drawn last =
    let left : count - begun - 1 ≡ count - (begun + 1) = omega arith in
    behind_open p begun count x unclosed
    ∙ ap (λ l. l ++ closing) (rounds_more (begun + 1) x (count - begun) (omega arith))
    ∙ append_assoc (round_steps (round_of (begun + 1) x)) _ closing
    ∙ rw (drawn, last, left) refl

-- the next part is the last one
pub closing_behind : (p : Part) (begun count x : ℕ) → (p ≡ part.Closing → ⊥) → count ≤ begun
    → behind p begun count x ≡ closing
unfolding rounds
closing_behind p begun count x unclosed all =
    let none : count - begun ≡ 0 = omega arith in
    behind_open p begun count x unclosed ∙ ap (λ n. rounds (begun + 1) x n ++ closing) none

-- the next step stands behind a part whose steps were all given
pub turned : (place next : LoadPlace) (result : Option Step) → drop place.given (part_steps place.part) ≡ []
    → MatchOption result ((steps_behind place ≡ []) × (next ≡ place)) (λ step. steps_behind place ≡ step ∷ steps_left next)
    → MatchOption result ((steps_left place ≡ []) × (steps_left next ≡ [])) (λ step. steps_left place ≡ step ∷ steps_left next)
turned place next None given turn =
    let all : steps_left place ≡ [] = ap (λ l. l ++ steps_behind place) given ∙ turn.0 in
    (all, ap steps_left turn.1 ∙ all)
turned place next (Some step) given turn = ap (λ l. l ++ steps_behind place) given ∙ turn
