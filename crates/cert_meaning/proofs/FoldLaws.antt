-- The fold over an order that grows: its numbers, and its rows from one event to the next.
use Rattle.std.proofs.Common.{◌≡◌, ℕ, zero, suc, ◌+◌, ◌≤◌, Bool, true, false, List, [], ◌∷◌, ◌++◌, length, Option, None, Some, refl, ap, sym, ◌∙◌, arith, add-one}
use Rattle.std.specs.Prelude.{slice_get, unwrap_or, cond}
use Rattle.row_model.specs.Rows.{ops_on}
use Rattle.order_event.specs.declared.event.Event.{Event}
use Rattle.order_event.specs.declared.event.Event.TheVariants.{Write, View, Report}
use Rattle.write_set.specs.declared.write_set.WriteSet.{WriteSet}
use Rattle.write_set.specs.Reading.{decoded}
use Rattle.finite_map.specs.FiniteMap.{get}
use Rattle.cert_meaning.specs.State.{FoldState, Standing, no_events}
pub use Rattle.cert_meaning.specs.Fold.{ops_of}
use Rattle.cert_meaning.specs.Fold.{Effect, Same, Closes, Adds, Commits, effect_of, affected, written, reported, changed_by, after, after_next, state_at, judged, judged_write, judged_all, ops_by, ops_written, committed_ops}

get_front : {A : Type 0} (xs ys : List A) (n : ℕ) → suc n ≤ length xs → slice_get (xs ++ ys) n ≡ slice_get xs n
get_front [] ys n below = absurd (omega arith)
get_front (x ∷ xs) ys zero below = refl
get_front (x ∷ xs) ys (suc n) below = get_front xs ys n (omega arith)

-- an order that grows keeps its states
pub state_at-append : (order more : List Event) (n : ℕ) → n ≤ length order → state_at (order ++ more) n ≡ state_at order n
unfolding state_at
state_at-append order more zero fits = refl
state_at-append order more (suc n) fits =
    (λ i. after_next (state_at-append order more n (omega arith) i) (get_front order more n fits i))

-- the state after one more event of an order
pub state_at-next : (order : List Event) (n : ℕ) (event : Event) → slice_get order n ≡ Some event
    → state_at order (n + 1) ≡ after (state_at order n) event
unfolding state_at
state_at-next order n event there =
    ap (state_at order) (add-one n) ∙ ap (after_next (state_at order n)) there

-- within an order there is an event
pub some_there : {A : Type 0} (xs : List A) (n : ℕ) → suc n ≤ length xs → (x : A) × (slice_get xs n ≡ Some x)
some_there [] n below = absurd (omega arith)
some_there (x ∷ xs) zero below = (x, refl)
some_there (x ∷ xs) (suc n) below = some_there xs n (omega arith)

-- either choice has the number of the second, where both have it
number_chosen : (b : Bool) (s t : FoldState) → s.number ≡ t.number → (cond b s t).number ≡ t.number
number_chosen true s t same = same
number_chosen false s t same = refl

number_affected : (s : FoldState) (w : WriteSet) (effect : Effect) → (affected s w effect).number ≡ s.number
number_affected s w Same = refl
number_affected s w Closes = refl
number_affected s w Adds = refl
number_affected s w Commits = refl

number_written : (s : FoldState) (member : ℕ) (w : Option WriteSet) → (written s member w).number ≡ s.number
number_written s member None = refl
number_written s member (Some w) = number_affected s w (effect_of (judged_write s member (Some w)))

number_reported : (s : FoldState) (member number : ℕ) (standing : Option Standing) → (reported s member number standing).number ≡ s.number
number_reported s member number None = refl
number_reported s member number (Some standing) = number_chosen _ _ s refl

number_changed : (s : FoldState) (event : Event) → (changed_by s event).number ≡ s.number
number_changed s (Write member body) = number_written s member (decoded body)
number_changed s (View version members) = refl
number_changed s (Report member number) = number_reported s member number (get s.members member)

-- each event counts one
pub number-after : (s : FoldState) (event : Event) → (after s event).number ≡ s.number + 1
unfolding after
number-after s event = ap (λ n. n + 1) (number_changed s event)

-- the state after the first n events has seen n
pub number-at : (order : List Event) (n : ℕ) → n ≤ length order → (state_at order n).number ≡ n
unfolding state_at no_events
number-at order zero fits = refl
number-at order (suc n) fits =
    let there = some_there order n fits in
    ap (λ e. (after_next (state_at order n) e).number) there.1
    ∙ number-after (state_at order n) there.0
    ∙ ap (λ m. m + 1) (number-at order n (omega arith))
    ∙ add-one n

rows_affected : (s : FoldState) (w : WriteSet) (effect : Effect) → (affected s w effect).rows ≡ ops_on (unwrap_or (ops_by s w effect) []) s.rows
unfolding ops_on
rows_affected s w Same = refl
rows_affected s w Closes = refl
rows_affected s w Adds = refl
rows_affected s w Commits = refl

rows_written : (s : FoldState) (member : ℕ) (w : Option WriteSet)
    → (written s member w).rows ≡ ops_on (unwrap_or (ops_written s member w) []) s.rows
unfolding ops_on
rows_written s member None = refl
rows_written s member (Some w) = rows_affected s w (effect_of (judged_write s member (Some w)))

rows_chosen : (b : Bool) (s t : FoldState) → s.rows ≡ t.rows → (cond b s t).rows ≡ t.rows
rows_chosen true s t same = same
rows_chosen false s t same = refl

rows_reported : (s : FoldState) (member number : ℕ) (standing : Option Standing) → (reported s member number standing).rows ≡ s.rows
rows_reported s member number None = refl
rows_reported s member number (Some standing) = rows_chosen _ _ s refl

-- the rows after an event are those before it with the changes that it commits
pub rows-after : (s : FoldState) (event : Event) → (after s event).rows ≡ ops_on (ops_of s event) s.rows
unfolding after ops_on committed_ops
rows-after s (Write member body) = rows_written s member (decoded body)
rows-after s (View version members) = refl
rows-after s (Report member number) = rows_reported s member number (get s.members member)

-- the rows after one more event of an order
pub rows-next : (order : List Event) (n : ℕ) (event : Event) → slice_get order n ≡ Some event
    → (state_at order (n + 1)).rows ≡ ops_on (ops_of (state_at order n) event) (state_at order n).rows
rows-next order n event there =
    ap (λ (s : FoldState). s.rows) (state_at-next order n event there) ∙ rows-after (state_at order n) event

judged_from : (s : FoldState) (events : List Event) (k : ℕ) (event : Event) → slice_get events k ≡ Some event
    → (rest : ℕ → FoldState) → rest 0 ≡ s → ((i : ℕ) → rest (suc i) ≡ after_next (rest i) (slice_get events i))
    → slice_get (judged_all s events) k ≡ Some (judged (rest k) event)
unfolding judged_all
judged_from s [] k event there rest first next = cc
judged_from s (e ∷ es) zero event there rest first next =
    ap (λ (o : Option Event). Some (judged s (unwrap_or o e))) there ∙ ap (λ t. Some (judged t event)) (sym first)
judged_from s (e ∷ es) (suc k) event there rest first next =
    judged_from (after s e) es k event there (λ i. rest (suc i)) (next 0 ∙ ap (λ t. after t e) first) (λ i. next (suc i))

-- what becomes of each event of an order is what the fold says at the state before it
pub judged_all-at : (order : List Event) (k : ℕ) (event : Event) → slice_get order k ≡ Some event
    → slice_get (judged_all no_events order) k ≡ Some (judged (state_at order k) event)
unfolding state_at
judged_all-at order k event there = judged_from no_events order k event there (state_at order) refl (λ i. refl)

-- the same, by a name that a function can cite
pub ruleset number_after = (number-after)
