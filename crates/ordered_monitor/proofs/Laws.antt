-- what each call makes of the states of all numbers
use Rattle.std.proofs.Common.{◌≡◌, ℕ, ◌+◌, ◌-◌, ◌<◌, ◌≤◌, zero, suc, Bool, true, false, cond, eqb, ltb, leb, List, [], ◌∷◌, ◌++◌, length, get_or, set, drop, replicate, refl, sym, ap, ◌∙◌, arith, get_or-set_same, get_or-set_other}
use Rattle.std.proofs.lemmas.List.{get_or-drop}
use Rattle.std.proofs.lemmas.Bool.{leb-true, leb-false, eqb-true, eqb-false, ltb-false}
use Rattle.ordered_monitor.specs.declared.entry.EntryState.{EntryState}
use Rattle.ordered_monitor.specs.declared.entry.EntryState.TheVariants.{Idle, Waiting, Cancelled, Entered, Finished}
use Rattle.ordered_monitor.specs.declared.entry.Entry.{Entry}
use Rattle.ordered_monitor.specs.declared.entry.Entry.TheVariants.{NotYet, Entered as HasEntered}
use Rattle.ordered_monitor.specs.Entries.{Entries, IsInWindow, CanEnter, state_at, place, all_idle, widened, with_state, entered, entered_from, leading, moved, left}

get_or-idle : (states : List EntryState) (n k : ℕ) → get_or (states ++ replicate n Idle) k Idle ≡ get_or states k Idle
get_or-idle [] zero k = refl
get_or-idle [] (suc n) zero = refl
get_or-idle [] (suc n) (suc k) = get_or-idle [] n k
get_or-idle (state ∷ states) n zero = refl
get_or-idle (state ∷ states) n (suc k) = get_or-idle states n k

at_or : (b : Bool) (x y : EntryState) → x ≡ y → cond b Finished x ≡ cond b Finished y
at_or b x y e = ap (cond b Finished) e

-- a wider window has the same states
pub state-widened : (m : Entries) (window n : ℕ) → state_at (widened m window) n ≡ state_at m n
state-widened m window n =
    at_or (leb n m.last_left) _ _ (get_or-idle m.window (window - length m.window) (place m.last_left n))

-- a new window is Idle above the number that it begins at
pub state-all_idle : (window at n : ℕ) → state_at (all_idle window at) n ≡ cond (leb n at) Finished Idle
state-all_idle window at n = at_or (leb n at) _ _ (get_or-idle [] window (place at n))

state_or : (b : Bool) (m : Entries) (n : ℕ) → leb n m.last_left ≡ b → m.last_left < n
    → cond b Finished (get_or m.window (place m.last_left n) Idle) ≡ get_or m.window (place m.last_left n) Idle
state_or true m n e above = let low = leb-true n m.last_left e in absurd (omega arith)
state_or false m n e above = refl

-- the state of a number above `last_left` is the window's
pub state-above : (m : Entries) (n : ℕ) → m.last_left < n → state_at m n ≡ get_or m.window (place m.last_left n) Idle
state-above m n above = state_or (leb n m.last_left) m n refl above

with_state_at : (a b : Bool) (m : Entries) (n : ℕ) (state : EntryState) (q : ℕ) → leb q m.last_left ≡ a → eqb q n ≡ b → IsInWindow m n
    → cond a Finished (get_or (set m.window (place m.last_left n) state) (place m.last_left q) Idle)
    ≡ cond b state (cond a Finished (get_or m.window (place m.last_left q) Idle))
with_state_at true true m n state q low same inside =
    let below = leb-true q m.last_left low in let is = eqb-true q n same in absurd (omega (arith, inside.0))
with_state_at true false m n state q low same inside = refl
with_state_at false true m n state q low same inside =
    let is = eqb-true q n same in
    ap (λ k. get_or (set m.window (place m.last_left n) state) (place m.last_left k) Idle) is
    ∙ get_or-set_same m.window (place m.last_left n) state Idle (omega (arith, inside.0, inside.1))
with_state_at false false m n state q low same inside =
    let above = leb-false q m.last_left low in let apart = eqb-false q n same in
    get_or-set_other m.window (place m.last_left n) (place m.last_left q) state Idle
    (λ (e : place m.last_left q ≡ place m.last_left n). apart (omega (arith, inside.0)))

-- one number has the new state, and every other what it had
pub state-with_state : (m : Entries) (n : ℕ) (state : EntryState) (q : ℕ) → IsInWindow m n
    → state_at (with_state m n state) q ≡ cond (eqb q n) state (state_at m q)
state-with_state m n state q inside = with_state_at (leb q m.last_left) (eqb q n) m n state q refl refl inside

leading-finished : (states : List EntryState) (k : ℕ) → k < leading states → get_or states k Idle ≡ Finished
leading-finished [] k low = absurd (omega arith)
leading-finished (Finished ∷ states) zero low = refl
leading-finished (Finished ∷ states) (suc k) low = leading-finished states k (omega arith)
leading-finished (_ ∷ states) k low = absurd (omega arith)

moved_at : (a b : Bool) (last_left : ℕ) (states : List EntryState) (q : ℕ)
    → leb q (last_left + leading states) ≡ a → leb q last_left ≡ b
    → cond a Finished (get_or (drop (leading states) states ++ replicate (leading states) Idle) (place (last_left + leading states) q) Idle)
    ≡ cond b Finished (get_or states (place last_left q) Idle)
moved_at true true last_left states q low before = refl
moved_at true false last_left states q low before =
    let within = leb-true q (last_left + leading states) low in let above = leb-false q last_left before in
    sym (leading-finished states (place last_left q) (omega arith))
moved_at false true last_left states q low before =
    let above = leb-false q (last_left + leading states) low in let within = leb-true q last_left before in absurd (omega arith)
moved_at false false last_left states q low before =
    let above = leb-false q (last_left + leading states) low in
    get_or-idle (drop (leading states) states) (leading states) (place (last_left + leading states) q)
    ∙ get_or-drop (leading states) states (place (last_left + leading states) q) Idle
    ∙ ap (λ k. get_or states k Idle) (omega arith)

state-moved : (last_left : ℕ) (states : List EntryState) (q : ℕ)
    → state_at (moved last_left states) q ≡ state_at (record { last_left = last_left; window = states }) q
state-moved last_left states q =
    moved_at (leb q (last_left + leading states)) (leb q last_left) last_left states q refl refl

-- a number that is left is Finished, and every other has the state that it had
pub state-left : (m : Entries) (n q : ℕ) → IsInWindow m n → state_at (left m n) q ≡ cond (eqb q n) Finished (state_at m q)
state-left m n q inside =
    state-moved m.last_left (with_state m n Finished).window q ∙ state-with_state m n Finished q inside

entered_by : (b : Bool) (m new : Entries) (n after : ℕ) → ltb m.last_left after ≡ b
    → ◌≡◌ {A = Entry × Entries} (cond b (NotYet m.last_left, m) (HasEntered, with_state m n Entered)) (HasEntered, new)
    → (after ≤ m.last_left) × (new ≡ with_state m n Entered)
entered_by true m new n after e is = let p = ap (λ (r : Entry × Entries). r.0) is in cc
entered_by false m new n after e is = (ltb-false m.last_left after e, sym (ap (λ (r : Entry × Entries). r.1) is))

enters_from : (state : EntryState) (m new : Entries) (n after : ℕ) → CanEnter state → entered_from state m n after ≡ (HasEntered, new)
    → (state ≡ Waiting) × ((after ≤ m.last_left) × (new ≡ with_state m n Entered))
enters_from Waiting m new n after can is = (refl, entered_by (ltb m.last_left after) m new n after refl is)
enters_from Cancelled m new n after can is = let p = ap (λ (r : Entry × Entries). r.0) is in cc
enters_from Idle m new n after can is = absurd can
enters_from Entered m new n after can is = absurd can
enters_from Finished m new n after can is = absurd can

-- an entry enters only while it waits and all numbers up to `after` are left; then it waits no more
pub enters_waiting : (m new : Entries) (n after : ℕ) → CanEnter (state_at m n) → entered m n after ≡ (HasEntered, new)
    → (state_at m n ≡ Waiting) × ((after ≤ m.last_left) × (new ≡ with_state m n Entered))
enters_waiting m new n after can is = enters_from (state_at m n) m new n after can is
