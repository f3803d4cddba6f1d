-- calls on a window of three numbers above 5, computed from the definitions
use Rattle.std.proofs.Common.{◌≡◌, ℕ, true, false, [], ◌∷◌, refl}
use Rattle.ordered_monitor.specs.declared.entry.EntryState.{EntryState}
use Rattle.ordered_monitor.specs.declared.entry.EntryState.TheVariants.{Idle, Waiting, Cancelled, Entered, Finished}
use Rattle.ordered_monitor.specs.declared.entry.Entry.TheVariants.{NotYet, Cancelled as WasCancelled, Entered as HasEntered}
use Rattle.ordered_monitor.specs.Entries.{Entries, state_at, all_idle, widened, with_state, entered, cancelled, left}

abbrev entries : ℕ → EntryState → EntryState → EntryState → Entries
entries last_left first second third = record { last_left = last_left; window = first ∷ second ∷ third ∷ [] }

-- 6 and 7 wait
abbrev two_wait : Entries
two_wait = with_state (with_state (all_idle 3 5) 6 Waiting) 7 Waiting

two_numbers_wait : two_wait ≡ entries 5 Waiting Waiting Idle
two_numbers_wait = refl

-- 7 after 6: not yet, all up to 5 are left
later_number_is_told_what_is_left : entered two_wait 7 6 ≡ (NotYet 5, two_wait)
later_number_is_told_what_is_left = refl

-- 6 after 5
next_number_enters : entered two_wait 6 5 ≡ (HasEntered, entries 5 Entered Waiting Idle)
next_number_enters = refl

left_number_moves_the_window : left (entries 5 Entered Waiting Idle) 6 ≡ entries 6 Waiting Idle Idle
left_number_moves_the_window = refl

-- a cancelled entry enters after a new wait
waiting_number_is_cancelled : cancelled (entries 6 Waiting Idle Idle) 7 ≡ (true, entries 6 Cancelled Idle Idle)
waiting_number_is_cancelled = refl

cancelled_number_is_not_cancelled_again : cancelled (entries 6 Cancelled Idle Idle) 7 ≡ (false, entries 6 Cancelled Idle Idle)
cancelled_number_is_not_cancelled_again = refl

cancelled_number_is_told_so : entered (entries 6 Cancelled Idle Idle) 7 6 ≡ (WasCancelled, entries 6 Cancelled Idle Idle)
cancelled_number_is_told_so = refl

number_waits_again_and_enters : entered (with_state (entries 6 Cancelled Idle Idle) 7 Waiting) 7 6 ≡ (HasEntered, entries 6 Entered Idle Idle)
number_waits_again_and_enters = refl

-- 8 is left before 7, and then both are
later_number_is_left_first : left (entries 6 Entered Idle Idle) 8 ≡ entries 6 Entered Finished Idle
later_number_is_left_first = refl

both_numbers_are_moved_over : left (entries 6 Entered Finished Idle) 7 ≡ entries 8 Idle Idle Idle
both_numbers_are_moved_over = refl

whole_window_is_moved_over : left (entries 6 Entered Finished Finished) 7 ≡ entries 9 Idle Idle Idle
whole_window_is_moved_over = refl

-- one more number comes in
one_more_number_comes_in : widened (entries 6 Cancelled Entered Idle) 4 ≡ record { last_left = 6; window = Cancelled ∷ Entered ∷ Idle ∷ Idle ∷ [] }
one_more_number_comes_in = refl

number_up_to_last_left_is_finished : state_at (entries 6 Cancelled Entered Idle) 6 ≡ Finished
number_up_to_last_left_is_finished = refl

number_in_the_window_has_its_state : state_at (entries 6 Cancelled Entered Idle) 8 ≡ Entered
number_in_the_window_has_its_state = refl

number_behind_the_window_is_idle : state_at (entries 6 Cancelled Entered Idle) 10 ≡ Idle
number_behind_the_window_is_idle = refl
