-- what the top calls promise of a run over a source and a sink
use Rattle.std.specs.Prelude.{◌≡◌, ◌≤◌, ◌⊎◌, ℕ, List, length, Option, IfSome, Result, Ok, Err}
use Rattle.std.specs.Io.KnownBytes.{Appends, Consumes, Keeps}
use Rattle.outside_io.specs.Outside.{Rose}
use Rattle.script_text.specs.declared.line.ScriptCause.{ScriptCause}
use Rattle.node_meaning.specs.Cluster.{ModelCluster}
use Rattle.galera_run.specs.declared.line.TheConstants.{MOST_BYTES}
use Rattle.galera_run.specs.declared.fault.RunFault.{RunFault}
use Rattle.galera_run.specs.declared.fault.RunFault.TheVariants as stop
use Rattle.galera_run.specs.declared.fault.Finished.{Finished}
use Rattle.galera_run.specs.Places.{Place}
use Rattle.galera_run.specs.Reading.{Told, place, Run, finished, refused, run_told, run_of, first_text, told_so_far, text_so_far}
use Rattle.galera_run.specs.Writing.{IsFrontOf, AppendsFront}

-- the run comes to the end of its input, with so many steps and events
pub record IsFinished (run : Run) (done : Finished) : Type 0 where
  pub cluster : ModelCluster
  pub ending : run.ending ≡ finished done.steps cluster
  pub events : done.events ≡ length cluster.order

-- it does, and its whole text was written
pub record TellsAll (run : Run) (old new : Option (List ℕ)) (done : Finished) : Type 0 where
  pub is_finished : IsFinished run done
  pub written : Appends old new run.text

-- the run is refused at this line, and the text of the lines before it was written
pub record TellsRefusal (run : Run) (old new : Option (List ℕ)) (number : ℕ)
    (c : ScriptCause) : Type 0 where
  pub ending : run.ending ≡ refused number c
  pub written : Appends old new run.text

-- how a run may stop at the end of its input; without memory the last line's text was written, or
-- nothing
abbrev pub EndStops : Told → Option (List ℕ) → Option (List ℕ) → RunFault → Type 0
EndStops told old new (stop.Script number c) = TellsRefusal (run_told told) old new number c
EndStops told old new stop.Read = ⊥
EndStops told old new stop.Write = AppendsFront old new (run_told told).text
EndStops told old new stop.NoMemory = Keeps old new ⊎ Appends old new told.text

-- the text of the first lines was written, which is a front of the whole text
pub record TellsFirst (input : List ℕ) (old new : Option (List ℕ)) : Type 0 where
  pub count : ℕ
  pub written : Appends old new (first_text count input)
  pub is_front : IsFrontOf (first_text count input) (run_of input).text

-- these bytes were read, no more than are allowed, and none of the lines whose newline is among
-- them is refused
pub record IsRead (left_old left_new : Option (List ℕ)) (taken : List ℕ) : Type 0 where
  pub read : Consumes left_old left_new taken
  pub within : length taken ≤ MOST_BYTES
  pub at : Place
  pub not_refused : (told_so_far taken).reached ≡ place at

-- so many were, and the text of their lines was written
pub record TellsRead (left_old left_new old new : Option (List ℕ)) : Type 0 where
  pub taken : List ℕ
  pub is_read : IsRead left_old left_new taken
  pub written : Appends old new (text_so_far taken)

-- the run over the bytes left came to their end, and its whole text was written
abbrev pub RunTells : Option (List ℕ) → Option (List ℕ) → Option (List ℕ) → Finished → Type 0
RunTells left old new done = IfSome left (λ input. TellsAll (run_of input) old new done)

-- how a run may stop, over a source with these bytes left before and after
abbrev pub RunStops : Option (List ℕ) → Option (List ℕ) → Option (List ℕ) → Option (List ℕ)
    → RunFault → Type 0
RunStops left_old left_new old new (stop.Script number c) =
    IfSome left_old (λ input. TellsRefusal (run_of input) old new number c)
RunStops left_old left_new old new stop.Read = TellsRead left_old left_new old new
RunStops left_old left_new old new stop.Write =
    IfSome left_old (λ input. AppendsFront old new (run_of input).text)
RunStops left_old left_new old new stop.NoMemory =
    IfSome left_old (λ input. TellsFirst input old new)

-- ---- what a run printed is sent out at its end
-- a run behind which that is due: neither its source nor its sink failed
abbrev pub IsToSend : Result Finished RunFault → Type 0
IsToSend (Ok done) = Unit {0}
IsToSend (Err (stop.Script number c)) = Unit {0}
IsToSend (Err stop.Read) = ⊥
IsToSend (Err stop.Write) = ⊥
IsToSend (Err stop.NoMemory) = Unit {0}

-- it ends as it did, or, where that was due and failed, by the sink; the sink's count of faults
-- tells which
abbrev pub SendsOut : Result Finished RunFault → Result Finished RunFault → ℕ → ℕ → Type 0
SendsOut ran result before now =
    ((result ≡ ran) × (now ≡ before))
    ⊎ (IsToSend ran × (result ≡ Err stop.Write) × Rose before now)
