-- reading in pieces: what a piece printed, whatever follows it
use Rattle.std.specs.Prelude.{◌≡◌, ◌≢◌, ◌≤◌, ◌<◌, ℕ, ◌+◌, List, ◌++◌, length, Option, Some, None, Result, Ok, Err, MatchResult}
use Rattle.std.specs.Io.KnownBytes.{Appends, Keeps, Consumes}
use Rattle.outside_io.specs.Outside.{Rose}
use Rattle.wsrep_base.specs.StateId.{nil_id}
use Rattle.order_event.specs.declared.step.Answer.{Answer}
use Rattle.node_meaning.specs.Cluster.{start_cluster}
use Rattle.node_laws.specs.Given.{given}
use Rattle.script_text.specs.declared.line.ScriptCause.{ScriptCause}
use Rattle.script_text.specs.declared.line.Header.{Header}
use Rattle.script_text.specs.Steps.{IsHeader}
use Rattle.galera_run.specs.declared.line.TheConstants.{MOST_BYTES, MOST_STEPS, MOST_EVENTS}
use Rattle.galera_run.specs.Places.{Opened, Place, Script}
use Rattle.galera_run.specs.declared.fault.RunFault.{RunFault}
use Rattle.galera_run.specs.declared.fault.RunFault.TheVariants as stop
use Rattle.galera_run.specs.declared.line.LineFault.{LineFault}
use Rattle.galera_run.specs.declared.line.LineFault.TheVariants as fails
use Rattle.galera_run.specs.Lines.{lines_to, last_line}
use Rattle.galera_run.specs.Reading.{Told, opened, fault, front, told_from, line_at, answer_line}
use Rattle.galera_run.specs.Writing.{IsFrontOf, AppendsFront}

-- a cluster of so many nodes, with its counts within their limits, over a group that never failed;
-- what it has given out is no more than one for each step
pub record IsCounted (steps : ℕ) (o : Opened) : Type 0 where
  pub nodes : length o.cluster.model.nodes ≡ o.nodes
  pub events : length o.cluster.model.order ≤ MOST_EVENTS
  pub faults : o.cluster.faults ≡ 0
  pub within : given o.cluster.model ≤ steps + 1

abbrev pub IsCountedIn : ℕ → Option Opened → Type 0
IsCountedIn steps None = Unit {0}
IsCountedIn steps (Some o) = IsCounted steps o

-- the counts of a place are within their limits
pub record Stands (p : Place) : Type 0 where
  pub numbered : p.number ≤ p.before + 1
  pub within : p.before ≤ MOST_BYTES
  pub few : p.steps ≤ MOST_STEPS
  pub counted : IsCountedIn p.steps p.state

-- so is the line that has begun
pub record IsSound (s : Script) : Type 0 where
  pub stands : Stands s.place
  pub room : s.place.before + length s.pending ≤ MOST_BYTES

-- the bytes that were read
abbrev pub read_count : Script → ℕ
read_count s = s.place.before + length s.pending

-- what is still told once these bytes follow
abbrev pub told_by : (List ℕ → List (List ℕ)) → Script → List ℕ → Told
told_by last s bytes = told_from s.place (lines_to last s.pending bytes)

-- the bytes printed the text: whatever follows, the whole tells it first
pub record GoesOn (before after : Script) (taken text : List ℕ) : Type 0 where
  pub rest : (last : List ℕ → List (List ℕ)) (bytes : List ℕ) →
      told_by last before (taken ++ bytes) ≡ front text (told_by last after bytes)

-- the bytes printed the text and were refused there, whatever follows
pub record IsRefused (before : Script) (taken text : List ℕ) (number : ℕ)
    (c : ScriptCause) : Type 0 where
  pub rest : (bytes : List ℕ) →
      told_by last_line before (taken ++ bytes) ≡ record { text = text; reached = fault number c }

-- what the reading of the bytes did to the sink
pub record Feeds (before after : Script) (taken : List ℕ) (old new : Option (List ℕ)) : Type 0 where
  pub text : List ℕ
  pub written : Appends old new text
  pub goes_on : GoesOn before after taken text

pub record Refuses (before : Script) (taken : List ℕ) (old new : Option (List ℕ)) (number : ℕ)
    (c : ScriptCause) : Type 0 where
  pub text : List ℕ
  pub written : Appends old new text
  pub is_refused : IsRefused before taken text number c

-- whatever follows, what was written is a front of the text
abbrev pub CutsShort : Script → List ℕ → Option (List ℕ) → Option (List ℕ) → Type 0
CutsShort before taken old new =
    (bytes : List ℕ) → AppendsFront old new (told_by last_line before (taken ++ bytes)).text

-- the text of the whole lines of some first bytes was written, and no more
pub record Halts (before : Script) (taken : List ℕ) (old new : Option (List ℕ)) : Type 0 where
  pub fed : List ℕ
  pub after : Script
  pub is_front : IsFrontOf fed taken
  pub feeds : Feeds before after fed old new

-- how the reading of the bytes may stop; it reads from no source
abbrev pub Stops : Script → List ℕ → Option (List ℕ) → Option (List ℕ) → RunFault → Type 0
Stops before taken old new (stop.Script number c) = Refuses before taken old new number c
Stops before taken old new stop.Read = ⊥
Stops before taken old new stop.Write = CutsShort before taken old new
Stops before taken old new stop.NoMemory = Halts before taken old new

-- a run over a source read some of its bytes
pub record Reads (left_old left_new : Option (List ℕ)) (before after : Script)
    (old new : Option (List ℕ)) : Type 0 where
  pub taken : List ℕ
  pub consumed : Consumes left_old left_new taken
  pub feeds : Feeds before after taken old new
  pub count : read_count after ≡ read_count before + length taken

-- and was refused there
pub record ReadsRefused (left_old left_new : Option (List ℕ)) (before : Script)
    (old new : Option (List ℕ)) (number : ℕ) (c : ScriptCause) : Type 0 where
  pub taken : List ℕ
  pub consumed : Consumes left_old left_new taken
  pub refuses : Refuses before taken old new number c

-- and could not go on there
pub record ReadsCut (left_old left_new : Option (List ℕ)) (before : Script)
    (old new : Option (List ℕ)) : Type 0 where
  pub taken : List ℕ
  pub consumed : Consumes left_old left_new taken
  pub cuts : CutsShort before taken old new

-- and had no memory there
pub record ReadsHalted (left_old left_new : Option (List ℕ)) (before : Script)
    (old new : Option (List ℕ)) : Type 0 where
  pub taken : List ℕ
  pub consumed : Consumes left_old left_new taken
  pub halts : Halts before taken old new

-- how a run over a source may stop before its end
abbrev pub ReadStops : Option (List ℕ) → Option (List ℕ) → Script → Option (List ℕ)
    → Option (List ℕ) → RunFault → Type 0
ReadStops left_old left_new before old new (stop.Script number c) =
    ReadsRefused left_old left_new before old new number c
ReadStops left_old left_new before old new stop.Read =
    (after : Script) × Reads left_old left_new before after old new × IsSound after
ReadStops left_old left_new before old new stop.Write = ReadsCut left_old left_new before old new
ReadStops left_old left_new before old new stop.NoMemory =
    ReadsHalted left_old left_new before old new

-- the next line is within the bytes allowed, and a cluster of its own is within its counts
pub record IsRoomFor (p : Place) (line : List ℕ) (state : Option Opened) : Type 0 where
  pub numbered : p.number ≤ p.before + 1
  pub room : p.before + length line ≤ MOST_BYTES
  pub some : 0 < length line
  pub few : p.steps ≤ MOST_STEPS
  pub counted : IsCountedIn p.steps state

-- a header within its limits, whose id is not nil
pub record IsHeaderOf (header : Header) : Type 0 where
  pub limits : IsHeader header
  pub some_id : header.id ≢ nil_id

-- the cluster that a header begins
abbrev pub IsOpenedBy : Header → Opened → Type 0
IsOpenedBy header o = o ≡ opened header.nodes (start_cluster header.nodes header.gcache header.id)

-- how a line fails: refused by its cause, or without memory, which is free
abbrev pub FailsAs : Result (Option Answer × Place) ScriptCause → LineFault → Type 0
FailsAs given (fails.Refused c) = given ≡ Err c
FailsAs given fails.NoMemory = Unit {0}

-- one line was run and its text was written
pub record Runs (before after : Place) (line : List ℕ) (old new : Option (List ℕ)) : Type 0 where
  pub answer : Option Answer
  pub is_answer : line_at before line ≡ Ok (answer, after)
  pub written : Appends old new (answer_line before answer)

-- one line was run and only a front of its text was written
pub record RunsCut (before : Place) (line : List ℕ) (old new : Option (List ℕ)) : Type 0 where
  pub answer : Option Answer
  pub after : Place
  pub is_answer : line_at before line ≡ Ok (answer, after)
  pub written : AppendsFront old new (answer_line before answer)

-- how one line may stop; a refused one and one without memory print nothing
abbrev pub LineStops : Place → List ℕ → Option (List ℕ) → Option (List ℕ) → RunFault → Type 0
LineStops before line old new (stop.Script number c) =
    (number ≡ before.number) × (line_at before line ≡ Err c) × Keeps old new
LineStops before line old new stop.Read = ⊥
LineStops before line old new stop.Write = RunsCut before line old new
LineStops before line old new stop.NoMemory = Keeps old new

-- a piece that was not written whole: a front of it, or nothing where there is no memory
abbrev pub PrintStops : Option (List ℕ) → Option (List ℕ) → List ℕ → RunFault → Type 0
PrintStops old new text (stop.Script number c) = ⊥
PrintStops old new text stop.Read = ⊥
PrintStops old new text stop.Write = AppendsFront old new text
PrintStops old new text stop.NoMemory = Keeps old new

-- the sink's count rose where the sink failed, and is the same elsewhere
abbrev pub write_cause : ℕ → ℕ → RunFault → Type 0
write_cause before now (stop.Script number c) = now ≡ before
write_cause before now stop.Read = now ≡ before
write_cause before now stop.Write = Rose before now
write_cause before now stop.NoMemory = now ≡ before

abbrev pub HasWriteCause : {T : Type 0} → ℕ → ℕ → Result T RunFault → Type 0
HasWriteCause before now result = MatchResult result (λ _. now ≡ before) (write_cause before now)

-- the source's count rose where the source failed, and is the same elsewhere
abbrev pub read_cause : ℕ → ℕ → RunFault → Type 0
read_cause before now (stop.Script number c) = now ≡ before
read_cause before now stop.Read = Rose before now
read_cause before now stop.Write = now ≡ before
read_cause before now stop.NoMemory = now ≡ before

abbrev pub HasReadCause : {T : Type 0} → ℕ → ℕ → Result T RunFault → Type 0
HasReadCause before now result = MatchResult result (λ _. now ≡ before) (read_cause before now)
