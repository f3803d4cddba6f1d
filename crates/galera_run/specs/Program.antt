-- what the program writes, and what each exit status says
use Rattle.std.specs.Prelude.{◌≡◌, ◌≤◌, ◌⊎◌, ℕ, List, [], ◌∷◌, ◌++◌, codes, Option, Some, None, IfSome}
use Rattle.std.specs.Io.KnownBytes.{Appends, IsAtEnd}
use Rattle.outside_io.specs.Outside.{Rose}
use Rattle.script_text.specs.declared.line.ScriptCause.{ScriptCause}
use Rattle.script_text.specs.declared.line.ScriptCause.TheVariants as cause
use Rattle.report_text.specs.Texts.{spaced}
use Rattle.galera_run.specs.declared.fault.Finished.{Finished}
use Rattle.galera_run.specs.Reading.{Ending, finished, refused, run_of, text_so_far}
use Rattle.galera_run.specs.Load.{load_summary}
use Rattle.galera_run.specs.Words.{IsSteps, load_asked}
use Rattle.galera_run.specs.declared.words.Asked.{Asked}
use Rattle.galera_run.specs.Writing.{AppendsFront}
use Rattle.galera_run.specs.Outcome.{TellsAll, TellsFirst, IsRead}

-- the text where the words are no command, and where the source failed
abbrev pub usage_text : List ℕ
usage_text = codes "USAGE\n"

abbrev pub read_text : List ℕ
read_text = codes "READ\n"

abbrev pub cause_text : ScriptCause → List ℕ
cause_text cause.Grammar = codes "grammar"
cause_text cause.Limit = codes "limit"

-- the last text where a line is refused
abbrev pub refusal_text : ℕ → ScriptCause → List ℕ
refusal_text number c =
    codes "SCRIPT" ++ spaced (number ∷ []) ++ codes " " ++ cause_text c ++ codes "\n"

abbrev pub last_text : Ending → List ℕ
last_text (finished steps cluster) = []
last_text (refused number c) = refusal_text number c

-- the whole text of a run over an input
abbrev pub printed_of : List ℕ → List ℕ
printed_of input = (run_of input).text ++ last_text (run_of input).ending

-- how many faults the source and the sink counted, before and after: the source's count rose at
-- status 3, the sink's at 4, and neither at any other; there is no other than these. Whether the
-- source's count rose at 4 is said with what went out
abbrev pub HasCauses : ℕ → ℕ → ℕ → ℕ → ℕ → Type 0
HasCauses status source_old source_new sink_old sink_new =
    (((status ≤ 2) ⊎ (status ≡ 6)) × (source_new ≡ source_old) × (sink_new ≡ sink_old))
    ⊎ (((status ≡ 3) × Rose source_old source_new × (sink_new ≡ sink_old))
    ⊎ ((status ≡ 4) × Rose sink_old sink_new))

-- the sink's count as the last line is written: it stays at the status meant, and rose at 4
abbrev pub EndsAs : ℕ → ℕ → ℕ → ℕ → Type 0
EndsAs meant status old new = ((status ≡ meant) × (new ≡ old)) ⊎ ((status ≡ 4) × Rose old new)

-- the words are no command
abbrev pub IsNoCommand : List (List ℕ) → Type 0
IsNoCommand words = (¬ IsSteps words) × (load_asked words ≡ None)

-- then the text was written, or a front of it where the sink failed, unless memory was wanting to
-- read the words
abbrev pub EndsUsage : ℕ → Option (List ℕ) → Option (List ℕ) → Type 0
EndsUsage status old new =
    ((status ≡ 1) × Appends old new usage_text)
    ⊎ (((status ≡ 4) × AppendsFront old new usage_text) ⊎ (status ≡ 6))

-- a workload is asked for, and its summary was written
abbrev pub TellsAsked : Option Asked → Option (List ℕ) → Option (List ℕ) → Type 0
TellsAsked None old new = ⊥
TellsAsked (Some a) old new = Appends old new (load_summary a.seed a.count)

-- where one is, a front of its summary was written
abbrev pub CutsAsked : Option Asked → Option (List ℕ) → Option (List ℕ) → Type 0
CutsAsked None old new = Unit {0}
CutsAsked (Some a) old new = AppendsFront old new (load_summary a.seed a.count)

-- the run came to the end of its input, its whole text was written, and no byte is left
abbrev pub TellsEnd : Option (List ℕ) → Option (List ℕ) → Option (List ℕ) → Option (List ℕ) → Type 0
TellsEnd left_old left_new old new =
    IfSome left_old (λ input. (done : Finished) × TellsAll (run_of input) old new done)
    × IsAtEnd left_new

-- the text of the first lines was written, and no more
abbrev pub TellsLines : Option (List ℕ) → Option (List ℕ) → Option (List ℕ) → Type 0
TellsLines left old new = IfSome left (λ input. TellsFirst input old new)

-- the run is refused at a line, and the whole text with that line and its cause was written
pub record IsRefusal (input : List ℕ) (old new : Option (List ℕ)) : Type 0 where
  pub number : ℕ
  pub why : ScriptCause
  pub ending : (run_of input).ending ≡ refused number why
  pub written : Appends old new ((run_of input).text ++ refusal_text number why)

abbrev pub TellsRefused : Option (List ℕ) → Option (List ℕ) → Option (List ℕ) → Type 0
TellsRefused left old new = IfSome left (λ input. IsRefusal input old new)

-- bytes were read, none of whose lines is refused; their text was written, and that the source
-- failed
pub record TellsUnread (left_old left_new old new : Option (List ℕ)) : Type 0 where
  pub taken : List ℕ
  pub is_read : IsRead left_old left_new taken
  pub written : Appends old new (text_so_far taken ++ read_text)

-- a front of that was written
pub record CutsUnread (left_old left_new old new : Option (List ℕ)) : Type 0 where
  pub taken : List ℕ
  pub is_read : IsRead left_old left_new taken
  pub written : AppendsFront old new (text_so_far taken ++ read_text)

-- a front of the whole text was written
abbrev pub CutsText : Option (List ℕ) → Option (List ℕ) → Option (List ℕ) → Type 0
CutsText left old new = IfSome left (λ input. AppendsFront old new (printed_of input))

-- what went out is a front of the text of the run, which ends where the source fails; the source's
-- count rose there alone
abbrev pub CutsRun : Option (List ℕ) → Option (List ℕ) → ℕ → ℕ → Option (List ℕ) → Option (List ℕ)
    → Type 0
CutsRun left_old left_new before now old new =
    ((now ≡ before) × CutsText left_old old new)
    ⊎ (Rose before now × CutsUnread left_old left_new old new)

-- nothing is left that was gathered; without memory nothing may have been written, and what was
-- gathered before is left as it was
abbrev pub LeavesNone : ℕ → List ℕ → List ℕ → Type 0
LeavesNone status old new = (new ≡ []) ⊎ ((status ≡ 6) × (new ≡ old))
