-- what a line of a schedule says: the grammar first, and then the limits
use Rattle.std.specs.Prelude.{ℕ, ◌+◌, ◌==◌, ◌&&◌, Bool, true, false, nat_le, List, [], ◌∷◌, length, take, drop, slice_index, Option, Some, None, option_map, Result, Ok, Err, if◌then◌else◌}
use Rattle.std.specs.List.{position}
use Rattle.wsrep_base.specs.StateId.{id_of}
use Rattle.wsrep_base.specs.declared.limits.TheConstants.{MOST_RING_BYTES}
use Rattle.row_model.specs.declared.calls.Call.{Call}
use Rattle.row_model.specs.declared.calls.Call.TheVariants as call
use Rattle.order_event.specs.declared.step.Act.{Act}
use Rattle.order_event.specs.declared.step.Act.TheVariants as act
use Rattle.order_event.specs.declared.step.Step.{Step}
use Rattle.script_text.specs.declared.line.Header.{Header}
use Rattle.script_text.specs.declared.line.Line.{Line}
use Rattle.script_text.specs.declared.line.Line.TheVariants as line
use Rattle.script_text.specs.declared.line.ScriptCause.{ScriptCause}
use Rattle.script_text.specs.declared.line.ScriptCause.TheVariants as cause
use Rattle.script_text.specs.Words.{without_newline, text_of, words_of, ◌is◌, ◌>>=◌, alone}
use Rattle.script_text.specs.Fields.{number_of, only_number, only_node, counting_of, node_of, row_id_of, only_row, values_of, change_of}

-- `begin`, which sends no fragments, or `begin stream Q`, which sends one after each Q changes
abbrev pub begin_of : List (List ℕ) → Option Call
begin_of [] = Some (call.Begin 0)
begin_of (word ∷ words) =
    if word is "stream" then option_map call.Begin (only_number words)
    else None

-- `T R V..`
unfoldable pub insert_of : List (List ℕ) → Option Call
insert_of [] = None
insert_of (table ∷ []) = None
insert_of (table ∷ row ∷ words) = do
  id ← row_id_of table row
  values ← values_of words
  Some (call.Insert id values)

-- `T R C=V..`
unfoldable pub update_of : List (List ℕ) → Option Call
update_of [] = None
update_of (table ∷ []) = None
update_of (table ∷ row ∷ words) = do
  id ← row_id_of table row
  change ← change_of words
  Some (call.Update id change)

-- what a client asks
unfoldable pub call_of : List (List ℕ) → Option Call
call_of [] = None
call_of (verb ∷ words) =
    if verb is "begin" then begin_of words
    else if verb is "insert" then insert_of words
    else if verb is "update" then update_of words
    else if verb is "delete" then option_map call.Delete (only_row words)
    else if verb is "share" then option_map call.Share (only_row words)
    else if verb is "read" then option_map call.Read (only_row words)
    else if verb is "commit" then alone call.Commit words
    else if verb is "rollback" then alone call.Rollback words
    else if verb is "poll" then alone call.Poll words
    else None

-- `join`, or `join fresh`, which keeps nothing of the node's state
abbrev pub join_of : List (List ℕ) → Option Act
join_of [] = Some (act.Join false)
join_of (word ∷ words) = if word is "fresh" then alone (act.Join true) words else None

-- what a node does by itself, of so many
unfoldable pub verb_of : ℕ → List (List ℕ) → Option Act
verb_of nodes [] = None
verb_of nodes (verb ∷ words) =
    if verb is "order" then alone act.Order words
    else if verb is "take" then alone act.Take words
    else if verb is "certify" then alone act.Certify words
    else if verb is "start" then option_map act.Start (only_number words)
    else if verb is "finish" then option_map act.Finish (only_number words)
    else if verb is "advance" then alone act.Advance words
    else if verb is "report" then alone act.Report words
    else if verb is "status" then alone act.Status words
    else if verb is "drain" then alone act.Drain words
    else if verb is "leave" then alone act.Leave words
    else if verb is "join" then join_of words
    else if verb is "transfer" then option_map act.Transfer (only_node nodes words)
    else None

-- who acts: a node, `N`, or one of its sessions, `N.S`
abbrev pub who_at : ℕ → List ℕ → Option ℕ → Option (ℕ × Option ℕ)
who_at nodes word None = do
  node ← node_of nodes word
  Some (node, None)
who_at nodes word (Some at) = do
  node ← node_of nodes (take at word)
  session ← counting_of (drop (at + 1) word)
  Some (node, Some session)

unfoldable pub who_of : ℕ → List ℕ → Option (ℕ × Option ℕ)
who_of nodes word = who_at nodes word (position (λ b. b == 46) word)

unfoldable pub act_of : ℕ → Option ℕ → List (List ℕ) → Option Act
act_of nodes None words = verb_of nodes words
act_of nodes (Some session) words = option_map (act.Client session) (call_of words)

unfoldable pub step_of : ℕ → List (List ℕ) → Option Step
step_of nodes [] = None
step_of nodes (word ∷ words) = do
  who ← who_of nodes word
  act ← act_of nodes who.1 words
  Some (record { node = who.0; act = act })

-- a line without words, and one that begins with `#`, say nothing
unfoldable pub is_passed_over : List (List ℕ) → Bool
is_passed_over [] = true
is_passed_over (word ∷ words) = slice_index word 0 == 35

-- what a line says in a cluster of so many nodes
unfoldable pub said_of : ℕ → List (List ℕ) → Option Line
said_of nodes words =
    if is_passed_over words then Some line.Blank else option_map line.Step (step_of nodes words)

-- `cluster K gcache B id U`
unfoldable pub header_at : List (List ℕ) → Option Header
header_at (cluster ∷ k ∷ gcache ∷ b ∷ id ∷ u ∷ []) =
    if (cluster is "cluster") && (gcache is "gcache") && (id is "id") then (do
      nodes ← counting_of k
      bytes ← number_of b
      state ← id_of u
      Some (record { nodes = nodes; gcache = bytes; id = state }))
    else None
header_at _ = None

-- up to the header, a line is passed over or is the header
abbrev pub first_at : List (List ℕ) → Option (Option Header)
first_at words = if is_passed_over words then Some None else option_map Some (header_at words)

-- a line of so many bytes, its newline not counted, passes no limit
abbrev pub is_short : List ℕ → Bool
is_short line = nat_le (length (without_newline line)) 512

-- the limits of a step
abbrev pub call_is_within : Call → Bool
call_is_within (call.Begin unit) = nat_le unit 1_000_000
call_is_within other = true

abbrev pub act_is_within : Act → Bool
act_is_within (act.Client session asked) = nat_le session 32 && call_is_within asked
act_is_within other = true

abbrev pub step_is_within : Step → Bool
step_is_within step = act_is_within step.act

abbrev pub line_is_within : Line → Bool
line_is_within line.Blank = true
line_is_within (line.Step step) = step_is_within step

-- the limits of a header
abbrev pub header_is_within : Header → Bool
header_is_within header = nat_le header.nodes 9 && nat_le header.gcache MOST_RING_BYTES

abbrev pub first_is_within : Option Header → Bool
first_is_within None = true
first_is_within (Some header) = header_is_within header

-- What is outside the grammar is at fault by it. Else the limits are looked at.
abbrev pub judged : {X : Type 0} → (X → Bool) → Option X → Result X ScriptCause
judged within None = Err cause.Grammar
judged within (Some x) = if within x then Ok x else Err cause.Limit

-- a line behind the header, with the newline that ends it, in a cluster of so many nodes
unfoldable pub line_of : ℕ → List ℕ → Result Line ScriptCause
line_of nodes line =
    judged (λ said. is_short line && line_is_within said) (said_of nodes (words_of (text_of line)))

-- the header, with the newline that ends it
unfoldable pub header_of : List ℕ → Result Header ScriptCause
header_of line =
    judged (λ header. is_short line && header_is_within header)
    (header_at (words_of (text_of line)))

-- a line that may be the header, with the newline that ends it
unfoldable pub first_of : List ℕ → Result (Option Header) ScriptCause
first_of line =
    judged (λ first. is_short line && first_is_within first) (first_at (words_of (text_of line)))
