-- The steps of `load` for the seed 7, as lines of a schedule.
use Rattle.std.proofs.Common.{◌≡◌, ℕ, List, [], ◌∷◌, length, take, drop, map, Ok, refl}
use Rattle.std.specs.Prelude.{codes, Result}
use Rattle.std.specs.Fmt.{digits}
use Rattle.uuid.proofs.OnLiterals.{uuid_on_literals}
use Rattle.wsrep_base.specs.StateId.{id_of}
use Rattle.row_model.specs.declared.calls.Call.TheVariants as call
use Rattle.order_event.specs.declared.step.Act.TheVariants as act
use Rattle.order_event.specs.declared.step.Step.{Step}
use Rattle.script_text.specs.declared.line.Line.{Line}
use Rattle.script_text.specs.declared.line.Line.TheVariants as line
use Rattle.script_text.specs.declared.line.ScriptCause.{ScriptCause}
use Rattle.script_text.specs.Words.{text_of, words_of}
use Rattle.script_text.specs.Fields.{number_of, counting_of, node_of, name_of, row_id_of, only_number, numbers_of, values_of, pair_of, pairs_of, change_of}
use Rattle.script_text.specs.Grammar.{insert_of, update_of, call_of, verb_of, who_of, act_of, step_of, is_passed_over, said_of, line_of, header_at, header_of}
use Rattle.script_text.specs.Load.{opening, rounds, next_number, drawn, asks, does, set_to, each_does, load_header, load_steps}

-- what lines say
abbrev say : List (List ℕ) → List (Result Line ScriptCause)
say lines = map (line_of 3) lines

abbrev said : List Step → List (Result Line ScriptCause)
said steps = map (λ step. Ok (line.Step step)) steps

first_twenty : say (
    codes "1 drain" ∷
    codes "2 drain" ∷
    codes "3 drain" ∷
    codes "1.1 begin" ∷
    codes "1.1 insert acct r0 0" ∷
    codes "1.1 insert acct r1 0" ∷
    codes "1.1 insert acct r2 0" ∷
    codes "1.1 insert acct r3 0" ∷
    codes "1.1 insert acct r4 0" ∷
    codes "1.1 insert acct r5 0" ∷
    codes "1.1 insert acct r6 0" ∷
    codes "1.1 insert acct r7 0" ∷
    codes "1.1 insert acct r8 0" ∷
    codes "1.1 insert acct r9 0" ∷
    codes "1.1 insert acct r10 0" ∷
    codes "1.1 insert acct r11 0" ∷
    codes "1.1 insert acct r12 0" ∷
    codes "1.1 insert acct r13 0" ∷
    codes "1.1 insert acct r14 0" ∷
    codes "1.1 insert acct r15 0" ∷
    []
    ) ≡ said (take 20 (load_steps 7 1))
unfolding opening rounds next_number drawn digits text_of words_of number_of counting_of node_of name_of row_id_of only_number numbers_of values_of pair_of pairs_of change_of insert_of update_of call_of verb_of who_of act_of step_of is_passed_over said_of line_of
first_twenty = refl

two_rounds : say (
    codes "1.1 commit" ∷
    codes "1 drain" ∷
    codes "1.1 poll" ∷
    codes "2 drain" ∷
    codes "3 drain" ∷
    codes "3.4 poll" ∷
    codes "3.4 begin" ∷
    codes "3.4 update acct r49 1=1" ∷
    codes "3.4 update acct r17 1=1" ∷
    codes "3.4 commit" ∷
    codes "3 drain" ∷
    codes "2.1 poll" ∷
    codes "2.1 begin" ∷
    codes "2.1 update acct r27 1=2" ∷
    codes "2.1 update acct r54 1=2" ∷
    codes "2.1 commit" ∷
    codes "1 drain" ∷
    codes "1 drain" ∷
    codes "2 drain" ∷
    codes "3 drain" ∷
    codes "1 drain" ∷
    codes "2 drain" ∷
    codes "3 drain" ∷
    []
    ) ≡ said (drop 68 (load_steps 7 2))
unfolding opening rounds next_number drawn digits text_of words_of number_of counting_of node_of name_of row_id_of only_number numbers_of values_of pair_of pairs_of change_of insert_of update_of call_of verb_of who_of act_of step_of is_passed_over said_of line_of
two_rounds = refl

sixteenth_round : take 9 (drop 163 (load_steps 7 16)) ≡
    asks 1 2 call.Poll
    ∷ asks 1 2 (call.Begin 1)
    ∷ asks 1 2 (set_to 16 29)
    ∷ asks 1 2 (set_to 16 2)
    ∷ asks 1 2 call.Commit
    ∷ does act.Drain 2
    ∷ each_does act.Report
unfolding opening rounds next_number drawn digits
sixteenth_round = refl

lines_of_sixteen_rounds : length (load_steps 7 16) ≡ 178
unfolding opening rounds next_number drawn digits
lines_of_sixteen_rounds = refl

header : header_of (codes "cluster 3 gcache 1048576 id 00000000-0000-0000-0000-0000000000a1\n") ≡ Ok load_header
unfolding text_of words_of number_of counting_of header_at header_of id_of uuid_on_literals
header = refl
