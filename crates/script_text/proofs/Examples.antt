-- The definitions at worked lines.
use Rattle.std.proofs.Common.{◌≡◌, true, false, [], ◌∷◌, ◌++◌, replicate, None, Some, Ok, Err, refl}
use Rattle.std.specs.Prelude.{codes}
use Rattle.order_event.specs.declared.step.Act.TheVariants as act
use Rattle.row_model.specs.declared.calls.Call.TheVariants as call
use Rattle.row_model.specs.declared.row.RowId.{RowId}
use Rattle.script_text.specs.declared.line.Line.TheVariants as line
use Rattle.script_text.specs.declared.line.ScriptCause.TheVariants as cause
use Rattle.uuid.proofs.OnLiterals.{uuid_on_literals}
use Rattle.wsrep_base.specs.StateId.{id_of}
use Rattle.script_text.specs.Words.{text_of, words_of}
use Rattle.script_text.specs.Fields.{number_of, counting_of, node_of, name_of, row_id_of, only_number, only_node, only_row, numbers_of, values_of, pair_of, pairs_of, change_of}
use Rattle.script_text.specs.Grammar.{insert_of, update_of, call_of, verb_of, who_of, act_of, step_of, is_passed_over, said_of, line_of, header_at, header_of, first_of}

-- the row `a` of the table `acct`
abbrev account : RowId
account = record { table = codes "acct" ++ replicate 12 0; row = codes "a" ++ replicate 15 0 }

takes : line_of 1 (codes "1 take") ≡ Ok (line.Step (record { node = 1; act = act.Take }))
unfolding text_of words_of number_of counting_of node_of verb_of who_of act_of step_of is_passed_over said_of line_of
takes = refl

blanks_and_line_end : line_of 2 (codes "\t 2 \ttake  \r\n") ≡ Ok (line.Step (record { node = 2; act = act.Take }))
unfolding text_of words_of number_of counting_of node_of verb_of who_of act_of step_of is_passed_over said_of line_of
blanks_and_line_end = refl

return_at_the_end_of_input : line_of 1 (codes "1 take\r") ≡ Err cause.Grammar
unfolding text_of words_of number_of counting_of node_of verb_of who_of act_of step_of is_passed_over said_of line_of
return_at_the_end_of_input = refl

of_two_returns_one_stays : line_of 1 (codes "1 take\r\r\n") ≡ Err cause.Grammar
unfolding text_of words_of number_of counting_of node_of verb_of who_of act_of step_of is_passed_over said_of line_of
of_two_returns_one_stays = refl

reports : line_of 3 (codes "3 report\n") ≡ Ok (line.Step (record { node = 3; act = act.Report }))
unfolding text_of words_of number_of counting_of node_of verb_of who_of act_of step_of is_passed_over said_of line_of
reports = refl

report_of_a_number : line_of 1 (codes "1 report 4") ≡ Err cause.Grammar
unfolding text_of words_of number_of counting_of node_of verb_of who_of act_of step_of is_passed_over said_of line_of
report_of_a_number = refl

zeros_are_read : line_of 1 (codes "01.001 poll\n") ≡ Ok (line.Step (record { node = 1; act = act.Client 1 call.Poll }))
unfolding text_of words_of number_of counting_of node_of call_of who_of act_of step_of is_passed_over said_of line_of
zeros_are_read = refl

inserts : line_of 1 (codes "1.32 insert acct a 7 08\n")
    ≡ Ok (line.Step (record { node = 1; act = act.Client 32 (call.Insert account (7 ∷ 8 ∷ [])) }))
unfolding text_of words_of number_of counting_of node_of name_of row_id_of numbers_of values_of insert_of call_of who_of act_of step_of is_passed_over said_of line_of
inserts = refl

updates : line_of 1 (codes "1.1 update acct a 1=70 8=5\n")
    ≡ Ok (line.Step (record { node = 1; act = act.Client 1 (call.Update account (Some 70 ∷ replicate 6 None ++ Some 5 ∷ [])) }))
unfolding text_of words_of number_of counting_of node_of name_of row_id_of pair_of pairs_of change_of update_of call_of who_of act_of step_of is_passed_over said_of line_of
updates = refl

columns_that_stay : line_of 1 (codes "1.1 update acct a 2=1 2=1\n") ≡ Err cause.Grammar
unfolding text_of words_of number_of counting_of node_of name_of row_id_of pair_of pairs_of change_of update_of call_of who_of act_of step_of is_passed_over said_of line_of
columns_that_stay = refl

shares : line_of 1 (codes "1.1 share acct a") ≡ Ok (line.Step (record { node = 1; act = act.Client 1 (call.Share account) }))
unfolding text_of words_of number_of counting_of node_of name_of row_id_of only_row call_of who_of act_of step_of is_passed_over said_of line_of
shares = refl

session_33 : line_of 1 (codes "1.33 poll") ≡ Err cause.Limit
unfolding text_of words_of number_of counting_of node_of call_of who_of act_of step_of is_passed_over said_of line_of
session_33 = refl

grammar_before_limits : line_of 1 (codes "1.33 poll 1") ≡ Err cause.Grammar
unfolding text_of words_of number_of counting_of node_of call_of who_of act_of step_of is_passed_over said_of line_of
grammar_before_limits = refl

no_third_node : line_of 2 (codes "3 take") ≡ Err cause.Grammar
unfolding text_of words_of number_of counting_of node_of verb_of who_of act_of step_of is_passed_over said_of line_of
no_third_node = refl

begins : line_of 1 (codes "1.1 begin") ≡ Ok (line.Step (record { node = 1; act = act.Client 1 (call.Begin 0) }))
unfolding text_of words_of number_of counting_of node_of only_number call_of who_of act_of step_of is_passed_over said_of line_of
begins = refl

unit_of_one : line_of 1 (codes "1.1 begin stream 1\n") ≡ Ok (line.Step (record { node = 1; act = act.Client 1 (call.Begin 1) }))
unfolding text_of words_of number_of counting_of node_of only_number call_of who_of act_of step_of is_passed_over said_of line_of
unit_of_one = refl

unit_of_none : line_of 1 (codes "1.1 begin stream 00") ≡ Ok (line.Step (record { node = 1; act = act.Client 1 (call.Begin 0) }))
unfolding text_of words_of number_of counting_of node_of only_number call_of who_of act_of step_of is_passed_over said_of line_of
unit_of_none = refl

greatest_unit : line_of 1 (codes "1.1 begin stream 1000000") ≡ Ok (line.Step (record { node = 1; act = act.Client 1 (call.Begin 1_000_000) }))
unfolding text_of words_of number_of counting_of node_of only_number call_of who_of act_of step_of is_passed_over said_of line_of
greatest_unit = refl

unit_too_great : line_of 1 (codes "1.1 begin stream 1000001") ≡ Err cause.Limit
unfolding text_of words_of number_of counting_of node_of only_number call_of who_of act_of step_of is_passed_over said_of line_of
unit_too_great = refl

unit_missing : line_of 1 (codes "1.1 begin stream") ≡ Err cause.Grammar
unfolding text_of words_of number_of counting_of node_of only_number call_of who_of act_of step_of is_passed_over said_of line_of
unit_missing = refl

unit_no_number : line_of 1 (codes "1.1 begin stream x") ≡ Err cause.Grammar
unfolding text_of words_of number_of counting_of node_of only_number call_of who_of act_of step_of is_passed_over said_of line_of
unit_no_number = refl

two_units : line_of 1 (codes "1.1 begin stream 1000001 1") ≡ Err cause.Grammar
unfolding text_of words_of number_of counting_of node_of only_number call_of who_of act_of step_of is_passed_over said_of line_of
two_units = refl

unit_without_its_word : line_of 1 (codes "1.1 begin 1") ≡ Err cause.Grammar
unfolding text_of words_of number_of counting_of node_of only_number call_of who_of act_of step_of is_passed_over said_of line_of
unit_without_its_word = refl

empty_line : line_of 1 [] ≡ Ok line.Blank
unfolding text_of words_of is_passed_over said_of line_of
empty_line = refl

comment : line_of 1 (codes "\t# 1 take\n") ≡ Ok line.Blank
unfolding text_of words_of is_passed_over said_of line_of
comment = refl

comment_of_513_bytes : line_of 1 (replicate 513 35) ≡ Err cause.Limit
unfolding text_of words_of is_passed_over said_of line_of
comment_of_513_bytes = refl

nine_nodes : header_of (codes "cluster 9 gcache 16777216 id 00000000-0000-0000-0000-0000000000a1\n")
    ≡ Ok (record { nodes = 9; gcache = 16_777_216; id = replicate 15 0 ++ 161 ∷ [] })
unfolding text_of words_of number_of counting_of header_at header_of id_of uuid_on_literals
nine_nodes = refl

ten_nodes : header_of (codes "cluster 10 gcache 65536 id 00000000-0000-0000-0000-0000000000a1") ≡ Err cause.Limit
unfolding text_of words_of number_of counting_of header_at header_of id_of uuid_on_literals
ten_nodes = refl

ring_too_great : header_of (codes "cluster 1 gcache 16777217 id 00000000-0000-0000-0000-0000000000a1") ≡ Err cause.Limit
unfolding text_of words_of number_of counting_of header_at header_of id_of uuid_on_literals
ring_too_great = refl

nil_id : header_of (codes "cluster 10 gcache 65536 id 00000000-0000-0000-0000-000000000000") ≡ Err cause.Grammar
unfolding text_of words_of number_of counting_of header_at header_of id_of uuid_on_literals
nil_id = refl

before_the_header : first_of (codes "# a cluster\n") ≡ Ok None
unfolding text_of words_of is_passed_over header_at first_of
before_the_header = refl

the_header : first_of (codes "cluster 1 gcache 0 id 00000000-0000-0000-0000-0000000000a1\r\n")
    ≡ Ok (Some (record { nodes = 1; gcache = 0; id = replicate 15 0 ++ 161 ∷ [] }))
unfolding text_of words_of number_of counting_of is_passed_over header_at first_of id_of uuid_on_literals
the_header = refl

joins : line_of 2 (codes "2 join\n") ≡ Ok (line.Step (record { node = 2; act = act.Join false }))
unfolding text_of words_of number_of counting_of node_of verb_of who_of act_of step_of is_passed_over said_of line_of
joins = refl

joins_fresh : line_of 2 (codes "2 join fresh") ≡ Ok (line.Step (record { node = 2; act = act.Join true }))
unfolding text_of words_of number_of counting_of node_of verb_of who_of act_of step_of is_passed_over said_of line_of
joins_fresh = refl

joins_otherwise : line_of 2 (codes "2 join again") ≡ Err cause.Grammar
unfolding text_of words_of number_of counting_of node_of verb_of who_of act_of step_of is_passed_over said_of line_of
joins_otherwise = refl

transfers : line_of 2 (codes "2 transfer 1\n") ≡ Ok (line.Step (record { node = 2; act = act.Transfer 1 }))
unfolding text_of words_of number_of counting_of node_of only_node verb_of who_of act_of step_of is_passed_over said_of line_of
transfers = refl

no_third_donor : line_of 2 (codes "2 transfer 3") ≡ Err cause.Grammar
unfolding text_of words_of number_of counting_of node_of only_node verb_of who_of act_of step_of is_passed_over said_of line_of
no_third_donor = refl

no_donor : line_of 2 (codes "2 transfer") ≡ Err cause.Grammar
unfolding text_of words_of number_of counting_of node_of only_node verb_of who_of act_of step_of is_passed_over said_of line_of
no_donor = refl
