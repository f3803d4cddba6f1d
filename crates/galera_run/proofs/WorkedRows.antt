-- The definitions at whole inputs: what a run over these bytes prints, byte for byte, and how it ends.
use Rattle.std.proofs.Common.{◌≡◌, ◌++◌, List, [], ℕ, refl}
use Rattle.std.specs.Prelude.{codes}
use Rattle.std.specs.Fmt.{digits}
use Rattle.uuid.proofs.OnLiterals.{uuid_on_literals}
use Rattle.wsrep_base.specs.StateId.{id_of}
use Rattle.row_model.specs.Names.{is_name}
use Rattle.write_set.specs.Spelling.{spelling}
use Rattle.wsrep_base.specs.Reading.{bytes_at, number_at}
use Rattle.write_set.specs.Reading.{many_at, name_at, key_row_at, key_at, some_keys_at, keys_at, place_at, count_at, values_at, columns_at, some_columns_at, op_at, ops_at, header_at as head_at, finished, read}
use Rattle.cert_meaning.specs.Fold.{computing_folds}
use Rattle.node_meaning.specs.Client.{client}
use Rattle.node_meaning.specs.Steps.{take_step, certify_step, start_step, finish_step, advance_step, drained}
use Rattle.node_meaning.specs.Cluster.{start_cluster, cluster_step}
use Rattle.script_text.specs.declared.line.ScriptCause.TheVariants as cause
use Rattle.script_text.specs.Words.{text_of, words_of}
use Rattle.script_text.specs.Fields.{number_of, counting_of, node_of, name_of, row_id_of, only_row, numbers_of, values_of, pair_of, pairs_of, change_of}
use Rattle.script_text.specs.Grammar.{insert_of, update_of, call_of, verb_of, who_of, act_of, step_of, is_passed_over, said_of, line_of, header_at, header_of, first_of}
use Rattle.report_text.specs.Texts.{verdict_text, judged_text, reply_text, answer_text, line_text, node_text}
use Rattle.galera_run.specs.Reading.{run_of, refused}

-- what a worked input unfolds
unfoldable pub computing_text : Unit {0}
unfolding computing_folds uuid_on_literals id_of is_name spelling bytes_at number_at many_at name_at key_row_at key_at some_keys_at keys_at place_at count_at values_at columns_at some_columns_at op_at ops_at head_at finished read client take_step certify_step start_step finish_step advance_step drained start_cluster cluster_step text_of words_of number_of counting_of node_of name_of row_id_of only_row numbers_of values_of pair_of pairs_of change_of insert_of update_of call_of verb_of who_of act_of step_of is_passed_over said_of line_of header_at header_of first_of verdict_text judged_text reply_text answer_text line_text node_text digits run_of
computing_text = tt

abbrev header : List ℕ
header = codes "cluster 1 gcache 65536 id 00000000-0000-0000-0000-0000000000a1\n"

-- the header alone
header_alone : (run_of header).text ≡ codes "node 1 at 0\n"
unfolding computing_text
header_alone = refl

-- a call before the first view is committed
before_the_first_view : (run_of (header ++ codes "1.1 begin\n")).text ≡ codes "2 NOT SYNCED\nnode 1 at 0\n"
unfolding computing_text
before_the_first_view = refl

-- one session commits one row
first_commit :
    (run_of (codes "cluster 1 gcache 65536 id 00000000-0000-0000-0000-0000000000a1\n1 take\n1 certify\n1 advance\n1.1 begin\n1.1 insert acct a 100\n1.1 commit\n1 order\n1 take\n1 certify\n1 advance\n1.1 poll\n")).text
    ≡ codes "2 TOOK 1\n3 VIEW 1\n4 AT 1\n5 OK\n6 OK\n7 PENDING\n8 ORDERED 2\n9 TOOK 2\n10 PASS 2 COMMIT\n11 AT 2\n12 COMMITTED 2\nnode 1 at 2\nrow acct a 100\n"
unfolding computing_text
first_commit = refl

-- an input without a line is refused behind it
nothing : (run_of []).ending ≡ refused 1 cause.Grammar
unfolding computing_text
nothing = refl

-- so is an input of comments and empty lines alone
comments_alone : (run_of (codes "# one\n \t\r\n\n  # four")).ending ≡ refused 5 cause.Grammar
unfolding computing_text
comments_alone = refl

comments_alone_print_nothing : (run_of (codes "# one\n \t\r\n\n  # four")).text ≡ []
unfolding computing_text
comments_alone_print_nothing = refl

-- lines that are passed over, before the header and behind it, and carriage returns before newlines
passed_over :
    (run_of (codes "# begin\r\n\r\n \t\ncluster 2 gcache 78 id 00000000-0000-0000-0000-0000000000a1\r\n# 1 take\n\t1  take \r\n\n 2 take\n#")).text
    ≡ codes "6 TOOK 1\n8 TOOK 1\nnode 1 at 0\nnode 2 at 0\n"
unfolding computing_text
passed_over = refl

-- two nodes insert one row: the first of the order commits it
first_committer_wins :
    (run_of (codes "cluster 2 gcache 65536 id 00000000-0000-0000-0000-0000000000a1\n1 take\n1 certify\n1 advance\n2 take\n2 certify\n2 advance\n1.1 begin\n1.1 insert acct a 1\n2.1 begin\n2.1 insert acct a 2\n1.1 commit\n2.1 commit\n1 order\n2 order\n2 take\n2 take\n2 certify\n2 certify\n2.1 poll\n2 advance\n")).text
    ≡ codes "2 TOOK 1\n3 VIEW 1\n4 AT 1\n5 TOOK 1\n6 VIEW 1\n7 AT 1\n8 OK\n9 OK\n10 OK\n11 OK\n12 PENDING\n13 PENDING\n14 ORDERED 2\n15 ORDERED 3\n16 TOOK 2\n17 TOOK 3\n18 PASS 2 COMMIT\n19 FAIL 3 CONFLICT 2\n20 DEADLOCK CERT 2\n21 NOT READY 2\nnode 1 at 1\nnode 2 at 1\n"
unfolding computing_text
first_committer_wins = refl

-- each node shows its own place and rows
nodes_apart :
    (run_of (codes "cluster 2 gcache 65536 id 00000000-0000-0000-0000-0000000000a1\n1 take\n1 certify\n1 advance\n1.1 begin\n1.1 insert acct a 1\n1.1 commit\n1 order\n1 take\n1 certify\n1 advance\n")).text
    ≡ codes "2 TOOK 1\n3 VIEW 1\n4 AT 1\n5 OK\n6 OK\n7 PENDING\n8 ORDERED 2\n9 TOOK 2\n10 PASS 2 COMMIT\n11 AT 2\nnode 1 at 2\nrow acct a 1\nnode 2 at 0\n"
unfolding computing_text
nodes_apart = refl

-- every refusal of a statement
refused_statements :
    (run_of (header ++ codes "1 take\n1 certify\n1 advance\n1.1 begin\n1.1 insert acct a 100 200\n1.1 commit\n1.1 poll\n1 order\n1 take\n1 certify\n1 advance\n1.1 update acct a 1=5\n1.1 update acct a 1=5\n1.1 begin\n1.1 begin\n1.1 insert acct a 7\n1.1 update acct b 1=5\n1.1 update acct a 3=5\n1.1 update acct a 1=5\n1.2 begin\n1.2 share acct a\n1.2 read acct a\n1.1 rollback\n1.2 share acct a\n1.2 commit\n1.1 poll\n")).text
    ≡ codes "2 TOOK 1\n3 VIEW 1\n4 AT 1\n5 OK\n6 OK\n7 PENDING\n8 PENDING\n9 ORDERED 2\n10 TOOK 2\n11 PASS 2 COMMIT\n12 AT 2\n13 COMMITTED 2\n14 NO TRX\n15 OK\n16 IN TRX\n17 DUPLICATE\n18 NO ROW\n19 NO COLUMN 3\n20 OK\n21 OK\n22 BUSY 1\n23 ROW 100 200\n24 ROLLED BACK\n25 ROW 100 200\n26 COMMITTED 0\n27 NO TRX\nnode 1 at 2\nrow acct a 100 200\n"
unfolding computing_text
refused_statements = refl
