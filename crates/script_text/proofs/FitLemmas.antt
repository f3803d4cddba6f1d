-- What holds of a step that a line says, and of a header.
use Rattle.std.proofs.Common.{◌≡◌, ℕ, zero, suc, ◌+◌, ◌-◌, ◌<◌, get_or, Bool, true, false, cond, List, [], ◌∷◌, length, take, drop, Option, None, Some, refl, ap, subst, ◌∙◌, ◌≤◌, arith}
use Rattle.std.specs.Prelude.{IsTrue, IfSome, Ok, option_map, nat_le, nat_lt, ◌&&◌, ◌==◌, not}
use Rattle.std.specs.List.{position, list_all}
use Rattle.std.proofs.lemmas.Bool.Decides.{nat_tests}
use Rattle.std.proofs.lemmas.List.FromFn.{get_or-map-range_with_len}
use Rattle.wsrep_base.specs.StateId.{id_of}
use Rattle.row_model.specs.declared.row.RowId.{RowId}
use Rattle.row_model.specs.declared.calls.Call.{Call}
use Rattle.row_model.specs.declared.calls.Call.TheVariants as call
use Rattle.row_model.specs.Names.{place_fits, call_fits, named}
use Rattle.row_model.specs.Names as names
use Rattle.row_model.proofs.NameLemmas.{padded_name}
use Rattle.order_event.specs.declared.step.Act.{Act}
use Rattle.order_event.specs.declared.step.Act.TheVariants as act
use Rattle.order_event.specs.declared.step.Step.{Step}
use Rattle.order_event.specs.Fits.{act_fits, step_fits}
use Rattle.script_text.specs.declared.line.Header.{Header}
use Rattle.script_text.specs.declared.line.Line.TheVariants as line
use Rattle.script_text.specs.Words.{text_of, words_of, ◌is◌, ◌>>=◌, alone}
use Rattle.script_text.specs.Fields.{only_number, only_node, number_of, counting_of, node_of, only_if, is_name, name_of, is_table_letter, is_row_letter, row_id_of, only_row, values_of, pairs_of, are_columns, rises, columns_of, value_at, change_of}
use Rattle.script_text.specs.Grammar.{begin_of, insert_of, update_of, call_of, join_of, verb_of, who_at, who_of, act_of, step_of, is_passed_over, said_of, is_short, call_is_within, act_is_within, step_is_within, line_is_within, judged, line_of, header_at, header_is_within, header_of, first_at, first_is_within, first_of}
use Rattle.script_text.specs.Steps.{HasSession, IsStepOf, IsHeader}

both : (a b : Bool) → a && b ≡ true → (a ≡ true) × (b ≡ true)
both true true e = (refl, refl)
both true false e = absurd cc
both false b e = absurd cc

is_at_least : (m n : ℕ) → nat_le m n ≡ true → m ≤ n
is_at_least m n e = grind (arith, nat_tests)

-- a fact of what there is, whichever way it came
chosen : {A : Type 0} (P : A → Type 0) (b : Bool) (x y : Option A) → IfSome x P → IfSome y P → IfSome (cond b x y) P
chosen P true x y p q = p
chosen P false x y p q = q

chained : {A B : Type 0} (P : A → Type 0) (Q : B → Type 0) (o : Option A) (f : A → Option B)
    → IfSome o P → ((x : A) → P x → IfSome (f x) Q) → IfSome (o >>= f) Q
chained P Q None f p q = tt
chained P Q (Some x) f p q = q x p

mapped : {A B : Type 0} (P : A → Type 0) (Q : B → Type 0) (o : Option A) (f : A → B)
    → IfSome o P → ((x : A) → P x → Q (f x)) → IfSome (option_map f o) Q
mapped P Q None f p q = tt
mapped P Q (Some x) f p q = q x p

alone_is : {A : Type 0} (P : A → Type 0) (x : A) (words : List (List ℕ)) → P x → IfSome (alone x words) P
alone_is P x [] p = p
alone_is P x (word ∷ words) p = tt

only_kept : (test : ℕ → Bool) (P : ℕ → Type 0) (o : Option ℕ) → IfSome o P
    → IfSome (only_if test o) (λ n. P n × (test n ≡ true))
only_kept test P None p = tt
only_kept test P (Some n) p = kept (test n) refl
  where
    kept : (b : Bool) → test n ≡ b → IfSome (cond b (Some n) None) (λ n. P n × (test n ≡ true))
    kept true e = (p, e)
    kept false e = tt

anything : {A : Type 0} (o : Option A) → IfSome o (λ x. Unit {0})
anything None = tt
anything (Some x) = tt

-- names

name_made : (test : ℕ → Bool) (word : List ℕ) (b : Bool) → is_name test word ≡ b → test 0 ≡ false
    → IfSome (cond b (Some (names.padded word)) None) (λ name. IsTrue (names.is_name test name))
name_made test word true e none =
    let a = both (nat_le 1 (length word) && nat_le (length word) 16) (list_all test word) e in
    let b = both (nat_le 1 (length word)) (nat_le (length word) 16) a.0 in
    padded_name test word (is_at_least _ _ b.0) (is_at_least _ _ b.1) a.1 none
name_made test word false e none = tt

name_has : (test : ℕ → Bool) (word : List ℕ) → test 0 ≡ false → IfSome (name_of test word) (λ name. IsTrue (names.is_name test name))
unfolding name_of
name_has test word none = name_made test word (is_name test word) refl none

-- the letters of a schedule are those of names
abbrev Placed : RowId → Type 0
Placed id = IsTrue (place_fits id)

row_id_fits : (table row : List ℕ) → IfSome (row_id_of table row) Placed
unfolding row_id_of
row_id_fits table row =
    chained (λ t. IsTrue (names.is_name names.is_table_letter t)) Placed (name_of is_table_letter table) _
    (name_has is_table_letter table refl) (λ t t_has.
    chained (λ r. IsTrue (names.is_name names.is_row_letter r)) Placed (name_of is_row_letter row) _
    (name_has is_row_letter row refl) (λ r r_has. (λ i. t_has i && r_has i)))

only_row_fits : (words : List (List ℕ)) → IfSome (only_row words) Placed
unfolding only_row
only_row_fits [] = tt
only_row_fits (table ∷ []) = tt
only_row_fits (table ∷ row ∷ words) =
    chained Placed Placed (row_id_of table row) _ (row_id_fits table row) (λ id has. alone_is Placed id words has)

-- columns

named_at : (change : List (Option ℕ)) (i value : ℕ) → i < length change → get_or change i None ≡ Some value
    → IsTrue (not (named change == 0))
named_at [] i value l e = absurd (omega arith)
named_at (None ∷ change) zero value l e = absurd cc
named_at (None ∷ change) (suc i) value l e = named_at change i value (omega arith) e
named_at (Some v ∷ change) i value l e = grind (arith, nat_tests)

columns_named : (pairs : List (ℕ × ℕ)) → are_columns pairs ≡ true → IsTrue (not (named (columns_of pairs) == 0))
columns_named [] e = absurd cc
columns_named (pair ∷ pairs) e =
    let a = both (nat_lt 0 pair.0 && nat_le pair.0 8) (rises pair.0 pairs) e in
    let b = both (nat_lt 0 pair.0) (nat_le pair.0 8) a.0 in
    let above = is_at_least 1 pair.0 b.0 in
    let most = is_at_least pair.0 8 b.1 in
    let here : (pair.0 == pair.0) ≡ true = grind (arith, nat_tests) in
    named_at (columns_of (pair ∷ pairs)) (pair.0 - 1) pair.1 (omega arith)
    (get_or-map-range_with_len (λ column. value_at column (pair ∷ pairs)) 1 8 (pair.0 - 1) pair.0 None (omega arith) (omega arith)
    ∙ ap (λ c. cond c (Some pair.1) (value_at pair.0 pairs)) here)

change_names : (words : List (List ℕ)) → IfSome (change_of words) (λ change. IsTrue (not (named change == 0)))
unfolding change_of
change_names words =
    chained (λ pairs. Unit {0}) (λ change. IsTrue (not (named change == 0))) (pairs_of words) _ (anything (pairs_of words))
    (λ pairs any. made pairs (are_columns pairs) refl)
  where
    made : (pairs : List (ℕ × ℕ)) (b : Bool) → are_columns pairs ≡ b
        → IfSome (cond b (Some (columns_of pairs)) None) (λ change. IsTrue (not (named change == 0)))
    made pairs true e = columns_named pairs e
    made pairs false e = tt

-- calls

abbrev Asked : Call → Type 0
Asked c = IsTrue (call_fits c)

begin_fits : (words : List (List ℕ)) → IfSome (begin_of words) Asked
begin_fits [] = refl
begin_fits (word ∷ words) =
    chosen Asked (word is "stream") _ None
    (mapped (λ n. Unit {0}) Asked (only_number words) call.Begin (anything (only_number words)) (λ n any. refl))
    tt

insert_fits : (words : List (List ℕ)) → IfSome (insert_of words) Asked
unfolding insert_of
insert_fits [] = tt
insert_fits (table ∷ []) = tt
insert_fits (table ∷ row ∷ words) =
    chained Placed Asked (row_id_of table row) _ (row_id_fits table row) (λ id has.
    chained (λ values. Unit {0}) Asked (values_of words) _ (anything (values_of words)) (λ values any. has))

update_fits : (words : List (List ℕ)) → IfSome (update_of words) Asked
unfolding update_of
update_fits [] = tt
update_fits (table ∷ []) = tt
update_fits (table ∷ row ∷ words) =
    chained Placed Asked (row_id_of table row) _ (row_id_fits table row) (λ id has.
    chained (λ change. IsTrue (not (named change == 0))) Asked (change_of words) _ (change_names words)
    (λ change names_one. (λ i. has i && names_one i)))

call_fits_here : (words : List (List ℕ)) → IfSome (call_of words) Asked
unfolding call_of
call_fits_here [] = tt
call_fits_here (verb ∷ words) =
    chosen Asked (verb is "begin") _ _ (begin_fits words)
    (chosen Asked (verb is "insert") _ _ (insert_fits words)
    (chosen Asked (verb is "update") _ _ (update_fits words)
    (chosen Asked (verb is "delete") _ _ (of_row call.Delete (λ id has. has))
    (chosen Asked (verb is "share") _ _ (of_row call.Share (λ id has. has))
    (chosen Asked (verb is "read") _ _ (of_row call.Read (λ id has. has))
    (chosen Asked (verb is "commit") _ _ (alone_is Asked call.Commit words refl)
    (chosen Asked (verb is "rollback") _ _ (alone_is Asked call.Rollback words refl)
    (chosen Asked (verb is "poll") _ _ (alone_is Asked call.Poll words refl) tt))))))))
  where
    of_row : (f : RowId → Call) → ((id : RowId) → Placed id → Asked (f id)) → IfSome (option_map f (only_row words)) Asked
    of_row f made = mapped Placed Asked (only_row words) f (only_row_fits words) made

-- acts

-- the session has a number
abbrev Numbered : Option ℕ → Type 0
Numbered None = Unit {0}
Numbered (Some session) = 1 ≤ session

-- the names have their form, and the session has a number
abbrev Acted : Act → Type 0
Acted (act.Client session c) = Asked c × (1 ≤ session)
Acted other = IsTrue (act_fits other) × Unit {0}

join_fits : (words : List (List ℕ)) → IfSome (join_of words) Acted
join_fits [] = (refl, tt)
join_fits (word ∷ words) =
    chosen Acted (word is "fresh") _ _ (alone_is Acted (act.Join true) words (refl, tt)) tt

verb_fits : (nodes : ℕ) (words : List (List ℕ)) → IfSome (verb_of nodes words) Acted
unfolding verb_of
verb_fits nodes [] = tt
verb_fits nodes (verb ∷ words) =
    chosen Acted (verb is "order") _ _ (alone_is Acted act.Order words (refl, tt))
    (chosen Acted (verb is "take") _ _ (alone_is Acted act.Take words (refl, tt))
    (chosen Acted (verb is "certify") _ _ (alone_is Acted act.Certify words (refl, tt))
    (chosen Acted (verb is "start") _ _ (of_number act.Start (λ n. (refl, tt)))
    (chosen Acted (verb is "finish") _ _ (of_number act.Finish (λ n. (refl, tt)))
    (chosen Acted (verb is "advance") _ _ (alone_is Acted act.Advance words (refl, tt))
    (chosen Acted (verb is "report") _ _ (alone_is Acted act.Report words (refl, tt))
    (chosen Acted (verb is "status") _ _ (alone_is Acted act.Status words (refl, tt))
    (chosen Acted (verb is "drain") _ _ (alone_is Acted act.Drain words (refl, tt))
    (chosen Acted (verb is "leave") _ _ (alone_is Acted act.Leave words (refl, tt))
    (chosen Acted (verb is "join") _ _ (join_fits words)
    (chosen Acted (verb is "transfer") _ _ of_node tt)))))))))))
  where
    of_node : IfSome (option_map act.Transfer (only_node nodes words)) Acted
    of_node = mapped (λ n. Unit {0}) Acted (only_node nodes words) act.Transfer
        (anything (only_node nodes words)) (λ n any. (refl, tt))

    of_number : (f : ℕ → Act) → ((n : ℕ) → Acted (f n)) → IfSome (option_map f (only_number words)) Acted
    of_number f made = mapped (λ n. Unit {0}) Acted (only_number words) f (anything (only_number words)) (λ n any. made n)

act_fits_here : (nodes : ℕ) (session : Option ℕ) (words : List (List ℕ)) → Numbered session
    → IfSome (act_of nodes session words) Acted
unfolding act_of
act_fits_here nodes None words some = verb_fits nodes words
act_fits_here nodes (Some session) words some =
    mapped Asked Acted (call_of words) (act.Client session) (call_fits_here words) (λ c has. (has, some))

-- who acts

counting_is : (word : List ℕ) → IfSome (counting_of word) (λ n. Unit {0} × (nat_le 1 n ≡ true))
unfolding counting_of
counting_is word = only_kept (λ n. nat_le 1 n) (λ n. Unit {0}) (number_of word) (anything (number_of word))

node_is : (nodes : ℕ) (word : List ℕ)
    → IfSome (node_of nodes word) (λ n. (Unit {0} × (nat_le 1 n ≡ true)) × (nat_le n nodes ≡ true))
unfolding node_of
node_is nodes word = only_kept (λ n. nat_le n nodes) (λ n. Unit {0} × (nat_le 1 n ≡ true)) (counting_of word) (counting_is word)

abbrev Known : ℕ → ℕ × Option ℕ → Type 0
Known nodes who = ((1 ≤ who.0) × (who.0 ≤ nodes)) × Numbered who.1

who_is_at : (nodes : ℕ) (word : List ℕ) (at : Option ℕ) → IfSome (who_at nodes word at) (Known nodes)
who_is_at nodes word None =
    chained _ (Known nodes) (node_of nodes word) _ (node_is nodes word)
    (λ node known. ((is_at_least 1 node known.0.1, is_at_least node nodes known.1), tt))
who_is_at nodes word (Some at) =
    chained _ (Known nodes) (node_of nodes (take at word)) _ (node_is nodes (take at word)) (λ node known.
    chained _ (Known nodes) (counting_of (drop (at + 1) word)) _ (counting_is (drop (at + 1) word)) (λ session some.
    ((is_at_least 1 node known.0.1, is_at_least node nodes known.1), is_at_least 1 session some.1)))

who_is : (nodes : ℕ) (word : List ℕ) → IfSome (who_of nodes word) (Known nodes)
unfolding who_of
who_is nodes word = who_is_at nodes word (position (λ b. b == 46) word)

-- steps

abbrev Stepped : ℕ → Step → Type 0
Stepped nodes step = ((1 ≤ step.node) × (step.node ≤ nodes)) × Acted step.act

step_is : (nodes : ℕ) (words : List (List ℕ)) → IfSome (step_of nodes words) (Stepped nodes)
unfolding step_of
step_is nodes [] = tt
step_is nodes (word ∷ words) =
    chained (Known nodes) (Stepped nodes) (who_of nodes word) _ (who_is nodes word) (λ who known.
    chained Acted (Stepped nodes) (act_of nodes who.1 words) _ (act_fits_here nodes who.1 words known.1) (λ a acted. (known.0, acted)))

-- what passes its limits was said, and passes them
judged_ok : {X : Type 0} (short : Bool) (fits : X → Bool) (o : Option X) (x : X)
    → judged (λ said. short && fits said) o ≡ Ok x → (o ≡ Some x) × (fits x ≡ true)
judged_ok short fits None x e = absurd cc
judged_ok {X} short fits (Some y) x e = within (short && fits y) refl
  where
    within : (b : Bool) → short && fits y ≡ b → (Some y ≡ Some x) × (fits x ≡ true)
    within true h =
        let same : y ≡ x = cc in
        (ap (λ z. Some z) same, subst (λ z. fits z ≡ true) same (both short (fits y) h).1)
    within false h = absurd cc

-- a line that says a step
step_said : (passed : Bool) (o : Option Step) (step : Step)
    → cond passed (Some line.Blank) (option_map line.Step o) ≡ Some (line.Step step) → o ≡ Some step
step_said true o step e = absurd cc
step_said false None step e = absurd cc
step_said false (Some s) step e = cc

line_said : (nodes : ℕ) (text : List ℕ) (step : Step) → line_of nodes text ≡ Ok (line.Step step)
    → Stepped nodes step × (step_is_within step ≡ true)
unfolding line_of said_of
line_said nodes text step e =
    let words = words_of (text_of text) in
    let said = judged_ok (is_short text) line_is_within (said_of nodes words) (line.Step step) e in (
      subst (λ (o : Option Step). IfSome o (Stepped nodes)) (step_said (is_passed_over words) (step_of nodes words) step said.0)
          (step_is nodes words),
      said.1,
    )

acted_fits : (a : Act) → Acted a → IsTrue (act_fits a)
acted_fits (act.Client session c) acted = acted.0
acted_fits other acted = acted.0

acted_session : (a : Act) → Acted a → act_is_within a ≡ true → HasSession a
acted_session (act.Client session c) acted e = (acted.1, is_at_least session 32 (both _ (call_is_within c) e).0)
acted_session other acted e = tt

-- the names of a step that a line says have their form
pub line_fits : (nodes : ℕ) (text : List ℕ) (step : Step) → line_of nodes text ≡ Ok (line.Step step) → IsTrue (step_fits step)
line_fits nodes text step e = acted_fits step.act (line_said nodes text step e).0.1

-- a step that a line says is one of a node of the cluster and of a session that the node may have
pub line_step : (nodes : ℕ) (text : List ℕ) (step : Step) → line_of nodes text ≡ Ok (line.Step step) → IsStepOf nodes step
line_step nodes text step e =
    let said = line_said nodes text step e in
    record { some_node = said.0.0.0; among_nodes = said.0.0.1; has_session = acted_session step.act said.0.1 said.1 }

-- headers

header_some : (words : List (List ℕ)) → IfSome (header_at words) (λ header. 1 ≤ header.nodes)
unfolding header_at
header_some [] = tt
header_some (cluster ∷ []) = tt
header_some (cluster ∷ k ∷ []) = tt
header_some (cluster ∷ k ∷ gcache ∷ []) = tt
header_some (cluster ∷ k ∷ gcache ∷ b ∷ []) = tt
header_some (cluster ∷ k ∷ gcache ∷ b ∷ id ∷ []) = tt
header_some (cluster ∷ k ∷ gcache ∷ b ∷ id ∷ u ∷ []) =
    chosen (λ header. 1 ≤ header.nodes) ((cluster is "cluster") && (gcache is "gcache") && (id is "id")) _ None
    (chained _ (λ header. 1 ≤ header.nodes) (counting_of k) _ (counting_is k) (λ nodes some.
    chained (λ bytes. Unit {0}) (λ header. 1 ≤ header.nodes) (number_of b) _ (anything (number_of b)) (λ bytes any.
    chained (λ state. Unit {0}) (λ header. 1 ≤ header.nodes) (id_of u) _ (anything (id_of u)) (λ state any.
    is_at_least 1 nodes some.1))))
    tt
header_some (cluster ∷ k ∷ gcache ∷ b ∷ id ∷ u ∷ word ∷ words) = tt

header_fits : (words : List (List ℕ)) (header : Header) → header_at words ≡ Some header → header_is_within header ≡ true
    → IsHeader header
header_fits words header said within =
    let fits = both (nat_le header.nodes 9) (nat_le header.gcache 16_777_216) within in
    record {
      some_node = subst (λ (o : Option Header). IfSome o (λ header. 1 ≤ header.nodes)) said (header_some words);
      few_nodes = is_at_least header.nodes 9 fits.0;
      small_ring = is_at_least header.gcache 16_777_216 fits.1;
    }

header_said : (passed : Bool) (o : Option Header) (header : Header)
    → cond passed (Some None) (option_map (λ x. Some x) o) ≡ Some (Some header) → o ≡ Some header
header_said true o header e = absurd cc
header_said false None header e = absurd cc
header_said false (Some h) header e = cc

-- a header is within its limits
pub header_is : (text : List ℕ) (header : Header) → header_of text ≡ Ok header → IsHeader header
unfolding header_of
header_is text header e =
    let words = words_of (text_of text) in
    let said = judged_ok (is_short text) header_is_within (header_at words) header e in
    header_fits words header said.0 said.1

pub first_is : (text : List ℕ) (header : Header) → first_of text ≡ Ok (Some header) → IsHeader header
unfolding first_of
first_is text header e =
    let words = words_of (text_of text) in
    let said = judged_ok (is_short text) first_is_within (first_at words) (Some header) e in
    header_fits words header (header_said (is_passed_over words) (header_at words) header said.0) said.1
