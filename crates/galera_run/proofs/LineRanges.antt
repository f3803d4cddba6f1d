-- The names and values of a step that a line says are in the ranges of their types.
use Rattle.std.proofs.Common.{◌≡◌, ℕ, ◌+◌, ◌-◌, ◌<◌, ◌≤◌, ◌^◌, Bool, true, false, cond, List, [], ◌∷◌, ◌++◌, length, take, drop, replicate, Option, None, Some, refl, subst, arith, length-append}
use Rattle.std.specs.Prelude.{IsTrue, IfSome, Ok, option_map, nat_le, nat_lt, ◌&&◌, ◌==◌, map}
use Rattle.std.specs.List.{position, list_all, range_with_len, AllByRecursion}
use Rattle.std.specs.Char.{is_ascii_digit}
use Rattle.std.specs.Str.Parse.{digits_value}
use Rattle.std.proofs.lemmas.Bool.Decides.{nat_tests}
use Rattle.std.proofs.lemmas.List.{length-replicate}
use Rattle.row_model.specs.declared.row.RowId.{RowId}
use Rattle.row_model.specs.declared.calls.Call.{Call}
use Rattle.row_model.specs.declared.calls.Call.TheVariants as call
use Rattle.row_model.specs.Rows.{row_of}
use Rattle.order_event.specs.declared.step.Act.{Act}
use Rattle.order_event.specs.declared.step.Act.TheVariants as act
use Rattle.order_event.specs.declared.step.Step.{Step}
use Rattle.order_event.specs.Fits.{act_fits}
use Rattle.write_set.specs.Rules.{place_in_range, IsCell}
use Rattle.node_meaning.specs.Facts.{CallInRange}
use Rattle.node_laws.proofs.ClusterLaws.{ActFits}
use Rattle.script_text.specs.declared.line.Line.TheVariants as line
use Rattle.script_text.specs.Words.{text_of, words_of, ◌is◌, ◌>>=◌, alone}
use Rattle.script_text.specs.Fields.{is_number, only_number, only_node, number_of, is_name, name_of, is_table_letter, is_row_letter, row_id_of, only_row, numbers_of, values_of, pair_of, pairs_of, are_columns, columns_of, value_at, change_of}
use Rattle.script_text.specs.Grammar.{begin_of, insert_of, update_of, call_of, join_of, verb_of, who_of, act_of, step_of, is_passed_over, said_of, is_short, line_is_within, line_of}
use Rattle.script_text.proofs.FitLemmas.{line_fits}
use Rattle.galera_run.proofs.LineLaws.{judged_some}

-- ---- a fact of what there is, whichever way it came
both : (a b : Bool) → a && b ≡ true → (a ≡ true) × (b ≡ true)
both true true e = (refl, refl)
both true false e = absurd cc
both false b e = absurd cc

is_at_least : (m n : ℕ) → nat_le m n ≡ true → m ≤ n
is_at_least m n e = grind (arith, nat_tests)

is_below : (m n : ℕ) → nat_lt m n ≡ true → m < n
is_below m n e = grind (arith, nat_tests)

chosen : {A : Type 0} (P : A → Type 0) (b : Bool) (x y : Option A) → IfSome x P → IfSome y P
    → IfSome (cond b x y) P
chosen P true x y p q = p
chosen P false x y p q = q

chained : {A B : Type 0} (P : A → Type 0) (Q : B → Type 0) (o : Option A) (f : A → Option B)
    → IfSome o P → ((x : A) → P x → IfSome (f x) Q) → IfSome (o >>= f) Q
chained P Q None f p q = tt
chained P Q (Some x) f p q = q x p

mapped : {A B : Type 0} (P : A → Type 0) (Q : B → Type 0) (o : Option A) (f : A → B)
    → IfSome o P → ((x : A) → P x → Q (f x)) → IfSome (option_map f o) Q
mapped P Q None f p q = tt
mapped P Q (Some x) f p q = q x p

alone_is : {A : Type 0} (P : A → Type 0) (x : A) (words : List (List ℕ)) → P x
    → IfSome (alone x words) P
alone_is P x [] p = p
alone_is P x (word ∷ words) p = tt

anything : {A : Type 0} (o : Option A) → IfSome o (λ x. Unit {0})
anything None = tt
anything (Some x) = tt

-- what is kept by a test passes it
kept : {A : Type 0} (P : A → Type 0) (b : Bool) (x : A) → (b ≡ true → P x)
    → IfSome (cond b (Some x) None) P
kept P true x p = p refl
kept P false x p = tt

-- ---- numbers
abbrev Small : ℕ → Type 0
Small n = n < 2 ^ 64

number_is : (word : List ℕ) → IfSome (number_of word) Small
unfolding number_of
number_is word =
    kept Small (is_number word) (digits_value 10 word) (λ e.
    is_below (digits_value 10 word) (2 ^ 64)
    (both (list_all is_ascii_digit word) (nat_lt (digits_value 10 word) (2 ^ 64))
    (both (nat_le 1 (length word) && nat_le (length word) 20) _ e).1).1)

numbers_are : (words : List (List ℕ)) → IfSome (numbers_of words) (AllByRecursion Small)
unfolding numbers_of
numbers_are [] = tt
numbers_are (word ∷ words) =
    chained Small (AllByRecursion Small) (number_of word) _ (number_is word) (λ n small.
    chained (AllByRecursion Small) (AllByRecursion Small) (numbers_of words) _
    (numbers_are words) (λ ns all. (small, all)))

-- ---- values, and new values for columns
pub record IsRow (row : List ℕ) : Type 0 where
  pub some : 1 ≤ length row
  pub few : length row ≤ 8
  pub small : AllByRecursion Small row

row_is : (row : List ℕ) → AllByRecursion Small row → IfSome (row_of row) IsRow
row_is row all =
    kept IsRow (nat_le 1 (length row) && nat_le (length row) 8) row (λ e.
    let tests = both (nat_le 1 (length row)) (nat_le (length row) 8) e in
    record {
      some = is_at_least 1 (length row) tests.0;
      few = is_at_least (length row) 8 tests.1;
      small = all;
    })

values_are : (words : List (List ℕ)) → IfSome (values_of words) IsRow
unfolding values_of
values_are words =
    chained (AllByRecursion Small) IsRow (numbers_of words) row_of (numbers_are words) row_is

abbrev HasValue : ℕ × ℕ → Type 0
HasValue pair = pair.1 < 2 ^ 64

pair_is : (word : List ℕ) → IfSome (pair_of word) HasValue
unfolding pair_of
pair_is word =
    let at = position (λ b. b == 61) word in
    chained (λ i. Unit {0}) HasValue at _ (anything at) (λ i any.
    chained Small HasValue (number_of (take i word)) _ (number_is (take i word)) (λ column few.
    chained Small HasValue (number_of (drop (i + 1) word)) _ (number_is (drop (i + 1) word))
    (λ value small. small)))

pairs_are : (words : List (List ℕ)) → IfSome (pairs_of words) (AllByRecursion HasValue)
unfolding pairs_of
pairs_are [] = tt
pairs_are (word ∷ words) =
    chained HasValue (AllByRecursion HasValue) (pair_of word) _ (pair_is word) (λ pair small.
    chained (AllByRecursion HasValue) (AllByRecursion HasValue) (pairs_of words) _
    (pairs_are words) (λ pairs all. (small, all)))

cell_is : (column : ℕ) (pairs : List (ℕ × ℕ)) → AllByRecursion HasValue pairs
    → IsCell (value_at column pairs)
cell_is column [] all = tt
cell_is column (pair ∷ pairs) all =
    chosen Small (pair.0 == column) (Some pair.1) (value_at column pairs) all.0
    (cell_is column pairs all.1)

cells_are : (columns : List ℕ) (pairs : List (ℕ × ℕ)) → AllByRecursion HasValue pairs
    → AllByRecursion IsCell (map (λ column. value_at column pairs) columns)
cells_are [] pairs all = tt
cells_are (column ∷ columns) pairs all =
    (cell_is column pairs all, cells_are columns pairs all)

abbrev IsChange : List (Option ℕ) → Type 0
IsChange change = (length change ≡ 8) × AllByRecursion IsCell change

change_is : (words : List (List ℕ)) → IfSome (change_of words) IsChange
unfolding change_of
change_is words =
    chained (AllByRecursion HasValue) IsChange (pairs_of words) _ (pairs_are words) (λ pairs all.
    kept IsChange (are_columns pairs) (columns_of pairs)
    (λ e. (refl, cells_are (range_with_len 1 8) pairs all)))

-- ---- names
abbrev IsSixteen : List ℕ → Type 0
IsSixteen name = length name ≡ 16

name_made : (test : ℕ → Bool) (word : List ℕ) → is_name test word ≡ true
    → IsSixteen (word ++ replicate (16 - length word) 0)
name_made test word e =
    let first = both (nat_le 1 (length word) && nat_le (length word) 16) (list_all test word) e in
    let short = both (nat_le 1 (length word)) (nat_le (length word) 16) first.0 in
    let most = is_at_least (length word) 16 short.1 in
    omega (
      arith,
      length-append word (replicate (16 - length word) 0),
      length-replicate {A = ℕ} (16 - length word) 0,
      most,
    )

name_has : (test : ℕ → Bool) (word : List ℕ) → IfSome (name_of test word) IsSixteen
unfolding name_of
name_has test word = kept IsSixteen (is_name test word) _ (name_made test word)

row_id_is : (table row : List ℕ) → IfSome (row_id_of table row) place_in_range
unfolding row_id_of
row_id_is table row =
    chained IsSixteen place_in_range (name_of is_table_letter table) _
    (name_has is_table_letter table) (λ t t_has.
    chained IsSixteen place_in_range (name_of is_row_letter row) _ (name_has is_row_letter row)
    (λ r r_has. (t_has, r_has)))

only_row_is : (words : List (List ℕ)) → IfSome (only_row words) place_in_range
unfolding only_row
only_row_is [] = tt
only_row_is (table ∷ []) = tt
only_row_is (table ∷ row ∷ words) =
    chained place_in_range place_in_range (row_id_of table row) _ (row_id_is table row)
    (λ id has. alone_is place_in_range id words has)

-- ---- calls
begin_is : (words : List (List ℕ)) → IfSome (begin_of words) CallInRange
begin_is [] = tt
begin_is (word ∷ words) =
    chosen CallInRange (word is "stream") _ None
    (mapped (λ n. Unit {0}) CallInRange (only_number words) call.Begin
    (anything (only_number words)) (λ n any. tt)) tt

insert_is : (words : List (List ℕ)) → IfSome (insert_of words) CallInRange
unfolding insert_of
insert_is [] = tt
insert_is (table ∷ []) = tt
insert_is (table ∷ row ∷ words) =
    chained place_in_range CallInRange (row_id_of table row) _ (row_id_is table row) (λ id has.
    chained IsRow CallInRange (values_of words) _ (values_are words)
    (λ values are. (has, are.some, are.few, are.small)))

update_is : (words : List (List ℕ)) → IfSome (update_of words) CallInRange
unfolding update_of
update_is [] = tt
update_is (table ∷ []) = tt
update_is (table ∷ row ∷ words) =
    chained place_in_range CallInRange (row_id_of table row) _ (row_id_is table row) (λ id has.
    chained IsChange CallInRange (change_of words) _ (change_is words)
    (λ change fits. (has, fits.0, fits.1)))

call_is : (words : List (List ℕ)) → IfSome (call_of words) CallInRange
unfolding call_of
call_is [] = tt
call_is (verb ∷ words) =
    chosen CallInRange (verb is "begin") _ _ (begin_is words)
    (chosen CallInRange (verb is "insert") _ _ (insert_is words)
    (chosen CallInRange (verb is "update") _ _ (update_is words)
    (chosen CallInRange (verb is "delete") _ _ (of_row call.Delete (λ id has. has))
    (chosen CallInRange (verb is "share") _ _ (of_row call.Share (λ id has. has))
    (chosen CallInRange (verb is "read") _ _ (of_row call.Read (λ id has. has))
    (chosen CallInRange (verb is "commit") _ _ (alone_is CallInRange call.Commit words tt)
    (chosen CallInRange (verb is "rollback") _ _ (alone_is CallInRange call.Rollback words tt)
    (chosen CallInRange (verb is "poll") _ _ (alone_is CallInRange call.Poll words tt) tt))))))))
  where
    of_row : (f : RowId → Call) → ((id : RowId) → place_in_range id → CallInRange (f id))
        → IfSome (option_map f (only_row words)) CallInRange
    of_row f made = mapped place_in_range CallInRange (only_row words) f (only_row_is words) made

-- ---- steps
abbrev pub InRange : Act → Type 0
InRange (act.Client session asked) = CallInRange asked
InRange other = Unit {0}

join_is : (words : List (List ℕ)) → IfSome (join_of words) InRange
join_is [] = tt
join_is (word ∷ words) =
    chosen InRange (word is "fresh") _ _ (alone_is InRange (act.Join true) words tt) tt

verb_is : (nodes : ℕ) (words : List (List ℕ)) → IfSome (verb_of nodes words) InRange
unfolding verb_of
verb_is nodes [] = tt
verb_is nodes (verb ∷ words) =
    chosen InRange (verb is "order") _ _ (alone_is InRange act.Order words tt)
    (chosen InRange (verb is "take") _ _ (alone_is InRange act.Take words tt)
    (chosen InRange (verb is "certify") _ _ (alone_is InRange act.Certify words tt)
    (chosen InRange (verb is "start") _ _ (of_number act.Start (λ n. tt))
    (chosen InRange (verb is "finish") _ _ (of_number act.Finish (λ n. tt))
    (chosen InRange (verb is "advance") _ _ (alone_is InRange act.Advance words tt)
    (chosen InRange (verb is "report") _ _ (alone_is InRange act.Report words tt)
    (chosen InRange (verb is "status") _ _ (alone_is InRange act.Status words tt)
    (chosen InRange (verb is "drain") _ _ (alone_is InRange act.Drain words tt)
    (chosen InRange (verb is "leave") _ _ (alone_is InRange act.Leave words tt)
    (chosen InRange (verb is "join") _ _ (join_is words)
    (chosen InRange (verb is "transfer") _ _ of_node tt)))))))))))
  where
    of_node : IfSome (option_map act.Transfer (only_node nodes words)) InRange
    of_node = mapped (λ n. Unit {0}) InRange (only_node nodes words) act.Transfer
        (anything (only_node nodes words)) (λ n any. tt)

    of_number : (f : ℕ → Act) → ((n : ℕ) → InRange (f n))
        → IfSome (option_map f (only_number words)) InRange
    of_number f made =
        mapped (λ n. Unit {0}) InRange (only_number words) f (anything (only_number words))
        (λ n any. made n)

act_is : (nodes : ℕ) (session : Option ℕ) (words : List (List ℕ))
    → IfSome (act_of nodes session words) InRange
unfolding act_of
act_is nodes None words = verb_is nodes words
act_is nodes (Some session) words =
    mapped CallInRange InRange (call_of words) (act.Client session) (call_is words) (λ c has. has)

step_is : (nodes : ℕ) (words : List (List ℕ))
    → IfSome (step_of nodes words) (λ step. InRange step.act)
unfolding step_of
step_is nodes [] = tt
step_is nodes (word ∷ words) =
    chained (λ who. Unit {0}) (λ step. InRange step.act) (who_of nodes word) _
    (anything (who_of nodes word)) (λ who any.
    chained InRange (λ step. InRange step.act) (act_of nodes who.1 words) _ (act_is nodes who.1 words)
    (λ a has. has))

step_said : (passed : Bool) (o : Option Step) (step : Step)
    → cond passed (Some line.Blank) (option_map line.Step o) ≡ Some (line.Step step)
    → o ≡ Some step
step_said true o step e = absurd cc
step_said false None step e = absurd cc
step_said false (Some s) step e = cc

line_is : (nodes : ℕ) (text : List ℕ) (step : Step) → line_of nodes text ≡ Ok (line.Step step)
    → InRange step.act
unfolding line_of said_of
line_is nodes text step e =
    let words = words_of (text_of text) in
    let said = judged_some (λ said. is_short text && line_is_within said) (said_of nodes words)
    (line.Step step) e in
    subst (λ (o : Option Step). IfSome o (λ s. InRange s.act))
    (step_said (is_passed_over words) (step_of nodes words) step said) (step_is nodes words)

-- names in their form and values in range
pub both_fit : (a : Act) → IsTrue (act_fits a) → InRange a → ActFits a
both_fit (act.Client session asked) names values = (names, values)
both_fit _ names values = tt

-- a step that a line says is one that the laws of runs take
pub line_is_fit : (nodes : ℕ) (text : List ℕ) (step : Step)
    → line_of nodes text ≡ Ok (line.Step step) → ActFits step.act
line_is_fit nodes text step e =
    both_fit step.act (line_fits nodes text step e) (line_is nodes text step e)
