-- a run over the lines of an input is the run over their steps
use Rattle.std.proofs.Common.{◌≡◌, ℕ, zero, suc, ◌+◌, true, false, List, [], ◌∷◌, ◌++◌, length, take, refl, sym, ap, ◌∙◌, subst, arith, inl, inr}
use Rattle.std.specs.Prelude.{Option, Some, None, Result, Ok, Err, nat_le, ◌⊎◌, if◌then◌else◌}
use Rattle.std.proofs.lemmas.List.{append-nil}
use Rattle.std.proofs.Math.Seq.{take-length}
use Rattle.order_event.specs.declared.step.Answer.{Answer}
use Rattle.order_event.specs.declared.step.Step.{Step}
use Rattle.script_text.specs.declared.line.Header.{Header}
use Rattle.script_text.specs.declared.line.Line.{Line}
use Rattle.script_text.specs.declared.line.Line.TheVariants as said
use Rattle.script_text.specs.declared.line.ScriptCause.{ScriptCause}
use Rattle.script_text.specs.declared.line.ScriptCause.TheVariants as cause
use Rattle.script_text.specs.Grammar.{first_of, line_of}
use Rattle.report_text.specs.Texts.{line_text}
use Rattle.node_meaning.specs.Cluster.{ModelCluster, cluster_step, run}
use Rattle.galera_run.specs.declared.line.TheConstants.{MOST_BYTES}
use Rattle.galera_run.specs.Places.{Opened, Place}
use Rattle.galera_run.specs.Lines.{lines_of}
use Rattle.galera_run.specs.Reading.{Reached, place, fault, start, opened, follows, told_from, line_at, read_at, opened_at, stepped_at, answered_at, is_within, answer_line, run_of, finished, ending_of, end_of, end_text}
use Rattle.galera_run.specs.Schedules.{LineStep, line_step, Schedule, said_step, steps_behind, schedule_at, schedule_from, run_over, answers_text, cluster_of, text_of_steps, IsRunTo, EndsOver, RunsOverSteps}

-- ---- lines behind the header, from a place with this cluster on
-- where a run over them came to
pub record CameTo (nodes : ℕ) (p : Place) (model : ModelCluster) (lines : List (List ℕ)) (text : List ℕ) (q : Place) : Type 0 where
  pub text_is : text ≡ answers_text (steps_behind nodes p.number lines) (run_over (steps_behind nodes p.number lines) model).0
  pub state : q.state ≡ Some (opened nodes (run_over (steps_behind nodes p.number lines) model).1)
  pub count : q.steps ≡ p.steps + length (steps_behind nodes p.number lines)
  pub number : q.number ≡ p.number + length lines

-- where it was refused: the text is that of the lines before
pub record StoppedAt (nodes : ℕ) (p : Place) (model : ModelCluster) (lines : List (List ℕ)) (text : List ℕ) (number : ℕ) : Type 0 where
  pub before : ℕ
  pub number_is : number ≡ p.number + before
  pub text_is : text ≡ answers_text (steps_behind nodes p.number (take before lines))
      (run_over (steps_behind nodes p.number (take before lines)) model).0

abbrev pub Reaches : ℕ → Place → ModelCluster → List (List ℕ) → List ℕ → Reached → Type 0
Reaches nodes p model lines text (place q) = CameTo nodes p model lines text q
Reaches nodes p model lines text (fault number c) = StoppedAt nodes p model lines text number

-- ---- one line behind the header: it says no step, or one that is done
pub record Passes (nodes : ℕ) (p : Place) (model : ModelCluster) (line : List ℕ) (next : Place) : Type 0 where
  pub said : said_step p.number (line_of nodes line) ≡ []
  pub number : next.number ≡ p.number + 1
  pub state : next.state ≡ Some (opened nodes model)
  pub count : next.steps ≡ p.steps

pub record Steps (nodes : ℕ) (p : Place) (model : ModelCluster) (line : List ℕ) (answer : Answer) (next : Place) : Type 0 where
  pub step : Step
  pub said : said_step p.number (line_of nodes line) ≡ line_step p.number step ∷ []
  pub answered : answer ≡ (cluster_step model step).0
  pub number : next.number ≡ p.number + 1
  pub state : next.state ≡ Some (opened nodes (cluster_step model step).1)
  pub count : next.steps ≡ p.steps + 1

abbrev pub Goes : ℕ → Place → ModelCluster → List ℕ → Result (Option Answer × Place) ScriptCause → Type 0
Goes nodes p model line (Err c) = Unit {0}
Goes nodes p model line (Ok (None, next)) = Passes nodes p model line next
Goes nodes p model line (Ok (Some answer, next)) = Steps nodes p model line answer next

said_goes : (nodes : ℕ) (p : Place) (model : ModelCluster) (line : List ℕ) (r : Result Line ScriptCause) → line_of nodes line ≡ r
    → Goes nodes p model line (stepped_at p line (opened nodes model) r)
said_goes nodes p model line (Err c) is = tt
said_goes nodes p model line (Ok said.Blank) is = record { said = ap (said_step p.number) is; number = refl; state = refl; count = refl }
said_goes nodes p model line (Ok (said.Step step)) is =
    elim (is_within p.steps model step)
    as (λ v. Goes nodes p model line (if v then Ok (answered_at p line nodes (cluster_step model step)) else Err cause.Limit)) [
      | true ↦ record {
        step = step;
        said = ap (said_step p.number) is;
        answered = refl;
        number = refl;
        state = refl;
        count = refl;
      }
      | false ↦ tt
    ]

line_goes : (nodes : ℕ) (p : Place) (model : ModelCluster) (line : List ℕ) → p.state ≡ Some (opened nodes model)
    → Goes nodes p model line (line_at p line)
line_goes nodes p model line is =
    elim (nat_le (p.before + length line) MOST_BYTES)
    as (λ v. Goes nodes p model line (if v then read_at p line p.state else Err cause.Limit)) [
      | true ↦ subst (λ (o : Option Opened). Goes nodes p model line (read_at p line o)) (sym is) (said_goes nodes p model line (line_of nodes line) refl)
      | false ↦ tt
    ]

-- the steps of a line and those behind it
passed_steps : (nodes : ℕ) (p : Place) (model : ModelCluster) (line : List ℕ) (next : Place) → Passes nodes p model line next
    → (lines : List (List ℕ)) → steps_behind nodes p.number (line ∷ lines) ≡ steps_behind nodes next.number lines
passed_steps nodes p model line next h lines =
    ap (λ s. s ++ steps_behind nodes (p.number + 1) lines) h.said ∙ ap (λ k. steps_behind nodes k lines) (sym h.number)

done_steps : (nodes : ℕ) (p : Place) (model : ModelCluster) (line : List ℕ) (answer : Answer) (next : Place)
    (h : Steps nodes p model line answer next) (lines : List (List ℕ))
    → steps_behind nodes p.number (line ∷ lines) ≡ line_step p.number h.step ∷ steps_behind nodes next.number lines
done_steps nodes p model line answer next h lines =
    ap (λ s. s ++ steps_behind nodes (p.number + 1) lines) h.said
    ∙ ap (λ k. line_step p.number h.step ∷ steps_behind nodes k lines) (sym h.number)

-- what a step and those behind it print, and where they come to
step_text : (number : ℕ) (step : Step) (steps : List LineStep) (model : ModelCluster) →
    answers_text (line_step number step ∷ steps) (run_over (line_step number step ∷ steps) model).0
    ≡ line_text number (cluster_step model step).0 ++ answers_text steps (run_over steps (cluster_step model step).1).0
unfolding run
step_text number step steps model = refl

step_after : (number : ℕ) (step : Step) (steps : List LineStep) (model : ModelCluster) →
    (run_over (line_step number step ∷ steps) model).1 ≡ (run_over steps (cluster_step model step).1).1
unfolding run
step_after number step steps model = refl

passes_more : (nodes : ℕ) (p : Place) (model : ModelCluster) (line : List ℕ) (next : Place) (lines : List (List ℕ)) (text : List ℕ)
    (reached : Reached) → Passes nodes p model line next → Reaches nodes next model lines text reached
    → Reaches nodes p model (line ∷ lines) text reached
passes_more nodes p model line next lines text (place q) h r =
    let same = sym (passed_steps nodes p model line next h lines) in
    let number = h.number in let last = r.number in
    let count = h.count in let steps = r.count in
    let long = ap (λ (s : List LineStep). length s) same in
    record {
      text_is = r.text_is ∙ ap (λ s. answers_text s (run_over s model).0) same;
      state = r.state ∙ ap (λ s. Some (opened nodes (run_over s model).1)) same;
      count = omega (arith, steps, count, long);
      number = omega (arith, number, last);
    }
passes_more nodes p model line next lines text (fault n c) h r =
    let number = h.number in let above = r.number_is in
    record {
      before = suc r.before;
      number_is = omega (arith, number, above);
      text_is = r.text_is ∙ ap (λ s. answers_text s (run_over s model).0) (sym (passed_steps nodes p model line next h (take r.before lines)));
    }

steps_more : (nodes : ℕ) (p : Place) (model : ModelCluster) (line : List ℕ) (answer : Answer) (next : Place) (lines : List (List ℕ))
    (text : List ℕ) (reached : Reached) (h : Steps nodes p model line answer next)
    → Reaches nodes next (cluster_step model h.step).1 lines text reached
    → Reaches nodes p model (line ∷ lines) (answer_line p (Some answer) ++ text) reached
steps_more nodes p model line answer next lines text (place q) h r =
    let rest = steps_behind nodes next.number lines in
    let same = sym (done_steps nodes p model line answer next h lines) in
    let number = h.number in let last = r.number in
    let count = h.count in let steps = r.count in
    let long = ap (λ (s : List LineStep). length s) same in
    record {
      text_is = ap (λ a. line_text p.number a ++ text) h.answered ∙ ap (λ t. line_text p.number (cluster_step model h.step).0 ++ t) r.text_is
          ∙ sym (step_text p.number h.step rest model) ∙ ap (λ s. answers_text s (run_over s model).0) same;
      state = r.state ∙ ap (λ m. Some (opened nodes m)) (sym (step_after p.number h.step rest model))
          ∙ ap (λ s. Some (opened nodes (run_over s model).1)) same;
      count = omega (arith, steps, count, long);
      number = omega (arith, number, last);
    }
steps_more nodes p model line answer next lines text (fault n c) h r =
    let rest = steps_behind nodes next.number (take r.before lines) in
    let number = h.number in let above = r.number_is in
    record {
      before = suc r.before;
      number_is = omega (arith, number, above);
      text_is = ap (λ a. line_text p.number a ++ text) h.answered ∙ ap (λ t. line_text p.number (cluster_step model h.step).0 ++ t) r.text_is
          ∙ sym (step_text p.number h.step rest model)
          ∙ ap (λ s. answers_text s (run_over s model).0) (sym (done_steps nodes p model line answer next h (take r.before lines)));
    }

-- lines from every place on with a cluster
abbrev pub ReachesAll : ℕ → List (List ℕ) → Type 0
ReachesAll nodes lines = (p : Place) (model : ModelCluster) → p.state ≡ Some (opened nodes model)
    → Reaches nodes p model lines (told_from p lines).text (told_from p lines).reached

followed : (nodes : ℕ) (p : Place) (model : ModelCluster) (line : List ℕ) (lines : List (List ℕ))
    (r : Result (Option Answer × Place) ScriptCause) → Goes nodes p model line r → ReachesAll nodes lines
    → Reaches nodes p model (line ∷ lines) (follows p r (λ next. told_from next lines)).text (follows p r (λ next. told_from next lines)).reached
followed nodes p model line lines (Err c) h later = record { before = zero; number_is = omega arith; text_is = refl }
followed nodes p model line lines (Ok (None, next)) h later =
    passes_more nodes p model line next lines (told_from next lines).text (told_from next lines).reached h (later next model h.state)
followed nodes p model line lines (Ok (Some answer, next)) h later =
    steps_more nodes p model line answer next lines (told_from next lines).text (told_from next lines).reached h
    (later next (cluster_step model h.step).1 h.state)

reaches_all : (nodes : ℕ) (lines : List (List ℕ)) → ReachesAll nodes lines
unfolding run
reaches_all nodes [] p model is = record { text_is = refl; state = is; count = omega arith; number = omega arith }
reaches_all nodes (line ∷ lines) p model is =
    followed nodes p model line lines (line_at p line) (line_goes nodes p model line is) (reaches_all nodes lines)

-- ---- lines from the start on
-- the cluster of a schedule and the steps that were run
abbrev pub IsAt : Option Header → List LineStep → Option Opened → ℕ → Type 0
IsAt None steps o count = o ≡ None
IsAt (Some header) steps o count = (o ≡ Some (opened header.nodes (run_over steps (cluster_of header)).1)) × (count ≡ length steps)

pub record CameThrough (number : ℕ) (lines : List (List ℕ)) (text : List ℕ) (q : Place) : Type 0 where
  pub text_is : text ≡ text_of_steps (schedule_from number lines)
  pub state : IsAt (schedule_from number lines).header (schedule_from number lines).steps q.state q.steps
  pub number_is : q.number ≡ number + length lines

pub record StoppedBefore (number : ℕ) (lines : List (List ℕ)) (text : List ℕ) (last : ℕ) : Type 0 where
  pub before : ℕ
  pub number_is : last ≡ number + before
  pub text_is : text ≡ text_of_steps (schedule_from number (take before lines))

abbrev pub RunsThrough : ℕ → List (List ℕ) → List ℕ → Reached → Type 0
RunsThrough number lines text (place q) = CameThrough number lines text q
RunsThrough number lines text (fault last c) = StoppedBefore number lines text last

-- no header came yet
pub record IsEarly (p : Place) : Type 0 where
  pub state : p.state ≡ None
  pub none : p.steps ≡ 0

-- ---- one line before the header: it is passed over, or it is the header
pub record Waits (p : Place) (line : List ℕ) (next : Place) : Type 0 where
  pub said : first_of line ≡ Ok None
  pub number : next.number ≡ p.number + 1
  pub early : IsEarly next

pub record Opens (p : Place) (line : List ℕ) (next : Place) : Type 0 where
  pub header : Header
  pub said : first_of line ≡ Ok (Some header)
  pub number : next.number ≡ p.number + 1
  pub state : next.state ≡ Some (opened header.nodes (cluster_of header))
  pub none : next.steps ≡ 0

abbrev pub GoesFirst : Place → List ℕ → Result (Option Answer × Place) ScriptCause → Type 0
GoesFirst p line (Err c) = Unit {0}
GoesFirst p line (Ok (None, next)) = Waits p line next ⊎ Opens p line next
GoesFirst p line (Ok (Some answer, next)) = ⊥

first_said : (p : Place) (line : List ℕ) (r : Result (Option Header) ScriptCause) → first_of line ≡ r → p.steps ≡ 0
    → GoesFirst p line (opened_at p line r)
first_said p line (Err c) is none = tt
first_said p line (Ok None) is none = inl (record { said = is; number = refl; early = record { state = refl; none = none } })
first_said p line (Ok (Some header)) is none =
    inr (record { header = header; said = is; number = refl; state = refl; none = none })

first_goes : (p : Place) (line : List ℕ) → IsEarly p → GoesFirst p line (line_at p line)
first_goes p line early =
    elim (nat_le (p.before + length line) MOST_BYTES)
    as (λ v. GoesFirst p line (if v then read_at p line p.state else Err cause.Limit)) [
      | true ↦ subst (λ (o : Option Opened). GoesFirst p line (read_at p line o)) (sym early.state) (first_said p line (first_of line) refl early.none)
      | false ↦ tt
    ]

waited : (p : Place) (line : List ℕ) (next : Place) → Waits p line next → (lines : List (List ℕ))
    → schedule_from next.number lines ≡ schedule_from p.number (line ∷ lines)
waited p line next h lines =
    ap (λ k. schedule_from k lines) h.number
    ∙ ap (λ r. schedule_at p.number r lines (schedule_from (p.number + 1) lines)) (sym h.said)

-- the schedule that a header begins
abbrev pub headed : Header → List LineStep → Schedule
headed header steps = record { header = Some header; steps = steps }

begins : (p : Place) (line : List ℕ) (next : Place) (h : Opens p line next) (lines : List (List ℕ))
    → headed h.header (steps_behind h.header.nodes next.number lines) ≡ schedule_from p.number (line ∷ lines)
begins p line next h lines =
    ap (λ k. headed h.header (steps_behind h.header.nodes k lines)) h.number
    ∙ ap (λ r. schedule_at p.number r lines (schedule_from (p.number + 1) lines)) (sym h.said)

waits_more : (p : Place) (line : List ℕ) (next : Place) (lines : List (List ℕ)) (text : List ℕ) (reached : Reached) → Waits p line next
    → RunsThrough next.number lines text reached → RunsThrough p.number (line ∷ lines) text reached
waits_more p line next lines text (place q) h r =
    let same = waited p line next h lines in
    let number = h.number in let last = r.number_is in
    record {
      text_is = r.text_is ∙ ap text_of_steps same;
      state = subst (λ (s : Schedule). IsAt s.header s.steps q.state q.steps) same r.state;
      number_is = omega (arith, number, last);
    }
waits_more p line next lines text (fault n c) h r =
    let number = h.number in let above = r.number_is in
    record {
      before = suc r.before;
      number_is = omega (arith, number, above);
      text_is = r.text_is ∙ ap text_of_steps (waited p line next h (take r.before lines));
    }

opens_more : (p : Place) (line : List ℕ) (next : Place) (lines : List (List ℕ)) (text : List ℕ) (reached : Reached) (h : Opens p line next)
    → Reaches h.header.nodes next (cluster_of h.header) lines text reached → RunsThrough p.number (line ∷ lines) text reached
opens_more p line next lines text (place q) h r =
    let same = begins p line next h lines in
    let number = h.number in let last = r.number in
    let none = h.none in let count = r.count in
    record {
      text_is = r.text_is ∙ ap text_of_steps same;
      state = subst (λ (s : Schedule). IsAt s.header s.steps q.state q.steps) same (r.state, omega (arith, none, count));
      number_is = omega (arith, number, last);
    }
opens_more p line next lines text (fault n c) h r =
    let number = h.number in let above = r.number_is in
    record {
      before = suc r.before;
      number_is = omega (arith, number, above);
      text_is = r.text_is ∙ ap text_of_steps (begins p line next h (take r.before lines));
    }

-- lines from every place on before the header
abbrev pub RunsThroughAll : List (List ℕ) → Type 0
RunsThroughAll lines = (p : Place) → IsEarly p → RunsThrough p.number lines (told_from p lines).text (told_from p lines).reached

followed_first : (p : Place) (line : List ℕ) (lines : List (List ℕ)) (r : Result (Option Answer × Place) ScriptCause) → GoesFirst p line r
    → RunsThroughAll lines
    → RunsThrough p.number (line ∷ lines) (follows p r (λ next. told_from next lines)).text (follows p r (λ next. told_from next lines)).reached
followed_first p line lines (Err c) h later = record { before = zero; number_is = omega arith; text_is = refl }
followed_first p line lines (Ok (None, next)) (inl h) later =
    waits_more p line next lines (told_from next lines).text (told_from next lines).reached h (later next h.early)
followed_first p line lines (Ok (None, next)) (inr h) later =
    opens_more p line next lines (told_from next lines).text (told_from next lines).reached h
    (reaches_all h.header.nodes lines next (cluster_of h.header) h.state)
followed_first p line lines (Ok (Some answer, next)) h later = absurd h

pub runs_through : (lines : List (List ℕ)) → RunsThroughAll lines
runs_through [] p early = record { text_is = refl; state = early.state; number_is = omega arith }
runs_through (line ∷ lines) p early = followed_first p line lines (line_at p line) (first_goes p line early) (runs_through lines)

-- ---- the end of a run
-- without a header the run is refused behind the last line; else all steps were done
ends_at : (lines : List (List ℕ)) (text : List ℕ) (q : Place) (s : Schedule) → schedule_from 1 lines ≡ s → text ≡ text_of_steps s
    → q.number ≡ 1 + length lines → (header : Option Header) → s.header ≡ header → IsAt header s.steps q.state q.steps
    → EndsOver lines (text ++ end_text (end_of q q.state)) (end_of q q.state)
ends_at lines text q s is text_is number None none at =
    subst (λ (o : Option Opened). EndsOver lines (text ++ end_text (end_of q o)) (end_of q o)) (sym at)
    (append-nil text ∙ text_is ∙ ap text_of_steps (sym is)
    ∙ ap (λ ls. text_of_steps (schedule_from 1 ls)) (sym (take-length lines))
    ∙ ap (λ k. text_of_steps (schedule_from 1 (take k lines))) (omega (arith, number)))
ends_at lines text q s is text_is number (Some header) some at =
    subst (λ (o : Option Opened). EndsOver lines (text ++ end_text (end_of q o)) (end_of q o)) (sym at.0) (
      ap (λ t. t ++ end_text (finished q.steps (run_over s.steps (cluster_of header)).1)) (text_is ∙ ap text_of_steps (sym is)),
      subst (λ (z : Schedule). IsRunTo z q.steps (run_over s.steps (cluster_of header)).1) (sym is)
          (record { header = header; is_header = some; count = at.1; after = refl }),
    )

ends_over : (lines : List (List ℕ)) (text : List ℕ) (reached : Reached) → RunsThrough 1 lines text reached
    → EndsOver lines (text ++ end_text (ending_of reached)) (ending_of reached)
ends_over lines text (place q) r =
    ends_at lines text q (schedule_from 1 lines) refl r.text_is r.number_is (schedule_from 1 lines).header refl r.state
ends_over lines text (fault n c) r =
    let above = r.number_is in
    append-nil text ∙ r.text_is ∙ ap (λ k. text_of_steps (schedule_from 1 (take k lines))) (omega (arith, above))

pub runs_over_steps : RunsOverSteps
unfolding run_of
runs_over_steps input =
    let told = told_from start (lines_of input) in
    ends_over (lines_of input) told.text told.reached (runs_through (lines_of input) start (record { state = refl; none = refl }))
