-- The run over the lines of an input, up to its end or to the first at fault, is right.
use Rattle.std.proofs.Common.{◌≡◌, ℕ, suc, ◌+◌, ◌≤◌, ◌<◌, Bool, true, false, cond, List, [], ◌∷◌, ◌++◌, length, take, refl, ap, sym, subst, ◌∙◌, arith}
use Rattle.std.specs.Prelude.{Option, Some, None, Result, Ok, Err, IfSome, nat_le, nat_lt, map, ◌&&◌}
use Rattle.std.specs.List.{AllByRecursion}
use Rattle.std.proofs.lemmas.Bool.Decides.{nat_tests}
use Rattle.std.proofs.lemmas.List.{length-map}
use Rattle.std.proofs.Math.Seq.{take-length}
use Rattle.order_event.specs.declared.step.Answer.{Answer}
use Rattle.order_event.specs.declared.step.Step.{Step}
use Rattle.script_text.specs.declared.line.Header.{Header}
use Rattle.script_text.specs.declared.line.Line.{Line}
use Rattle.script_text.specs.declared.line.Line.TheVariants as said
use Rattle.script_text.specs.declared.line.ScriptCause.{ScriptCause}
use Rattle.script_text.specs.declared.line.ScriptCause.TheVariants as cause
use Rattle.script_text.specs.Grammar.{first_of, line_of}
use Rattle.script_text.proofs.FitLemmas.{first_is}
use Rattle.node_meaning.specs.Cluster.{will_order, cluster_step}
use Rattle.node_laws.proofs.ClusterLaws.{ActFits}
use Rattle.answer_laws.proofs.RunAnswers.{few_joins}
use Rattle.galera_run.specs.declared.line.TheConstants.{MOST_BYTES, MOST_STEPS, MOST_EVENTS}
use Rattle.galera_run.specs.Places.{Opened, Place}
use Rattle.galera_run.specs.Reading.{Told, Reached, place, fault, start, follows, told_from, line_at, read_at, opened_at, stepped_at, answered_at, is_within}
use Rattle.galera_run.specs.Schedules.{LineStep, said_step, steps_behind, Schedule, schedule_at, schedule_from, text_of_steps}
use Rattle.galera_run.specs.Replicated.{ReplicatesOver, LinesReplicate}
use Rattle.galera_run.proofs.LineRanges.{line_is_fit}
use Rattle.galera_run.proofs.Replicating.{runs_replicate}
use Rattle.galera_run.proofs.ScheduleLaws.{IsAt, CameThrough, RunsThrough, runs_through}

abbrev Fit : Step → Type 0
Fit step = ActFits step.act

abbrev acts : List LineStep → List Step
acts steps = map (λ (s : LineStep). s.step) steps

-- ---- the steps of lines are those that the laws of runs take
said_fit : (nodes number : ℕ) (line : List ℕ) (r : Result Line ScriptCause)
    → line_of nodes line ≡ r → (rest : List LineStep) → AllByRecursion Fit (acts rest)
    → AllByRecursion Fit (acts (said_step number r ++ rest))
said_fit nodes number line (Err c) is rest all = all
said_fit nodes number line (Ok said.Blank) is rest all = all
said_fit nodes number line (Ok (said.Step step)) is rest all =
    (line_is_fit nodes line step is, all)

behind_fit : (nodes number : ℕ) (lines : List (List ℕ))
    → AllByRecursion Fit (acts (steps_behind nodes number lines))
behind_fit nodes number [] = tt
behind_fit nodes number (line ∷ lines) =
    said_fit nodes number line (line_of nodes line) refl (steps_behind nodes (number + 1) lines)
    (behind_fit nodes (number + 1) lines)

-- a header is of few nodes, and the steps behind it fit
abbrev HasFit : Option Header → List LineStep → Type 0
HasFit None steps = Unit {0}
HasFit (Some header) steps = (header.nodes ≤ 9) × AllByRecursion Fit (acts steps)

at_fit : (number : ℕ) (line : List ℕ) (r : Result (Option Header) ScriptCause) → first_of line ≡ r
    → (lines : List (List ℕ)) (later : Schedule) → HasFit later.header later.steps
    → HasFit (schedule_at number r lines later).header (schedule_at number r lines later).steps
at_fit number line (Err c) is lines later fits = tt
at_fit number line (Ok None) is lines later fits = fits
at_fit number line (Ok (Some header)) is lines later fits =
    ((first_is line header is).few_nodes, behind_fit header.nodes (number + 1) lines)

all_fit : (number : ℕ) (lines : List (List ℕ))
    → HasFit (schedule_from number lines).header (schedule_from number lines).steps
all_fit number [] = tt
all_fit number (line ∷ lines) =
    at_fit number line (first_of line) refl lines (schedule_from (number + 1) lines)
    (all_fit (number + 1) lines)

-- ---- lines that are run say few steps
both : (a b : Bool) → a && b ≡ true → (a ≡ true) × (b ≡ true)
both true true e = (refl, refl)
both true false e = absurd cc
both false b e = absurd cc

is_below : (m n : ℕ) → nat_lt m n ≡ true → m < n
is_below m n e = grind (arith, nat_tests)

-- the next place
abbrev IsNext : Place → Place → Type 0
IsNext p next = (next.steps ≤ MOST_STEPS) × (next.number ≡ p.number + 1)

abbrev Goes : Place → Result (Option Answer × Place) ScriptCause → Type 0
Goes p (Err c) = Unit {0}
Goes p (Ok (answer, next)) = IsNext p next

module _ (p : Place) (line : List ℕ) (few : p.steps ≤ MOST_STEPS) where
  opens : (r : Result (Option Header) ScriptCause) → Goes p (opened_at p line r)
  opens (Err c) = tt
  opens (Ok None) = (few, refl)
  opens (Ok (Some header)) = (few, refl)

  answers : (o : Opened) (step : Step) (b : Bool) → is_within p.steps o.cluster.model step ≡ b
      → Goes p (cond b (Ok (answered_at p line o.nodes (cluster_step o.cluster.model step)))
      (Err cause.Limit))
  answers o step false e = tt
  answers o step true e =
      let model = o.cluster.model in
      let less = is_below p.steps MOST_STEPS
      (both (nat_lt p.steps MOST_STEPS)
      (nat_le (length model.order + will_order model step) MOST_EVENTS) e).0 in
      (omega (arith, less), refl)

  says : (o : Opened) (r : Result Line ScriptCause) → Goes p (stepped_at p line o r)
  says o (Err c) = tt
  says o (Ok said.Blank) = (few, refl)
  says o (Ok (said.Step step)) =
      answers o step (is_within p.steps o.cluster.model step) refl

  reads : (o : Option Opened) → Goes p (read_at p line o)
  reads None = opens (first_of line)
  reads (Some o) = says o (line_of o.nodes line)

  fits_in : (b : Bool) → Goes p (cond b (read_at p line p.state) (Err cause.Limit))
  fits_in true = reads p.state
  fits_in false = tt

  goes : Goes p (line_at p line)
  goes = fits_in (nat_le (p.before + length line) MOST_BYTES)

-- the lines before the one at fault are run
pub record IsStopped (p : Place) (lines : List (List ℕ)) (number : ℕ) : Type 0 where
  pub before : ℕ
  pub is : number ≡ p.number + before
  pub within : before ≤ length lines
  pub at : Place
  pub few : at.steps ≤ MOST_STEPS
  pub reaches : (told_from p (take before lines)).reached ≡ place at

abbrev IsRun : Place → List (List ℕ) → Reached → Type 0
IsRun p lines (place q) = q.steps ≤ MOST_STEPS
IsRun p lines (fault number c) = IsStopped p lines number

run_on : (p next : Place) (answer : Option Answer) (line : List ℕ) (lines : List (List ℕ))
    → line_at p line ≡ Ok (answer, next) → IsNext p next → (reached : Reached)
    → IsRun next lines reached → IsRun p (line ∷ lines) reached
run_on p next answer line lines is goes (place q) few = few
run_on p next answer line lines is goes (fault number c) h = record {
  before = suc h.before;
  is = omega (arith, h.is, goes.1);
  within = omega (arith, h.within);
  at = h.at;
  few = h.few;
  reaches = ap (λ r. (follows p r (λ q. told_from q (take h.before lines))).reached) is
      ∙ h.reaches;
}

run_by : (p : Place) (line : List ℕ) (lines : List (List ℕ)) → p.steps ≤ MOST_STEPS
    → (r : Result (Option Answer × Place) ScriptCause) → line_at p line ≡ r → Goes p r
    → ((next : Place) → next.steps ≤ MOST_STEPS
    → IsRun next lines (told_from next lines).reached)
    → IsRun p (line ∷ lines) (follows p r (λ q. told_from q lines)).reached
run_by p line lines few (Err c) is goes later = record {
  before = 0;
  is = omega arith;
  within = omega arith;
  at = p;
  few = few;
  reaches = refl;
}
run_by p line lines few (Ok (answer, next)) is goes later =
    run_on p next answer line lines is goes (told_from next lines).reached (later next goes.0)

are_run : (lines : List (List ℕ)) (p : Place) → p.steps ≤ MOST_STEPS
    → IsRun p lines (told_from p lines).reached
are_run [] p few = few
are_run (line ∷ lines) p few =
    run_by p line lines few (line_at p line) refl (goes p line few) (are_run lines)

-- ---- the run over lines that are run
by_header : (steps : List LineStep) (state : Option Opened) (count : ℕ) → count ≤ MOST_STEPS
    → (o : Option Header) → IsAt o steps state count → HasFit o steps
    → IfSome o (λ header. ReplicatesOver header steps)
by_header steps state count few None at fits = tt
by_header steps state count few (Some header) at fits =
    let long : length (acts steps) ≡ length steps =
    length-map steps (λ (s : LineStep). s.step) in
    runs_replicate header.nodes header.gcache header.id (acts steps)
    (omega (arith, fits.0, at.1, long, few, few_joins (acts steps)))
    (omega (arith, at.1, long, few)) fits.1

came : (lines : List (List ℕ)) (q : Place) → (told_from start lines).reached ≡ place q
    → CameThrough 1 lines (told_from start lines).text q
came lines q is =
    subst (RunsThrough 1 lines (told_from start lines).text) is
    (runs_through lines start (record { state = refl; none = refl }))

replicate_at : (lines : List (List ℕ)) (q : Place) → (told_from start lines).reached ≡ place q
    → q.steps ≤ MOST_STEPS → LinesReplicate lines
replicate_at lines q is few =
    by_header (schedule_from 1 lines).steps q.state q.steps few (schedule_from 1 lines).header
    (came lines q is).state (all_fit 1 lines)

few_at : (lines : List (List ℕ)) (q : Place) → (told_from start lines).reached ≡ place q
    → q.steps ≤ MOST_STEPS
few_at lines q is = subst (IsRun start lines) is (are_run lines start (omega arith))

-- ---- any lines: those up to the first at fault
abbrev pub EndsThere : List (List ℕ) → ℕ → Reached → Type 0
EndsThere lines before (place q) =
    (before ≡ length lines) × (q.number ≡ before + 1)
    × IsAt (schedule_from 1 lines).header (schedule_from 1 lines).steps q.state q.steps
EndsThere lines before (fault number c) = number ≡ before + 1

pub record RightLines (lines : List (List ℕ)) (told : Told) : Type 0 where
  pub before : ℕ
  pub within : before ≤ length lines
  pub text_is : told.text ≡ text_of_steps (schedule_from 1 (take before lines))
  pub replicates : LinesReplicate (take before lines)
  pub ends : EndsThere lines before told.reached

right_by : (lines : List (List ℕ)) (text : List ℕ) (reached : Reached)
    → (told_from start lines).reached ≡ reached → IsRun start lines reached
    → RunsThrough 1 lines text reached
    → RightLines lines (record { text = text; reached = reached })
right_by lines text (place q) is few r =
    let all = sym (take-length lines) in record {
      before = length lines;
      within = omega arith;
      text_is = r.text_is ∙ ap (λ z. text_of_steps (schedule_from 1 z)) all;
      replicates = subst LinesReplicate all (replicate_at lines q is few);
      ends = (refl, omega (arith, r.number_is), r.state);
    }
right_by lines text (fault number c) is h r =
    let same : r.before ≡ h.before = omega (arith, r.number_is, h.is) in record {
      before = h.before;
      within = h.within;
      text_is = r.text_is
          ∙ ap (λ k. text_of_steps (schedule_from 1 (take k lines))) same;
      replicates = replicate_at (take h.before lines) h.at h.reaches h.few;
      ends = omega (arith, h.is);
    }

pub lines_are_right : (lines : List (List ℕ)) → RightLines lines (told_from start lines)
lines_are_right lines =
    right_by lines (told_from start lines).text (told_from start lines).reached refl
    (are_run lines start (omega arith))
    (runs_through lines start (record { state = refl; none = refl }))

-- where all lines are run
pub lines_replicate : (lines : List (List ℕ)) (q : Place)
    → (told_from start lines).reached ≡ place q → LinesReplicate lines
lines_replicate lines q is = replicate_at lines q is (few_at lines q is)

pub lines_text : (lines : List (List ℕ)) (q : Place)
    → (told_from start lines).reached ≡ place q
    → (told_from start lines).text ≡ text_of_steps (schedule_from 1 lines)
lines_text lines q is = (came lines q is).text_is
