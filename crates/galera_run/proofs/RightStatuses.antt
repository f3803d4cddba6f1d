-- What the program wrote, at each of its statuses, is of a run that is right.
use Rattle.std.proofs.Common.{◌≡◌, ℕ, zero, suc, ◌+◌, ◌≤◌, List, [], ◌++◌, length, take, drop, refl, ap, sym, subst, ◌∙◌, append_assoc, append-nil, arith, inl, inr}
use Rattle.std.specs.Prelude.{◌≢◌, Option, Some, None, IfSome, Result, Ok, Err, IfOk, IfErr, OnOk}
use Rattle.std.specs.Io.KnownBytes.{Appends}
use Rattle.std.proofs.lemmas.List.{take-append-drop, length-take-le}
use Rattle.std.proofs.lemmas.Option.{same_Some}
use Rattle.std.proofs.Math.Seq.{take-length}
use Rattle.script_text.specs.declared.line.Header.{Header}
use Rattle.script_text.specs.declared.line.ScriptCause.{ScriptCause}
use Rattle.script_text.specs.declared.line.ScriptCause.TheVariants as cause
use Rattle.node_meaning.specs.Cluster.{ModelCluster}
use Rattle.galera_run.specs.Places.{Opened, Place}
use Rattle.galera_run.specs.declared.fault.Finished.{Finished}
use Rattle.galera_run.specs.declared.fault.RunFault.{RunFault}
use Rattle.galera_run.specs.declared.fault.RunFault.TheVariants as stop
use Rattle.galera_run.specs.Lines.{lines_of, whole_lines}
use Rattle.galera_run.specs.Reading.{Reached, place, fault, start, opened, told_from, finished, ending_of, end_of, end_text, run_of, first_text, told_so_far, text_so_far}
use Rattle.galera_run.specs.Schedules.{LineStep, schedule_from, run_over, answers_text, cluster_of, schedule_text, text_of_steps, EndsOver}
use Rattle.galera_run.specs.Writing.{AppendsFront}
use Rattle.galera_run.specs.Outcome.{TellsAll, TellsFirst, IsRead, RunTells, RunStops}
use Rattle.galera_run.specs.Program.{refusal_text, read_text, last_text, printed_of, HasCauses, TellsEnd, TellsLines, IsRefusal, TellsRefused, TellsUnread, CutsUnread, CutsRun}
use Rattle.galera_run.specs.Replicated.{ReplicatesOver, all_ends, TellsRight, ends_text, LinesReplicate, IsLast, Nothing, Ends, Refused, Unread, BeginsRight, WritesRight}
use Rattle.galera_run.proofs.ScheduleLaws.{IsAt, runs_over_steps}
use Rattle.galera_run.proofs.FirstLines.{whole_first}
use Rattle.galera_run.proofs.ReplicatedLines.{EndsThere, lines_are_right, lines_replicate, lines_text}

-- ---- fronts
front_all : (u v : Option (List ℕ)) (text : List ℕ) → Appends u v text → AppendsFront u v text
front_all u v text p = record {
  text = text;
  written = p;
  is_front = ([], sym (append-nil text));
}

front_of : (u v : Option (List ℕ)) (text more : List ℕ) → Appends u v text
    → AppendsFront u v (text ++ more)
front_of u v text more p = record { text = text; written = p; is_front = (more, refl) }

front_more : (u v : Option (List ℕ)) (text more : List ℕ) → AppendsFront u v text
    → AppendsFront u v (text ++ more)
front_more u v text more f = record {
  text = f.text;
  written = f.written;
  is_front = (
    f.is_front.0 ++ more,
    ap (λ z. z ++ more) f.is_front.1 ∙ append_assoc f.text f.is_front.0 more,
  );
}

first_lines : (k : ℕ) (lines : List (List ℕ)) → lines ≡ take k lines ++ drop k lines
first_lines k lines = sym (take-append-drop k lines)

-- ---- the whole text, with the line that ends it
-- what is written behind the answers of the first lines
record Behind (lines : List (List ℕ)) (text all : List ℕ) : Type 0 where
  more : List ℕ
  last : IsLast lines more
  is : all ≡ text ++ more

behind_refused : (lines : List (List ℕ)) (before number : ℕ) (c : ScriptCause) (text : List ℕ)
    → before ≤ length lines → number ≡ before + 1
    → Behind (take before lines) text ((text ++ []) ++ refusal_text number c)
behind_refused lines before number c text within is =
    let count = length-take-le before lines within in record {
      more = refusal_text number c;
      last = Refused c (ap (λ k. refusal_text k c) (is ∙ ap (λ k. k + 1) (sym count)));
      is = ap (λ z. z ++ refusal_text number c) (append-nil text);
    }

opened_ends : (header : Option Header) (steps : List LineStep) (o : Opened) (count : ℕ)
    → IsAt header steps (Some o) count → all_ends o.cluster.model ≡ ends_text header steps
opened_ends None steps o count at = absurd cc
opened_ends (Some header) steps o count at =
    let same : o ≡ opened header.nodes (run_over steps (cluster_of header)).1 =
    same_Some o (opened header.nodes (run_over steps (cluster_of header)).1) at.0 in
    ap (λ (x : Opened). all_ends x.cluster.model) same

behind_place : (lines : List (List ℕ)) (text : List ℕ) (q : Place) (state : Option Opened)
    → q.number ≡ length lines + 1
    → IsAt (schedule_from 1 lines).header (schedule_from 1 lines).steps state q.steps
    → Behind lines text ((text ++ end_text (end_of q state)) ++ last_text (end_of q state))
behind_place lines text q None number at = record {
  more = refusal_text q.number cause.Grammar;
  last = Refused cause.Grammar (ap (λ k. refusal_text k cause.Grammar) number);
  is = ap (λ z. z ++ refusal_text q.number cause.Grammar) (append-nil text);
}
behind_place lines text q (Some o) number at = record {
  more = all_ends o.cluster.model;
  last = Ends
      (opened_ends (schedule_from 1 lines).header (schedule_from 1 lines).steps o q.steps at);
  is = append-nil (text ++ all_ends o.cluster.model);
}

behind_end : (lines : List (List ℕ)) (before : ℕ) (text : List ℕ) (reached : Reached)
    → before ≤ length lines → EndsThere lines before reached
    → Behind (take before lines) text
    ((text ++ end_text (ending_of reached)) ++ last_text (ending_of reached))
behind_end lines before text (place q) within ends =
    let all : take before lines ≡ lines =
    ap (λ k. take k lines) ends.0 ∙ take-length lines in
    let whole = (text ++ end_text (end_of q q.state)) ++ last_text (end_of q q.state) in
    subst (λ z. Behind z text whole) (sym all) (behind_place lines text q q.state (omega (arith, ends.0, ends.1)) ends.2)
behind_end lines before text (fault number c) within ends =
    behind_refused lines before number c text within ends

pub printed_right : (input : List ℕ) (u v : Option (List ℕ))
    → AppendsFront u v (printed_of input) → BeginsRight input u v
unfolding run_of
printed_right input u v cut =
    let lines = lines_of input in
    let told = told_from start lines in
    let r = lines_are_right lines in
    let b = behind_end lines r.before told.text told.reached r.within r.ends in record {
      lines = take r.before lines;
      rest = drop r.before lines;
      first = first_lines r.before lines;
      more = b.more;
      last = b.last;
      written = subst (AppendsFront u v) (b.is ∙ ap (λ z. z ++ b.more) r.text_is) cut;
      replicates = r.replicates;
    }

-- ---- the text of the first lines
pub first_right : (input : List ℕ) (u v : Option (List ℕ)) → TellsFirst input u v
    → BeginsRight input u v
unfolding first_text
first_right input u v t =
    let some = take t.count (lines_of input) in
    let r = lines_are_right some in record {
      lines = take r.before some;
      rest = drop r.before some ++ drop t.count (lines_of input);
      first = first_lines t.count (lines_of input)
          ∙ ap (λ z. z ++ drop t.count (lines_of input)) (first_lines r.before some)
          ∙ append_assoc (take r.before some) (drop r.before some) (drop t.count (lines_of input));
      more = [];
      last = Nothing refl;
      written = subst (λ z. AppendsFront u v (z ++ [])) r.text_is
          (front_of u v (told_from start some).text [] t.written);
      replicates = r.replicates;
    }

-- ---- the text of the lines that were read
module _ (input ys taken more : List ℕ) (u v : Option (List ℕ)) (is : input ≡ taken ++ ys)
    (last : IsLast (whole_lines taken) more) (q : Place) where
  read_by : (told_from start (whole_lines taken)).reached ≡ place q
      → AppendsFront u v ((told_from start (whole_lines taken)).text ++ more)
      → BeginsRight input u v
  read_by reached cut =
      let lines = whole_lines taken in
      let count = length lines in
      let front : take count (lines_of input) ≡ lines =
      ap (λ z. take count (lines_of z)) is ∙ whole_first [] taken ys in record {
        lines = lines;
        rest = drop count (lines_of input);
        first = first_lines count (lines_of input)
            ∙ ap (λ z. z ++ drop count (lines_of input)) front;
        more = more;
        last = last;
        written = subst (λ z. AppendsFront u v (z ++ more)) (lines_text lines q reached) cut;
        replicates = lines_replicate lines q reached;
      }

read_right : (input taken more : List ℕ) (b u v : Option (List ℕ)) → IsRead (Some input) b taken
    → IsLast (whole_lines taken) more → AppendsFront u v (text_so_far taken ++ more)
    → BeginsRight input u v
unfolding told_so_far
read_right input taken more None u v r last cut = absurd r.read
read_right input taken more (Some ys) u v r last cut =
    read_by input ys taken more u v r.read last r.at r.not_refused cut

-- and that the source failed
unread_right : (input : List ℕ) (b u v : Option (List ℕ)) → CutsUnread (Some input) b u v
    → BeginsRight input u v
unread_right input b u v t =
    read_right input t.taken read_text b u v t.is_read (Unread refl) t.written

-- ---- a run to the end
ended_over : (input : List ℕ) (steps : ℕ) (cluster : ModelCluster)
    → (run_of input).ending ≡ finished steps cluster
    → EndsOver (lines_of input) (run_of input).text (finished steps cluster)
ended_over input steps cluster is =
    subst (EndsOver (lines_of input) (run_of input).text) is (runs_over_steps input)

-- which ended at a place
abbrev IsPlace : Reached → Type 0
IsPlace (place q) = Unit {0}
IsPlace (fault number c) = ⊥

at_place : (reached : Reached) (steps : ℕ) (cluster : ModelCluster)
    → ending_of reached ≡ finished steps cluster → IsPlace reached
at_place (place q) steps cluster is = tt
at_place (fault number c) steps cluster is = absurd cc

all_by : (lines : List (List ℕ)) (reached : Reached) → (told_from start lines).reached ≡ reached
    → IsPlace reached → LinesReplicate lines
all_by lines (place q) is here = lines_replicate lines q is
all_by lines (fault number c) is here = absurd here

all_replicate : (input : List ℕ) (steps : ℕ) (cluster : ModelCluster)
    → (run_of input).ending ≡ finished steps cluster → LinesReplicate (lines_of input)
unfolding run_of
all_replicate input steps cluster is =
    let told = told_from start (lines_of input) in
    all_by (lines_of input) told.reached refl (at_place told.reached steps cluster is)

pub all_right : (input : List ℕ) (u v : Option (List ℕ)) (done : Finished)
    → TellsAll (run_of input) u v done → TellsRight input u v
all_right input u v done t =
    let cluster = t.is_finished.cluster in
    let over = ended_over input done.steps cluster t.is_finished.ending in
    let s = schedule_from 1 (lines_of input) in
    let h = over.1.header in
    let there = over.1.is_header in
    let answered : text_of_steps s ≡ answers_text s.steps (run_over s.steps (cluster_of h)).0 =
    ap (λ o. schedule_text o s.steps) there in
    let text : (run_of input).text ≡ answers_text s.steps (run_over s.steps (cluster_of h)).0
    ++ all_ends (run_over s.steps (cluster_of h)).1 =
    over.0 ∙ ap (λ z. z ++ all_ends cluster) answered
    ∙ ap (λ x. answers_text s.steps (run_over s.steps (cluster_of h)).0 ++ all_ends x)
    over.1.after in
    record {
      header = h;
      is_header = there;
      written = subst (Appends u v) text t.written;
      replicates = subst (λ o. IfSome o (λ header. ReplicatesOver header s.steps)) there
          (all_replicate input done.steps cluster t.is_finished.ending);
    }

-- ---- a run
pub ok_right : (a u v : Option (List ℕ)) (r : Result Finished RunFault) → IfOk r (RunTells a u v)
    → OnOk r (IfSome a (λ input. TellsRight input u v))
ok_right None u v (Ok done) t = tt
ok_right (Some input) u v (Ok done) t = all_right input u v done t
ok_right a u v (Err f) t = tt

all_begins : (input : List ℕ) (u v : Option (List ℕ)) (done : Finished)
    → TellsAll (run_of input) u v done → BeginsRight input u v
all_begins input u v done t =
    printed_right input u v
    (front_of u v (run_of input).text (last_text (run_of input).ending) t.written)

stop_begins : (input : List ℕ) (b u v : Option (List ℕ)) (f : RunFault)
    → RunStops (Some input) b u v f → BeginsRight input u v
stop_begins input b u v (stop.Script number c) t =
    printed_right input u v
    (front_of u v (run_of input).text (last_text (run_of input).ending) t.written)
stop_begins input b u v stop.Read t =
    read_right input t.taken [] b u v t.is_read (Nothing refl)
    (front_of u v (text_so_far t.taken) [] t.written)
stop_begins input b u v stop.Write t =
    printed_right input u v (front_more u v (run_of input).text
    (last_text (run_of input).ending) t)
stop_begins input b u v stop.NoMemory t = first_right input u v t

pub run_begins : (a b u v : Option (List ℕ)) (r : Result Finished RunFault)
    → IfOk r (RunTells a u v) → IfErr r (RunStops a b u v)
    → IfSome a (λ input. BeginsRight input u v)
run_begins None b u v r ok err = tt
run_begins (Some input) b u v (Ok done) ok err = all_begins input u v done ok
run_begins (Some input) b u v (Err f) ok err = stop_begins input b u v f err

-- ---- by the status
module _ (input : List ℕ) (b u v : Option (List ℕ)) (so sn : ℕ) where
  -- what each status says
  record Says (status : ℕ) : Type 0 where
    usage : status ≢ 1
    ends : status ≡ 0 → TellsEnd (Some input) b u v
    refuses : status ≡ 2 → TellsRefused (Some input) u v
    unread : status ≡ 3 → TellsUnread (Some input) b u v
    cut : status ≡ 4 → CutsRun (Some input) b so sn u v
    halts : status ≡ 6 → TellsLines (Some input) u v

  abbrev Right : ℕ → Type 0
  Right status = (status ≡ 0 → TellsRight input u v) × BeginsRight input u v

  refused_begins : IsRefusal input u v → BeginsRight input u v
  refused_begins t =
      printed_right input u v (front_all u v (printed_of input)
      (subst (λ e. Appends u v ((run_of input).text ++ last_text e)) (sym t.ending) t.written))

  cut_begins : CutsRun (Some input) b so sn u v → BeginsRight input u v
  cut_begins (inl t) = printed_right input u v t.1
  cut_begins (inr t) = unread_right input b u v t.1

  unread_begins : TellsUnread (Some input) b u v → BeginsRight input u v
  unread_begins t =
      read_right input t.taken read_text b u v t.is_read (Unread refl)
      (front_all u v (text_so_far t.taken ++ read_text) t.written)

  at_two : (status : ℕ) → status ≤ 2 → Says status → Right status
  at_two zero few h =
      let told = (h.ends refl).0 in
      (λ is. all_right input u v told.0 told.1, all_begins input u v told.0 told.1)
  at_two (suc zero) few h = absurd (h.usage refl)
  at_two (suc (suc zero)) few h =
      (λ none. absurd (omega (arith, none)), refused_begins (h.refuses refl))
  at_two (suc (suc (suc k))) few h = absurd (omega (arith, few))

  at_status : (status ko kn : ℕ) → HasCauses status so sn ko kn → Says status → Right status
  at_status status ko kn (inl (inl few, source, sink)) h = at_two status few h
  at_status status ko kn (inl (inr is, source, sink)) h =
      (λ none. absurd (omega (arith, is, none)), first_right input u v (h.halts is))
  at_status status ko kn (inr (inl c)) h =
      (λ none. absurd (omega (arith, c.0, none)), unread_begins (h.unread c.0))
  at_status status ko kn (inr (inr c)) h =
      (λ none. absurd (omega (arith, c.0, none)), cut_begins (h.cut c.0))

pub steps_write : (a b u v : Option (List ℕ)) (status so sn ko kn : ℕ)
    → HasCauses status so sn ko kn → status ≢ 1 → (status ≡ 0 → TellsEnd a b u v)
    → (status ≡ 2 → TellsRefused a u v) → (status ≡ 3 → TellsUnread a b u v)
    → (status ≡ 4 → CutsRun a b so sn u v) → (status ≡ 6 → TellsLines a u v)
    → WritesRight (status ≡ 0) a u v
steps_write None b u v status so sn ko kn causes usage ends refuses unread cut halts = tt
steps_write (Some input) b u v status so sn ko kn causes usage ends refuses unread cut halts =
    at_status input b u v so sn status ko kn causes (record {
      usage = usage;
      ends = ends;
      refuses = refuses;
      unread = unread;
      cut = cut;
      halts = halts;
    })
