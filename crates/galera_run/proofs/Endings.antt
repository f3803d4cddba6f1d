-- how a run ends behind what was printed before
use Rattle.std.proofs.Common.{◌≡◌, ℕ, List, [], ◌∷◌, ◌++◌, length, ◌<◌, refl, sym, ap, ◌∙◌, append_assoc, subst, arith, inl, inr}
use Rattle.std.specs.Prelude.{Option, Some, Result, Ok, Err, IfOk, IfErr, IsTrue, true, false}
use Rattle.std.specs.Io.KnownBytes.{Appends, Keeps}
use Rattle.script_text.specs.declared.line.ScriptCause.{ScriptCause}
use Rattle.galera_run.specs.declared.fault.Finished.{Finished}
use Rattle.galera_run.specs.declared.fault.RunFault.{RunFault}
use Rattle.galera_run.specs.declared.fault.RunFault.TheVariants as stop
use Rattle.galera_run.specs.Places.{Opened, Place}
use Rattle.galera_run.specs.Lines.{last_line}
use Rattle.galera_run.specs.Reading.{Told, Run, told_at, told_from, front, follows, line_at, answer_line, run_told, run_ended, ending_of, end_of, end_text}
use Rattle.galera_run.specs.Writing.{AppendsFront}
use Rattle.galera_run.specs.Feeding.{Runs, RunsCut, LineStops, PrintStops}
use Rattle.galera_run.specs.Outcome.{TellsAll, TellsRefusal, EndStops}
use Rattle.galera_run.proofs.Writes.{appends_both, keeps_appends}
use Rattle.galera_run.proofs.Readings.{front_later, front_of_more}

pub if_ok_map : {T E : Type 0} {P Q : T → Type 0} (r : Result T E) → ((x : T) → P x → Q x) → IfOk r P → IfOk r Q
if_ok_map (Ok x) f p = f x p
if_ok_map (Err e) f p = tt

pub if_err_map : {T E : Type 0} {P Q : E → Type 0} (r : Result T E) → ((x : E) → P x → Q x) → IfErr r P → IfErr r Q
if_err_map (Ok x) f p = tt
if_err_map (Err e) f p = f e p

-- a run with this text before its own
abbrev pub run_behind : List ℕ → Run → Run
run_behind text run = record { text = text ++ run.text; ending = run.ending }

pub run_front : (text : List ℕ) (told : Told) → run_told (front text told) ≡ run_behind text (run_told told)
run_front text told =
    ap (λ (z : List ℕ). let r : Run = record { text = z; ending = ending_of told.reached } in r)
    (append_assoc text told.text (end_text (ending_of told.reached)))

pub tells_behind : (u v w : Option (List ℕ)) (text : List ℕ) (run : Run) (done : Finished) → Appends u v text →
    TellsAll run v w done → TellsAll (run_behind text run) u w done
tells_behind u v w text run done p t = record {
  is_finished = record { cluster = t.is_finished.cluster; ending = t.is_finished.ending; events = t.is_finished.events };
  written = appends_both u v w text run.text p t.written;
}

pub refusal_behind : (u v w : Option (List ℕ)) (text : List ℕ) (run : Run) (number : ℕ) (c : ScriptCause) → Appends u v text →
    TellsRefusal run v w number c → TellsRefusal (run_behind text run) u w number c
refusal_behind u v w text run number c p t = record {
  ending = t.ending;
  written = appends_both u v w text run.text p t.written;
}

-- how the run may stop behind its last line, which printed the text
stops_at : (u v w : Option (List ℕ)) (text : List ℕ) (n : Place) (f : RunFault) → Appends u v text →
    EndStops (told_at n) v w f → EndStops (front text (told_at n)) u w f
stops_at u v w text n (stop.Script number c) p t =
    let P : Run → Type 0 = λ run. TellsRefusal run u w number c in
    subst P (sym (run_front text (told_at n))) (refusal_behind u v w text (run_told (told_at n)) number c p t)
stops_at u v w text n stop.Read p t = t
stops_at u v w text n stop.Write p t =
    let P : Run → Type 0 = λ run. AppendsFront u w run.text in
    subst P (sym (run_front text (told_at n))) (front_later u v w text (run_told (told_at n)).text p t)
stops_at u v w text n stop.NoMemory p (inl k) = inr (appends_both u v w text [] p (keeps_appends v w k))
stops_at u v w text n stop.NoMemory p (inr a) = inr (appends_both u v w text [] p a)

-- what is printed at the end of the input is the text behind the last line
end_at : (p : Place) (o : Opened) → p.state ≡ Some o → run_told (told_at p) ≡ run_ended p.steps o.cluster.model
end_at p o is = ap (λ (s : Option Opened). let r : Run = record { text = end_text (end_of p s); ending = end_of p s } in r) is

pub print_is_end : (p : Place) (o : Opened) (u v : Option (List ℕ)) (f : RunFault) → p.state ≡ Some o →
    PrintStops u v (run_ended p.steps o.cluster.model).text f → EndStops (told_at p) u v f
print_is_end p o u v (stop.Script number c) is t = absurd t
print_is_end p o u v stop.Read is t = t
print_is_end p o u v stop.Write is t =
    let P : Run → Type 0 = λ run. AppendsFront u v run.text in subst P (sym (end_at p o is)) t
print_is_end p o u v stop.NoMemory is t = inl t

-- the last line, which no newline ends
last_is_line : (q : List ℕ) → 0 < length q → last_line q ≡ q ∷ []
last_is_line [] h = absurd (omega arith)
last_is_line (x ∷ xs) h = refl

abbrev last_told : (p : Place) (q : List ℕ) → 0 < length q → told_from p (last_line q) ≡ follows p (line_at p q) told_at
last_told p q h = ap (told_from p) (last_is_line q h)

last_runs : (p n : Place) (q : List ℕ) (u v : Option (List ℕ)) (r : Runs p n q u v) → 0 < length q →
    told_from p (last_line q) ≡ front (answer_line p r.answer) (told_at n)
last_runs p n q u v r h = last_told p q h ∙ ap (λ z. follows p z told_at) r.is_answer

last_run : (p n : Place) (q : List ℕ) (u v : Option (List ℕ)) (r : Runs p n q u v) → 0 < length q →
    run_told (told_from p (last_line q)) ≡ run_behind (answer_line p r.answer) (run_told (told_at n))
last_run p n q u v r h = ap run_told (last_runs p n q u v r h) ∙ run_front (answer_line p r.answer) (told_at n)

last_cut : (p : Place) (q : List ℕ) (u v : Option (List ℕ)) (r : RunsCut p q u v) → 0 < length q →
    AppendsFront u v (run_told (told_from p (last_line q))).text
last_cut p q u v r h =
    let e : run_told (told_from p (last_line q)) ≡ run_behind (answer_line p r.answer) (run_told (told_at r.after)) =
    ap run_told (last_told p q h ∙ ap (λ z. follows p z told_at) r.is_answer)
    ∙ run_front (answer_line p r.answer) (told_at r.after) in
    let P : Run → Type 0 = λ run. AppendsFront u v run.text in
    subst P (sym e) (front_of_more u v (answer_line p r.answer) (run_told (told_at r.after)).text r.written)

last_refused : (p : Place) (q : List ℕ) (u v : Option (List ℕ)) (number : ℕ) (c : ScriptCause) → 0 < length q →
    (number ≡ p.number) × (line_at p q ≡ Err c) × Keeps u v →
    TellsRefusal (run_told (told_from p (last_line q))) u v number c
last_refused p q u v number c h t =
    rw (t.0, last_told p q h, t.1) (record { ending = refl; written = keeps_appends u v t.2 })

pub last_stops : (p : Place) (q : List ℕ) (u v : Option (List ℕ)) (f : RunFault) → 0 < length q → LineStops p q u v f →
    EndStops (told_from p (last_line q)) u v f
last_stops p q u v (stop.Script number c) h t = last_refused p q u v number c h t
last_stops p q u v stop.Read h t = t
last_stops p q u v stop.Write h t = last_cut p q u v t h
last_stops p q u v stop.NoMemory h t = inl t

-- a line that has begun has bytes
pub has_begun : (q : List ℕ) → (q ≡ [] → IsTrue false) → 0 < length q
has_begun [] f = let e : false ≡ true = f refl in absurd cc
has_begun (x ∷ xs) f = omega arith

-- the end behind a last line that was run
pub tells_last : (p n : Place) (q : List ℕ) (u v w : Option (List ℕ)) (done : Finished) → 0 < length q → Runs p n q u v →
    TellsAll (run_told (told_at n)) v w done → TellsAll (run_told (told_from p (last_line q))) u w done
tells_last p n q u v w done h r t =
    let P : Run → Type 0 = λ run. TellsAll run u w done in
    subst P (sym (last_run p n q u v r h)) (tells_behind u v w (answer_line p r.answer) (run_told (told_at n)) done r.written t)

pub stops_last : (p n : Place) (q : List ℕ) (u v w : Option (List ℕ)) (f : RunFault) → 0 < length q → Runs p n q u v →
    EndStops (told_at n) v w f → EndStops (told_from p (last_line q)) u w f
stops_last p n q u v w f h r t =
    let P : Told → Type 0 = λ told. EndStops told u w f in
    subst P (sym (last_runs p n q u v r h)) (stops_at u v w (answer_line p r.answer) n f r.written t)
