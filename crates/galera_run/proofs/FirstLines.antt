-- what the first lines of an input print
use Rattle.std.proofs.Common.{◌≡◌, ℕ, zero, suc, true, false, if◌then◌else◌, ◌==◌, List, [], ◌∷◌, ◌++◌, length, take, refl, sym, ap, ◌∙◌, append_assoc, subst}
use Rattle.std.specs.Prelude.{Option, Result, Ok, Err}
use Rattle.std.specs.Io.KnownBytes.{Appends, Keeps}
use Rattle.std.proofs.KnownBytes.{Appends-kept}
use Rattle.std.proofs.lemmas.List.{append-nil}
use Rattle.std.proofs.Math.Seq.{take-length}
use Rattle.order_event.specs.declared.step.Answer.{Answer}
use Rattle.script_text.specs.declared.line.ScriptCause.{ScriptCause}
use Rattle.galera_run.specs.Places.{Place, Script}
use Rattle.galera_run.specs.Lines.{lines_to, lines_of, last_line, no_line}
use Rattle.galera_run.specs.Reading.{Told, start, follows, told_from, line_at, answer_line, run_of, first_text, Ending, ending_of, end_text, refused}
use Rattle.galera_run.specs.Writing.{IsFrontOf}
use Rattle.galera_run.specs.Feeding.{told_by, Halts}
use Rattle.galera_run.specs.Outcome.{TellsRefusal, TellsFirst}

-- before the first byte
abbrev pub first : Script
first = record { place = start; pending = [] }

-- ---- the text of the first lines is a front of the whole text
front_behind : (text bytes all : List ℕ) → IsFrontOf bytes all → IsFrontOf (text ++ bytes) (text ++ all)
front_behind text bytes all (rest, is) = (rest, ap (λ z. text ++ z) is ∙ sym (append_assoc text bytes rest))

front_followed : (p : Place) (said : Result (Option Answer × Place) ScriptCause) (some all : Place → Told)
    → ((next : Place) → IsFrontOf (some next).text (all next).text) → IsFrontOf (follows p said some).text (follows p said all).text
front_followed p (Err c) some all is = ([], refl)
front_followed p (Ok (answer, next)) some all is = front_behind (answer_line p answer) (some next).text (all next).text (is next)

told_front : (count : ℕ) (p : Place) (lines : List (List ℕ)) → IsFrontOf (told_from p (take count lines)).text (told_from p lines).text
told_front zero p lines = ((told_from p lines).text, refl)
told_front (suc count) p [] = ([], refl)
told_front (suc count) p (line ∷ lines) =
    front_followed p (line_at p line) (λ next. told_from next (take count lines)) (λ next. told_from next lines)
    (λ next. told_front count next lines)

front_more : (bytes all end : List ℕ) → IsFrontOf bytes all → IsFrontOf bytes (all ++ end)
front_more bytes all end (rest, is) = (rest ++ end, ap (λ z. z ++ end) is ∙ append_assoc bytes rest end)

first_is_front : (count : ℕ) (input : List ℕ) → IsFrontOf (first_text count input) (run_of input).text
unfolding first_text run_of
first_is_front count input =
    front_more (told_from start (take count (lines_of input))).text (told_from start (lines_of input)).text
    (end_text (ending_of (told_from start (lines_of input)).reached)) (told_front count start (lines_of input))

-- ---- the text of all lines
all_lines : (input : List ℕ) → first_text (length (lines_of input)) input ≡ (told_from start (lines_of input)).text
unfolding first_text
all_lines input = ap (λ lines. (told_from start lines).text) (take-length (lines_of input))

pub tells_all_lines : (input : List ℕ) (u w : Option (List ℕ)) → Appends u w (told_from start (lines_of input)).text
    → TellsFirst input u w
tells_all_lines input u w written = record {
  count = length (lines_of input);
  written = subst (Appends u w) (sym (all_lines input)) written;
  is_front = first_is_front (length (lines_of input)) input;
}

refused_text : (text : List ℕ) (e : Ending) (n : ℕ) (c : ScriptCause) → e ≡ refused n c → text ++ end_text e ≡ text
refused_text text e n c is = ap (λ e. text ++ end_text e) is ∙ append-nil text

-- where a run is refused, all its text is that of its lines
pub refusal_first : (input : List ℕ) (u v w : Option (List ℕ)) (n : ℕ) (c : ScriptCause) → TellsRefusal (run_of input) u v n c
    → Keeps v w → TellsFirst input u w
unfolding run_of
refusal_first input u v w n c t k =
    let told = told_from start (lines_of input) in
    tells_all_lines input u w
    (subst (Appends u w) (refused_text told.text (ending_of told.reached) n c t.ending) (Appends-kept u v w (run_of input).text t.written k))

-- ---- the whole lines of some first bytes are first lines
pub whole_first : (begun bytes rest : List ℕ) →
    take (length (lines_to no_line begun bytes)) (lines_to last_line begun (bytes ++ rest)) ≡ lines_to no_line begun bytes
whole_first begun [] rest = refl
whole_first begun (b ∷ bytes) rest =
    elim (b == 10)
    as (λ v.
    take (length (if v then (begun ++ b ∷ []) ∷ lines_to no_line [] bytes else lines_to no_line (begun ++ b ∷ []) bytes))
    (if v then (begun ++ b ∷ []) ∷ lines_to last_line [] (bytes ++ rest) else lines_to last_line (begun ++ b ∷ []) (bytes ++ rest))
    ≡ (if v then (begun ++ b ∷ []) ∷ lines_to no_line [] bytes else lines_to no_line (begun ++ b ∷ []) bytes)) [
      | true ↦ ap (λ lines. (begun ++ b ∷ []) ∷ lines) (whole_first [] bytes rest)
      | false ↦ whole_first (begun ++ b ∷ []) bytes rest
    ]

-- no memory behind some first bytes of the input
pub halts_first : (input taken ys : List ℕ) (u w : Option (List ℕ)) → input ≡ taken ++ ys → Halts first taken u w → TellsFirst input u w
unfolding first_text
halts_first input taken ys u w is h =
    let rest = h.is_front.0 ++ ys in
    let count = length (lines_to no_line [] h.fed) in
    let all : input ≡ h.fed ++ rest = is ∙ ap (λ z. z ++ ys) h.is_front.1 ∙ append_assoc h.fed h.is_front.0 ys in
    let text : first_text count input ≡ h.feeds.text =
    ap (first_text count) all
    ∙ ap (λ lines. (told_from start lines).text) (whole_first [] h.fed rest)
    ∙ ap (λ z. (told_by no_line first z).text) (sym (append-nil h.fed))
    ∙ ap (λ (t : Told). t.text) (h.feeds.goes_on.rest no_line []) ∙ append-nil h.feeds.text in
    record {
      count = count;
      written = subst (Appends u w) (sym text) h.feeds.written;
      is_front = first_is_front count input;
    }
