-- what went out and which count rose where a run stopped and its last line was written or not
use Rattle.std.proofs.Common.{◌≡◌, ℕ, List, ◌++◌, refl, sym, subst, ◌∙◌, inl, inr, arith}
use Rattle.std.specs.Prelude.{◌⊎◌, Option, Some, None, IfSome}
use Rattle.std.specs.Io.KnownBytes.{Appends, Keeps}
use Rattle.outside_io.specs.Outside.{Rose}
use Rattle.script_text.specs.declared.line.ScriptCause.{ScriptCause}
use Rattle.galera_run.specs.Reading.{run_of, text_so_far, Ending}
use Rattle.galera_run.specs.Writing.{AppendsFront}
use Rattle.galera_run.specs.Outcome.{TellsRefusal, TellsRead}
use Rattle.galera_run.specs.Program.{usage_text, refusal_text, read_text, last_text, HasCauses, EndsAs, EndsUsage, TellsLines, CutsText, CutsUnread}
use Rattle.galera_run.proofs.FirstLines.{refusal_first}
use Rattle.galera_run.proofs.Readings.{front_later}

pub refusal_cuts : (a u v w : Option (List ℕ)) (n : ℕ) (c : ScriptCause) →
    IfSome a (λ input. TellsRefusal (run_of input) u v n c) → AppendsFront v w (refusal_text n c) → CutsText a u w
refusal_cuts None u v w n c t f = tt
refusal_cuts (Some input) u v w n c t f =
    let P : Ending → Type 0 = λ e. AppendsFront u w ((run_of input).text ++ last_text e) in
    subst P (sym t.ending) (front_later u v w (run_of input).text (refusal_text n c) t.written f)

pub unread_cuts : (a b u v w : Option (List ℕ)) → TellsRead a b u v → AppendsFront v w read_text → CutsUnread a b u w
unread_cuts a b u v w t f = record {
  taken = t.taken;
  is_read = t.is_read;
  written = front_later u v w (text_so_far t.taken) read_text t.written f;
}

-- no memory for the line that tells the refusal: the text of the lines was written
pub refusal_lines : (a u v w : Option (List ℕ)) (n : ℕ) (c : ScriptCause) →
    IfSome a (λ input. TellsRefusal (run_of input) u v n c) → Keeps v w → TellsLines a u w
refusal_lines None u v w n c t k = tt
refusal_lines (Some input) u v w n c t k = refusal_first input u v w n c t k

-- ---- which counts rose; the run left the sink's as it was
rose_from : (a b c : ℕ) → b ≡ a → Rose b c → Rose a c
rose_from a b c is r = subst (λ k. Rose k c) is r

pub refused_causes : (status source_old source_new sink_old sink sink_new : ℕ) → source_new ≡ source_old → sink ≡ sink_old
    → EndsAs 2 status sink sink_new ⊎ ((status ≡ 6) × (sink_new ≡ sink)) → HasCauses status source_old source_new sink_old sink_new
refused_causes status so sn ko k kn same kept (inl (inl (is, stays))) = inl (inl (omega (arith, is)), same, stays ∙ kept)
refused_causes status so sn ko k kn same kept (inl (inr (is, rose))) = inr (inr (is, rose_from ko k kn kept rose))
refused_causes status so sn ko k kn same kept (inr (is, stays)) = inl (inr is, same, stays ∙ kept)

pub unread_causes : (status source_old source_new sink_old sink sink_new : ℕ) → Rose source_old source_new → sink ≡ sink_old
    → EndsAs 3 status sink sink_new → HasCauses status source_old source_new sink_old sink_new
unread_causes status so sn ko k kn rose kept (inl (is, stays)) = inr (inl (is, rose, stays ∙ kept))
unread_causes status so sn ko k kn rose kept (inr (is, failed)) = inr (inr (is, rose_from ko k kn kept failed))

pub usage_causes : (status source sink_old sink_new : ℕ) → EndsAs 1 status sink_old sink_new
    → HasCauses status source source sink_old sink_new
usage_causes status s ko kn (inl (is, stays)) = inl (inl (omega (arith, is)), refl, stays)
usage_causes status s ko kn (inr failed) = inr (inr failed)

-- ---- the words are no command
pub usage_ends : (status sink_old sink_new : ℕ) (old new : Option (List ℕ)) → EndsAs 1 status sink_old sink_new
    → (status ≡ 1 → Appends old new usage_text) → (status ≡ 4 → AppendsFront old new usage_text) → EndsUsage status old new
usage_ends status ko kn u w (inl (is, stays)) whole cut = inl (is, whole is)
usage_ends status ko kn u w (inr (is, rose)) whole cut = inr (inl (is, cut is))
