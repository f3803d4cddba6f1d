use Rattle.std.proofs.Common.{rules, map, string_bytes, sym, ◌∙◌, inr, refl}
use Rattle.galera_run.specs.Words.{IsSteps, load_asked}
use Rattle.galera_run.proofs.Askings.{asked_first, steps_cut}
use Rattle.galera_run.proofs.Completeness.{steps_end_whole, asked_ends_whole, wanting_whole, none_whole, asked_replicates, steps_ask_none}
use Rattle.galera_run.proofs.RightStatuses.{steps_write}
use Rattle.galera_run.proofs.program.galera_steps.Goals as goal

pub returns-then-is_steps-clause-cut : goal.returns-then-is_steps-clause-cut
returns-then-is_steps-clause-cut g c = λ failed.
    let steps : IsSteps (map string_bytes c.args.words.now) = search rules in
    (λ is. c.do_steps.ensures.cut failed, steps_cut (map string_bytes c.args.words.now) _ _ steps)

pub returns-in-Ok-Some-clause-memory : goal.returns-in-Ok-Some-clause-memory
returns-in-Ok-Some-clause-memory g c = λ wanting.
    inr (
      asked_first (map string_bytes c.args.words.now) c.in-Ok-Some.asked
          (sym c.in-Ok-Some.field-0-is ∙ c.in-Ok-Some.ensures.ok),
      c.do_load.ensures.memory wanting,
    )

-- ---- the run is right
pub returns-then-is_steps-clause-right : goal.returns-then-is_steps-clause-right
returns-then-is_steps-clause-right g c =
    let d = c.do_steps.ensures in (
      λ is. steps_write _ _ _ _ c.do_steps.result _ _ _ _ d.cause d.no_usage d.finished d.script d.read d.cut
          d.memory,
      asked_replicates (map string_bytes c.args.words.now),
    )

pub returns-in-Ok-Some-clause-right : goal.returns-in-Ok-Some-clause-right
returns-in-Ok-Some-clause-right g c =
    let other : IsSteps (map string_bytes c.args.words.now) → ⊥ = search rules in
    (λ is. absurd (other is), asked_replicates (map string_bytes c.args.words.now))

pub returns-in-Ok-None-clause-right : goal.returns-in-Ok-None-clause-right
returns-in-Ok-None-clause-right g c =
    let other : IsSteps (map string_bytes c.args.words.now) → ⊥ = search rules in
    (λ is. absurd (other is), asked_replicates (map string_bytes c.args.words.now))

pub returns-clause-right : goal.returns-clause-right
returns-clause-right g c =
    let other : IsSteps (map string_bytes c.args.words.now) → ⊥ = search rules in
    (λ is. absurd (other is), asked_replicates (map string_bytes c.args.words.now))

-- ---- and without a fault its text is whole
pub returns-then-is_steps-clause-whole : goal.returns-then-is_steps-clause-whole
returns-then-is_steps-clause-whole g c =
    let words = map string_bytes c.args.words.now in
    let steps : IsSteps (map string_bytes c.args.words.now) = search rules in
    let d = c.do_steps.ensures in (
      λ is. steps_end_whole _ _ _ _ c.do_steps.result _ _ _ _ d.cause d.no_usage d.finished d.script,
      none_whole (load_asked words) _ _ _ _ _ (steps_ask_none words steps),
    )

pub returns-in-Ok-Some-clause-whole : goal.returns-in-Ok-Some-clause-whole
returns-in-Ok-Some-clause-whole g c =
    let words = map string_bytes c.args.words.now in
    let other : IsSteps (map string_bytes c.args.words.now) → ⊥ = search rules in (
      λ is. absurd (other is),
      asked_ends_whole (load_asked words) c.in-Ok-Some.asked _ _ _ _ _
          (sym c.in-Ok-Some.field-0-is ∙ c.in-Ok-Some.ensures.ok) c.do_load.ensures.cause
          c.do_load.ensures.finished,
    )

pub returns-in-Ok-None-clause-whole : goal.returns-in-Ok-None-clause-whole
returns-in-Ok-None-clause-whole g c =
    let words = map string_bytes c.args.words.now in
    let other : IsSteps (map string_bytes c.args.words.now) → ⊥ = search rules in (
      λ is. absurd (other is),
      none_whole (load_asked words) _ _ _ _ _
          (sym (sym c.in-Ok-None.field-0-is ∙ c.in-Ok-None.ensures.ok)),
    )

pub returns-clause-whole : goal.returns-clause-whole
returns-clause-whole g c =
    let other : IsSteps (map string_bytes c.args.words.now) → ⊥ = search rules in
    (λ is. absurd (other is), wanting_whole (load_asked (map string_bytes c.args.words.now)) _ _ _ _ _ refl)
