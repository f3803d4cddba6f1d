use Rattle.std.proofs.Common.{inl, inr}
use Rattle.galera_run.proofs.Statuses.{refusal_cuts, refusal_lines, refused_causes, unread_cuts, unread_causes}
use Rattle.galera_run.proofs.program.do_steps.Goals as goal

pub returns-in-Err-Script-clause-cut : goal.returns-in-Err-Script-clause-cut
returns-in-Err-Script-clause-cut g c = λ failed.
    inl (
      rw c.in-Err-Script.field-0-is at c.in-Err-Script.ensures.read,
      refusal_cuts _ _ _ _ c.in-Err-Script.line c.in-Err-Script.cause (rw c.in-Err-Script.field-0-is at c.in-Err-Script.ensures.err)
          (c.end_refused.ensures.cut failed),
    )

pub returns-in-Err-Read-clause-cut : goal.returns-in-Err-Read-clause-cut
returns-in-Err-Read-clause-cut g c = λ failed.
    inr (
      rw c.in-Err-Read.field-0-is at c.in-Err-Read.ensures.read,
      unread_cuts _ _ _ _ _ (rw c.in-Err-Read.field-0-is at c.in-Err-Read.ensures.err) (c.end_with.ensures.cut failed),
    )

pub returns-in-Err-Script-clause-memory : goal.returns-in-Err-Script-clause-memory
returns-in-Err-Script-clause-memory g c = λ wanting.
    refusal_lines _ _ _ _ c.in-Err-Script.line c.in-Err-Script.cause
    (rw c.in-Err-Script.field-0-is at c.in-Err-Script.ensures.err) (c.end_refused.ensures.memory wanting)

pub returns-in-Err-Script-clause-cause : goal.returns-in-Err-Script-clause-cause
returns-in-Err-Script-clause-cause g c =
    refused_causes _ _ _ _ _ _ (rw c.in-Err-Script.field-0-is at c.in-Err-Script.ensures.read)
    (rw c.in-Err-Script.field-0-is at c.in-Err-Script.ensures.write) c.end_refused.ensures.cause

pub returns-in-Err-Read-clause-cause : goal.returns-in-Err-Read-clause-cause
returns-in-Err-Read-clause-cause g c =
    unread_causes _ _ _ _ _ _ (rw c.in-Err-Read.field-0-is at c.in-Err-Read.ensures.read)
    (rw c.in-Err-Read.field-0-is at c.in-Err-Read.ensures.write) c.end_with.ensures.cause
