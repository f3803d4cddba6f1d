-- The summary of `load` at worked counts and rows.
use Rattle.std.proofs.Common.{◌≡◌, ℕ, List, [], ◌∷◌, refl}
use Rattle.std.specs.Prelude.{codes}
use Rattle.std.specs.Fmt.{digits}
use Rattle.row_model.specs.declared.calls.Reply.TheVariants as reply
use Rattle.row_model.specs.declared.row.RowItem.{RowItem}
use Rattle.order_event.specs.declared.step.Answer.{Answer}
use Rattle.order_event.specs.declared.step.Answer.TheVariants as answer
use Rattle.report_text.specs.Load.{answers_text, counts_text, sum_text, counts_of}

abbrev answers : List Answer
answers =
    answer.Client reply.Done
    ∷ answer.Client (reply.Committed 0)
    ∷ answer.Client (reply.Committed 5)
    ∷ answer.Client (reply.Busy 2)
    ∷ answer.Client (reply.BusyApply 7)
    ∷ answer.Client (reply.HeldBy 9)
    ∷ answer.Client (reply.DeadlockCert 4)
    ∷ answer.Client (reply.DeadlockBf 4)
    ∷ answer.Client (reply.DeadlockCert 8)
    ∷ answer.At 9
    ∷ []

each_kind : counts_of answers ≡ record { committed = 1; deadlock_cert = 2; deadlock_bf = 1; busy = 3 }
each_kind = refl

summary : counts_text 7 500 (record { committed = 213; deadlock_cert = 34; deadlock_bf = 0; busy = 186 }) 498
    ≡ codes "load seed 7 count 500\ncommitted 213\ndeadlock cert 34\ndeadlock bf 0\nbusy 186\nevents 498\n"
unfolding answers_text counts_text digits
summary = refl

abbrev row : List ℕ → RowItem
row values = record { id = record { table = codes "acct"; row = codes "a" }; row = values }

of_first_values : sum_text 1 498 (row (5 ∷ 90 ∷ []) ∷ row (7 ∷ []) ∷ []) ≡ codes "node 1 at 498 rows 2 sum 12\n"
unfolding sum_text digits
of_first_values = refl

beyond_64_bits :
    sum_text 3 2 (row (18_446_744_073_709_551_615 ∷ []) ∷ row (18_446_744_073_709_551_615 ∷ []) ∷ [])
    ≡ codes "node 3 at 2 rows 2 sum 36893488147419103230\n"
unfolding sum_text digits
beyond_64_bits = refl
