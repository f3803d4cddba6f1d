-- Counts of answers, one answer after another.
use Rattle.std.proofs.Common.{◌≡◌, ℕ, ◌+◌, ◌≤◌, Bool, true, false, cond, List, [], ◌∷◌, arith}
use Rattle.std.specs.List.{count_by}
use Rattle.std.proofs.lemmas.List.Sums.{sum_by-append}
use Rattle.order_event.specs.declared.step.Answer.{Answer}
use Rattle.report_text.specs.declared.load.LoadCounts.{LoadCounts}
use Rattle.report_text.specs.Load.{is_committed, is_deadlock_cert, is_deadlock_bf, is_busy, counts_of, together, IsCountOf}

one_before : (test : Answer → Bool) (n : ℕ) (a : Answer) (answers : List Answer)
    → n + count_by test (a ∷ []) + count_by test answers ≡ n + count_by test (a ∷ answers)
one_before test n a answers = omega (arith, sum_by-append (λ x. cond (test x) 1 0) (a ∷ []) answers)

-- An answer is counted behind those before it, or before those behind it.
pub count_next : (c : LoadCounts) (a : Answer) (answers : List Answer)
    → together (together c (counts_of (a ∷ []))) (counts_of answers) ≡ together c (counts_of (a ∷ answers))
count_next c a answers =
    let committed = one_before is_committed c.committed a answers in
    let cert = one_before is_deadlock_cert c.deadlock_cert a answers in
    let bf = one_before is_deadlock_bf c.deadlock_bf a answers in
    let busy = one_before is_busy c.busy a answers in
    λ i. record { committed = committed i; deadlock_cert = cert i; deadlock_bf = bf i; busy = busy i }

once : (b : Bool) (n answers : ℕ) → n ≤ answers → n + (0 + cond b 1 0) ≤ answers + 1
once true n answers few = omega arith
once false n answers few = omega arith

-- an answer raises a count by one at most
pub count_within : (c : LoadCounts) (answers : ℕ) (a : Answer) → IsCountOf answers c
    → IsCountOf (answers + 1) (together c (counts_of (a ∷ [])))
count_within c answers a few = record {
  committed = once (is_committed a) c.committed answers few.committed;
  deadlock_cert = once (is_deadlock_cert a) c.deadlock_cert answers few.deadlock_cert;
  deadlock_bf = once (is_deadlock_bf a) c.deadlock_bf answers few.deadlock_bf;
  busy = once (is_busy a) c.busy answers few.busy;
}
