use Rattle.std.proofs.Common.{rules, ◌≡◌, ◌<◌, slice_index_or, take, ap, ◌∙◌, vec_len}
use Rattle.std.proofs.lemmas.List.{get_or-take}
use Rattle.node_gate_tests.proofs.jobs.two_jobs.Goals as goal

pub meet-requires-2-clause-other : goal.meet-requires-2-clause-other
meet-requires-2-clause-other g c = let d = c.unwrap-other.result in
    let done = c.in_ok-done.done in let left = c.pop.new.self in
    let two : vec_len done ≡ 2 = search rules in
    let first : (slice_index_or done.items 0 d).0.gate ≡ c.in_ok-gate.gate = search rules in
    let rest : left.items ≡ take 1 done.items = search rules in
    let one : vec_len left ≡ 1 = search rules in
    let popped : d ≡ slice_index_or left.items 0 d = search rules in
    let within : 0 < 1 = search rules in
    ap (λ x. x.0.gate) (popped ∙ ap (λ xs. slice_index_or xs 0 d) rest
    ∙ get_or-take 1 done.items 0 d within) ∙ first
