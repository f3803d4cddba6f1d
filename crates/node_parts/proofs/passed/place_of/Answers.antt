use Rattle.std.proofs.Common.{◌≡◌, ℕ, rules, length, subst, sym, arith}
use Rattle.std.specs.List.Sorted.{IsSearchInRange}
use Rattle.std.proofs.lemmas.Grind.{common_steps}
use Rattle.std.proofs.lemmas.List.Sorted.{answers_always}
use Rattle.node_parts.specs.Passed.{IsPlace}
use Rattle.node_parts.proofs.RisingLaws.{searched}
use Rattle.node_parts.proofs.passed.place_of.Goals as goal

-- the closure gives a commit's number
pub returns : goal.returns
returns c =
    let facts = c.binary_search_by_key.ensures in
    let by_number = facts.position (λ commit. commit.0) (answers_always _ _ _ (λ f a r g called. search rules)) in
    let long : c.args.commits.now.len ≡ length c.args.commits.now.items = grind (arith, common_steps) in
    subst (IsPlace c.args.commits.now.items c.args.number) (sym c.ok.ensures.value)
    (searched c.args.commits.now.items c.requires c.args.number _
    (subst (λ (n : ℕ). IsSearchInRange c.binary_search_by_key.result n) long facts.bound) by_number)
