use Rattle.std.proofs.Common.{rules, ◌≡◌, List, [], ◌∷◌, sym, subst, Option, Some}
use Rattle.atomic_table.specs.Table.{opening}
use Rattle.node_gate.specs.Views.{newcomer}
use Rattle.node_gate.specs.Law.{Law}
use Rattle.node_gate.proofs.Moves.{opens_allowed}
use Rattle.node_gate.proofs.gate.Gate.new.Goals as goal

pub new-requires : goal.new-requires
new-requires g c = let counted = g.C.Counted in let value = c.args.value in
    let n = c.committed-number.result in
    let items : c.push_reserved.new.self.items ≡ Some value ∷ [] = search rules in
    let about : c.of-about.result.value ≡ value = search rules in
    subst (λ (z : List (Option g.row.C.Denot) × g.row.C.Denot).
    Law counted.entries counted.number counted.mark counted.may
    (opening (0 ∷ 0 ∷ n ∷ []) z.0 (newcomer 0 [] 0 (Some (counted.mark z.1)))))
    (λ i. (sym items i, sym about i))
    (opens_allowed counted.entries counted.number counted.mark counted.may value n c.requires
    c.committed-number.ensures)
