-- A slice with no keys is that of the empty set alone.
use Rattle.std.proofs.Common.{arith, length, sym, ap, ◌∙◌}
use Rattle.std.proofs.lemmas.Bool.Decides.{nat_tests}
use Rattle.key_sets.proofs.TableLemmas.{none-empty, empty-none}
use Rattle.key_sets.proofs.key_set.KeySet.is_empty.Goals as goal

pub returns : goal.returns
returns c =
    let same = ap length c.as_slice.ensures in
    (λ is. none-empty c.args.self.now (sym same ∙ grind (arith, nat_tests)), λ is. let none = same ∙ empty-none c.args.self.now is in grind (arith, nat_tests))
