-- The test of `retain` is that of the floor.
use Rattle.std.proofs.Common.{rules}
use Rattle.std.specs.Prelude.{nat_lt}
use Rattle.std.proofs.lemmas.Fn.{filter_same}
use Rattle.cert_meaning.specs.declared.items.CommitItem.{CommitItem}
use Rattle.state_snapshot.proofs.taking.drop_to_floor.Goals as goal

pub returns : goal.returns
returns c =
    filter_same _ (λ (commit : CommitItem). nat_lt c.args.floor commit.number) _ (λ x b f k. (search rules, search rules)) _ _ c.retain.ensures.filtered
