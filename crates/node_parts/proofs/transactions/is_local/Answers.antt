use Rattle.std.proofs.Common.{◌∙◌, ap, is_some}
use Rattle.trx_replay.specs.Replay.{is_certified_at}
use Rattle.node_parts.proofs.SearchLaws.{any_found}
use Rattle.node_parts.proofs.UnitLaws.{some_mapped}
use Rattle.node_parts.proofs.transactions.is_local.Goals as goal

pub returns : goal.returns
returns c =
    c.is_some.ensures ∙ ap is_some c.find.ensures.value ∙ some_mapped (λ e. e.0) _
    ∙ any_found (λ e. is_certified_at c.args.number e.1.status) c.args.live.now.entries
