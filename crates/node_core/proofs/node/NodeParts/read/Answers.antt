-- The table of rows shows what the model's transaction sees.
use Rattle.std.proofs.Common.{refl, ap, ◌∙◌}
use Rattle.finite_map.specs.FiniteMap.{get}
use Rattle.node_meaning.specs.Node.{rows_at}
use Rattle.node_meaning.specs.Client.{row_reply}
use Rattle.node_core.proofs.Tabling.{sees}
use Rattle.node_core.proofs.node.NodeParts.read.Goals as goal

pub returns : goal.returns
returns c order st =
    c.row_reply.ensures
    ∙ ap row_reply (c.seen_by.ensures
    ∙ sees (rows_at order c.args.self.now.at.committed) c.args.self.now.live c.args.self.now.rows st.tables.rows c.args.session
    c.args.id.now (get c.args.self.now.live c.args.session) refl)
