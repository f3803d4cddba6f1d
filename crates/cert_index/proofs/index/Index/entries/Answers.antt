-- The table has no pair twice, so its length is the map's.
use Rattle.std.proofs.Common.{ap, ◌∙◌}
use Rattle.finite_map.specs.FiniteMap.{len}
use Rattle.cert_index.specs.Count.{latest_of}
use Rattle.cert_index.proofs.CountLemmas.{latest-len}
use Rattle.cert_index.proofs.index.Index.entries.Goals as goal

pub returns : goal.returns
returns c =
    c.len.ensures.len ∙ latest-len c.self.inside.latest.entries c.self.inside.kept.items c.len.ensures.unique c.self.invariant.found
    ∙ ap (λ es. len (latest_of es)) c.self.view_is
