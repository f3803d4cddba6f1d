-- The latest above what was last seen is the latest of all, where that is above.
use Rattle.std.proofs.Common.{sym, ap, ◌∙◌}
use Rattle.key_sets.specs.Kinds.{kinds_conflict}
use Rattle.cert_index.specs.Index.{meets, only_above}
use Rattle.cert_index.proofs.LatestLemmas.{latest-above}
use Rattle.cert_index.proofs.index.Index.conflict.Goals as goal

pub returns-clause-latest : goal.returns-clause-latest
returns-clause-latest g c =
    c.only_above.ensures ∙ ap (only_above c.args.last_seen) c.met.ensures.latest
    ∙ sym (latest-above (meets kinds_conflict c.args.keys.now.entries) c.args.last_seen c.args.self.now)
