-- The keys rise, so they are those of the set that they are seen as.
use Rattle.std.proofs.Common.{sym, ap, ◌∙◌}
use Rattle.key_sets.specs.Keys.{Keys}
use Rattle.key_sets.proofs.TableLemmas.{entries-keys_from}
use Rattle.key_sets.proofs.key_set.KeySet.as_slice.Goals as goal

pub returns : goal.returns
returns c =
    c.as_slice.ensures ∙ sym (entries-keys_from c.self.inside.keys.items c.self.invariant.0)
    ∙ ap (λ (keys : Keys). keys.entries) c.self.view_is
