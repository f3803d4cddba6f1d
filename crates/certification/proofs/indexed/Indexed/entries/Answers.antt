-- The index keeps the keys of all the commits.
use Rattle.std.proofs.Common.{List, ap, ◌∙◌}
use Rattle.finite_map.specs.FiniteMap.{len}
use Rattle.cert_meaning.specs.State.{FoldState}
use Rattle.cert_index.specs.Count.{latest_of}
use Rattle.cert_index.specs.declared.entry.Entry.{Entry}
use Rattle.cert_index.specs.Index.{entered}
use Rattle.certification.proofs.IndexHeld.{held-entered}
use Rattle.certification.proofs.indexed.Indexed.entries.Goals as goal

pub returns : goal.returns
returns c =
    c.entries.ensures
    ∙ ap (λ (es : List Entry). len (latest_of es))
    (held-entered c.self.inside.index c.self.inside.number c.self.inside.commits.items c.self.invariant
    ∙ ap (λ (s : FoldState). entered s.commits) c.self.view_is)
