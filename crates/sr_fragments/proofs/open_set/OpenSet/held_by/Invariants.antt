use Rattle.std.proofs.Common.{◌≡◌, drop}
use Rattle.cert_meaning.specs.Extremes.{greater}
use Rattle.cert_meaning.specs.State.{fragments_but}
use Rattle.sr_fragments.specs.OpenSet.{latest, meets}
use Rattle.sr_fragments.proofs.open_set.OpenSet.held_by.Given as goal

-- what was found, and the latest that touches the keys that are left
abbrev pub invariant-loop-parts : goal.invariant-loop-parts
invariant-loop-parts l =
    greater l.greatest (latest (meets (drop l.parts-index l.parts-items)) (fragments_but l.self l.other_than))
    ≡ latest (meets l.parts-items) (fragments_but l.self l.other_than)
