use Rattle.std.proofs.Common.{◌≡◌, ◌+◌, ◌*◌, ◌≤◌, length, drop}
use Rattle.key_sets.specs.declared.relation.Relation.TheVariants.{Conflict}
use Rattle.key_sets.specs.Probes.{kind_test}
use Rattle.cert_meaning.specs.Extremes.{greater}
use Rattle.cert_index.specs.Index.{latest, meets}
use Rattle.cert_index.proofs.index.Index.met.Given as goal

-- what was found, and the latest that meets the keys that are left
abbrev pub invariant-loop-parts : goal.invariant-loop-parts
invariant-loop-parts g l = record {
  latest : greater l.latest (latest (meets (kind_test l.relation) (drop l.parts-index l.parts-items)) l.self)
      ≡ latest (meets (kind_test l.relation) l.parts-items) l.self;
  most : l.steps + 5 * length (drop l.parts-index l.parts-items) ≤ l.fn.steps + 5 * length l.parts-items;
  conflict : l.relation ≡ Conflict
      → l.steps + 4 * length (drop l.parts-index l.parts-items) ≤ l.fn.steps + 4 * length l.parts-items;
}
