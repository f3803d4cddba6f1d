use Rattle.std.proofs.Common.{◌≡◌, length}
use Rattle.std.specs.Map.{lookup}
use Rattle.cert_index.specs.declared.pair.Pair.{Pair}
use Rattle.cert_index.specs.Index.{above}
use Rattle.cert_index.specs.Pairs.{pair_eq}
use Rattle.cert_index.specs.Table.{RiseFrom}
use Rattle.cert_index.proofs.TableLemmas.{left}
use Rattle.cert_index.proofs.table.drop_old.Given as goal

-- what is left of the entries decides what is kept and what is found in the end
abbrev pub invariant-loop-entry : goal.invariant-loop-entry
invariant-loop-entry l = record {
  kept : above l.to l.kept.items ≡ above l.to l.initial.kept.items;
  rise : RiseFrom 0 l.kept.items;
  found : (q : Pair) → left l.to l.kept.items q (lookup (pair_eq q) l.latest.entries)
      ≡ left l.to l.initial.kept.items q (lookup (pair_eq q) l.initial.latest.entries);
}

abbrev pub decreases-loop-entry : goal.decreases-loop-entry
decreases-loop-entry l = length l.kept.items
