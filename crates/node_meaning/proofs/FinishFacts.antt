-- Finishing a unit keeps the facts of a node: the unit has the keys that it had.
use Rattle.std.proofs.Common.{◌≡◌, ℕ, List, ap, sym, ◌∙◌}
use Rattle.key_sets.specs.Keys.{touches}
use Rattle.order_event.specs.declared.event.Event.{Event}
use Rattle.node_meaning.specs.Node.{ApplyUnit}
use Rattle.node_meaning.specs.Facts.{HasUnit}

pub same_unit : (order : List Event) (p c k : ℕ) (u w : ApplyUnit) → w.keys ≡ u.keys → HasUnit order p c k u → HasUnit order p c k w
same_unit order p c k u w same h = record {
  above = h.above;
  within = h.within;
  item = h.item;
  is_commit = h.is_commit;
  keys = h.keys ∙ sym same;
  clear = λ earlier d above below is. ap (touches d.keys) same ∙ h.clear earlier d above below is;
}
