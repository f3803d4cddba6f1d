-- Each key is entered at the end, and found from then on.
use Rattle.std.proofs.Common.{[], get_or, None, arith}
use Rattle.key_sets.specs.declared.kind.Kind.{Kind}
use Rattle.key_sets.specs.declared.kind.Kind.TheVariants.{Shared}
use Rattle.key_sets.specs.declared.parts.Parts.{Parts}
use Rattle.cert_index.proofs.TableLemmas.{entered-more, kept-next, up_to-next}
use Rattle.cert_index.proofs.table.enter_all.Goals as goal

abbrev blank : Parts × Kind
blank = (record { table = []; row = None }, Shared)

pub loop-key-preserved : goal.loop-key-preserved
loop-key-preserved c = record {
  kept = kept-next c.args.number c.args.keys.now c.loop-key.key-index blank c.args.kept.now.items c.loop-key.kept.items _
      c.loop-key-test.true c.loop-key.invariant.kept c.push_back_reserved.ensures.items;
  finds = entered-more c.loop-key.latest.entries c.enter_key.new.latest.entries c.args.number
      (get_or c.args.keys.now c.loop-key.key-index blank) c.loop-key.kept.items _ c.push_back_reserved.ensures.items
      c.loop-key.invariant.up_to c.loop-key.invariant.finds c.enter_key.ensures.latest;
  up_to = up_to-next c.args.number (get_or c.args.keys.now c.loop-key.key-index blank) c.loop-key.kept.items _
      c.push_back_reserved.ensures.items c.loop-key.invariant.up_to;
  room = omega (arith, c.enter_key.ensures.spare, c.loop-key.invariant.room);
  places = omega (arith, c.push_back_reserved.ensures.len, c.push_back_reserved.ensures.capacity, c.loop-key.invariant.places);
}
