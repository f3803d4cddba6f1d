use Rattle.std.proofs.Common.{◌≤◌, length, subst, sym}
use Rattle.cert_meaning.specs.declared.items.Fragment.{Fragment}
use Rattle.std.specs.Int.{w32, to_be_bytes}
use Rattle.state_snapshot.specs.Spelling.{fragment_text}
use Rattle.state_snapshot.proofs.Puts.{item_put}
use Rattle.state_snapshot.proofs.Counts.{at_index}
use Rattle.state_snapshot.proofs.writing.put_fragments.Goals as goal

pub put_fragment-requires : goal.put_fragment-requires
put_fragment-requires c =
    let few = λ (fragment : Fragment). length fragment.ops ≤ 8192 in
    subst few (sym c.fragment-item.is)
    (at_index few c.args.fragments.now c.loop-fragment.fragment-index c.fragment-item.result c.requires.few c.loop-fragment-test.true)

pub loop-fragment-preserved : goal.loop-fragment-preserved
loop-fragment-preserved c =
    item_put fragment_text c.args.fragments.now c.loop-fragment.fragment-index c.fragment-item.result c.args.out.now (to_be_bytes w32 (length c.args.fragments.now)) c.loop-fragment.out
    c.put_fragment.new.out c.loop-fragment-test.true c.fragment-item.is c.loop-fragment.invariant c.in_ok-put_fragment.ensures
