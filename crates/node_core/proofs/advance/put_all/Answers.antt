use Rattle.std.proofs.Common.{ap, ◌∙◌, arith}
use Rattle.finite_map.specs.FiniteMap.{get}
use Rattle.node_core.proofs.PutLoop.{put_more, free_at, take_whole}
use Rattle.node_core.proofs.advance.put_all.Goals as goal

pub put-requires-clause-free : goal.put-requires-clause-free
put-requires-clause-free c =
    ap (λ changes. get changes c.loop-id-item.result.0) c.loop-id.invariant.1
    ∙ free_at c.args.rows.now.changes c.args.results.now c.loop-id.id-index c.loop-id-item.result c.loop-id-test.true c.loop-id-item.is c.requires.free

pub loop-id-preserved : goal.loop-id-preserved
loop-id-preserved c =
    let kept = c.loop-id.invariant.2 in
    let less = c.put.ensures.spare in (
      put_more c.args.results.now c.loop-id.id-index c.loop-id-item.result c.args.rows.now.committed c.loop-id.rows.committed
          c.put.new.self.committed c.loop-id-test.true c.loop-id-item.is c.loop-id.invariant.0 c.put.ensures.committed,
      c.put.ensures.changes ∙ c.loop-id.invariant.1,
      omega (arith, kept, less),
    )

pub returns-clause-committed : goal.returns-clause-committed
returns-clause-committed c =
    let few = c.loop-id.auto.id-index-end in
    c.loop-id.invariant.0
    ∙ take_whole c.args.results.now c.loop-id.id-index c.args.rows.now.committed (omega (arith, few, c.loop-id-test.false))
