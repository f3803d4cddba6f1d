use Rattle.std.proofs.Common.{◌≡◌, ◌-◌, arith, ap, None}
use Rattle.finite_map.specs.FiniteMap.{empty, len-empty}
use Rattle.key_sets.specs.Parts.{parts_cmp}
use Rattle.key_sets.specs.declared.kind.Kind.{Kind}
use Rattle.state_snapshot.specs.Reading.{each_at, whole_key_at, with_both}
use Rattle.write_set.proofs.Loops.{key_grows}
use Rattle.state_snapshot.proofs.Runs.{key_goes_on, key_ends, keys_done}
use Rattle.state_snapshot.proofs.keys.some_whole_keys_of.Goals as goal

pub loop-init : goal.loop-init
loop-init c =
    let all : c.args.count - 0 ≡ c.args.count = omega arith in
    rw c.in_ok-keys.ensures.empty (record {
      few = rw (len-empty parts_cmp Kind) (omega arith);
      so_far = ap (λ n. with_both empty c.args.whole.now (each_at whole_key_at n (None, c.args.whole.now) c.args.cursor)) all;
    })

pub returns-in-Err : goal.returns-in-Err
returns-in-Err c =
    key_ends c.in-Err.fault c.loop.keys c.loop.whole c.args.count c.loop.counter c.loop.before c.loop.rest
    (with_both empty c.args.whole.now (each_at whole_key_at c.args.count (None, c.args.whole.now) c.args.cursor))
    c.loop-test.true c.in-Err.ensures c.loop.invariant.so_far

pub loop-preserved : goal.loop-preserved
loop-preserved c =
    rw c.in-Ok-add.ensures.ok (record {
      few = key_grows c.loop.keys c.in-Ok.key.0 c.in-Ok.key.1 c.loop.counter c.loop.invariant.few;
      so_far = key_goes_on c.loop.keys c.loop.whole c.args.count c.loop.counter c.loop.before c.loop.rest c.in-Ok.key.0 c.in-Ok.key.1
          c.whole_key_of.new.whole c.in-Ok.key.2
          (with_both empty c.args.whole.now (each_at whole_key_at c.args.count (None, c.args.whole.now) c.args.cursor))
          c.loop-test.true c.in-Ok.ensures c.loop.invariant.so_far;
    })

pub returns : goal.returns
returns c =
    keys_done c.loop.keys c.loop.whole c.args.count c.loop.counter c.loop.before c.loop.rest
    (with_both empty c.args.whole.now (each_at whole_key_at c.args.count (None, c.args.whole.now) c.args.cursor))
    c.loop-test.false c.loop.invariant.so_far
