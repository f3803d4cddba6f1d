use Rattle.std.proofs.Common.{◌≡◌, ◌-◌, true, false, arith, ap, None}
use Rattle.finite_map.specs.FiniteMap.{empty, len-empty}
use Rattle.key_sets.specs.Parts.{parts_cmp}
use Rattle.key_sets.specs.declared.kind.Kind.{Kind}
use Rattle.write_set.specs.Reading.{is_above, some_keys_at, with_read}
use Rattle.write_set.proofs.Loops.{key_goes_on, key_ends, key_falls, keys_done, key_grows}
use Rattle.write_set.proofs.keys.some_keys_of.Goals as goal

pub loop-init : goal.loop-init
loop-init c =
    let all : c.args.count - 0 ≡ c.args.count = omega arith in
    rw c.in_ok-keys.ensures.empty (record {
      few = rw (len-empty parts_cmp Kind) (omega arith);
      so_far = ap (λ n. with_read empty (some_keys_at n None c.args.cursor)) all;
    })

pub returns-in-Err : goal.returns-in-Err
returns-in-Err c =
    key_ends c.in-Err.fault c.loop.keys c.args.count c.loop.counter c.loop.before c.loop.rest
    (with_read empty (some_keys_at c.args.count None c.args.cursor)) c.loop-test.true c.in-Err.ensures c.loop.invariant.so_far

pub returns-then-not-is_above : goal.returns-then-not-is_above
returns-then-not-is_above c =
    let falls : is_above c.loop.before c.in-Ok.key.0 ≡ false = cc in
    rw c.at-at.ensures.value (key_falls c.loop.keys c.args.count c.loop.counter c.loop.before c.loop.rest c.in-Ok.key.0 c.in-Ok.key.1 c.in-Ok.key.2
    (with_read empty (some_keys_at c.args.count None c.args.cursor)) c.loop-test.true c.in-Ok.ensures falls c.loop.invariant.so_far)

pub loop-preserved : goal.loop-preserved
loop-preserved c =
    let rises : is_above c.loop.before c.in-Ok.key.0 ≡ true = cc in
    rw c.in-Ok-add.ensures.ok (record {
      few = key_grows c.loop.keys c.in-Ok.key.0 c.in-Ok.key.1 c.loop.counter c.loop.invariant.few;
      so_far = key_goes_on c.loop.keys c.args.count c.loop.counter c.loop.before c.loop.rest c.in-Ok.key.0 c.in-Ok.key.1 c.in-Ok.key.2
          (with_read empty (some_keys_at c.args.count None c.args.cursor)) c.loop-test.true c.in-Ok.ensures rises c.loop.invariant.so_far;
    })

pub returns : goal.returns
returns c =
    keys_done c.loop.keys c.args.count c.loop.counter c.loop.before c.loop.rest
    (with_read empty (some_keys_at c.args.count None c.args.cursor)) c.loop-test.false c.loop.invariant.so_far
