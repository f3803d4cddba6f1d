use Rattle.std.proofs.Common.{◌≡◌, ◌++◌}
use Rattle.std.specs.Int.{w32, w64, to_be_bytes}
use Rattle.write_set.specs.Spelling.{step_text}
use Rattle.write_set.proofs.Puts.{on_ok, three_put}
use Rattle.write_set.proofs.writing.put_step.Goals as goal

pub returns : goal.returns
returns c =
    let w = c.args.w.now in
    let old = c.args.out.now in
    let new = c.put_u64.new.out in
    let last = to_be_bytes w64 w.last_seen in
    on_ok c.put_u64.result (new ≡ c.push.new.self ++ last) (new ≡ old ++ step_text w)
    (three_put old (to_be_bytes w32 w.fragment) w.flags last c.put_u32.new.out c.push.new.self new
    c.in_ok-put_u32.ensures.ok c.in_ok-push.ensures.ok)
    c.put_u64.ensures.ok
