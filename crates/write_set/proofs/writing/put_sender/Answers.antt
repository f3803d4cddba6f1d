use Rattle.std.proofs.Common.{◌≡◌, ◌++◌}
use Rattle.std.specs.Int.{w32, w64, to_be_bytes}
use Rattle.write_set.specs.Spelling.{sender_text}
use Rattle.write_set.proofs.Puts.{on_ok, four_put}
use Rattle.write_set.proofs.writing.put_sender.Goals as goal

pub returns : goal.returns
returns c =
    let w = c.args.w.now in
    let old = c.args.out.now in
    let new = c.put_u64-2.new.out in
    let last = to_be_bytes w64 w.begin in
    on_ok c.put_u64-2.result (new ≡ c.put_u64.new.out ++ last) (new ≡ old ++ sender_text w)
    (four_put old 1 (to_be_bytes w32 w.member) (to_be_bytes w64 w.serial) last c.push.new.self c.put_u32.new.out c.put_u64.new.out new
    c.in_ok-push.ensures.ok c.in_ok-put_u32.ensures.ok c.in_ok-put_u64.ensures.ok)
    c.put_u64-2.ensures.ok
