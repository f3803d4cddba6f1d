use Rattle.std.proofs.Common.{◌≡◌, ◌++◌}
use Rattle.std.specs.Int.{w32, w64, to_be_bytes}
use Rattle.write_set.proofs.Puts.{on_ok}
use Rattle.state_snapshot.specs.Spelling.{member_text}
use Rattle.state_snapshot.proofs.Puts.{three_put}
use Rattle.state_snapshot.proofs.writing.put_member.Goals as goal

pub returns : goal.returns
returns c =
    let item = c.args.item.now in
    let old = c.args.out.now in
    let new = c.put_u64-2.new.out in
    let last = to_be_bytes w64 item.serial in
    on_ok c.put_u64-2.result (new ≡ c.put_u64.new.out ++ last) (new ≡ old ++ member_text item)
    (three_put old (to_be_bytes w32 item.member) (to_be_bytes w64 item.report) last c.put_u32.new.out c.put_u64.new.out new
    c.in_ok-put_u32.ensures.ok c.in_ok-put_u64.ensures.ok)
    c.put_u64-2.ensures.ok
