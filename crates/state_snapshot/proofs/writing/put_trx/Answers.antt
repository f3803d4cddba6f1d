use Rattle.std.proofs.Common.{◌≡◌, ◌++◌}
use Rattle.std.specs.Int.{w32, w64, to_be_bytes}
use Rattle.write_set.proofs.Puts.{on_ok}
use Rattle.state_snapshot.specs.Spelling.{trx_text}
use Rattle.state_snapshot.proofs.Puts.{two_put}
use Rattle.state_snapshot.proofs.writing.put_trx.Goals as goal

pub returns : goal.returns
returns c =
    let trx = c.args.trx.now in
    let old = c.args.out.now in
    let new = c.put_u64.new.out in
    let last = to_be_bytes w64 trx.begin in
    on_ok c.put_u64.result (new ≡ c.put_u32.new.out ++ last) (new ≡ old ++ trx_text trx)
    (two_put old (to_be_bytes w32 trx.member) last c.put_u32.new.out new c.in_ok-put_u32.ensures.ok)
    c.put_u64.ensures.ok
