use Rattle.std.proofs.Common.{◌≡◌, ◌++◌}
use Rattle.std.specs.Int.{w64, to_be_bytes}
use Rattle.write_set.specs.Spelling.{keys_text}
use Rattle.write_set.proofs.Puts.{on_ok}
use Rattle.state_snapshot.specs.Spelling.{trx_text, commit_text}
use Rattle.state_snapshot.proofs.Puts.{three_put}
use Rattle.state_snapshot.proofs.writing.put_commit.Goals as goal

pub returns : goal.returns
returns c =
    let commit = c.args.commit.now in
    let old = c.args.out.now in
    let new = c.put_all_keys.new.out in
    let last = keys_text commit.keys in
    on_ok c.put_all_keys.result (new ≡ c.put_trx.new.out ++ last) (new ≡ old ++ commit_text commit)
    (three_put old (to_be_bytes w64 commit.number) (trx_text commit.trx) last c.put_u64.new.out c.put_trx.new.out new
    c.in_ok-put_u64.ensures.ok c.in_ok-put_trx.ensures)
    c.put_all_keys.ensures
