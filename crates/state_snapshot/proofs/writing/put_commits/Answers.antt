use Rattle.std.proofs.Common.{length}
use Rattle.std.specs.Int.{w32, to_be_bytes}
use Rattle.state_snapshot.specs.Spelling.{commit_text}
use Rattle.state_snapshot.proofs.Puts.{item_put}
use Rattle.state_snapshot.proofs.writing.put_commits.Goals as goal

pub loop-commit-preserved : goal.loop-commit-preserved
loop-commit-preserved c =
    item_put commit_text c.args.commits.now c.loop-commit.commit-index c.commit-item.result c.args.out.now (to_be_bytes w32 (length c.args.commits.now)) c.loop-commit.out
    c.put_commit.new.out c.loop-commit-test.true c.commit-item.is c.loop-commit.invariant c.in_ok-put_commit.ensures
