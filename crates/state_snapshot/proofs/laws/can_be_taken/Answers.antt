use Rattle.state_snapshot.proofs.TakeLaws as laws
use Rattle.state_snapshot.proofs.RangeLaws.{in_range}
use Rattle.state_snapshot.proofs.laws.can_be_taken.Goals as goal

pub returns-clause-rules : goal.returns-clause-rules
returns-clause-rules c = laws.can_be_taken

pub returns-clause-range : goal.returns-clause-range
returns-clause-range c = in_range
