use Rattle.row_locks.proofs.AlikeLaws.{block_alike, touch_alike}
use Rattle.row_locks.proofs.laws.lock_laws.Goals as goal

pub returns : goal.returns
returns c = record { block = block_alike; touch = touch_alike }
