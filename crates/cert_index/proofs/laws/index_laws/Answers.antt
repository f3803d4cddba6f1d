use Rattle.std.proofs.Common.{refl}
use Rattle.cert_index.proofs.HoldLemmas.{finds_conflict, finds_touch, holds_entered, holds_purged}
use Rattle.cert_index.proofs.laws.index_laws.Goals as goal

pub returns : goal.returns
returns c = record {
  none = refl;
  entered = holds_entered;
  purged = holds_purged;
  conflict = finds_conflict;
  touch = finds_touch;
}
