use Rattle.cert_meaning.proofs.FloorLaws.{floor_rises}
use Rattle.cert_meaning.proofs.OpenLaws.{open_stay}
use Rattle.cert_meaning.proofs.SeenLaws.{rows_seen}
use Rattle.cert_meaning.proofs.ChangeLaws.{commits_change, nothing_else}
use Rattle.cert_meaning.proofs.laws.fold_laws.Goals as goal

pub returns : goal.returns
returns c = record {
  unopposed = open_stay;
  as_seen = rows_seen;
  floor = floor_rises;
  changed = commits_change;
  unchanged = nothing_else;
}
