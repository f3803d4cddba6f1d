use Rattle.certification.proofs.Trimmed.{same_verdict, goes_on}
use Rattle.certification.proofs.laws.trimmed_states_go_on.Goals as goal

pub returns : goal.returns
returns c = record { verdict = same_verdict; next = goes_on }
