use Rattle.write_set.proofs.WholeLaws.{read_takes, read_again}
use Rattle.write_set.proofs.laws.one_spelling.Goals as goal

pub returns : goal.returns
returns c = record { again = read_again; only = read_takes }
