use Rattle.order_event.proofs.Takes.{read_takes}
use Rattle.order_event.proofs.Again.{read_again, spelling_len}
use Rattle.order_event.proofs.laws.one_spelling.Goals as goal

pub returns-clause-again : goal.returns-clause-again
returns-clause-again c = read_again

pub returns-clause-only : goal.returns-clause-only
returns-clause-only c = read_takes

pub returns-clause-lengths : goal.returns-clause-lengths
returns-clause-lengths c = spelling_len
