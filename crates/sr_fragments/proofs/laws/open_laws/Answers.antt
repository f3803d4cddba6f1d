use Rattle.sr_fragments.proofs.DropLemmas.{drops}
use Rattle.sr_fragments.proofs.FollowingLaws.{begins, follows, holds}
use Rattle.sr_fragments.proofs.laws.open_laws.Goals as goal

pub returns-clause-begins : goal.returns-clause-begins
returns-clause-begins c = begins

pub returns-clause-follows : goal.returns-clause-follows
returns-clause-follows c = follows

pub returns-clause-holds : goal.returns-clause-holds
returns-clause-holds c = holds

pub returns-clause-dropped : goal.returns-clause-dropped
returns-clause-dropped c = drops
