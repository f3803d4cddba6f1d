-- Either set may come first.
use Rattle.std.proofs.Common.{◌∙◌}
use Rattle.key_sets.specs.Probes.{kind_test}
use Rattle.key_sets.proofs.MeetLemmas.{meet-symm}
use Rattle.key_sets.proofs.ProbeLemmas.{kind_test-symm}
use Rattle.key_sets.proofs.key_set.meeting.meet.Goals as goal

pub returns-else-len : goal.returns-else-len
returns-else-len c =
    c.meets-else-len.ensures
    ∙ meet-symm (kind_test c.args.relation) (kind_test-symm c.args.relation) c.args.b.now c.args.a.now
