use Rattle.std.proofs.Common.{subst}
use Rattle.node_core.specs.Watching.{Hears}
use Rattle.node_core.proofs.Hearing.{heard_next}
use Rattle.node_core.proofs.watched.NodeOf.advance.Goals as goal

-- the watcher hears the note that is due
pub returns-clause-hears : goal.returns-clause-hears
returns-clause-hears g c order stands =
    subst (λ note. Hears g.W.Watcher.notes note c.args.self.now.watcher c.tell.new.watcher)
    (c.advance-advanced.ensures.note order stands) c.tell.ensures.hears

pub returns-clause-heard : goal.returns-clause-heard
returns-clause-heard g c first order stands heard =
    heard_next g.W.Watcher.notes first order c.args.self.now.parts.at.committed c.advance-advanced.new.self.at.committed
    c.advance-advanced.result.0 c.args.self.now.watcher c.tell.new.watcher c.advance-advanced.ensures.to
    (returns-clause-hears g c order stands) heard
