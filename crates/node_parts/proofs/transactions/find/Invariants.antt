use Rattle.node_parts.specs.Sessions.{is_wanted}
use Rattle.node_parts.proofs.SearchLaws.{NoneBelow}
use Rattle.node_parts.proofs.transactions.find.Given as goal

abbrev pub invariant-loop-session : goal.invariant-loop-session
invariant-loop-session l = NoneBelow (λ e. is_wanted l.wanted e.1) l.live l.session
