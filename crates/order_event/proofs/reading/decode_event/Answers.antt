use Rattle.std.proofs.Common.{◌≡◌, ℕ, List, Result, Ok, Err, ap, subst, ◌∙◌, arith}
use Rattle.std.specs.Prelude.{IfOk}
use Rattle.order_event.specs.declared.event.Event.{Event}
use Rattle.order_event.specs.declared.fault.EventFault.{EventFault}
use Rattle.order_event.specs.Spelling.{spelling, HasSpelling}
use Rattle.wsrep_base.proofs.Fields.{IsBytes}
use Rattle.order_event.specs.Reading.{Gives, read}
use Rattle.order_event.proofs.Takes.{read_takes}
use Rattle.order_event.proofs.Again.{read_again}
use Rattle.order_event.proofs.reading.decode_event.Goals as goal

is_found : (bytes : List ℕ) (r : Result Event EventFault) → IsBytes bytes → Gives (λ e. e) r (read bytes)
    → IfOk r (λ e. HasSpelling e × (bytes ≡ spelling e))
is_found bytes (Ok e) are given = read_takes bytes e are given
is_found bytes (Err fault) are given = tt

pub returns-clause-found : goal.returns-clause-found
returns-clause-found c =
    is_found c.args.bytes.now c.whole.result (λ i. omega (arith, c.type_inv.bytes i)) c.whole.ensures

pub returns-clause-only : goal.returns-clause-only
returns-clause-only c = λ e fits has is.
    subst (λ (reading : Result Event EventFault). Gives (λ x. x) c.whole.result reading)
    (ap read is ∙ read_again e fits has) c.whole.ensures
