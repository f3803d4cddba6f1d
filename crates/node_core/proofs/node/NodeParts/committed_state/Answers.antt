-- What is kept, with the rows, trimmed is the order's state trimmed.
use Rattle.std.proofs.Common.{◌≡◌, ◌∙◌, sym, ap, subst}
use Rattle.cert_meaning.specs.State.{RiseWithin}
use Rattle.cert_meaning.specs.declared.parts.StateParts.{StateParts}
use Rattle.node_core.proofs.GiveCalls.{given_parts, given_rise, state_made}
use Rattle.node_core.proofs.node.NodeParts.committed_state.Goals as goal

pub of-requires : goal.of-requires
of-requires c =
    subst (λ (parts : StateParts). RiseWithin 0 parts.number parts.commits) (sym c.in_ok-parts.ensures)
    (given_rise c.requires.stands.0 c.args.self.now c.requires.stands.1)

pub returns : goal.returns
returns c =
    let node = c.args.self.now in
    let parts : StateParts = record c.in_ok-parts.parts { rows = c.in_ok-parts-2.field-0 } in
    let are : parts ≡ given_parts node =
    ap (λ (p : StateParts). record p { rows = c.in_ok-parts-2.field-0 }) c.in_ok-parts.ensures
    ∙ ap (λ rows. record (given_parts node) { rows = rows }) c.in_ok-parts-2.ensures in
    state_made node parts c.of.result c.requires.all are c.of.ensures
