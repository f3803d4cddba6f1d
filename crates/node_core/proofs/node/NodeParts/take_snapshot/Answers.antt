-- The node takes the state that the bytes spell.
use Rattle.std.proofs.Common.{◌≡◌, ◌≤◌, ℕ, Ok, sym, subst, ap, ◌∙◌}
use Rattle.cert_meaning.specs.State.{FoldState}
use Rattle.cert_meaning.specs.Parts.{rows_of, state_of}
use Rattle.cert_meaning.specs.declared.parts.StateParts.{StateParts}
use Rattle.state_snapshot.specs.Reading.{installed}
use Rattle.state_snapshot.proofs.StateLaws.{state_back}
use Rattle.node_core.specs.declared.node.NodeParts.{NodeParts}
use Rattle.node_core.specs.Joining.{TookSnapshot, has_installed}
use Rattle.node_core.proofs.SnapCalls.{IsCertifiedBy, parts_rise, parts_settled, took_snapshot}
use Rattle.node_core.proofs.node.NodeParts.take_snapshot.Goals as goal

pub installed-requires-clause-rise : goal.installed-requires-clause-rise
installed-requires-clause-rise c =
    parts_rise _ c.in-Ok.installed.0 c.in-Ok.installed.1 c.in-Ok.ensures.found c.in_ok-parts.parts
    c.in_ok-parts.ensures

pub installed-requires-clause-settled : goal.installed-requires-clause-settled
installed-requires-clause-settled c =
    parts_settled _ c.in-Ok.installed.0 c.in-Ok.installed.1 c.in-Ok.ensures.found
    c.in_ok-parts.parts c.in_ok-parts.ensures

pub returns-clause-ok : goal.returns-clause-ok
returns-clause-ok c =
    let old = c.args.self.now in
    let bytes = c.args.bytes.now in
    let state = c.in-Ok.installed.0 in
    let named = c.in-Ok.installed.1 in
    let parts = c.in_ok-parts.parts in
    let rows = c.in_ok-rows.rows in
    let certification = c.in_ok-certification.certification in
    let are : state_of parts ≡ state = ap state_of c.in_ok-parts.ensures ∙ state_back state in
    let number : parts.number ≡ state.number =
    ap (λ (p : StateParts). p.number) c.in_ok-parts.ensures in
    let committed : rows.committed ≡ state.rows =
    c.in_ok-rows.ensures.committed ∙ ap rows_of c.as_slice-2.ensures
    ∙ ap (λ (s : FoldState). s.rows) are in
    let certifies : IsCertifiedBy state certification =
    λ order at within same. c.in_ok-certification.ensures order at within (are ∙ same) in
    let spare : old.units.room ≤ rows.spare =
    subst (λ k. k ≤ rows.spare) c.room.ensures.value c.in_ok-rows.ensures.spare in
    let is : installed bytes ≡ Ok (state, named) =
    ap installed (sym c.as_slice.ensures) ∙ c.in-Ok.ensures.exact in
    subst (λ (n : NodeParts). TookSnapshot bytes old n parts.number) (sym c.install-2.ensures)
    (subst (λ (k : ℕ). TookSnapshot bytes old (has_installed old k named rows certification) k)
    (sym number)
    (took_snapshot old state named rows certification c.requires.rests committed
    c.in_ok-rows.ensures.changes spare certifies bytes is))
