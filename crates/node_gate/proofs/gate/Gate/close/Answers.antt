use Rattle.std.proofs.Common.{rules, ◌≡◌, length, refl, sym, ap, ◌∙◌, subst, Some}
use Rattle.std.specs.Option.{IsSome}
use mathlib.Core.Option.{some-injective}
use lib.ListN.{get_elem?}
use Rattle.node_gate.specs.Calls.{Known, Ended}
use Rattle.node_gate.proofs.Ends.{closes}
use Rattle.node_gate.proofs.gate.Gate.close.Goals as goal

pub unwrap-requires : goal.unwrap-requires
unwrap-requires g c = let counted = g.C.Counted in let is = c.seat.view_is in
    let ended = closes counted.entries counted.number counted.mark counted.may
    c.seat.inside.seat.table_id c.seat.inside.seat.id c.seat.inside.seat.me.0 c.seat.invariant.1
    (ap (λ x. x.number) is ∙ c.requires.first)
    (ap (λ x. length x.met) is ∙ c.requires.all ∙ sym (ap (λ x. x.splits) is)) _ _
    c.close_with-closed.ensures.values.2 in
    subst IsSome (some-injective _ _ (sym (ap (λ xs. get_elem? xs 0) ended.1)
    ∙ c.take-value.ensures.value)) refl

pub returns : goal.returns
returns g c = let counted = g.C.Counted in let is = c.seat.view_is in
    let ended = closes counted.entries counted.number counted.mark counted.may
    c.seat.inside.seat.table_id c.seat.inside.seat.id c.seat.inside.seat.me.0 c.seat.invariant.1
    (ap (λ x. x.number) is ∙ c.requires.first)
    (ap (λ x. length x.met) is ∙ c.requires.all ∙ sym (ap (λ x. x.splits) is)) _ _
    c.close_with-closed.ensures.values.2 in
    let found : Some ended.0 ≡ c.take-value.result = some-injective _ _
    (sym (ap (λ xs. get_elem? xs 0) ended.1) ∙ c.take-value.ensures.value) in
    let same : ended.0 ≡ c.unwrap.result = search rules in
    subst (λ (z : Known g.row.C-Entry.Denot g.row.C-Mark.Denot × g.row.C.Denot).
    Ended counted.entries counted.mark counted.may z.0 z.1) (λ i. (is i, same i)) ended.2
