-- It gives the events of its ring, or the snapshot of its state.
use Rattle.std.proofs.Common.{rules, ◌≡◌, Bool, true, false, refl, ap, sym, subst, ◌∙◌, arith}
use Rattle.std.specs.Prelude.{◌&&◌}
use Rattle.gcache_ring.specs.Held.{range_of}
use Rattle.cert_meaning.specs.State.{FoldState}
use Rattle.cert_meaning.specs.Parts.{parts_of}
use Rattle.state_snapshot.specs.Rules.{Obeys}
use Rattle.state_snapshot.specs.Spelling.{spelling}
use Rattle.state_snapshot.proofs.TakeLaws as laws
use Rattle.node_core.specs.Giving.{is_in}
use Rattle.node_core.proofs.GiveCalls.{gives_is, events_given, is_given}
use Rattle.node_core.proofs.node.NodeParts.give.Goals as goal
use Rattle.node_core.proofs.node.NodeParts.give.Goals.{else-same-via-then-same+else-is_in, else-same-via-else-same}

and_false : (a b : Bool) → b ≡ false → a && b ≡ false
and_false true b is = is
and_false false b is = refl

pub returns-then-is_in : goal.returns-then-is_in
returns-then-is_in c = λ order st.
    let ring = c.args.self.now.ring in
    let inside : is_in (range_of ring) c.args.from ≡ true = search rules in
    let same : c.args.same ≡ true = search rules in (
      gives_is order c.args.self.now st c.args.from c.args.same
          ∙ ap (λ b. b && is_in (range_of ring) c.args.from) same ∙ inside,
      events_given order c.args.self.now st c.args.from c.in_ok-events_from.field-0 inside
          c.in_ok-events_from.ensures,
    )

pub take-requires-clause-rules : goal.take-requires-clause-rules
take-requires-clause-rules c =
    let g = c.requires.stands in
    let at = c.args.self.now.at in
    let o = g.stands.facts.in_order in
    subst (λ (s : FoldState). Obeys (parts_of s))
    (sym (c.in_ok-state.ensures g.order g.stands))
    (laws.can_be_taken g.order at.committed
    (omega (arith, o.committed_fits, o.certified_fits, o.taken_fits))
    (omega (arith, o.committed_fits, o.certified_fits, c.requires.few)) g.fits)

pub returns : goal.returns
returns c = λ order st.
    let node = c.args.self.now in
    let none : c.args.same && is_in (range_of node.ring) c.args.from ≡ false =
    elim c.else-same.branch [
      | else-same-via-then-same+else-is_in w ↦
          let out : is_in (range_of node.ring) c.args.from ≡ false = search rules in
          and_false c.args.same (is_in (range_of node.ring) c.args.from) out
      | else-same-via-else-same w ↦
          let other : c.args.same ≡ false = search rules in
          ap (λ b. b && is_in (range_of node.ring) c.args.from) other
    ] in (
      gives_is order node st c.args.from c.args.same ∙ none,
      c.if-at.false,
      record {
        given = is_given node.id (st.serves.id c.requires.connected);
        sized = c.id_in_range.ensures;
        spelled = c.in_ok-take.ensures
            ∙ ap (λ (s : FoldState). spelling (parts_of s) node.id) (c.in_ok-state.ensures order st);
      },
    )
