-- The last mark of the spot, or the one before it.
use Rattle.std.proofs.Common.{Some, refl, sym, subst, ◌∙◌}
use Rattle.std.specs.BTreeMap.Range.{IsLeBy}
use Rattle.sr_fragments.specs.declared.spot.Mark.{Mark}
use Rattle.sr_fragments.specs.Spots.{mark_cmp, mark_first}
use Rattle.sr_fragments.specs.HeldIndex.{found, IsGreatestMark}
use Rattle.sr_fragments.proofs.SpotLemmas.{first_to_end, greatest-as, none-as, other_trx, own_trx, top-none, top-first, top-only, top-second}
use Rattle.sr_fragments.proofs.held_index.HeldIndex.latest_but.Goals as goal

pub last_between-requires : goal.last_between-requires
last_between-requires c =
    subst (λ (m : Mark). IsLeBy mark_cmp m c.end.result) (sym c.first-first.ensures)
    (subst (λ (m : Mark). IsLeBy mark_cmp (mark_first c.args.spot) m) (sym c.end.ensures)
    (first_to_end c.args.spot))

pub returns-in_err-last : goal.returns-in_err-last
returns-in_err-last c =
    let marks = c.args.self.now.order.keys in
    let latest = found c.args.self.now in
    none-as latest c.args.spot c.args.trx _ c.from_residual.ensures
    (top-none marks latest c.requires.index c.args.spot c.args.trx
    (greatest-as marks _ _ _ _ _ _ c.first-first.ensures c.end.ensures c.in_err-last.was
    c.last_between.ensures))

pub returns-then-ne : goal.returns-then-ne
returns-then-ne c =
    let marks = c.args.self.now.order.keys in
    let last = c.in_ok-last.last in
    top-first marks (found c.args.self.now) c.requires.index c.args.spot c.args.trx last
    (greatest-as marks _ _ _ _ _ _ c.first-first.ensures c.end.ensures c.in_ok-last.was
    c.last_between.ensures)
    (other_trx last.trx c.args.trx (sym c.ne.ensures ∙ c.if-ne.true))

pub last_between-requires-2 : goal.last_between-requires-2
last_between-requires-2 c =
    let marks = c.args.self.now.order.keys in
    let top : IsGreatestMark marks c.first-first.result c.end.result (Some c.in_ok-last.last) =
    greatest-as marks _ _ _ _ _ _ refl refl c.in_ok-last.was c.last_between.ensures in
    top.0

pub returns-in_err-next : goal.returns-in_err-next
returns-in_err-next c =
    let marks = c.args.self.now.order.keys in
    let latest = found c.args.self.now in
    let last = c.in_ok-last.last in
    none-as latest c.args.spot c.args.trx _ c.from_residual-in_err-next.ensures
    (top-only marks latest c.requires.index c.args.spot c.args.trx last
    (greatest-as marks _ _ _ _ _ _ c.first-first.ensures c.end.ensures c.in_ok-last.was
    c.last_between.ensures)
    (own_trx last.trx c.args.trx (sym c.ne.ensures ∙ c.if-ne.false))
    (greatest-as marks _ _ _ _ _ _ c.first-first.ensures refl c.in_err-next.was
    c.last_between-2.ensures))

pub returns : goal.returns
returns c =
    let marks = c.args.self.now.order.keys in
    let last = c.in_ok-last.last in
    top-second marks (found c.args.self.now) c.requires.index c.args.spot c.args.trx last
    (greatest-as marks _ _ _ _ _ _ c.first-first.ensures c.end.ensures c.in_ok-last.was
    c.last_between.ensures)
    (own_trx last.trx c.args.trx (sym c.ne.ensures ∙ c.if-ne.false)) c.in_ok-next.next
    (greatest-as marks _ _ _ _ _ _ c.first-first.ensures refl c.in_ok-next.was
    c.last_between-2.ensures)
