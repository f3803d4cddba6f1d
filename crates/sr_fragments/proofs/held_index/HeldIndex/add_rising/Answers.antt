-- The place is the last of the list, where the number is above the latest.
use Rattle.std.proofs.Common.{sym, ap, ◌∙◌}
use Rattle.sr_fragments.specs.HeldIndex.{found, is_rising}
use Rattle.sr_fragments.proofs.PlaceLemmas.{rising-added, rising-passed}
use Rattle.sr_fragments.proofs.held_index.HeldIndex.add_rising.Goals as goal

pub returns-in_ok-push : goal.returns-in_ok-push
returns-in_ok-push c = λ p.
    rising-added (found c.args.self.now) c.args.number c.args.place p c.args.places.now.items _
    (ap (is_rising c.args.number) (sym (c.copied.ensures ∙ c.get.ensures.value))
    ∙ sym c.is_rising.ensures ∙ c.if-is_rising.true)
    c.in_ok-push.ensures.items

pub returns-else-is_rising : goal.returns-else-is_rising
returns-else-is_rising c = λ p.
    rising-passed (found c.args.self.now) c.args.number c.args.place p c.args.places.now.items
    (ap (is_rising c.args.number) (sym (c.copied.ensures ∙ c.get.ensures.value))
    ∙ sym c.is_rising.ensures ∙ c.if-is_rising.false)
