-- The table answers as before, and the marks are put.
use Rattle.std.proofs.Common.{◌≡◌, ◌&&◌, ◌||◌, Result, Ok, Err, ap, sym, ◌∙◌}
use Rattle.std.specs.Prelude.{nat_eq}
use Rattle.std.specs.Result.{OnOk, OnErr}
use Rattle.sr_fragments.specs.declared.spot.Place.{Place}
use Rattle.sr_fragments.specs.HeldIndex.{found, found_in, is_in, is_number}
use Rattle.sr_fragments.proofs.held_index.HeldIndex.prepare.Goals as goal

on_ok : {A E P Q : Type 0} (r : Result A E) → (P → Q) → OnOk r P → OnOk r Q
on_ok (Ok x) f p = f p
on_ok (Err e) f p = p

on_err : {A E P Q : Type 0} (r : Result A E) → (P → Q) → OnErr r P → OnErr r Q
on_err (Ok x) f p = p
on_err (Err e) f p = f p

pub returns-clause-ok : goal.returns-clause-ok
returns-clause-ok c =
    let same : (p : Place) → found_in c.reserve.new.self.entries p ≡ found c.args.self.now p =
    λ p. c.in_ok-reserve.ensures.entries.2 p in
    on_ok c.mark_all.result
    (λ marked p n. marked p n
    ∙ ap (λ b. (nat_eq c.args.number n && is_in p c.args.places.now) || b)
    (c.requires.index p n ∙ ap (is_number n) (sym (same p))))
    c.mark_all.ensures.ok

pub returns-clause-err : goal.returns-clause-err
returns-clause-err c =
    let same : (p : Place) → found_in c.reserve.new.self.entries p ≡ found c.args.self.now p =
    λ p. c.in_ok-reserve.ensures.entries.2 p in
    on_err c.mark_all.result
    (λ marked p n. marked p n ∙ c.requires.index p n ∙ ap (is_number n) (sym (same p)))
    c.mark_all.ensures.err
