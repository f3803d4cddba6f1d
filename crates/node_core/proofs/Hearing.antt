-- A watcher that has heard all up to a number, and hears the next one, has heard all up to that.
use Rattle.std.proofs.Common.{◌≡◌, ℕ, ◌+◌, List, [], ◌∷◌, ◌++◌, Option, None, Some, ap, sym, subst, ◌∙◌, add-one, append-nil, append_assoc}
use Rattle.std.specs.Prelude.{IfSome}
use Rattle.std.proofs.lemmas.Option.{same_Some}
use Rattle.wsrep_watch.specs.declared.note.Note.{Note}
use Rattle.wsrep_watch.specs.Heard.{Gains}
use Rattle.order_event.specs.declared.event.Event.{Event}
use Rattle.node_core.specs.declared.answers.Advanced.{Advanced}
use Rattle.node_core.specs.declared.answers.Advanced.TheVariants as advanced
use Rattle.node_core.specs.Watching.{HasHeard, Hears, AdvancedTo, note_at, notes_to, note_due, told_by}

-- a watcher that is handed in at the start has heard what it tells
pub heard_first : (first : List Note) (order : List Event) (told : Option (List Note)) → IfSome told (λ notes. notes ≡ first)
    → HasHeard first order 0 told
heard_first first order None is = tt
heard_first first order (Some notes) is = is ∙ sym (append-nil first)

one_more : (first : List Note) (order : List Event) (p : ℕ) (before now : Option (List Note)) → Gains before (note_at order (p + 1)) now
    → HasHeard first order p before → HasHeard first order (p + 1) now
one_more first order p before None gains heard = tt
one_more first order p None (Some notes) gains heard = cc
one_more first order p (Some old) (Some notes) gains heard =
    let old_is : gains.0 ≡ first ++ notes_to order p = sym (same_Some old gains.0 gains.1) ∙ heard in
    gains.2
    ∙ ap (λ (l : List Note). l ++ note_at order (p + 1) ∷ []) old_is
    ∙ append_assoc first (notes_to order p) (note_at order (p + 1) ∷ [])
    ∙ ap (λ (k : ℕ). first ++ (notes_to order p ++ note_at order k ∷ [])) (add-one p)
    ∙ ap (λ (k : ℕ). first ++ notes_to order k) (sym (add-one p))

-- it hears what an advance makes due
pub heard_next : {W : Type 0} (notes : W → Option (List Note)) (first : List Note) (order : List Event) (p q : ℕ) (a : Advanced) (old new : Option W)
    → AdvancedTo a p q → Hears notes (note_due order a) old new
    → HasHeard first order p (told_by notes old) → HasHeard first order q (told_by notes new)
heard_next notes first order p q (advanced.At number) old new to hears heard =
    let there : q ≡ p + 1 = to.1 ∙ to.0 in
    subst (λ (k : ℕ). HasHeard first order k (told_by notes new)) (sym there)
    (one_more first order p (told_by notes old) (told_by notes new)
    (subst (λ (k : ℕ). Gains (told_by notes old) (note_at order k) (told_by notes new)) to.0 hears) heard)
heard_next notes first order p q _ old new to hears heard = rw to (rw hears heard)
