-- What a node sends is the last of its pending write sets; a report is none.
use Rattle.std.proofs.Common.{◌≡◌, ℕ, List, [], ◌∷◌, ◌++◌, sym, ap, ◌∙◌}
use Rattle.std.specs.Prelude.{take, drop}
use Rattle.std.specs.List.{filter_map}
use Rattle.std.proofs.lemmas.List.{append_assoc, append-nil}
use Rattle.std.proofs.lemmas.List.Elements.{filter_map-append}
use Rattle.order_event.specs.declared.event.Event.{Event}
use Rattle.order_event.specs.declared.event.Message.{Message}
use Rattle.order_event.specs.declared.event.Message.TheVariants as message
use Rattle.node_meaning.specs.Facts.{own_body, sent_body, pending_in}

-- a write set that is put at the end of the outbox is the last pending one
pub pending-sent : (order : List Event) (member certified taken : ℕ) (ordered outbox : List Message)
    (body : List ℕ)
    → pending_in order member certified taken (ordered ++ (outbox ++ message.Write body ∷ []))
    ≡ pending_in order member certified taken (ordered ++ outbox) ++ body ∷ []
pending-sent order member certified taken ordered outbox body =
    let own = filter_map (own_body member) (drop certified (take taken order)) in
    ap (λ queue. own ++ filter_map sent_body queue)
    (sym (append_assoc ordered outbox (message.Write body ∷ [])))
    ∙ ap (λ bodies. own ++ bodies) (filter_map-append sent_body (ordered ++ outbox)
    (message.Write body ∷ []))
    ∙ sym (append_assoc own (filter_map sent_body (ordered ++ outbox)) (body ∷ []))

-- a report that is put there is none
pub pending-reported : (order : List Event) (member certified taken : ℕ)
    (ordered outbox : List Message) (number : ℕ)
    → pending_in order member certified taken (ordered ++ outbox)
    ≡ pending_in order member certified taken (ordered ++ (outbox ++ message.Report number ∷ []))
pending-reported order member certified taken ordered outbox number =
    let own = filter_map (own_body member) (drop certified (take taken order)) in
    ap (λ bodies. own ++ bodies) (sym (append-nil (filter_map sent_body (ordered ++ outbox)))
    ∙ sym (filter_map-append sent_body (ordered ++ outbox) (message.Report number ∷ [])))
    ∙ ap (λ queue. own ++ filter_map sent_body queue)
    (append_assoc ordered outbox (message.Report number ∷ []))
