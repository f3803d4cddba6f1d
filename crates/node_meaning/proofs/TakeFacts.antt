-- Taking an event, and sending a message out, keep the facts of a node: what is pending stays the same.
use Rattle.std.proofs.Common.{◌≡◌, ℕ, zero, suc, ◌+◌, ◌≤◌, Bool, true, false, List, [], ◌∷◌, ◌++◌, length, Option, None, Some, refl, ap, sym, ◌∙◌, arith, add-one, take, drop, append_assoc, length-take-le}
use Rattle.std.specs.Prelude.{◌==◌, cond, slice_get}
use Rattle.std.specs.List.{filter_map, find, cons_option}
use Rattle.std.proofs.lemmas.Slice.Eq.{bytes_eq-Decides}
use Rattle.std.proofs.lemmas.List.{drop-append-le}
use Rattle.std.proofs.lemmas.List.Elements.{filter_map-append}
use Rattle.order_event.specs.declared.event.Event.{Event}
use Rattle.order_event.specs.declared.event.Event.TheVariants as event
use Rattle.order_event.specs.declared.event.Message.{Message}
use Rattle.order_event.specs.declared.event.Message.TheVariants as message
use Rattle.node_meaning.specs.Steps.{is_write, is_report, without_first, is_this_write}
use Rattle.node_meaning.specs.Facts.{own_body, sent_body, pending_in}

-- ---- the queue
-- the first write set of a queue is the first body that it has
pub first_body : (body : List ℕ) (ordered outbox : List Message) → find is_write ordered ≡ Some (message.Write body)
    → filter_map sent_body (ordered ++ outbox) ≡ body ∷ filter_map sent_body (without_first is_write ordered ++ outbox)
first_body body [] outbox found = cc
first_body body (message.Write other ∷ ms) outbox found =
    ap (λ (o : Option Message). body_or other o ∷ filter_map sent_body (ms ++ outbox)) found
  where
    body_or : List ℕ → Option Message → List ℕ
    body_or other None = other
    body_or other (Some (message.Write b)) = b
    body_or other (Some (message.Report number)) = other
first_body body (message.Report number ∷ ms) outbox found = first_body body ms outbox found

-- reports have no body
pub without_report : (ordered outbox : List Message)
    → filter_map sent_body (ordered ++ outbox) ≡ filter_map sent_body (without_first is_report ordered ++ outbox)
without_report [] outbox = refl
without_report (message.Write body ∷ ms) outbox = ap (λ bodies. body ∷ bodies) (without_report ms outbox)
without_report (message.Report number ∷ ms) outbox = refl

pub is_write_of : (body : List ℕ) (o : Option Message) → is_this_write body o ≡ true → o ≡ Some (message.Write body)
is_write_of body None h = cc
is_write_of body (Some (message.Write other)) h = ap (λ b. Some (message.Write b)) (sym ((bytes_eq-Decides body other).0 h))
is_write_of body (Some (message.Report number)) h = cc

-- ---- what is taken
take_more : {A : Type 0} (xs : List A) (n : ℕ) (x : A) → slice_get xs n ≡ Some x → take (suc n) xs ≡ take n xs ++ x ∷ []
take_more [] n x there = cc
take_more (y ∷ ys) zero x there = ap (λ o. elim_or y o ∷ []) there
  where
    elim_or : {A : Type 0} → A → Option A → A
    elim_or y None = y
    elim_or y (Some x) = x
take_more (y ∷ ys) (suc n) x there = ap (λ zs. y ∷ zs) (take_more ys n x there)

-- the write sets among the events behind the certified ones, with one more event taken
taken_bodies : (order : List Event) (member certified taken : ℕ) (e : Event) → certified ≤ taken → taken ≤ length order
    → slice_get order taken ≡ Some e
    → filter_map (own_body member) (drop certified (take (taken + 1) order))
    ≡ filter_map (own_body member) (drop certified (take taken order)) ++ filter_map (own_body member) (e ∷ [])
taken_bodies order member certified taken e fits inside there =
    let long : certified ≤ length (take taken order) = omega (arith, length-take-le taken order inside, fits) in
    ap (λ n. filter_map (own_body member) (drop certified (take n order))) (add-one taken)
    ∙ ap (λ es. filter_map (own_body member) (drop certified es)) (take_more order taken e there)
    ∙ ap (filter_map (own_body member)) (drop-append-le certified (take taken order) (e ∷ []) long)
    ∙ filter_map-append (own_body member) (drop certified (take taken order)) (e ∷ [])

one_body : (member : ℕ) (e : Event) (o : Option (List ℕ)) → own_body member e ≡ o → filter_map (own_body member) (e ∷ []) ≡ cons_option o []
one_body member e o is = ap (λ o. cons_option o []) is

-- the body of the event that is taken goes from the head of the queue to the end of the inbox
pub pending_same : (order : List Event) (member certified taken : ℕ) (e : Event) (queue left : List Message) → certified ≤ taken → taken ≤ length order
    → slice_get order taken ≡ Some e → filter_map sent_body queue ≡ filter_map (own_body member) (e ∷ []) ++ filter_map sent_body left
    → pending_in order member certified (taken + 1) left ≡ pending_in order member certified taken queue
pending_same order member certified taken e queue left fits inside there same =
    ap (λ bodies. bodies ++ filter_map sent_body left) (taken_bodies order member certified taken e fits inside there)
    ∙ append_assoc (filter_map (own_body member) (drop certified (take taken order))) (filter_map (own_body member) (e ∷ [])) (filter_map sent_body left)
    ∙ ap (λ bodies. filter_map (own_body member) (drop certified (take taken order)) ++ bodies) (sym same)

pub none_own : (member sender : ℕ) (body : List ℕ) (b : Bool) → sender == member ≡ b → b ≡ false
    → filter_map (own_body member) (event.Write sender body ∷ []) ≡ []
none_own member sender body b is none = one_body member (event.Write sender body) None (ap (λ c. cond c (Some body) None) (is ∙ none))

pub own_one : (member sender : ℕ) (body : List ℕ) → sender == member ≡ true
    → filter_map (own_body member) (event.Write sender body ∷ []) ≡ body ∷ []
own_one member sender body is = one_body member (event.Write sender body) (Some body) (ap (λ c. cond c (Some body) None) is)
