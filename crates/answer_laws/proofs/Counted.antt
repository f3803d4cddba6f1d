-- Counting what was sent: one more write set, an order that grows, and a write set that is there.
use Rattle.std.proofs.Common.{◌≡◌, ℕ, zero, suc, ◌+◌, ◌≤◌, Bool, true, false, cond, List, [], ◌∷◌, ◌++◌, Option, Some, None, refl, ap, ◌∙◌, arith, eq-eqb}
use Rattle.std.specs.Prelude.{◌==◌, map, slice_get}
use Rattle.std.proofs.lemmas.Bool.{and_from, and_left, and_right}
use Rattle.std.proofs.lemmas.Option.{same_Some}
use Rattle.order_event.specs.declared.event.Event.{Event}
use Rattle.order_event.specs.declared.event.Event.TheVariants as event
use Rattle.order_event.specs.declared.event.Message.{Message}
use Rattle.order_event.specs.declared.event.Message.TheVariants as message
use Rattle.group_order.specs.Order.{event_of}
use Rattle.write_set.specs.declared.write_set.WriteSet.{WriteSet}
use Rattle.write_set.specs.Spelling.{spelling}
use Rattle.write_set.specs.Reading.{decoded}
use Rattle.cert_meaning.specs.Verdict.{is_end}
use Rattle.node_laws.specs.InStep.{message_of}
use Rattle.course_laws.proofs.Growing.{AreSilent}
use Rattle.answer_laws.specs.Counting.{is_of, is_end_of, one_if, event_count, count_ordered, message_count, count_waiting, count_sent}

module _ (test : WriteSet → Bool) where
  pub ordered-append : (member : ℕ) (xs ys : List Event)
      → count_ordered test member (xs ++ ys)
      ≡ count_ordered test member xs + count_ordered test member ys
  ordered-append member [] ys = omega arith
  ordered-append member (x ∷ xs) ys = omega (arith, ordered-append member xs ys)

  pub waiting-append : (xs ys : List Message)
      → count_waiting test (xs ++ ys) ≡ count_waiting test xs + count_waiting test ys
  waiting-append [] ys = omega arith
  waiting-append (x ∷ xs) ys = omega (arith, waiting-append xs ys)

  message_is : (member : ℕ) (m : Message)
      → event_count test member (event_of member m) ≡ message_count test m
  message_is member m = grind (arith, eq-eqb)

  -- what was in the outbox is in the order
  pub ordered-own : (member : ℕ) (front : List Message)
      → count_ordered test member (map (event_of member) front) ≡ count_waiting test front
  ordered-own member [] = refl
  ordered-own member (m ∷ front) =
      omega (arith, message_is member m, ordered-own member front)

  -- events of which none is the member's
  silent_count : (member : ℕ) (e : Event) → message_of member e ≡ None
      → event_count test member e ≡ 0
  silent_count member e is = grind arith

  pub ordered-silent : (member : ℕ) (events : List Event) → AreSilent member events
      → count_ordered test member events ≡ 0
  ordered-silent member [] all = refl
  ordered-silent member (e ∷ events) all =
      omega (arith, silent_count member e all.0, ordered-silent member events all.1)

  -- one more write set is sent
  pub sent-one : (member : ℕ) (order : List Event) (outbox : List Message) (w : WriteSet) (b : Bool)
      → decoded (spelling w) ≡ Some w → test w ≡ b
      → count_sent test member order (outbox ++ message.Write (spelling w) ∷ [])
      ≡ count_sent test member order outbox + cond b 1 0
  sent-one member order outbox w b read is =
      omega (
        arith,
        waiting-append outbox (message.Write (spelling w) ∷ []),
        ap (one_if test) read ∙ ap (λ x. cond x 1 0) is,
      )

  -- a report is none
  pub sent-report : (member : ℕ) (order : List Event) (outbox : List Message) (number : ℕ)
      → count_sent test member order (outbox ++ message.Report number ∷ [])
      ≡ count_sent test member order outbox
  sent-report member order outbox number =
      omega (arith, waiting-append outbox (message.Report number ∷ []))

  -- ---- a write set that is there
  event_one : (member : ℕ) (e : Event) (body : List ℕ) (w : WriteSet)
      → e ≡ event.Write member body → decoded body ≡ Some w → test w ≡ true
      → event_count test member e ≡ 1
  event_one member e body w is read passes = grind (arith, eq-eqb)

  module _ (member : ℕ) where
    pub one_there : (order : List Event) (k : ℕ) (body : List ℕ) (w : WriteSet)
        → slice_get order k ≡ Some (event.Write member body) → decoded body ≡ Some w
        → test w ≡ true → 1 ≤ count_ordered test member order
    one_there [] k body w there read passes = cc
    one_there (e ∷ order) zero body w there read passes =
        omega (arith, event_one member e body w (same_Some e _ there) read passes)
    one_there (e ∷ order) (suc k) body w there read passes =
        omega (arith, one_there order k body w there read passes)

    pub two_there : (order : List Event) (j k : ℕ) (b d : List ℕ) (v w : WriteSet)
        → slice_get order j ≡ Some (event.Write member b) → decoded b ≡ Some v → test v ≡ true
        → slice_get order k ≡ Some (event.Write member d) → decoded d ≡ Some w → test w ≡ true
        → count_ordered test member order ≤ 1 → j ≡ k
    two_there [] j k b d v w one read passes other also too most = cc
    two_there (e ∷ order) zero zero b d v w one read passes other also too most = refl
    two_there (e ∷ order) zero (suc k) b d v w one read passes other also too most =
        absurd (omega (
          arith,
          event_one member e b v (same_Some e _ one) read passes,
          one_there order k d w other also too,
          most,
        ))
    two_there (e ∷ order) (suc j) zero b d v w one read passes other also too most =
        absurd (omega (
          arith,
          event_one member e d w (same_Some e _ other) also too,
          one_there order j b v one read passes,
          most,
        ))
    two_there (e ∷ order) (suc j) (suc k) b d v w one read passes other also too most =
        ap suc (two_there order j k b d v w one read passes other also too (omega (arith, most)))

-- ---- the two kinds
pub end_is : (begin : ℕ) (w : WriteSet) → w.begin ≡ begin → is_end w ≡ true
    → is_end_of begin w ≡ true
end_is begin w same ends = and_from (w.begin == begin) (is_end w) (eq-eqb w.begin begin same) ends

pub end_of_other : (begin : ℕ) (w : WriteSet) → w.begin == begin ≡ false
    → is_end_of begin w ≡ false
end_of_other begin w differs = and_left (w.begin == begin) (is_end w) differs

pub no_end : (begin : ℕ) (w : WriteSet) → is_end w ≡ false → is_end_of begin w ≡ false
no_end begin w none = and_right (w.begin == begin) (is_end w) none

-- a commit of a transaction is a write set of it: where it has sent none, it has sent no commit
module _ (begin : ℕ) where
  fewer_one : (o : Option WriteSet) → one_if (is_end_of begin) o ≤ one_if (is_of begin) o
  fewer_one o = grind arith

  fewer_event : (member : ℕ) (e : Event)
      → event_count (is_end_of begin) member e ≤ event_count (is_of begin) member e
  fewer_event member e = grind (arith, fewer_one)

  fewer_ordered : (member : ℕ) (order : List Event)
      → count_ordered (is_end_of begin) member order ≤ count_ordered (is_of begin) member order
  fewer_ordered member [] = omega arith
  fewer_ordered member (e ∷ order) =
      omega (arith, fewer_event member e, fewer_ordered member order)

  fewer_waiting : (outbox : List Message)
      → count_waiting (is_end_of begin) outbox ≤ count_waiting (is_of begin) outbox
  fewer_waiting [] = omega arith
  fewer_waiting (message.Write body ∷ outbox) =
      omega (arith, fewer_one (decoded body), fewer_waiting outbox)
  fewer_waiting (message.Report number ∷ outbox) = omega (arith, fewer_waiting outbox)

  pub no_ends : (member : ℕ) (order : List Event) (outbox : List Message)
      → count_sent (is_of begin) member order outbox ≡ 0
      → count_sent (is_end_of begin) member order outbox ≡ 0
  no_ends member order outbox none =
      omega (arith, fewer_ordered member order, fewer_waiting outbox, none)
