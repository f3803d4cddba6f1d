-- The messages of a queue: one more is ordered, and the first of a kind is found and taken.
use Rattle.std.proofs.Common.{◌≡◌, ℕ, zero, suc, ◌+◌, ◌-◌, ◌<◌, ◌≤◌, Bool, true, false, cond, List, [], ◌∷◌, ◌++◌, length, get_or, take, drop, Option, Some, None, refl, sym, ap, subst, ◌∙◌, arith, length-drop}
use Rattle.std.proofs.lemmas.List.{take_more, drop_more, take-take, drop-take, drop_all, length-take-le}
use Rattle.std.proofs.lemmas.Option.{slice_get_past, slice_get-get_or}
use Rattle.std.specs.Borrow.{Bor}
use Rattle.std.specs.Slice.{IsItemAt}
use Rattle.std.specs.Option.{option_map, unwrap_or, option_copied}
use Rattle.std.specs.Prelude.{is_some}
use Rattle.std.proofs.lemmas.Bool.{true≢false}
use Rattle.std.specs.List.{find, slice_get, remove}
use Rattle.order_event.specs.declared.event.Message.{Message}
use Rattle.node_meaning.specs.Steps.{without_first}
use Rattle.node_parts.specs.Kinds.{place}
use Rattle.node_parts.specs.Queue.{Queued, without_newest, first_kept, moved, taken}

none_some : (k : ℕ) → None ≡ Some k → ⊥
none_some k e = true≢false (sym (ap is_some e))

some_same : (j k : ℕ) → Some j ≡ Some k → j ≡ k
some_same j k e = ap (λ o. unwrap_or o j) e

abbrev pub queue_of : List Message → ℕ → Queued
queue_of messages n = record { ordered = take n messages; outbox = drop n messages }

abbrev head_or : Message → List Message → Message
head_or d [] = d
head_or d (m ∷ ms) = m

abbrev tail_of : List Message → List Message
tail_of [] = []
tail_of (m ∷ ms) = ms

longer : (messages : List Message) (n : ℕ) → 0 < length (drop n messages) → n < length messages
longer messages n some = omega (arith, some, length-drop n messages)

moved_by : (messages : List Message) (n : ℕ) (out : List Message) → drop n messages ≡ out → 0 < length out
    → queue_of messages (n + 1) ≡ moved (record { ordered = take n messages; outbox = out }) out
moved_by messages n [] e some = absurd (omega (arith, some))
moved_by messages n (m ∷ ms) e some =
    let within : n < length messages = longer messages n (subst (λ l. 0 < length l) (sym e) some) in
    let both : get_or messages n m ∷ drop (n + 1) messages ≡ m ∷ ms = sym (drop_more messages n m within) ∙ e in
    let more : take (n + 1) messages ≡ take n messages ++ m ∷ [] =
    take_more messages n m within ∙ ap (λ (l : List Message). take n messages ++ head_or m l ∷ []) both in
    let rest : drop (n + 1) messages ≡ ms = ap tail_of both in
    λ i. record { ordered = more i; outbox = rest i }

-- one more message counts as ordered
pub moved_one : (messages : List Message) (n : ℕ) (q : Queued) → queue_of messages n ≡ q → 0 < length q.outbox
    → queue_of messages (n + 1) ≡ moved q q.outbox
moved_one messages n q is some =
    let out : drop n messages ≡ q.outbox = ap (λ (p : Queued). p.outbox) is in
    moved_by messages n q.outbox out some
    ∙ ap (λ (l : List Message). moved (record { ordered = l; outbox = q.outbox }) q.outbox) (ap (λ (p : Queued). p.ordered) is)

-- the newest message is taken back
pub newest_left : (messages rest : List Message) (n : ℕ) (q : Queued) → queue_of messages n ≡ q → n ≤ length messages
    → rest ≡ take (length messages - 1) messages → 0 < length q.outbox → queue_of rest n ≡ without_newest q
newest_left messages rest n q is few rest_is some =
    let out : drop n messages ≡ q.outbox = ap (λ (p : Queued). p.outbox) is in
    let within : n < length messages = longer messages n (subst (λ l. 0 < length l) (sym out) some) in
    let left : take n rest ≡ take n messages = ap (take n) rest_is ∙ take-take n (length messages - 1) messages (omega (arith, within)) in
    let more : length messages - 1 ≡ n + (length (drop n messages) - 1) = omega (arith, within, length-drop n messages) in
    let waits : drop n rest ≡ take (length (drop n messages) - 1) (drop n messages) =
    ap (drop n) (rest_is ∙ ap (λ k. take k messages) more) ∙ drop-take n (length (drop n messages) - 1) messages in
    (λ i. record { ordered = left i; outbox = waits i }) ∙ ap without_newest is

-- ---- fewer messages wait
pub kept : (messages : List Message) (n count : ℕ) (q : Queued) → queue_of messages n ≡ q
    → queue_of (take (n + count) messages) n ≡ first_kept q count
kept messages n count q is =
    (λ i. record { ordered = take-take n (n + count) messages (omega arith) i; outbox = drop-take n count messages i })
    ∙ ap (λ (p : Queued). first_kept p count) is

-- ---- where the first of a kind stands
module _ (test : Message → Bool) where
  abbrev pub placed_after : ℕ → List Message → Option ℕ
  placed_after i l = option_map (λ k. i + k) (place test (drop i l))

  shifted_zero : (o : Option ℕ) → option_map (λ k. 0 + k) o ≡ o
  shifted_zero None = refl
  shifted_zero (Some k) = ap Some (omega arith)

  pub placed_at_start : (l : List Message) → place test l ≡ placed_after 0 l
  placed_at_start l = sym (shifted_zero (place test l))

  pub placed_at_end : (l : List Message) (i : ℕ) → length l ≤ i → placed_after i l ≡ None
  placed_at_end l i past = ap (λ r. option_map (λ k. i + k) (place test r)) (drop_all i l past)

  found_first : (i : ℕ) (b : Bool) (o : Option ℕ) → b ≡ true → option_map (λ k. i + k) (cond b (Some 0) o) ≡ Some i
  found_first i true o e = ap Some (omega arith)
  found_first i false o e = cc

  pub placed_here : (l : List Message) (i : ℕ) (m : Message) → i < length l → m ≡ get_or l i m → test m ≡ true
      → placed_after i l ≡ Some i
  placed_here l i m within is passes =
      ap (λ r. option_map (λ k. i + k) (place test r)) (drop_more l i m within ∙ ap (λ n. n ∷ drop (i + 1) l) (sym is))
      ∙ found_first i (test m) (option_map suc (place test (drop (i + 1) l))) passes

  shifted_more : (i : ℕ) (o : Option ℕ) → option_map (λ k. i + k) (option_map suc o) ≡ option_map (λ k. i + 1 + k) o
  shifted_more i None = refl
  shifted_more i (Some k) = ap Some (omega arith)

  found_later : (i : ℕ) (b : Bool) (o : Option ℕ) → b ≡ false
      → option_map (λ k. i + k) (cond b (Some 0) (option_map suc o)) ≡ option_map (λ k. i + 1 + k) o
  found_later i true o e = cc
  found_later i false o e = shifted_more i o

  pub placed_later : (l : List Message) (i : ℕ) (m : Message) → i < length l → m ≡ get_or l i m → test m ≡ false
      → placed_after i l ≡ placed_after (i + 1) l
  placed_later l i m within is fails =
      ap (λ r. option_map (λ k. i + k) (place test r)) (drop_more l i m within ∙ ap (λ n. n ∷ drop (i + 1) l) (sym is))
      ∙ found_later i (test m) (place test (drop (i + 1) l)) fails

  -- ---- what is found there, and the others
  -- the messages but the one at a place
  abbrev pub without_at : Option ℕ → List Message → List Message
  without_at None l = l
  without_at (Some k) l = remove l k

  abbrev pub message_at : Option ℕ → List Message → Option Message
  message_at None l = None
  message_at (Some k) l = slice_get l k

  others : (m : Message) (ms : List Message) (b : Bool) (o : Option ℕ) → without_first test ms ≡ without_at o ms
      → cond b ms (m ∷ without_first test ms) ≡ without_at (cond b (Some 0) (option_map suc o)) (m ∷ ms)
  others m ms true o e = refl
  others m ms false None e = ap (λ l. m ∷ l) e
  others m ms false (Some k) e = ap (λ l. m ∷ l) e

  pub without_placed : (l : List Message) → without_first test l ≡ without_at (place test l) l
  without_placed [] = refl
  without_placed (m ∷ ms) = others m ms (test m) (place test ms) (without_placed ms)

  it : (m : Message) (ms : List Message) (b : Bool) (o : Option ℕ) → find test ms ≡ message_at o ms
      → cond b (Some m) (find test ms) ≡ message_at (cond b (Some 0) (option_map suc o)) (m ∷ ms)
  it m ms true o e = refl
  it m ms false None e = e
  it m ms false (Some k) e = e

  pub find_placed : (l : List Message) → find test l ≡ message_at (place test l) l
  find_placed [] = refl
  find_placed (m ∷ ms) = it m ms (test m) (place test ms) (find_placed ms)

  inside : (n : ℕ) (b : Bool) (o : Option ℕ) (k : ℕ) → ((j : ℕ) → o ≡ Some j → j < n)
      → cond b (Some 0) (option_map suc o) ≡ Some k → k < n + 1
  inside n true o k below e = let z = some_same 0 k e in omega (arith, z)
  inside n false None k below e = absurd (none_some k e)
  inside n false (Some j) k below e = let z = some_same (suc j) k e in let h = below j refl in omega (arith, z, h)

  pub placed_within : (l : List Message) (k : ℕ) → place test l ≡ Some k → k < length l
  placed_within [] k e = absurd (none_some k e)
  placed_within (m ∷ ms) k e =
      let h = inside (length ms) (test m) (place test ms) k (placed_within ms) e in omega (arith, h)

-- ---- one message is removed from those before a count
take_removed : (l : List Message) (k n : ℕ) → k ≤ n → take n (remove l k) ≡ remove (take (suc n) l) k
take_removed [] zero zero h = refl
take_removed [] zero (suc n) h = refl
take_removed [] (suc k) zero h = refl
take_removed [] (suc k) (suc n) h = refl
take_removed (x ∷ xs) zero n h = refl
take_removed (x ∷ xs) (suc k) zero h = absurd (omega (arith, h))
take_removed (x ∷ xs) (suc k) (suc n) h = ap (λ l. x ∷ l) (take_removed xs k n (omega (arith, h)))

drop_removed : (l : List Message) (k n : ℕ) → k ≤ n → drop n (remove l k) ≡ drop (suc n) l
drop_removed [] zero zero h = refl
drop_removed [] zero (suc n) h = refl
drop_removed [] (suc k) zero h = refl
drop_removed [] (suc k) (suc n) h = refl
drop_removed (x ∷ xs) zero n h = refl
drop_removed (x ∷ xs) (suc k) zero h = absurd (omega (arith, h))
drop_removed (x ∷ xs) (suc k) (suc n) h = drop_removed xs k n (omega (arith, h))

-- the queue without the ordered message at a place
pub taken_one : (test : Message → Bool) (messages : List Message) (n k : ℕ) (q : Queued) → queue_of messages n ≡ q
    → k < n → place test (take n messages) ≡ Some k → queue_of (remove messages k) (n - 1) ≡ taken test q
taken_one test messages zero k q is below at = absurd (omega (arith, below))
taken_one test messages (suc n) k q is below at =
    let rest : take n (remove messages k) ≡ without_first test (take (suc n) messages) =
    take_removed messages k n (omega (arith, below))
    ∙ sym (without_placed test (take (suc n) messages) ∙ ap (λ o. without_at test o (take (suc n) messages)) at) in
    let less : suc n - 1 ≡ n = omega arith in
    let out = drop_removed messages k n (omega (arith, below)) in
    (ap (queue_of (remove messages k)) less ∙ λ i. record { ordered = rest i; outbox = out i }) ∙ ap (taken test) is

-- nothing of the kind is ordered
pub taken_none : (test : Message → Bool) (messages : List Message) (n : ℕ) (q : Queued) → queue_of messages n ≡ q
    → place test (take n messages) ≡ None → q ≡ taken test q
taken_none test messages n q is at =
    sym is
    ∙ (λ i. record { ordered = sym (without_placed test (take n messages) ∙ ap (λ o. without_at test o (take n messages)) at) i; outbox = drop n messages })
    ∙ ap (taken test) is

-- ---- what a look-up at a place lends
pub item_read : (xs : List Message) (i : ℕ) (r : Option (Bor Message)) → IsItemAt xs i r → option_copied r ≡ slice_get xs i
item_read xs i None h = sym (slice_get_past xs i h.3)
item_read xs i (Some x) h = sym (slice_get-get_or xs i x.now h.3.0 ∙ ap Some (sym h.1))

slice_get-take : (xs : List Message) (n k : ℕ) → k < n → slice_get (take n xs) k ≡ slice_get xs k
slice_get-take xs zero k h = absurd (omega (arith, h))
slice_get-take [] (suc n) k h = refl
slice_get-take (x ∷ xs) (suc n) zero h = refl
slice_get-take (x ∷ xs) (suc n) (suc k) h = slice_get-take xs n k (omega (arith, h))

-- a place of a message that is ordered is below their count
pub placed_below : (test : Message → Bool) (messages : List Message) (n k : ℕ) → n ≤ length messages
    → place test (take n messages) ≡ Some k → k < n
placed_below test messages n k few at =
    let h = placed_within test (take n messages) k at in let long = length-take-le n messages few in omega (arith, h, long)

pub found_at : (test : Message → Bool) (messages : List Message) (n k : ℕ) (q : Queued) → queue_of messages n ≡ q
    → n ≤ length messages → place test (take n messages) ≡ Some k → slice_get messages k ≡ find test q.ordered
found_at test messages n k q is few at =
    sym (slice_get-take messages n k (placed_below test messages n k few at))
    ∙ sym (find_placed test (take n messages) ∙ ap (λ o. message_at test o (take n messages)) at)
    ∙ ap (λ (p : Queued). find test p.ordered) is

pub found_none : (test : Message → Bool) (messages : List Message) (n : ℕ) (q : Queued) → queue_of messages n ≡ q
    → place test (take n messages) ≡ None → find test q.ordered ≡ None
found_none test messages n q is at =
    ap (λ (p : Queued). find test p.ordered) (sym is)
    ∙ find_placed test (take n messages) ∙ ap (λ o. message_at test o (take n messages)) at
