-- The longest suffix that fits a size, as events are added and dropped.
use Rattle.std.proofs.Common.{◌≡◌, ℕ, ◌+◌, ◌-◌, ◌<◌, ◌≤◌, Bool, true, false, cond, List, [], ◌∷◌, ◌++◌, length, Some, None, refl, sym, ap, ◌∙◌, arith, le-leb, leb-true, leb-false, length-append}
use Rattle.std.specs.Prelude.{nat_le}
use Rattle.std.proofs.lemmas.Bool.{lt-leb}
use Rattle.order_event.specs.declared.event.Event.{Event}
use Rattle.std.specs.List.{AllByRecursion}
use Rattle.order_event.specs.Spelling.{HasFewMembers}
use Rattle.gcache_ring.specs.Held.{Ring, entry_size, room_beside, total, held, with_event, with_events}

pub total-append : (xs ys : List Event) → total (xs ++ ys) ≡ total xs + total ys
total-append [] ys = omega arith
total-append (x ∷ xs) ys = ap (λ n. entry_size x + n) (total-append xs ys) ∙ omega arith

pub append_none : (xs : List Event) → xs ++ [] ≡ xs
append_none [] = refl
append_none (x ∷ xs) = ap (λ (l : List Event). x ∷ l) (append_none xs)

-- events that fit are all held
pub held-all : (size : ℕ) (xs : List Event) → total xs ≤ size → held size xs ≡ xs
held-all size [] fits = refl
held-all size (x ∷ xs) fits = ap (λ b. cond b (x ∷ xs) (held size xs)) (le-leb (total (x ∷ xs)) size fits)

-- the first of events that do not fit is not held
pub held-less : (size : ℕ) (x : Event) (xs : List Event) → size < total (x ∷ xs) → held size (x ∷ xs) ≡ held size xs
held-less size x xs over = ap (λ b. cond b (x ∷ xs) (held size xs)) (lt-leb (total (x ∷ xs)) size over)

held_first : (size : ℕ) (x : Event) (xs : List Event) (b : Bool) → nat_le (total (x ∷ xs)) size ≡ b → total (held size xs) ≤ size
    → total (cond b (x ∷ xs) (held size xs)) ≤ size
held_first size x xs true is rest = leb-true _ _ is
held_first size x xs false is rest = rest

pub held-fits : (size : ℕ) (xs : List Event) → total (held size xs) ≤ size
held-fits size [] = omega arith
held-fits size (x ∷ xs) = held_first size x xs _ refl (held-fits size xs)

suffix_first : (size : ℕ) (x : Event) (xs dropped : List Event) (b : Bool) → xs ≡ dropped ++ held size xs
    → (before : List Event) × (x ∷ xs ≡ before ++ cond b (x ∷ xs) (held size xs))
suffix_first size x xs dropped true is = ([], refl)
suffix_first size x xs dropped false is = (x ∷ dropped, ap (λ l. x ∷ l) is)

pub held-suffix : (size : ℕ) (xs : List Event) → (dropped : List Event) × (xs ≡ dropped ++ held size xs)
held-suffix size [] = ([], refl)
held-suffix size (x ∷ xs) =
    let rest = held-suffix size xs in suffix_first size x xs rest.0 (nat_le (total (x ∷ xs)) size) rest.1

longer : (size : ℕ) (x : Event) (xs kept : List Event) (b : Bool) → length kept ≤ length xs → length kept ≤ length (held size xs)
    → length kept ≤ length (cond b (x ∷ xs) (held size xs))
longer size x xs kept true within rest = omega arith
longer size x xs kept false within rest = rest

behind : (xs ys : List Event) → length ys ≤ length (xs ++ ys)
behind [] ys = omega arith
behind (x ∷ xs) ys = let rest = behind xs ys in omega arith

-- no suffix that fits is longer
pub held-longest : (size : ℕ) (dropped kept : List Event) → total kept ≤ size → length kept ≤ length (held size (dropped ++ kept))
held-longest size [] kept fits = let same = ap (λ (l : List Event). length l) (held-all size kept fits) in omega arith
held-longest size (x ∷ dropped) kept fits =
    longer size x (dropped ++ kept) kept (nat_le (total (x ∷ (dropped ++ kept))) size) (behind dropped kept) (held-longest size dropped kept fits)

push_first : (size : ℕ) (x : Event) (xs : List Event) (e : Event) → entry_size e ≤ size → (b : Bool)
    → nat_le (total (x ∷ xs)) (size - entry_size e) ≡ b
    → held size (xs ++ e ∷ []) ≡ held (size - entry_size e) xs ++ e ∷ []
    → held size (x ∷ (xs ++ e ∷ [])) ≡ cond b (x ∷ xs) (held (size - entry_size e) xs) ++ e ∷ []
push_first size x xs e fits true is rest =
    let room = leb-true _ _ is in
    let all = total-append (x ∷ xs) (e ∷ []) in
    held-all size (x ∷ (xs ++ e ∷ [])) (omega arith)
push_first size x xs e fits false is rest =
    let over = leb-false _ _ is in
    let all = total-append (x ∷ xs) (e ∷ []) in
    held-less size x (xs ++ e ∷ []) (omega arith) ∙ rest

-- one more event at the end: what is held before it has what room it leaves
pub held-push : (size : ℕ) (xs : List Event) (e : Event) → entry_size e ≤ size
    → held size (xs ++ e ∷ []) ≡ held (size - entry_size e) xs ++ e ∷ []
held-push size [] e fits = held-all size (e ∷ []) (omega arith)
held-push size (x ∷ xs) e fits = push_first size x xs e fits _ refl (held-push size xs e fits)

-- an event that is larger than the size leaves nothing
pub held-large : (size : ℕ) (xs : List Event) (e : Event) → size < entry_size e → held size (xs ++ e ∷ []) ≡ []
held-large size [] e over = held-less size e [] (omega arith)
held-large size (x ∷ xs) e over =
    let all = total-append (x ∷ xs) (e ∷ []) in
    held-less size x (xs ++ e ∷ []) (omega arith) ∙ held-large size xs e over

again_first : (size : ℕ) (x : Event) (xs : List Event) (e : Event) (b : Bool) → nat_le (total (x ∷ xs)) size ≡ b
    → held size (held size xs ++ e ∷ []) ≡ held size (xs ++ e ∷ [])
    → held size (cond b (x ∷ xs) (held size xs) ++ e ∷ []) ≡ held size (x ∷ (xs ++ e ∷ []))
again_first size x xs e true is rest = refl
again_first size x xs e false is rest =
    let over = leb-false _ _ is in
    let all = total-append (x ∷ xs) (e ∷ []) in
    rest ∙ sym (held-less size x (xs ++ e ∷ []) (omega arith))

-- what is held decides what is held after one more event
pub held-again : (size : ℕ) (xs : List Event) (e : Event) → held size (held size xs ++ e ∷ []) ≡ held size (xs ++ e ∷ [])
held-again size [] e = refl
held-again size (x ∷ xs) e = again_first size x xs e _ refl (held-again size xs e)

all_again_first : (size : ℕ) (x : Event) (xs ys : List Event) (b : Bool) → nat_le (total (x ∷ xs)) size ≡ b
    → held size (held size xs ++ ys) ≡ held size (xs ++ ys)
    → held size (cond b (x ∷ xs) (held size xs) ++ ys) ≡ held size (x ∷ (xs ++ ys))
all_again_first size x xs ys true is rest = refl
all_again_first size x xs ys false is rest =
    let over = leb-false _ _ is in
    let all = total-append (x ∷ xs) ys in
    rest ∙ sym (held-less size x (xs ++ ys) (omega arith))

-- and after some more
pub held-all_again : (size : ℕ) (xs ys : List Event) → held size (held size xs ++ ys) ≡ held size (xs ++ ys)
held-all_again size [] ys = refl
held-all_again size (x ∷ xs) ys = all_again_first size x xs ys _ refl (held-all_again size xs ys)

append_one : (xs : List Event) (e : Event) (ys : List Event) → (xs ++ e ∷ []) ++ ys ≡ xs ++ e ∷ ys
append_one [] e ys = refl
append_one (x ∷ xs) e ys = ap (λ (l : List Event). x ∷ l) (append_one xs e ys)

-- what is held once one more event was taken of those that are left
pub held-next : (size : ℕ) (xs : List Event) (e : Event) (ys : List Event)
    → held size (held size (xs ++ e ∷ []) ++ ys) ≡ held size (xs ++ e ∷ ys)
held-next size xs e ys = held-all_again size (xs ++ e ∷ []) ys ∙ ap (held size) (append_one xs e ys)

-- a ring whose events fit, and to which these are pushed
pub with_events-is : (events : List Event) (ring : Ring) → held ring.size ring.events ≡ ring.events
    → with_events ring events
    ≡ record { size = ring.size; last = ring.last + length events; events = held ring.size (ring.events ++ events) }
with_events-is [] ring fits =
    ap (λ (items : List Event). record { size = ring.size; last = ring.last; events = items })
    (sym fits ∙ ap (held ring.size) (sym (append_none ring.events)))
    ∙ ap (λ (last : ℕ). record { size = ring.size; last = last; events = held ring.size (ring.events ++ []) }) (omega arith)
with_events-is (e ∷ es) ring fits =
    with_events-is es (with_event ring e) (held-all ring.size (held ring.size (ring.events ++ e ∷ [])) (held-fits ring.size (ring.events ++ e ∷ [])))
    ∙ ap (λ (items : List Event). record { size = ring.size; last = ring.last + 1 + length es; events = items })
    (held-next ring.size ring.events e es)
    ∙ ap (λ (last : ℕ). record { size = ring.size; last = last; events = held ring.size (ring.events ++ e ∷ es) }) (omega arith)

room_case : (size n room : ℕ) (b : Bool) → nat_le n size ≡ b → cond b (Some (size - n)) None ≡ Some room → (n ≤ size) × (size - n ≡ room)
room_case size n room true is e = (leb-true n size is, cc)
room_case size n room false is e = absurd cc

-- the room that an entry leaves
pub room_is : (size : ℕ) (e : Event) (room : ℕ) → room_beside size e ≡ Some room → (entry_size e ≤ size) × (size - entry_size e ≡ room)
room_is size e room is = room_case size (entry_size e) room _ refl is

none_case : (size n : ℕ) (b : Bool) → nat_le n size ≡ b → cond b (Some (size - n)) None ≡ None → size < n
none_case size n true is e = absurd cc
none_case size n false is e = leb-false n size is

-- an entry that leaves no room is larger
pub room_is_none : (size : ℕ) (e : Event) → room_beside size e ≡ None → size < entry_size e
room_is_none size e is = none_case size (entry_size e) _ refl is

-- one more event that has few members, behind those that have
pub few-append : (xs : List Event) (e : Event) → AllByRecursion HasFewMembers xs → HasFewMembers e → AllByRecursion HasFewMembers (xs ++ e ∷ [])
few-append [] e few one = (one, tt)
few-append (x ∷ xs) e few one = (few.0, few-append xs e few.1 one)

-- what the events and the new one are once room was made for it
pub record Pushed (size room used last : ℕ) (items : List Event) : Type 0 where
  pub sum : used + (size - room) ≡ total items
  pub fits : used + (size - room) ≤ size
  pub count : length items ≤ last + 1
  pub few : AllByRecursion HasFewMembers items

pub pushed : (size room used last : ℕ) (before kept : List Event) (e : Event) → room_beside size e ≡ Some room → used ≡ total kept
    → kept ≡ held room before → AllByRecursion HasFewMembers kept → HasFewMembers e → length kept ≤ last
    → Pushed size room used last (kept ++ e ∷ [])
pushed size room used last before kept e is sum same few one count =
    let left = room_is size e room is in
    let fits = held-fits room before in
    let under = ap total same in
    let all = total-append kept (e ∷ []) in
    let more = length-append kept (e ∷ []) in
    record { sum = omega arith; fits = omega arith; count = omega arith; few = few-append kept e few one }

-- they are what is held
pub pushed-held : (size room : ℕ) (before kept : List Event) (e : Event) → room_beside size e ≡ Some room → kept ≡ held room before
    → kept ++ e ∷ [] ≡ held size (before ++ e ∷ [])
pushed-held size room before kept e is same =
    let left = room_is size e room is in
    ap (λ (xs : List Event). xs ++ e ∷ []) (same ∙ ap (λ n. held n before) (sym left.1)) ∙ sym (held-push size before e left.0)
