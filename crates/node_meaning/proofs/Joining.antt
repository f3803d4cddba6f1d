-- A node that joins keeps its facts, and so does one that takes the state that it misses:
--   at_rest : (order) (n) → Facts order n → n.at.taken ≡ n.at.committed → n.ordered ≡ []
--       → n.outbox ≡ [] → (nothing is live) → IsAtRest n
--   joined_facts : (order) (fresh) (member view) (n) → IsAtRest n → Facts order n
--       → Facts order (joined_node fresh member view n)
--   received_facts : (order) (last) (n) → IsAtRest n → n.at.taken ≤ last → last ≤ length order
--       → NoneOwn order n.at.member n.at.taken last → Facts order n
--       → Facts order (received_events last n)
--   installed_facts : (order) (number) (id) (n) → IsAtRest n → number ≤ length order
--       → Facts order n → Facts order (received_snapshot number id n)
use Rattle.std.proofs.Common.{◌≡◌, ℕ, zero, suc, ◌≤◌, ◌<◌, Bool, List, [], ◌∷◌, ◌++◌, length, map, refl, ap, sym, ◌∙◌, Some, arith}
use Rattle.std.specs.Prelude.{drop, take}
use Rattle.std.specs.List.{filter_map}
use Rattle.std.specs.Ordering.{nat_cmp}
use Rattle.finite_map.specs.FiniteMap.{FiniteMap, get}
use Rattle.order_event.specs.declared.event.Event.{Event}
use Rattle.order_event.specs.declared.event.Message.{Message}
use Rattle.write_set.specs.declared.write_set.WriteSet.{WriteSet}
use Rattle.write_set.specs.Reading.{decoded}
use Rattle.client_trx.specs.Live.{Live}
use Rattle.node_meaning.specs.Node.{ModelNode, ApplyUnit}
use Rattle.node_meaning.specs.Joining.{IsAtRest, joined_node, received_events, received_snapshot}
use Rattle.node_meaning.specs.Facts.{Facts, Spelled, SerialsRise, own_body, sent_body, pending_in}

-- none of the events behind the first so many, up to a number, is a write set of the member
abbrev pub NoneOwn : List Event → ℕ → ℕ → ℕ → Type 0
NoneOwn order member first last = filter_map (own_body member) (drop first (take last order)) ≡ []

pub none_behind : (k : ℕ) (order : List Event) → drop k (take k order) ≡ []
none_behind zero [] = refl
none_behind zero (e ∷ order) = refl
none_behind (suc k) [] = refl
none_behind (suc k) (e ∷ order) = none_behind k order

pub none_own-behind : (order : List Event) (member k : ℕ) → NoneOwn order member k k
none_own-behind order member k = ap (filter_map (own_body member)) (none_behind k order)

-- where nothing is queued and nothing is taken of the member, nothing is pending
none_pending : (order : List Event) (member certified taken : ℕ) (ordered outbox : List Message)
    → NoneOwn order member certified taken → ordered ≡ [] → outbox ≡ []
    → pending_in order member certified taken (ordered ++ outbox) ≡ []
none_pending order member certified taken ordered outbox none queue waits =
    λ i. none i ++ filter_map sent_body (queue i ++ waits i)

-- and that is in line where nothing is live
spelled_none : (order : List Event) (member begin serial committed certified : ℕ)
    (live : FiniteMap nat_cmp Live) (bodies : List (List ℕ)) → bodies ≡ [] → 0 < serial
    → ((session : ℕ) (t : Live) → get live session ≡ Some t → ⊥)
    → Spelled order member begin serial committed certified live bodies
spelled_none order member begin serial committed certified live bodies none above no_live = record {
  sets = [];
  are = ap (map decoded) none;
  lined = record {
    ours = tt;
    serials = above;
    each = λ s t there. absurd (no_live s t there);
    begins = λ s o t u one other same. absurd (no_live s t one);
  };
}

serial_above : (low : ℕ) (sets : List WriteSet) (next : ℕ) → SerialsRise low sets next → low < next
serial_above low [] next rise = rise
serial_above low (w ∷ sets) next rise =
    omega (arith, serial_above w.serial sets next rise.1, rise.0)

module _ (order : List Event) (n : ModelNode) (rest : IsAtRest n) (f : Facts order n) where
  -- a unit is certified and not committed
  no_unit : (number : ℕ) (u : ApplyUnit) → get n.units number ≡ Some u → ⊥
  no_unit number u there =
      let unit = f.units number u there in
      omega (arith, unit.above, unit.within, rest.all_certified, rest.all_committed)

  above_none : 0 < n.at.serial
  above_none = serial_above 0 f.sent.sets n.at.serial f.sent.lined.serials

-- a node is so where it has committed all that it took, and nothing is queued or live
pub at_rest : (order : List Event) (n : ModelNode) → Facts order n → n.at.taken ≡ n.at.committed
    → n.ordered ≡ [] → n.outbox ≡ []
    → ((session : ℕ) (t : Live) → get n.live session ≡ Some t → ⊥) → IsAtRest n
at_rest order n f all ordered outbox live = record {
  all_certified = omega (arith, f.in_order.committed_fits, f.in_order.certified_fits, all);
  all_committed = sym all;
  none_ordered = ordered;
  none_waits = outbox;
  none_live = live;
}

pub joined_facts : (order : List Event) (fresh : Bool) (member view : ℕ) (n : ModelNode)
    → IsAtRest n → Facts order n → Facts order (joined_node fresh member view n)
joined_facts order fresh member view n rest f = record {
  in_order = f.in_order;
  sendable = f.sendable;
  sent = spelled_none order member 1 1 n.at.committed n.at.certified n.live _
      (none_pending order member n.at.certified n.at.taken n.ordered n.outbox
      (ap (λ k. filter_map (own_body member) (drop k (take n.at.taken order)))
      rest.all_certified
      ∙ none_own-behind order member n.at.taken) rest.none_ordered rest.none_waits)
      (omega arith) rest.none_live;
  units = f.units;
  remote = f.remote;
  apart = f.apart;
}

pub received_facts : (order : List Event) (last : ℕ) (n : ModelNode) → IsAtRest n
    → n.at.taken ≤ last → last ≤ length order → NoneOwn order n.at.member n.at.taken last
    → Facts order n → Facts order (received_events last n)
received_facts order last n rest more fits none f = record {
  in_order = record {
    committed_fits = f.in_order.committed_fits;
    certified_fits = omega (arith, f.in_order.certified_fits, more);
    taken_fits = fits;
  };
  sendable = f.sendable;
  sent = spelled_none order n.at.member n.at.begin n.at.serial n.at.committed n.at.certified
      n.live _ (none_pending order n.at.member n.at.certified last n.ordered n.outbox
      (ap (λ k. filter_map (own_body n.at.member) (drop k (take last order)))
      rest.all_certified ∙ none) rest.none_ordered rest.none_waits)
      (above_none order n rest f) rest.none_live;
  units = f.units;
  remote = f.remote;
  apart = f.apart;
}

pub installed_facts : (order : List Event) (number : ℕ) (id : List ℕ) (n : ModelNode) → IsAtRest n
    → number ≤ length order → Facts order n → Facts order (received_snapshot number id n)
installed_facts order number id n rest fits f = record {
  in_order = record {
    committed_fits = omega arith;
    certified_fits = omega arith;
    taken_fits = fits;
  };
  sendable = f.sendable;
  sent = spelled_none order n.at.member n.at.begin n.at.serial number number n.live _
      (none_pending order n.at.member number number n.ordered n.outbox
      (none_own-behind order n.at.member number) rest.none_ordered rest.none_waits)
      (above_none order n rest f) rest.none_live;
  units = λ k u there. absurd (no_unit order n rest f k u there);
  remote = f.remote;
  apart = f.apart;
}
