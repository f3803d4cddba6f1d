-- A drain, from its parts.
use Rattle.std.proofs.Common.{◌≡◌, ℕ, zero, suc, ◌+◌, ◌-◌, false, List, [], ◌∷◌, ◌++◌, length, refl, sym, ap, subst, ◌∙◌, arith, append-nil, append_assoc, length-append, ◌≤◌, ◌<◌}
use Rattle.std.specs.Prelude.{map, replicate}
use Rattle.std.proofs.lemmas.List.{length-map, replicate-append-replicate, replicate_more}
use Rattle.order_event.specs.declared.event.Event.{Event}
use Rattle.order_event.specs.declared.event.Message.{Message}
use Rattle.order_event.specs.declared.step.Act.{Act}
use Rattle.order_event.specs.declared.step.Act.TheVariants as act
use Rattle.order_event.specs.declared.step.Answer.{Answer}
use Rattle.order_event.specs.declared.step.Answer.TheVariants as answer
use Rattle.group_order.specs.Order.{event_of}
use Rattle.node_meaning.specs.Node.{ModelNode, is_connected}
use Rattle.node_meaning.specs.Steps.{times, first_sent, start_step, finish_step, advance_step, node_step, commit_next, drained, all_taken, all_certified, all_committed}
use Rattle.node_meaning.specs.Cluster.{ModelCluster, order_first, with_node, step_of, set_at, orders_of, step_at, cluster_step}
use Rattle.node_core.specs.Memory.{StartWants}
use Rattle.node_core.specs.Stands.{plain_of}
use Rattle.cluster_core.specs.declared.fault.StepFault.{StepFault}
use Rattle.cluster_core.specs.declared.fault.StepFault.TheVariants as fault
use Rattle.cluster_core.specs.Seated.{Seat, IsSeated, SeatDone, SeatUnchanged}
use Rattle.node_laws.specs.Drains.{after_acts, all_sent, sent_acts, taken_acts, certified_acts, commit_acts, drain_acts}
use Rattle.cluster_core.specs.Steps.{Wants, MayFail}
use Rattle.cluster_core.specs.Acts.{IsKept, Goes, Acted, Failed, Runs, Stops, Halts, cluster_of}
use Rattle.cluster_core.specs.Drain.{Sent, SentFew, Part, PartDone, Takes, TakesFew, Certifies, CertifiesFew, Commits, CommitsFew, take_next, certify_next}
use Rattle.cluster_core.proofs.ActLaws.{goes_same, runs_none, take_not_connected}
use Rattle.cluster_core.proofs.RunLaws.{runs_then, runs_acted, stops_none, stops_first, stops_later, commit_split}

-- ---- a step that is done again and again
pub times_more : (k : ℕ) (f : ModelNode → ModelNode) (n : ModelNode) → times (k + 1) f n ≡ f (times k f n)
times_more zero f n = refl
times_more (suc k) f n = let e : suc k + 1 ≡ suc (k + 1) = omega arith in ap (λ j. times j f n) e ∙ times_more k f (f n)

-- one of the same steps, between those before it and those behind it
pub among_others : (count k : ℕ) (a : Act) → k < count → replicate count a ≡ replicate k a ++ a ∷ replicate (count - k - 1) a
among_others count k a below =
    ap (λ j. replicate j a) (let same : count ≡ k + suc (count - k - 1) = omega (arith, below) in same)
    ∙ sym (replicate-append-replicate k (suc (count - k - 1)) a)

-- a step that was not done, by itself
pub step_halts : (a : Act) (before now : List Event) (old new : Seat) (e : StepFault) (next : Act)
    → (next ≡ a) × (now ≡ before) × (plain_of new.node ≡ plain_of old.node) → MayFail now (plain_of new.node) next e
    → Halts (a ∷ []) before now old new e
step_halts a before now old new e next left may = record {
  next = a;
  stops = stops_none a [] before now (plain_of old.node) (plain_of new.node) left.1 left.2;
  may = subst (λ b. MayFail now (plain_of new.node) b e) left.0 may;
}

-- ---- parts of a drain, one after another
pub part_none : (order : List Event) (seat : Seat) → IsSeated order seat → Part [] order (plain_of seat.node) seat seat
part_none order seat seated = record { plain = refl; ran = runs_none order (plain_of seat.node); seated = seated }

module _ (one other : List Act) (order : List Event) (to last : ModelNode) (old middle new : Seat) (part : Part one order to old middle) where
  pub part_then : Part other order last middle new → Part (one ++ other) order last old new
  part_then more = record {
    plain = more.plain;
    ran = runs_then one other order order order (plain_of old.node) (plain_of middle.node) (plain_of new.node) part.ran more.ran;
    seated = more.seated;
  }

module _ (one other : List Act) (order : List Event) (to : ModelNode) (old middle new : Seat) (part : Part one order to old middle) (e : StepFault) where
  pub part_fails : PartDone other order middle new e → PartDone (one ++ other) order old new e
  part_fails some = record {
    halts = record {
      next = some.halts.next;
      stops = stops_later one other order order order (plain_of old.node) (plain_of middle.node) (plain_of new.node) some.halts.next part.ran some.halts.stops;
      may = some.halts.may;
    };
    seated = some.seated;
  }

pub halts_first : (acts more : List Act) (before now : List Event) (old new : Seat) (e : StepFault)
    → Halts acts before now old new e → Halts (acts ++ more) before now old new e
halts_first acts more before now old new e halts = record {
  next = halts.next;
  stops = stops_first acts more before now _ _ halts.next halts.stops;
  may = halts.may;
}

pub part_fails_first : (acts more : List Act) (order : List Event) (old new : Seat) (e : StepFault) → PartDone acts order old new e
    → PartDone (acts ++ more) order old new e
part_fails_first acts more order old new e some = record { halts = halts_first acts more order order old new e some.halts; seated = some.seated }

-- a step that was not done, before others
pub not_done : (a : Act) (rest : List Act) (order : List Event) (old new : Seat) → SeatUnchanged old new → Wants order (plain_of old.node) a
    → IsSeated order old → PartDone (a ∷ rest) order old new fault.NoMemory
not_done a rest order old new u wants s = record {
  halts = record {
    next = a;
    stops = stops_none a rest order order (plain_of old.node) (plain_of new.node) refl u.plain;
    may = subst (λ n. Wants order n a) (sym u.plain) wants;
  };
  seated = u.seated order s;
}

-- ---- the same step so many times, of which some are done
module _ (a : Act) (f : ModelNode → ModelNode) (order : List Event) (old middle new : Seat) (k : ℕ)
    (so_far : Part (replicate k a) order (times k f (plain_of old.node)) old middle) where
  pub one_more : Part (a ∷ []) order (f (plain_of middle.node)) middle new → Part (replicate (k + 1) a) order (times (k + 1) f (plain_of old.node)) old new
  one_more one = record {
    plain = one.plain ∙ ap f so_far.plain ∙ sym (times_more k f (plain_of old.node));
    ran = subst (λ acts. Runs acts order order (plain_of old.node) (plain_of new.node)) (replicate_more k a)
        (part_then (replicate k a) (a ∷ []) order (times k f (plain_of old.node)) (f (plain_of middle.node)) old middle new so_far one).ran;
    seated = one.seated;
  }

  pub one_fails : (count : ℕ) (e : StepFault) → k < count → PartDone (a ∷ []) order middle new e → PartDone (replicate count a) order old new e
  one_fails count e below some =
      subst (λ acts. PartDone acts order old new e)
      (sym (among_others count k a below))
      (part_fails (replicate k a) (a ∷ replicate (count - k - 1) a) order (times k f (plain_of old.node)) old middle new so_far e
      (part_fails_first (a ∷ []) (replicate (count - k - 1) a) order middle new e some))

-- ---- commits, of which some are done
module _ (order : List Event) (old middle new : Seat) (k : ℕ)
    (so_far : Part (commit_acts order k (plain_of old.node)) order (times k (commit_next order) (plain_of old.node)) old middle) where
  pub commit_more : Part (commit_acts order 1 (plain_of middle.node)) order (commit_next order (plain_of middle.node)) middle new
      → Part (commit_acts order (k + 1) (plain_of old.node)) order (times (k + 1) (commit_next order) (plain_of old.node)) old new
  commit_more one = record {
    plain = one.plain ∙ ap (commit_next order) so_far.plain ∙ sym (times_more k (commit_next order) (plain_of old.node));
    ran = subst (λ acts. Runs acts order order (plain_of old.node) (plain_of new.node))
        (ap (λ m. commit_acts order k (plain_of old.node) ++ commit_acts order 1 m) so_far.plain ∙ sym (commit_split order k 1 (plain_of old.node)))
        (part_then (commit_acts order k (plain_of old.node)) (commit_acts order 1 (plain_of middle.node)) order (times k (commit_next order) (plain_of old.node))
        (commit_next order (plain_of middle.node)) old middle new so_far one).ran;
    seated = one.seated;
  }

  pub commit_fails : (count : ℕ) (e : StepFault) → k < count → PartDone (commit_acts order 1 (plain_of middle.node)) order middle new e
      → PartDone (commit_acts order count (plain_of old.node)) order old new e
  commit_fails count e below some =
      let m = plain_of middle.node in
      let left = count - k - 1 in
      subst (λ acts. PartDone acts order old new e)
      (sym (ap (λ j. commit_acts order j (plain_of old.node)) (let same : count ≡ k + (1 + left) = omega (arith, below) in same)
      ∙ commit_split order k (1 + left) (plain_of old.node)
      ∙ ap (λ n. commit_acts order k (plain_of old.node) ++ commit_acts order (1 + left) n) (sym so_far.plain)
      ∙ ap (λ acts. commit_acts order k (plain_of old.node) ++ acts) (commit_split order 1 left m)))
      (part_fails (commit_acts order k (plain_of old.node)) (commit_acts order 1 m ++ commit_acts order left (times 1 (commit_next order) m)) order
      (times k (commit_next order) (plain_of old.node)) old middle new so_far e
      (part_fails_first (commit_acts order 1 m) (commit_acts order left (times 1 (commit_next order) m)) order middle new e some))

-- ---- one step
abbrev head_or : ModelNode → List ModelNode → ModelNode
head_or d [] = d
head_or d (n ∷ ns) = n

module _ (a : Act) (f : List Event → ModelNode → Answer × ModelNode) (before now : List Event) (old new : Seat) (x : Answer) (acted : Acted a before now old new x)
    (by_itself : (c : ModelCluster) (i : ℕ) (n : ModelNode) → step_of c i n a ≡ with_node c i (f c.order n)) where
  alone : (x, cluster_of now (plain_of new.node ∷ [])) ≡ with_node (cluster_of before (plain_of old.node ∷ [])) 0 (f before (plain_of old.node))
  alone = acted.same (plain_of old.node ∷ []) 0 refl ∙ by_itself (cluster_of before (plain_of old.node ∷ [])) 0 (plain_of old.node)

  pub acted_order : now ≡ before
  acted_order = ap (λ (r : Answer × ModelCluster). r.1.order) alone

  pub acted_plain : plain_of new.node ≡ (f before (plain_of old.node)).1
  acted_plain = ap (λ (r : Answer × ModelCluster). head_or (plain_of old.node) r.1.nodes) alone

-- a step of the seat by itself runs
pub done_runs : (a : Act) (order : List Event) (old new : Seat) (x : Answer) → SeatDone order (λ n. node_step order n a) old new x
    → ((c : ModelCluster) (i : ℕ) (n : ModelNode) → step_of c i n a ≡ with_node c i (node_step c.order n a))
    → Runs (a ∷ []) order order (plain_of old.node) (plain_of new.node)
unfolding after_acts cluster_step
done_runs a order old new x d by_itself = record {
  is = λ nodes node there.
      ap (λ (r : Answer × ModelNode). cluster_of order (set_at nodes (node - 1) r.1)) d.same
      ∙ sym (ap (λ (r : Answer × ModelCluster). r.1)
      (ap (λ o. step_at (cluster_of order nodes) (node - 1) o a) there ∙ by_itself (cluster_of order nodes) (node - 1) (plain_of old.node)));
}

-- ---- certifying and committing
pub certify_one : (order : List Event) (old new : Seat) (x : Answer) → SeatDone order (λ n. node_step order n act.Certify) old new x
    → Part (act.Certify ∷ []) order (certify_next order (plain_of old.node)) old new
certify_one order old new x d = record {
  plain = ap (λ (r : Answer × ModelNode). r.1) d.same;
  ran = done_runs act.Certify order old new x d (λ _ _ _. refl);
  seated = d.seated;
}

-- a unit is started, finished and committed
pub commit_done : (order : List Event) (old one two new : Seat) (number : ℕ) (x y z : Answer) → number ≡ old.node.at.committed + 1
    → SeatDone order (λ n. node_step order n (act.Start number)) old one x
    → SeatDone order (λ n. node_step order n (act.Finish number)) one two y
    → SeatDone order (λ n. node_step order n act.Advance) two new z
    → Part (commit_acts order 1 (plain_of old.node)) order (commit_next order (plain_of old.node)) old new
commit_done order old one two new number x y z is start finish advance = record {
  plain = ap (λ (r : Answer × ModelNode). r.1) advance.same
      ∙ ap (λ n. (advance_step order n).1) (ap (λ (r : Answer × ModelNode). r.1) finish.same
      ∙ ap (λ n. (finish_step n number).1) (ap (λ (r : Answer × ModelNode). r.1) start.same))
      ∙ ap (λ k. (advance_step order (finish_step (start_step order (plain_of old.node) k).1 k).1).1) is;
  ran = subst (λ k. Runs (act.Start k ∷ act.Finish k ∷ act.Advance ∷ []) order order (plain_of old.node) (plain_of new.node)) is
      (runs_then (act.Start number ∷ []) (act.Finish number ∷ act.Advance ∷ []) order order order (plain_of old.node) (plain_of one.node) (plain_of new.node)
      (done_runs (act.Start number) order old one x start (λ _ _ _. refl))
      (runs_then (act.Finish number ∷ []) (act.Advance ∷ []) order order order (plain_of one.node) (plain_of two.node) (plain_of new.node)
      (done_runs (act.Finish number) order one two y finish (λ _ _ _. refl))
      (done_runs act.Advance order two new z advance (λ _ _ _. refl))));
  seated = advance.seated;
}

-- or its start was not done
pub start_fails : (order : List Event) (old new : Seat) (number : ℕ) → number ≡ old.node.at.committed + 1 → SeatUnchanged old new
    → StartWants order (plain_of old.node) number → IsSeated order old → PartDone (commit_acts order 1 (plain_of old.node)) order old new fault.NoMemory
start_fails order old new number is u wants s =
    not_done (act.Start (old.node.at.committed + 1)) (act.Finish (old.node.at.committed + 1) ∷ act.Advance ∷ []) order old new u
    (subst (StartWants order (plain_of old.node)) is wants) s

-- ---- taking
pub take_one : (order now : List Event) (old new : Seat) (x : Answer) → Acted act.Take order now old new x
    → (now ≡ order) × Part (act.Take ∷ []) order (take_next order (plain_of old.node)) old new
take_one order now old new x acted =
    let same = acted_order act.Take (λ o n. node_step o n act.Take) order now old new x acted (λ _ _ _. refl) in (
      same,
      record {
        plain = acted_plain act.Take (λ o n. node_step o n act.Take) order now old new x acted (λ _ _ _. refl);
        ran = subst (λ o. Runs (act.Take ∷ []) order o (plain_of old.node) (plain_of new.node)) same (runs_acted act.Take order now old new x acted);
        seated = subst (λ o. IsSeated o new) same acted.goes.kept.seated;
      },
    )

pub take_fails : (order now : List Event) (old new : Seat) (e : StepFault) → Failed act.Take order now old new e
    → (now ≡ order) × PartDone (act.Take ∷ []) order old new e
take_fails order now old new e failed = (
  failed.left.1,
  record {
    halts = subst (λ o. Halts (act.Take ∷ []) order o old new e) failed.left.1
        (step_halts act.Take order now old new e failed.next (failed.left.0, failed.left.1, failed.left.2) failed.may);
    seated = subst (λ o. IsSeated o new) failed.left.1 failed.goes.kept.seated;
  },
)

-- ---- ordering
pub sent_once : (before now : List Event) (n m : ModelNode) (x : Answer) (queue : List Message) → n.outbox ≡ queue
    → (x, cluster_of now (m ∷ [])) ≡ order_first (cluster_of before (n ∷ [])) 0 n queue
    → (all_sent now m ≡ all_sent before n) × (length m.outbox ≡ length queue - 1)
sent_once before now n m x [] is same =
    let order = ap (λ (r : Answer × ModelCluster). r.1.order) same in
    let node = ap (λ (r : Answer × ModelCluster). head_or n r.1.nodes) same in
    (ap (λ o. all_sent o m) order ∙ ap (all_sent before) node, ap (λ (k : ModelNode). length k.outbox) node ∙ ap length is)
sent_once before now n m x (q ∷ qs) is same =
    let order = ap (λ (r : Answer × ModelCluster). r.1.order) same in
    let node = ap (λ (r : Answer × ModelCluster). head_or n r.1.nodes) same ∙ ap (first_sent n) is in (
      ap (λ o. all_sent o m) order ∙ ap (all_sent (before ++ event_of n.at.member q ∷ [])) node
          ∙ ap (λ o. (o, record n { ordered = (n.ordered ++ q ∷ []) ++ qs; outbox = [] })) (append_assoc before (event_of n.at.member q ∷ []) (map (event_of n.at.member) qs))
          ∙ ap (λ o. (before ++ map (event_of n.at.member) (q ∷ qs), record n { ordered = o; outbox = [] })) (append_assoc n.ordered (q ∷ []) qs)
          ∙ ap (λ o. (before ++ map (event_of n.at.member) o, record n { ordered = n.ordered ++ o; outbox = [] })) (sym is),
      ap (λ (k : ModelNode). length k.outbox) node ∙ (let e : length qs ≡ suc (length qs) - 1 = omega arith in e),
    )

goes_then : (a b c : List Event) (m n : Seat) → Goes a b m → Goes b c n → Goes a c n
goes_then a b c m n one two = record {
  more = one.more ++ two.more;
  grown = two.grown ∙ ap (λ o. o ++ two.more) one.grown ∙ append_assoc a one.more two.more;
  kept = two.kept;
}

pub sent_none : (order : List Event) (seat : Seat) → IsKept order seat → Sent 0 order order seat seat
sent_none order seat kept = record {
  all = refl;
  left = omega arith;
  ran = runs_none order (plain_of seat.node);
  goes = goes_same order order seat refl kept;
}

pub sent_more : (k : ℕ) (before between now : List Event) (old middle new : Seat) (x : Answer) → Sent k before between old middle
    → Acted act.Order between now middle new x → Sent (k + 1) before now old new
sent_more k before between now old middle new x sent acted =
    let once = sent_once between now (plain_of middle.node) (plain_of new.node) x middle.node.queue.outbox refl
    (acted.same (plain_of middle.node ∷ []) 0 refl) in
    record {
      all = once.0 ∙ sent.all;
      left = (let e = once.1 in let f = sent.left in omega (arith, e, f));
      ran = subst (λ acts. Runs acts before now (plain_of old.node) (plain_of new.node)) (replicate_more k act.Order)
          (runs_then (replicate k act.Order) (act.Order ∷ []) before between now (plain_of old.node) (plain_of middle.node) (plain_of new.node) sent.ran
          (runs_acted act.Order between now middle new x acted));
      goes = goes_then before between now middle new sent.goes acted.goes;
    }

pub sent_fails : (k count : ℕ) (before between now : List Event) (old middle new : Seat) (e : StepFault) → k < count → Sent k before between old middle
    → Failed act.Order between now middle new e → SentFew count before now old new e
sent_fails k count before between now old middle new e below sent failed =
    let halts = halts_first (act.Order ∷ []) (replicate (count - k - 1) act.Order) between now middle new e
    (step_halts act.Order between now middle new e failed.next (failed.left.0, failed.left.1, failed.left.2) failed.may) in
    record {
      halts = subst (λ acts. Halts acts before now old new e) (sym (among_others count k act.Order below)) (record {
        next = halts.next;
        stops = stops_later (replicate k act.Order) (act.Order ∷ replicate (count - k - 1) act.Order) before between now
            (plain_of old.node) (plain_of middle.node) (plain_of new.node) halts.next sent.ran halts.stops;
        may = halts.may;
      });
      goes = goes_then before between now middle new sent.goes failed.goes;
    }

at_most_all : (queue : List Message) → orders_of queue ≤ length queue
at_most_all queue = grind arith

pub sent_short : (k : ℕ) (before between : List Event) (old middle : Seat) → Sent k before between old middle
    → length before + length old.node.queue.outbox ≤ 500_000 → length between + orders_of middle.node.queue.outbox ≤ 500_000
sent_short k before between old middle sent short =
    let whole = ap (λ (p : List Event × ModelNode). length p.0) sent.all in
    let here = length-append between (map (event_of middle.node.at.member) middle.node.queue.outbox) in
    let there = length-append before (map (event_of old.node.at.member) old.node.queue.outbox) in
    let long = length-map middle.node.queue.outbox (event_of middle.node.at.member) in
    let was = length-map old.node.queue.outbox (event_of old.node.at.member) in
    omega (arith, short, whole, here, there, long, was, at_most_all middle.node.queue.outbox)

-- ---- the whole
none_left : (queue : List Message) → length queue ≡ 0 → queue ≡ []
none_left [] none = refl
none_left (m ∷ ms) none = absurd (omega (arith, none))

all_done : (order : List Event) (n : ModelNode) → n.outbox ≡ [] → all_sent order n ≡ (order, n)
all_done order n none =
    ap (λ (q : List Message). (order ++ map (event_of n.at.member) q, record n { ordered = n.ordered ++ q; outbox = [] })) none
    ∙ ap (λ o. (o, record n { ordered = n.ordered ++ []; outbox = [] })) (append-nil order)
    ∙ ap (λ q. (order, record n { ordered = q; outbox = [] })) (append-nil n.ordered)
    ∙ ap (λ q. (order, record n { outbox = q })) (sym none)

-- not all was ordered
pub drain_not_sent : (count : ℕ) (before now : List Event) (old new : Seat) (e : StepFault) → count ≡ length old.node.queue.outbox
    → SentFew count before now old new e → Failed act.Drain before now old new e
drain_not_sent count before now old new e counts few = record {
  next = few.halts.next;
  left = stops_first (replicate (length old.node.queue.outbox) act.Order) (sent_acts (all_sent before (plain_of old.node))) before now
      (plain_of old.node) (plain_of new.node) few.halts.next
      (subst (λ k. Stops (replicate k act.Order) before now (plain_of old.node) (plain_of new.node) few.halts.next) counts few.halts.stops);
  may = few.halts.may;
  goes = few.goes;
}

-- the order is still short
pub sent_whole : (count : ℕ) (before now : List Event) (old middle : Seat) → Sent count before now old middle
    → length before + length old.node.queue.outbox ≤ 500_000 → length now ≤ 500_000
sent_whole count before now old middle sent short = let e = sent_short count before now old middle sent short in omega (arith, e)

module _ (count : ℕ) (before now : List Event) (old middle : Seat) (counts : count ≡ length old.node.queue.outbox) (sent : Sent count before now old middle) where
  drained_to : (now, plain_of middle.node) ≡ all_sent before (plain_of old.node)
  drained_to =
      sym (all_done now (plain_of middle.node) (none_left middle.node.queue.outbox (let e = sent.left in omega (arith, e, counts)))) ∙ sent.all

  acts_sent : drain_acts before (plain_of old.node) ≡ replicate count act.Order ++ sent_acts (now, plain_of middle.node)
  acts_sent =
      ap (λ k. replicate k act.Order ++ sent_acts (all_sent before (plain_of old.node))) (sym counts)
      ∙ ap (λ (p : List Event × ModelNode). replicate count act.Order ++ sent_acts p) (sym drained_to)

  drain_stops : (acts more : List Act) (new : Seat) (e : StepFault) → sent_acts (now, plain_of middle.node) ≡ acts ++ more
      → PartDone acts now middle new e → Failed act.Drain before now old new e
  drain_stops acts more new e are some =
      let halts = halts_first acts more now now middle new e some.halts in
      record {
        next = halts.next;
        left = subst (λ xs. Stops xs before now (plain_of old.node) (plain_of new.node) halts.next)
            (sym (acts_sent ∙ ap (λ xs. replicate count act.Order ++ xs) are))
            (stops_later (replicate count act.Order) (acts ++ more) before now now (plain_of old.node) (plain_of middle.node) (plain_of new.node)
            halts.next sent.ran halts.stops);
        may = halts.may;
        goes = record {
          more = sent.goes.more;
          grown = sent.goes.grown;
          kept = record { order_kept = sent.goes.kept.order_kept; seated = some.seated };
        };
      }

  module _ (i : ℕ) (i-is : i ≡ length now - middle.node.at.taken) where
    takes_are : sent_acts (now, plain_of middle.node) ≡ replicate i act.Take ++ taken_acts now (all_taken now (plain_of middle.node))
    takes_are = ap (λ c. replicate c act.Take ++ taken_acts now (all_taken now (plain_of middle.node))) (sym i-is)

    -- not all was taken
    pub drain_not_taken : (new : Seat) (e : StepFault) → TakesFew i now middle new e → Failed act.Drain before now old new e
    drain_not_taken new e some = drain_stops (replicate i act.Take) (taken_acts now (all_taken now (plain_of middle.node))) new e takes_are some

    module _ (taken : Seat) (one : Takes i now middle taken) (j : ℕ) (j-is : j ≡ taken.node.at.taken - taken.node.at.certified) where
      first : plain_of taken.node ≡ all_taken now (plain_of middle.node)
      first = one.plain ∙ ap (λ c. times c (take_next now) (plain_of middle.node)) i-is

      abbrev to_certify : List Act
      to_certify = replicate i act.Take ++ replicate j act.Certify

      certifies_are : sent_acts (now, plain_of middle.node) ≡ to_certify ++ certified_acts now (all_certified now (plain_of taken.node))
      certifies_are =
          takes_are
          ∙ ap (λ n. replicate i act.Take ++ taken_acts now n) (sym first)
          ∙ ap (λ c. replicate i act.Take ++ (replicate c act.Certify ++ certified_acts now (all_certified now (plain_of taken.node)))) (sym j-is)
          ∙ sym (append_assoc (replicate i act.Take) (replicate j act.Certify) (certified_acts now (all_certified now (plain_of taken.node))))

      -- not all was certified
      pub drain_not_certified : (new : Seat) (e : StepFault) → CertifiesFew j taken new e → Failed act.Drain before now old new e
      drain_not_certified new e some =
          drain_stops to_certify (certified_acts now (all_certified now (plain_of taken.node))) new e certifies_are
          (part_fails (replicate i act.Take) (replicate j act.Certify) now (times i (take_next now) (plain_of middle.node)) middle taken new one e
          (some now one.seated))

      module _ (certified : Seat) (two : Certifies j taken certified) (k : ℕ) (k-is : k ≡ certified.node.at.certified - certified.node.at.committed) where
        abbrev both : Part (replicate j act.Certify) now (times j (certify_next now) (plain_of taken.node)) taken certified
        both = two now one.seated

        second : plain_of certified.node ≡ all_certified now (plain_of taken.node)
        second = both.plain ∙ ap (λ c. times c (certify_next now) (plain_of taken.node)) j-is

        commits_are : sent_acts (now, plain_of middle.node) ≡ (to_certify ++ commit_acts now k (plain_of certified.node)) ++ []
        commits_are =
            certifies_are
            ∙ ap (λ n. to_certify ++ certified_acts now n) (sym second)
            ∙ ap (λ c. to_certify ++ commit_acts now c (plain_of certified.node)) (sym k-is)
            ∙ sym (append-nil (to_certify ++ commit_acts now k (plain_of certified.node)))

        -- not all was committed
        pub drain_not_committed : (new : Seat) (e : StepFault) → CommitsFew k certified new e → Failed act.Drain before now old new e
        drain_not_committed new e some =
            drain_stops (to_certify ++ commit_acts now k (plain_of certified.node)) [] new e commits_are
            (part_fails to_certify (commit_acts now k (plain_of certified.node)) now (times j (certify_next now) (plain_of taken.node)) middle certified new
            (part_then (replicate i act.Take) (replicate j act.Certify) now (times i (take_next now) (plain_of middle.node))
            (times j (certify_next now) (plain_of taken.node)) middle taken certified one both) e
            (some now both.seated))

        pub drain_done : (new : Seat) (number : ℕ) → Commits k certified new → number ≡ new.node.at.committed
            → Acted act.Drain before now old new (answer.At number)
        unfolding drained
        drain_done new number commits number-is =
            let three = commits now both.seated in
            let third : plain_of new.node ≡ all_committed now (plain_of certified.node) =
            three.plain ∙ ap (λ c. times c (commit_next now) (plain_of certified.node)) k-is in
            let whole : plain_of new.node ≡ drained now (plain_of middle.node) =
            third ∙ ap (all_committed now) (second ∙ ap (all_certified now) first) in
            record {
              same = λ nodes at there.
                  ap (λ c. (answer.At c, cluster_of now (set_at nodes at (plain_of new.node)))) number-is
                  ∙ ap (λ (m : ModelNode). (answer.At m.at.committed, cluster_of now (set_at nodes at m))) whole
                  ∙ ap (λ (p : List Event × ModelNode). (answer.At (drained p.0 p.1).at.committed, cluster_of p.0 (set_at nodes at (drained p.0 p.1)))) drained_to;
              goes = record {
                more = sent.goes.more;
                grown = sent.goes.grown;
                kept = record { order_kept = sent.goes.kept.order_kept; seated = three.seated };
              };
            }

-- ---- a node that is not connected takes nothing, however often
pub idle_takes : (order : List Event) (seat : Seat) → is_connected seat.node.at.phase ≡ false → IsKept order seat → (k : ℕ)
    → Takes k order seat seat
idle_takes order seat away kept zero = part_none order seat kept.seated
idle_takes order seat away kept (suc k) =
    let next : k + 1 ≡ suc k = omega arith in
    subst (λ j. Takes j order seat seat) next
    (one_more act.Take (take_next order) order seat seat seat k (idle_takes order seat away kept k)
    (take_one order order seat seat answer.Nothing (take_not_connected order seat away kept)).1)
