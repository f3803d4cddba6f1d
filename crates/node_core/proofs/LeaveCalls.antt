-- What leaving makes of the sessions and the other parts of a node.
use Rattle.std.proofs.Common.{rules, ◌≡◌, ◌⊎◌, ℕ, ◌+◌, ◌<◌, ◌≤◌, Bool, true, false, cond, eqb, eqb-true, inl, inr, List, [], ◌∷◌, ◌++◌, Option, None, Some, refl, ap, sym, subst, ◌∙◌, arith, get_or, take, drop}
use Rattle.std.specs.Prelude.{T, ◌&&◌, fold, map}
use Rattle.std.specs.List.{filter_map, list_any, AllByRecursion}
use Rattle.std.specs.Ordering.{nat_cmp}
use Rattle.std.specs.FinMap.Entries.{is_sorted}
use Rattle.std.proofs.lemmas.Bool.{eqb-false, ne_eqb}
use Rattle.finite_map.specs.FiniteMap.{FiniteMap, get, insert}
use Rattle.key_sets.proofs.ListLemmas.{In}
use Rattle.row_model.specs.declared.calls.Reply.{Reply}
use Rattle.order_event.specs.declared.event.Event.{Event}
use Rattle.order_event.specs.declared.event.Message.{Message}
use Rattle.order_event.specs.declared.event.Message.TheVariants as message
use Rattle.write_set.specs.declared.write_set.WriteSet.{WriteSet}
use Rattle.write_set.specs.Reading.{decoded}
use Rattle.certification.specs.Certifies.{Certifies}
use Rattle.client_trx.specs.Live.{Live}
use Rattle.client_trx.specs.declared.status.Status.{Status}
use Rattle.client_trx.specs.declared.status.Status.TheVariants as status
use Rattle.node_parts.specs.Queue.{Queued, messages_of, IsOfSet, AreOfSets, nothing_sent}
use Rattle.node_parts.specs.Slots.{HasSessions}
use Rattle.node_parts.proofs.MapLaws.{get_removed}
use Rattle.node_parts.proofs.SearchLaws.{below_in}
use Rattle.node_meaning.specs.declared.progress.Progress.{Progress}
use Rattle.node_meaning.specs.declared.progress.Phase.TheVariants as phase
use Rattle.node_meaning.specs.Node.{ModelNode, end_live}
use Rattle.node_meaning.specs.Facts.{Facts, own_body, sent_body}
use Rattle.node_meaning.specs.Leaving.{is_commit_of, where_untaken, ended_where, leave_one, sessions_left, departed, left_node}
use Rattle.node_meaning.proofs.EntryLaws.{in_from_get, get_from_in}
use Rattle.node_laws.proofs.Leaving.{facts_left}
use Rattle.node_core.specs.declared.node.NodeParts.{NodeParts}
use Rattle.node_core.specs.Stands.{KeepsRing}
use Rattle.node_core.proofs.Standing.{serves_by, ring_by, rings_kept}
use Rattle.node_core.specs.Leaving.{told_of, session_left}
use Rattle.node_core.specs.Stands.{Stands, Tables, Does, Moves, quietly, plain_of}

-- ---- what was sent are write sets
abbrev Spells : List ℕ → Type 0
Spells body = (w : WriteSet) × (decoded body ≡ Some w)

each_spells : (front back : List (List ℕ)) (sets : List WriteSet)
    → map decoded (front ++ back) ≡ map Some sets → AllByRecursion Spells back
each_spells [] [] sets are = tt
each_spells [] (b ∷ back) [] are = cc
each_spells [] (b ∷ back) (w ∷ sets) are =
    ((w, ap (λ (l : List (Option WriteSet)). get_or l 0 None) are), each_spells [] back sets (ap (drop 1) are))
each_spells (f ∷ front) back [] are = cc
each_spells (f ∷ front) back (w ∷ sets) are = each_spells front back sets (ap (drop 1) are)

of_sets : (ms : List Message) → AllByRecursion Spells (filter_map sent_body ms) → AllByRecursion IsOfSet ms
of_sets [] all = tt
of_sets (message.Write body ∷ ms) all = (all.0, of_sets ms all.1)
of_sets (message.Report number ∷ ms) all = (tt, of_sets ms all)

pub sent_sets : (order : List Event) (node : NodeParts) → Stands order node → AreOfSets node.queue
sent_sets order node st =
    of_sets (messages_of node.queue)
    (each_spells (filter_map (own_body node.at.member) (drop node.at.certified (take node.at.taken order)))
    (filter_map sent_body (messages_of node.queue)) st.facts.sent.sets st.facts.sent.are)

-- ---- one session
module _ (queue : List Message) where
  left_none : (n : ModelNode) (s : ℕ) → get n.live s ≡ None → session_left queue n s ≡ n
  left_none n s none = ap (λ o. ended_where n s (told_of queue o)) none

  left_some : (n : ModelNode) (s : ℕ) (t : Live) → get n.live s ≡ Some t → session_left queue n s ≡ leave_one queue n (s, t)
  left_some n s t there = ap (λ o. ended_where n s (told_of queue o)) there

  where_beside : (n : ModelNode) (s : ℕ) (o : Option Reply) (q : ℕ) → (q ≡ s → ⊥)
      → get (ended_where n s o).live q ≡ get n.live q
  where_beside n s None q apart = refl
  where_beside n s (Some r) q apart = get_removed n.live s q ∙ ap (λ b. cond b None (get n.live q)) (ne_eqb q s apart)

  left_beside : (n : ModelNode) (s q : ℕ) → (q ≡ s → ⊥) → get (session_left queue n s).live q ≡ get n.live q
  left_beside n s q apart = where_beside n s (told_of queue (get n.live s)) q apart

  -- ---- those that come after it
  -- the live transactions from a session on
  pub record Rest (live : FiniteMap nat_cmp Live) (s : ℕ) (es : List (ℕ × Live)) : Type 0 where
    pub rising : T (is_sorted nat_cmp es)
    pub listed : (q : ℕ) (u : Live) → s ≤ q → get live q ≡ Some u → In (q, u) es
    pub there : (q : ℕ) (u : Live) → In (q, u) es → (s ≤ q) × (q < 33) × (get live q ≡ Some u)

  -- the session has come to its turn: the others come after it, and end as they did
  record Turn (n : ModelNode) (s : ℕ) (es : List (ℕ × Live)) : Type 0 where
    pub rest : List (ℕ × Live)
    pub are : Rest (session_left queue n s).live (s + 1) rest
    pub same : fold (leave_one queue) (session_left queue n s) rest ≡ fold (leave_one queue) n es

  sorted_parts : (a b : Bool) → T (a && b) → T a × T b
  sorted_parts true b h = (tt, h)
  sorted_parts false b h = absurd h

  -- it has no transaction
  turn_idle : (n : ModelNode) (s : ℕ) (es : List (ℕ × Live)) → Rest n.live s es → get n.live s ≡ None
      → ((q : ℕ) (u : Live) → In (q, u) es → s < q) → Turn n s es
  turn_idle n s es r none later =
      let still = left_none n s none in record {
        rest = es;
        are = subst (λ (m : ModelNode). Rest m.live (s + 1) es) (sym still) (record {
          rising = r.rising;
          listed = λ q u after is. r.listed q u (omega (arith, after)) is;
          there = λ q u i. let h = later q u i in let t = r.there q u i in (omega (arith, h), t.1, t.2);
        });
        same = ap (λ (m : ModelNode). fold (leave_one queue) m es) still;
      }

  no_entry : (live : FiniteMap nat_cmp Live) (s : ℕ) (es : List (ℕ × Live)) → Rest live s es
      → ((u : Live) → In (s, u) es → ⊥) → (o : Option Live) → get live s ≡ o → get live s ≡ None
  no_entry live s es r none None is = is
  no_entry live s es r none (Some u) is = absurd (none u (r.listed s u (omega arith) is))

  later_entries : (e : ℕ × Live) (es : List (ℕ × Live)) → T (is_sorted nat_cmp (e ∷ es)) → (q : ℕ) (u : Live) → In (q, u) es → e.0 < q
  later_entries e es rising q u i = below_in e.0 es q u (sorted_parts _ _ rising).0 i

  turn_at : (n : ModelNode) (s : ℕ) (e : ℕ × Live) (es : List (ℕ × Live)) → Rest n.live s (e ∷ es)
      → (b : Bool) → eqb s e.0 ≡ b → Turn n s (e ∷ es)
  turn_at n s e es r true here =
      let at : s ≡ e.0 = eqb-true s e.0 here in
      let own : get n.live s ≡ Some e.1 = ap (get n.live) at ∙ (r.there e.0 e.1 (inl refl)).2 in
      record {
        rest = es;
        are = record {
          rising = (sorted_parts _ _ r.rising).1;
          listed = λ q u after is.
              behind q u at after
              (r.listed q u (omega (arith, after)) (sym (left_beside n s q (λ same. omega (arith, same, after))) ∙ is));
          there = λ q u i.
              let h = later_entries e es r.rising q u i in
              let t = r.there q u (inr i) in
              (omega (arith, h, at), t.1, left_beside n s q (λ same. omega (arith, same, h, at)) ∙ t.2);
        };
        same = ap (λ (m : ModelNode). fold (leave_one queue) m es)
            (left_some n s e.1 own ∙ ap (λ p. leave_one queue n (p, e.1)) at);
      }
    where
      behind : (q : ℕ) (u : Live) → s ≡ e.0 → s + 1 ≤ q → In (q, u) (e ∷ es) → In (q, u) es
      behind q u at after (inl same) =
          let is = ap (λ (x : ℕ × Live). x.0) same in absurd (omega (arith, is, at, after))
      behind q u at after (inr i) = i
  turn_at n s e es r false elsewhere = turn_idle n s (e ∷ es) r (no_entry n.live s (e ∷ es) r none (get n.live s) refl) later
    where
      above : s < e.0
      above =
          let apart : s ≡ e.0 → ⊥ = eqb-false s e.0 elsewhere in
          let low = (r.there e.0 e.1 (inl refl)).0 in omega (arith, apart, low)

      later : (q : ℕ) (u : Live) → In (q, u) (e ∷ es) → s < q
      later q u (inl same) = let is = ap (λ (x : ℕ × Live). x.0) same in omega (arith, is, above)
      later q u (inr i) = let h = later_entries e es r.rising q u i in omega (arith, h, above)

      none : (u : Live) → In (s, u) (e ∷ es) → ⊥
      none u i = let h = later s u i in omega (arith, h)

  turn : (n : ModelNode) (s : ℕ) (es : List (ℕ × Live)) → Rest n.live s es → Turn n s es
  turn n s [] r = turn_idle n s [] r (no_entry n.live s [] r (λ u i. i) (get n.live s) refl) (λ q u i. absurd i)
  turn n s (e ∷ es) r = turn_at n s e es r (eqb s e.0) refl

  -- what is told of one whose commit was sent
  pub told_sent : (o : Option Live) (t : Live) (st : Status) (begin : ℕ) → o ≡ Some t → st ≡ t.status
      → (st ≡ status.CommitSent) ⊎ (st ≡ status.KilledSent) → begin ≡ t.trx.begin
      → where_untaken (list_any (is_commit_of begin) queue) ≡ told_of queue o
  told_sent o t st begin there is (inl sent) named = rw (there, named, sym is ∙ sent) refl
  told_sent o t st begin there is (inr sent) named = rw (there, named, sym is ∙ sent) refl

-- ---- one session in the parts of a node
pub moves_idle : (node : NodeParts) (s : ℕ) (queue : List Message) → None ≡ told_of queue (get node.live s)
    → Moves (λ n. session_left queue n s) node node
moves_idle node s queue none =
    let same = ap (ended_where (plain_of node) s) none in search rules

pub moves_told : (old mid : NodeParts) (s : ℕ) (queue : List Message) (reply : Reply) (waiting : FiniteMap nat_cmp Reply)
    → Some reply ≡ told_of queue (get old.live s) → Moves (λ n. end_live n s) old mid
    → waiting ≡ insert mid.waiting s reply → Moves (λ n. session_left queue n s) old (record mid { waiting = waiting })
moves_told old mid s queue reply waiting told moves put = record {
  plain = ap (λ (w : FiniteMap nat_cmp Reply). record (plain_of mid) { waiting = w }) put
      ∙ ap (λ (n : ModelNode). record n { waiting = insert n.waiting s reply }) moves.plain
      ∙ ap (ended_where (plain_of old) s) told;
  inbox = moves.inbox;
  ring = record { ring = moves.ring.ring; since = moves.ring.since; id = moves.ring.id };
  certification = moves.certification;
  tables = λ order tables.
      let t = moves.tables order tables in record { locks = t.locks; rows = t.rows; units = t.units; room = t.room };
}

-- ---- all of them
-- the sessions below this one have come to their turn
pub record HasLeft (old new : NodeParts) (s : ℕ) : Type 0 where
  pub low : 1 ≤ s
  pub queue : new.queue ≡ old.queue
  pub rest : List (ℕ × Live)
  pub are : Rest (messages_of old.queue) new.live s rest
  pub same : fold (leave_one (messages_of old.queue)) (plain_of new) rest ≡ sessions_left (plain_of old)
  pub inbox : new.inbox ≡ old.inbox
  pub ring : KeepsRing old new
  pub certification : new.certification ≡ old.certification
  pub tables : (order : List Event) → Tables order old → Tables order new

pub none_left : (node : NodeParts) → HasSessions node.live → HasLeft node node 1
unfolding sessions_left
none_left node sessions = record {
  low = omega arith;
  queue = refl;
  rest = node.live.entries;
  are = record {
    rising = node.live.sorted;
    listed = λ q u low is. in_from_get node.live q u is;
    there = λ q u i.
        let is = get_from_in node.live q u i in
        let within = sessions q u is in (within.0, omega (arith, within.1), is);
  };
  same = refl;
  inbox = refl;
  ring = ring_by node node refl;
  certification = refl;
  tables = λ order tables. tables;
}

where_same : (n : ModelNode) (s : ℕ) (o : Option Reply) → ((ended_where n s o).at ≡ n.at)
    × ((ended_where n s o).ordered ≡ n.ordered) × ((ended_where n s o).outbox ≡ n.outbox)
where_same n s None = (refl, refl, refl)
where_same n s (Some r) = (refl, refl, refl)

pub more_left : (old mid new : NodeParts) (s : ℕ) → HasLeft old mid s
    → Moves (λ n. session_left (messages_of mid.queue) n s) mid new → HasLeft old new (s + 1)
more_left old mid new s so_far moves =
    let all = messages_of old.queue in
    let plain : plain_of new ≡ session_left all (plain_of mid) s =
    moves.plain ∙ ap (λ q. session_left (messages_of q) (plain_of mid) s) so_far.queue in
    let ended = where_same (plain_of mid) s (told_of all (get mid.live s)) in
    let ordered = ap (λ (n : ModelNode). n.ordered) plain ∙ ended.1 in
    let outbox = ap (λ (n : ModelNode). n.outbox) plain ∙ ended.2 in
    let next = turn all (plain_of mid) s so_far.rest so_far.are in
    let low = so_far.low in
    record {
      low = omega (arith, low);
      queue = (λ i. record { ordered = ordered i; outbox = outbox i }) ∙ so_far.queue;
      rest = next.rest;
      are = subst (λ (n : ModelNode). Rest all n.live (s + 1) next.rest) (sym plain) next.are;
      same = ap (λ (n : ModelNode). fold (leave_one all) n next.rest) plain ∙ next.same ∙ so_far.same;
      inbox = moves.inbox ∙ so_far.inbox;
      ring = rings_kept old mid new so_far.ring moves.ring;
      certification = moves.certification ∙ so_far.certification;
      tables = λ order tables. moves.tables order (so_far.tables order tables);
    }

nothing_rests : (queue : List Message) (live : FiniteMap nat_cmp Live) (s : ℕ) (es : List (ℕ × Live)) → Rest queue live s es
    → 33 ≤ s → es ≡ []
nothing_rests queue live s [] r past = refl
nothing_rests queue live s (e ∷ es) r past =
    let t = r.there e.0 e.1 (inl refl) in let low = t.0 in let high = t.1 in absurd (omega (arith, low, high, past))

pub all_left : (old new : NodeParts) (s : ℕ) → HasLeft old new s → 33 ≤ s → Moves sessions_left old new
all_left old new s left past = record {
  plain = sym (ap (fold (leave_one (messages_of old.queue)) (plain_of new))
      (nothing_rests (messages_of old.queue) new.live s left.rest left.are past)) ∙ left.same;
  inbox = left.inbox;
  ring = left.ring;
  certification = left.certification;
  tables = left.tables;
}

-- ---- the node has left
fold_at : (queue : List Message) (es : List (ℕ × Live)) (n : ModelNode) → (fold (leave_one queue) n es).at ≡ n.at
fold_at queue [] n = refl
fold_at queue (e ∷ es) n = fold_at queue es (leave_one queue n e) ∙ (where_same n e.0 _).0

left_at : (n : ModelNode) → (sessions_left n).at ≡ n.at
unfolding sessions_left
left_at n = fold_at (n.ordered ++ n.outbox) n.live.entries n

pub has_departed : (old mid : NodeParts) (queue : Queued) → Moves sessions_left old mid → queue ≡ nothing_sent
    → Does (quietly left_node) old (record mid { at = record mid.at { phase = phase.Left }; queue = queue }) tt
unfolding left_node
has_departed old mid queue moves empty order st =
    let new = record mid { at = record mid.at { phase = phase.Left }; queue = queue } in
    let at : mid.at ≡ old.at = ap (λ (n : ModelNode). n.at) moves.plain ∙ left_at (plain_of old) in
    let same : plain_of new ≡ left_node (plain_of old) =
    ap (λ (q : Queued). record (plain_of mid) {
      at = record mid.at { phase = phase.Left };
      ordered = q.ordered;
      outbox = q.outbox;
    }) empty
    ∙ ap departed moves.plain in
    let t = moves.tables order st.tables in
    record {
      same = ap (λ (n : ModelNode). (tt, n)) same;
      stands = record {
        inbox = moves.inbox ∙ st.inbox
            ∙ sym (ap (λ (p : Progress). drop p.certified (take p.taken order)) at);
        certification = subst (λ (p : Progress). Certifies order p.committed p.certified
            mid.certification) (sym at)
            (subst (Certifies order old.at.committed old.at.certified) (sym moves.certification)
            st.certification);
        tables = record { locks = t.locks; rows = t.rows; units = t.units; room = t.room };
        serves = serves_by order old new
            (record { ring = moves.ring.ring; since = moves.ring.since; id = moves.ring.id })
            (ap (λ (p : Progress). p.taken) at) (λ is. cc) st.serves;
        facts = subst (Facts order) (sym same) (facts_left (plain_of old) order st.facts);
      };
    }
