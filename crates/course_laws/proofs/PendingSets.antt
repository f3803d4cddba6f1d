-- The write sets that are pending: they are in line with the live transactions, and the next event
-- is the first of them where it is the member's own. So it is with the messages ahead.
use Rattle.std.proofs.Common.{◌≡◌, ℕ, ◌+◌, ◌≤◌, false, cond, List, [], ◌∷◌, ◌++◌, length, map, Option, Some, None, refl, ap, sym, subst, ◌∙◌, arith, add-one, eq-eqb}
use Rattle.std.specs.Prelude.{◌==◌, slice_get}
use Rattle.std.specs.List.{filter_map, cons_option}
use Rattle.order_event.specs.declared.event.Event.{Event}
use Rattle.order_event.specs.declared.event.Event.TheVariants as event
use Rattle.order_event.specs.declared.event.Message.{Message}
use Rattle.write_set.specs.declared.write_set.WriteSet.{WriteSet}
use Rattle.write_set.specs.Reading.{decoded}
use Rattle.node_meaning.specs.Node.{ModelNode}
use Rattle.node_meaning.specs.Facts.{Facts, Lined, pending}
use Rattle.node_meaning.proofs.CertifyFacts.{drop_one}
use Rattle.node_laws.proofs.Moves.{with_certified}
use Rattle.node_laws.proofs.Heads.{Split, split}
use Rattle.node_laws.specs.InStep.{message_of, messages_behind}
use Rattle.node_laws.proofs.SentMoved.{certifies_pending}
use Rattle.course_laws.specs.Ordered.{pending_sets, seen_in, messages_ahead, seen_ahead}

-- what bodies spell
some_back : (bodies : List (List ℕ)) (sets : List WriteSet)
    → map decoded bodies ≡ map Some sets → filter_map decoded bodies ≡ sets
some_back [] [] is = refl
some_back [] (w ∷ sets) is = cc
some_back (b ∷ bodies) [] is = cc
some_back (b ∷ bodies) (w ∷ sets) is =
    let tail : map decoded bodies ≡ map Some sets = cc in
    grind (arith, is, some_back bodies sets tail)

module _ (order : List Event) (n : ModelNode) where
  abbrev c : ℕ
  c = n.at.certified

  -- the member's messages ahead, where the next event is of such a message or none
  pub ahead_next : (e : Event) (o : Option Message) → slice_get order c ≡ Some e
      → message_of n.at.member e ≡ o
      → messages_ahead order n
      ≡ cons_option o (messages_behind n.at.member (c + 1) order) ++ n.outbox
  ahead_next e o there is = rw (add-one, drop_one order c e there, is)

  -- and what they had seen
  pub seen_next : (e : Event) (o : Option Message) → slice_get order c ≡ Some e
      → message_of n.at.member e ≡ o
      → seen_ahead order n ≡ filter_map seen_in
      (cons_option o (messages_behind n.at.member (c + 1) order) ++ n.outbox)
  seen_next e o there is = ap (filter_map seen_in) (ahead_next e o there is)

module _ (order : List Event) (n : ModelNode) (f : Facts order n) where
  pub sets_lined : Lined order n.at.member n.at.begin n.at.serial n.at.committed n.at.certified
      n.live (pending_sets order n)
  sets_lined =
      subst (Lined order n.at.member n.at.begin n.at.serial n.at.committed n.at.certified n.live)
      (sym (some_back (pending order n) f.sent.sets f.sent.are)) f.sent.lined

  pub within_order : n.at.certified ≤ length order
  within_order = omega (arith, f.in_order.certified_fits, f.in_order.taken_fits)

  -- the next event is the member's own write set
  pub record OwnNext (body : List ℕ) : Type 0 where
    pub set : WriteSet
    pub read : decoded body ≡ Some set
    pub sets_are : pending_sets order n ≡ set ∷ pending_sets order (with_certified n)

  pub own_next : (body : List ℕ) → n.at.certified == n.at.taken ≡ false
      → slice_get order n.at.certified ≡ Some (event.Write n.at.member body) → OwnNext body
  own_next body more there =
      let left = pending order (with_certified n) in
      let all = some_back (pending order n) f.sent.sets f.sent.are in
      elim (split (decoded body) (map decoded left) f.sent.sets
      (ap (map decoded) (sym (certifies_pending order n f.in_order f.sent more
      (event.Write n.at.member body) there
      ∙ ap (λ b. cons_option (cond b (Some body) None) left)
      (eq-eqb n.at.member n.at.member refl))) ∙ f.sent.are)) [
        | Split w rest sets_are read are ↦ record {
          set = w;
          read = read;
          sets_are = all ∙ sets_are ∙ ap (λ xs. w ∷ xs) (sym (some_back left rest are));
        }
      ]
