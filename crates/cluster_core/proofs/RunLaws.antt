-- Steps of one node, one after another.
use Rattle.std.proofs.Common.{◌≡◌, ℕ, zero, suc, ◌+◌, ◌-◌, List, [], ◌∷◌, ◌++◌, refl, sym, ap, subst, ◌∙◌, arith, append_assoc}
use Rattle.order_event.specs.declared.event.Event.{Event}
use Rattle.order_event.specs.declared.step.Act.{Act}
use Rattle.order_event.specs.declared.step.Act.TheVariants as act
use Rattle.order_event.specs.declared.step.Answer.{Answer}
use Rattle.node_meaning.specs.Node.{ModelNode}
use Rattle.node_meaning.specs.Steps.{commit_next, times}
use Rattle.node_meaning.specs.Cluster.{ModelCluster, set_at, step_at, cluster_step}
use Rattle.node_core.specs.Stands.{plain_of}
use Rattle.cluster_core.specs.Seated.{Seat}
use Rattle.node_laws.specs.Drains.{after_acts, commit_acts}
use Rattle.cluster_core.specs.Acts.{Acted, Runs, Stops, cluster_of}
use Rattle.cluster_core.proofs.ActLaws.{runs_none, there_after}

pub after_more : (c : ModelCluster) (node : ℕ) (one other : List Act) → after_acts c node (one ++ other) ≡ after_acts (after_acts c node one) node other
unfolding after_acts
after_more c node [] other = refl
after_more c node (a ∷ one) other = after_more (cluster_step c (record { node = node; act = a })).1 node one other

set_again : {A : Type 0} (xs : List A) (i : ℕ) (x y : A) → set_at (set_at xs i x) i y ≡ set_at xs i y
set_again [] i x y = refl
set_again (z ∷ zs) zero x y = refl
set_again (z ∷ zs) (suc i) x y = ap (λ ys. z ∷ ys) (set_again zs i x y)

pub runs_then : (one other : List Act) (a b c : List Event) (m n o : ModelNode) → Runs one a b m n → Runs other b c n o → Runs (one ++ other) a c m o
runs_then one other a b c m n o first second = record {
  is = λ nodes node there.
      ap (cluster_of c) (sym (set_again nodes (node - 1) n o))
      ∙ second.is (set_at nodes (node - 1) n) node (there_after nodes (node - 1) m n there)
      ∙ ap (λ k. after_acts k node other) (first.is nodes node there)
      ∙ sym (after_more (cluster_of a nodes) node one other);
}

pub runs_acted : (a : Act) (before now : List Event) (old new : Seat) (answer : Answer) → Acted a before now old new answer
    → Runs (a ∷ []) before now (plain_of old.node) (plain_of new.node)
unfolding after_acts cluster_step
runs_acted a before now old new answer acted = record {
  is = λ nodes node there.
      ap (λ (r : Answer × ModelCluster). r.1)
      (acted.same nodes (node - 1) there ∙ ap (λ o. step_at (cluster_of before nodes) (node - 1) o a) (sym there));
}

-- ---- some of the steps, and then one that was not done
pub stops_none : (a : Act) (rest : List Act) (before now : List Event) (old new : ModelNode) → now ≡ before → new ≡ old
    → Stops (a ∷ rest) before now old new a
stops_none a rest before now old new is same = record {
  done = [];
  rest = rest;
  front = refl;
  ran = subst (λ o. Runs [] before o old new) (sym is) (subst (λ n. Runs [] before before old n) (sym same) (runs_none before old));
}

pub stops_first : (acts more : List Act) (before now : List Event) (old new : ModelNode) (next : Act) → Stops acts before now old new next
    → Stops (acts ++ more) before now old new next
stops_first acts more before now old new next stops = record {
  done = stops.done;
  rest = stops.rest ++ more;
  front = ap (λ xs. xs ++ more) stops.front ∙ append_assoc stops.done (next ∷ stops.rest) more;
  ran = stops.ran;
}

pub stops_later : (one other : List Act) (a b c : List Event) (m n o : ModelNode) (next : Act) → Runs one a b m n → Stops other b c n o next
    → Stops (one ++ other) a c m o next
stops_later one other a b c m n o next ran stops = record {
  done = one ++ stops.done;
  rest = stops.rest;
  front = ap (λ xs. one ++ xs) stops.front ∙ sym (append_assoc one stops.done (next ∷ stops.rest));
  ran = runs_then one stops.done a b c m n o ran stops.ran;
}

-- ---- the steps of so many commits
pub commit_split : (order : List Event) (k r : ℕ) (n : ModelNode)
    → commit_acts order (k + r) n ≡ commit_acts order k n ++ commit_acts order r (times k (commit_next order) n)
commit_split order zero r n = ap (λ j. commit_acts order j n) (let e : 0 + r ≡ r = omega arith in e)
commit_split order (suc k) r n =
    ap (λ j. commit_acts order j n) (let e : suc k + r ≡ suc (k + r) = omega arith in e)
    ∙ ap (λ xs. act.Start (n.at.committed + 1) ∷ act.Finish (n.at.committed + 1) ∷ act.Advance ∷ xs) (commit_split order k r (commit_next order n))
