-- A node at its start has the facts.
use Rattle.std.proofs.Common.{◌≡◌, ℕ, List, [], Some, refl, ap, sym, ◌∙◌, arith, true≢false}
use Rattle.std.specs.Prelude.{is_some}
use Rattle.std.specs.Ordering.{nat_cmp}
use Rattle.finite_map.specs.FiniteMap.{empty, get, get-empty}
use Rattle.key_sets.specs.Keys.{touches}
use Rattle.key_sets.proofs.KeyLaws.{touches-empty}
use Rattle.order_event.specs.declared.event.Event.{Event}
use Rattle.row_locks.specs.declared.holder.Holder.{Holder}
use Rattle.row_locks.specs.declared.holder.Holder.TheVariants.{Session, Unit as UnitHolder}
use Rattle.row_locks.specs.Locks.{keys_at}
use Rattle.node_meaning.specs.Node.{start_node, locks_of}
use Rattle.node_meaning.specs.Facts.{Facts, AreApart}
use Rattle.node_meaning.proofs.LockLaws.{keys_of_live, keys_of_unit, keys_at-session, keys_at-unit}

nothing : {X : Type 0} (s : ℕ) (t : X) → get (empty {X = X} {R = nat_cmp}) s ≡ Some t → ⊥
nothing s t there = true≢false (ap is_some (sym there ∙ get-empty nat_cmp s))

no_keys : (h : Holder) → keys_at (locks_of empty empty) h ≡ empty
no_keys (Session s) = keys_at-session empty empty s ∙ ap keys_of_live (get-empty nat_cmp s)
no_keys (UnitHolder k) = keys_at-unit empty empty k ∙ ap keys_of_unit (get-empty nat_cmp k)

all_apart : AreApart (locks_of empty empty)
all_apart h g other = ap (λ keys. touches keys (keys_at (locks_of empty empty) g)) (no_keys h) ∙ touches-empty (keys_at (locks_of empty empty) g)

-- over any order
pub start_facts : (order : List Event) (gcache : ℕ) (id : List ℕ) (member : ℕ)
    → Facts order (start_node gcache id member)
start_facts order gcache id member = record {
  in_order = record { committed_fits = omega arith; certified_fits = omega arith; taken_fits = omega arith };
  sendable = λ s t there. absurd (nothing s t there);
  sent = record {
    sets = [];
    are = refl;
    lined = record {
      ours = tt;
      serials = omega arith;
      each = λ s t there. absurd (nothing s t there);
      begins = λ s o t u one other same. absurd (nothing s t one);
    };
  };
  units = λ k u there. absurd (nothing k u there);
  remote = λ k u there. absurd (nothing k u there);
  apart = all_apart;
}
