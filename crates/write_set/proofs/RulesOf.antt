-- The rules of a write set, one by one.
use Rattle.std.proofs.Common.{◌≡◌, ◌≤◌, Bool, true, false, length, refl}
use Rattle.std.specs.Prelude.{◌&&◌, nat_le, is_none}
use Rattle.std.specs.List.{list_all}
use Rattle.std.proofs.lemmas.Bool.{leb-true}
use Rattle.finite_map.specs.FiniteMap.{len}
use Rattle.key_sets.specs.Keys.{LIMIT}
use Rattle.write_set.specs.declared.rules.TheConstants.{MOST_OPS}
use Rattle.write_set.specs.declared.write_set.WriteSet.{WriteSet}
use Rattle.write_set.specs.Rules.{flags_fit, rollback_is_bare, keys_fit, op_fits, uncovered_from, obeys}

pub both : (a b : Bool) → a && b ≡ true → (a ≡ true) × (b ≡ true)
both true true e = (refl, refl)
both true false e = absurd cc
both false b e = absurd cc

pub and : (a b : Bool) → a ≡ true → b ≡ true → a && b ≡ true
and true true p q = refl
and true false p q = absurd cc
and false b p q = absurd cc

pub record Rules (w : WriteSet) : Type 0 where
  pub flags : flags_fit w.flags w.fragment ≡ true
  pub bare : rollback_is_bare w.flags (len w.keys) (length w.ops) ≡ true
  pub few_keys : nat_le (len w.keys) LIMIT ≡ true
  pub keys : keys_fit w.keys ≡ true
  pub few_ops : nat_le (length w.ops) MOST_OPS ≡ true
  pub ops : list_all op_fits w.ops ≡ true
  pub covered : is_none (uncovered_from 0 w.keys w.ops) ≡ true

pub rules_of : (w : WriteSet) → obeys w ≡ true → Rules w
unfolding obeys
rules_of w h =
    let f = both _ _ h in
    let e = both _ _ f.0 in
    let d = both _ _ e.0 in
    let c = both _ _ d.0 in
    let b = both _ _ c.0 in
    let o = both _ _ e.1 in
    record { flags = b.0; bare = b.1; few_keys = c.1; keys = d.1; few_ops = o.0; ops = o.1; covered = f.1 }

pub obeyed : (w : WriteSet) → Rules w → obeys w ≡ true
unfolding obeys
obeyed w r = and _ _ (and _ _ (and _ _ (and _ _ (and _ _ r.flags r.bare) r.few_keys) r.keys) (and _ _ r.few_ops r.ops)) r.covered

pub few_changes : (w : WriteSet) → obeys w ≡ true → length w.ops ≤ MOST_OPS
few_changes w h = leb-true (length w.ops) MOST_OPS (rules_of w h).few_ops
