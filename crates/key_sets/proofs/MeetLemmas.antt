-- The comparison of all pairs, by what the sets have at the same parts.
use Rattle.std.proofs.Common.{◌≡◌, ℕ, Bool, true, false, ◌&&◌, inl, inr, List, Option, None, Some, refl, sym, ap, subst, ◌∙◌}
use Rattle.std.specs.List.{list_any}
use Rattle.finite_map.specs.FiniteMap.{get}
use Rattle.key_sets.specs.declared.kind.Kind.{Kind}
use Rattle.key_sets.specs.declared.kind.Kind.TheVariants.{Shared}
use Rattle.key_sets.specs.declared.parts.Parts.{Parts}
use Rattle.key_sets.specs.Parts.{same_parts, table_of}
use Rattle.key_sets.specs.Keys.{Keys, table_pair, pairs_of_key, pairs_of, pairs_meet, meet}
use Rattle.key_sets.specs.Meeting.{Has, Meets}
use Rattle.key_sets.specs.Laws.{IsSymmetric}
use Rattle.key_sets.proofs.ListLemmas.{In, some_in, any_of, in_flat, from_flat, same_answer}
use Rattle.key_sets.proofs.PartsLemmas.{same_parts-exact, same_parts-itself}
use Rattle.key_sets.proofs.Apart.{get_from_in, in_from_get}

-- a pair of a key in the set is what the set has there
of_table_pair : (keys : Keys) (q : Parts) (k : Kind) (row : Parts) (kind : Kind) (name : Option (List ℕ)) → get keys row ≡ Some kind
    → row.row ≡ name → In (q, k) (table_pair row name) → Has keys q k
of_table_pair keys q k row kind None has is i = absurd i
of_table_pair keys q k row kind (Some name) has is (inr none) = absurd none
of_table_pair keys q k row kind (Some name) has is (inl same) =
    inr (record {
      row = row;
      name = name;
      row_kind = kind;
      has = has;
      is_row = is;
      at = ap (λ (p : Parts × Kind). p.0) same;
      shared = ap (λ (p : Parts × Kind). p.1) same;
    })

of_key_pair : (keys : Keys) (q : Parts) (k : Kind) (e : Parts × Kind) → In e keys.entries → In (q, k) (pairs_of_key e)
    → Has keys q k
of_key_pair keys q k e member (inl same) =
    inl (ap (get keys) (ap (λ (p : Parts × Kind). p.0) same) ∙ get_from_in keys e.0 e.1 member
    ∙ ap (λ (p : Parts × Kind). Some p.1) (sym same))
of_key_pair keys q k e member (inr table) =
    of_table_pair keys q k e.0 e.1 e.0.row (get_from_in keys e.0 e.1 member) refl table

has_from_pair : (keys : Keys) (q : Parts) (k : Kind) → In (q, k) (pairs_of keys) → Has keys q k
unfolding pairs_of
has_from_pair keys q k i =
    let found = from_flat pairs_of_key keys.entries (q, k) i in of_key_pair keys q k found.0 found.1 found.2

in_table_pair : (q row : Parts) (k : Kind) (name : List ℕ) (r : Option (List ℕ)) → r ≡ Some name → q ≡ table_of row → k ≡ Shared
    → In (q, k) (table_pair row r)
in_table_pair q row k name None is at shared = cc
in_table_pair q row k name (Some n) is at shared = inl (λ i. (at i, shared i))

pair_from_has : (keys : Keys) (q : Parts) (k : Kind) → Has keys q k → In (q, k) (pairs_of keys)
unfolding pairs_of
pair_from_has keys q k (inl has) = in_flat pairs_of_key (q, k) keys.entries (q, k) (in_from_get keys q k has) (inl refl)
pair_from_has keys q k (inr r) =
    in_flat pairs_of_key (r.row, r.row_kind) keys.entries (q, k) (in_from_get keys r.row r.row_kind r.has)
    (inr (in_table_pair q r.row k r.name r.row.row r.is_row r.at r.shared))

pub both_are : (a b : Bool) → a && b ≡ true → (a ≡ true) × (b ≡ true)
both_are true b h = (refl, h)
both_are false b h = cc

module _ (test : Kind → Kind → Bool) (a b : Keys) where
  -- where the comparison of all pairs answers yes, the sets meet
  pub from_meet : meet test a b ≡ true → Meets test a b
  unfolding meet
  from_meet h =
      let one = some_in (λ p. list_any (pairs_meet test p) (pairs_of b)) (pairs_of a) h in
      let other = some_in (pairs_meet test one.0) (pairs_of b) one.2 in
      let pass = both_are (same_parts one.0.0 other.0.0) (test one.0.1 other.0.1) other.2 in
      record {
        at = one.0.0;
        one = one.0.1;
        other = other.0.1;
        has_one = has_from_pair a one.0.0 one.0.1 one.1;
        has_other = has_from_pair b one.0.0 other.0.1
            (subst (λ (p : Parts). In (p, other.0.1) (pairs_of b)) (sym (same_parts-exact one.0.0 other.0.0 pass.0)) other.1);
        passes = pass.1;
      }

  -- and where they meet it answers yes
  pub met : Meets test a b → meet test a b ≡ true
  unfolding meet
  met m =
      any_of (λ p. list_any (pairs_meet test p) (pairs_of b)) (m.at, m.one) (pairs_of a) (pair_from_has a m.at m.one m.has_one)
      (any_of (pairs_meet test (m.at, m.one)) (m.at, m.other) (pairs_of b) (pair_from_has b m.at m.other m.has_other)
      (λ i. same_parts-itself m.at i && m.passes i))

module _ (test : Kind → Kind → Bool) (symm : IsSymmetric test) (a b : Keys) where
  -- what meets the one way meets the other way
  pub Meets-symm : Meets test a b → Meets test b a
  Meets-symm m = record {
    at = m.at;
    one = m.other;
    other = m.one;
    has_one = m.has_other;
    has_other = m.has_one;
    passes = symm m.other m.one ∙ m.passes;
  }

-- of two sets either may come first
pub meet-symm : (test : Kind → Kind → Bool) → IsSymmetric test → (a b : Keys) → meet test a b ≡ meet test b a
meet-symm test symm a b =
    same_answer _ _
    (λ h. met test b a (Meets-symm test symm a b (from_meet test a b h)))
    (λ h. met test a b (Meets-symm test symm b a (from_meet test b a h)))
