-- The comparison by look-ups answers as the comparison of all pairs does.
use Rattle.std.proofs.Common.{◌≡◌, ℕ, Bool, true, false, ◌&&◌, ◌⊎◌, inl, inr, List, Option, None, Some, refl, sym, ap, ◌∙◌}
use Rattle.std.specs.Prelude.{is_some, is_none}
use Rattle.finite_map.specs.FiniteMap.{get}
use Rattle.key_sets.specs.declared.kind.Kind.{Kind}
use Rattle.key_sets.specs.declared.kind.Kind.TheVariants.{Shared}
use Rattle.key_sets.specs.declared.parts.Parts.{Parts}
use Rattle.key_sets.specs.declared.relation.Relation.{Relation}
use Rattle.key_sets.specs.declared.relation.Relation.TheVariants.{Conflict, Touch}
use Rattle.key_sets.specs.Parts.{table_of}
use Rattle.key_sets.specs.Keys.{Keys, meet}
use Rattle.key_sets.specs.Meeting.{Has, HasRow, Meets}
use Rattle.key_sets.specs.Probes.{kind_test, passes, keys_meet, table_meets, tables_meet, has_table}
use Rattle.key_sets.proofs.ListLemmas.{some_in, any_of, same_answer}
use Rattle.key_sets.proofs.Apart.{get_from_in, in_from_get}
use Rattle.key_sets.specs.Laws.{IsSymmetric}
use Rattle.key_sets.proofs.KindLaws.{kinds_conflict-symm, kinds_touch-symm}
use Rattle.key_sets.proofs.MeetLemmas.{from_meet, met, meet-symm, both_are}

-- there is a kind that passes
passes_some : (test : Kind → Bool) (o : Option Kind) → passes test o ≡ true → (k : Kind) × (o ≡ Some k) × (test k ≡ true)
passes_some test None h = cc
passes_some test (Some k) h = (k, refl, h)

some_name : (r : Option (List ℕ)) → is_some r ≡ true → (name : List ℕ) × (r ≡ Some name)
some_name None h = cc
some_name (Some name) h = (name, refl)

module _ (test : Kind → Kind → Bool) (a b : Keys) where
  -- keys with the same parts that pass make the sets meet
  pub keys_met : keys_meet test a b ≡ true → meet test a b ≡ true
  keys_met h =
      let found = some_in (λ (e : Parts × Kind). passes (test e.1) (get b e.0)) a.entries h in
      let there = passes_some (test found.0.1) (get b found.0.0) found.2 in
      met test a b (record {
        at = found.0.0;
        one = found.0.1;
        other = there.0;
        has_one = inl (get_from_in a found.0.0 found.0.1 found.1);
        has_other = inl there.1;
        passes = there.2;
      })

  key_found : (p : Parts) (k l : Kind) → get a p ≡ Some k → get b p ≡ Some l → test k l ≡ true → keys_meet test a b ≡ true
  key_found p k l one other pass =
      any_of (λ (e : Parts × Kind). passes (test e.1) (get b e.0)) (p, k) a.entries (in_from_get a p k one)
      (ap (passes (test k)) other ∙ pass)

  -- and so does a row's key in the one and the key of its table in the other
  pub tables_met : tables_meet test a b ≡ true → meet test a b ≡ true
  tables_met h =
      let found = some_in (λ (e : Parts × Kind). table_meets test b e.0) a.entries h in
      let parts = both_are (is_some found.0.0.row) (passes (test Shared) (get b (table_of found.0.0))) found.2 in
      let row = some_name found.0.0.row parts.0 in
      let there = passes_some (test Shared) (get b (table_of found.0.0)) parts.1 in
      met test a b (record {
        at = table_of found.0.0;
        one = Shared;
        other = there.0;
        has_one = inr (record {
          row = found.0.0;
          name = row.0;
          row_kind = found.0.1;
          has = get_from_in a found.0.0 found.0.1 found.1;
          is_row = row.1;
          at = refl;
          shared = refl;
        });
        has_other = inl there.1;
        passes = there.2;
      })

  table_found : (p : Parts) (k l : Kind) (r : HasRow a p k) → get b p ≡ Some l → test k l ≡ true → tables_meet test a b ≡ true
  table_found p k l r other pass =
      any_of (λ (e : Parts × Kind). table_meets test b e.0) (r.row, r.row_kind) a.entries (in_from_get a r.row r.row_kind r.has)
      (λ i. is_some (r.is_row i) && (ap (λ q. passes (test Shared) (get b q)) (sym r.at) ∙ ap (passes (test Shared)) other
      ∙ ap (λ m. test m l) (sym r.shared) ∙ pass) i)

module _ (test : Kind → Kind → Bool) (symm : IsSymmetric test) (apart : test Shared Shared ≡ false) (a b : Keys) where
  -- sets that meet do so in one of three ways
  by_parts : (m : Meets test a b) → Has a m.at m.one → Has b m.at m.other
      → (keys_meet test a b ≡ true) ⊎ ((tables_meet test a b ≡ true) ⊎ (tables_meet test b a ≡ true))
  by_parts m (inl one) (inl other) = inl (key_found test a b m.at m.one m.other one other m.passes)
  by_parts m (inr row) (inl other) = inr (inl (table_found test a b m.at m.one m.other row other m.passes))
  by_parts m (inl one) (inr row) =
      inr (inr (table_found test b a m.at m.other m.one row one (symm m.other m.one ∙ m.passes)))
  by_parts m (inr row) (inr other) =
      let pass = (λ i. test (sym row.shared i) (sym other.shared i)) ∙ m.passes in cc

  found : meet test a b ≡ true → keys_meet test a b ≡ false → tables_meet test a b ≡ false → tables_meet test b a ≡ true
  found is own left =
      let m = from_meet test a b is in
      elim (by_parts m m.has_one m.has_other) [
        | inl h ↦ cc
        | inr (inl h) ↦ cc
        | inr (inr h) ↦ h
      ]

  -- after two look-ups that find nothing the third one tells
  pub last_probe : keys_meet test a b ≡ false → tables_meet test a b ≡ false → tables_meet test b a ≡ meet test a b
  last_probe own left =
      same_answer _ _ (λ h. meet-symm test symm a b ∙ tables_met test b a h) (λ is. found is own left)

-- rows meet the key of a table only where there is one
pub table_there : (test : Kind → Kind → Bool) (a b : Keys) → tables_meet test a b ≡ true → has_table b ≡ true
table_there test a b h =
    let found = some_in (λ (e : Parts × Kind). table_meets test b e.0) a.entries h in
    let parts = both_are (is_some found.0.0.row) (passes (test Shared) (get b (table_of found.0.0))) found.2 in
    let there = passes_some (test Shared) (get b (table_of found.0.0)) parts.1 in
    any_of (λ (e : Parts × Kind). is_none e.0.row) (table_of found.0.0, there.0) b.entries (in_from_get b (table_of found.0.0) there.0 there.1) refl

pub kind_test-symm : (r : Relation) → IsSymmetric (kind_test r)
kind_test-symm Conflict = kinds_conflict-symm
kind_test-symm Touch = kinds_touch-symm

pub kind_test-shared : (r : Relation) → kind_test r Shared Shared ≡ false
kind_test-shared Conflict = refl
kind_test-shared Touch = refl
