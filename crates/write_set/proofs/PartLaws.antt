-- Keys and changes within other bytes: what is read stands there, and what stands there is read.
use Rattle.std.proofs.Common.{◌≡◌, ℕ, ◌+◌, ◌-◌, ◌≤◌, false, List, ◌++◌, length, drop, Result, Ok, Err, refl, sym, ap, subst, ◌∙◌, arith}
use Rattle.std.specs.Prelude.{IfOk, nat_le}
use Rattle.std.specs.List.{list_all}
use Rattle.std.proofs.lemmas.List.{append_cancel_left, drop-drop, drop_at, length-append, length-drop}
use Rattle.key_sets.specs.Keys.{Keys}
use Rattle.row_model.specs.declared.ops.Op.{Op}
use Rattle.write_set.specs.declared.rules.TheConstants.{MOST_OPS}
use Rattle.write_set.specs.declared.fault.WsFault.{WsFault}
use Rattle.write_set.specs.Laws.{StandsBetween, AreKeys, AreOps, with_rest}
use Rattle.write_set.specs.Rules.{KeysInRange, OpsInRange, op_fits}
use Rattle.write_set.specs.Spelling.{keys_text, ops_text}
use Rattle.write_set.specs.Place.{Place, place_in}
use Rattle.write_set.specs.Reading.{Read, Gives, behind, keys_at, ops_at}
use Rattle.write_set.proofs.RulesOf.{both, and}
use Rattle.write_set.proofs.Steps.{fails_along}
use Rattle.wsrep_base.proofs.Fields.{IsBytes, IsBytes-drop, read_ok, ok_is, place, Took}
use Rattle.write_set.proofs.SetLaws.{keys_take, keys_again}
use Rattle.write_set.proofs.WholeLaws.{all_fit, each_fits, ops_take, ops_again}

stands : (bytes : List ℕ) (at : ℕ) (text : List ℕ) (q : Place) → at ≤ length bytes → Took (place_in bytes at) text q → StandsBetween bytes at q.at text
stands bytes at text q inside taken =
    let lens : length bytes - at ≡ length text + length q.left =
    sym (length-drop at bytes) ∙ ap length taken.parts ∙ length-append text q.left in
    let rest : drop q.at bytes ≡ q.left =
    ap (λ n. drop n bytes) taken.moved ∙ sym (drop-drop (length text) at bytes)
    ∙ ap (drop (length text)) taken.parts ∙ drop_at text q.left (length text) refl in
    (omega (arith, taken.moved), taken.parts ∙ ap (λ rest. text ++ rest) (sym rest))

never : {A : Type 0} (x : A) (fault : WsFault) → ◌≡◌ {A = Result A WsFault} (Ok x) (Err fault) → ⊥
never x fault e = absurd cc

-- what is read is of this kind, and its text stands between the two places
abbrev pub IsFound : {A : Type 0} → (A → Type 0) → (A → List ℕ) → List ℕ → ℕ → A × ℕ → Type 0
IsFound Is text bytes at x = Is x.0 × StandsBetween bytes at x.1 (text x.0)

-- how a part is read: what is taken is of this kind, and what is of this kind is read again
pub record Part {A : Type 0} (Is : A → Type 0) (InRange : A → Type 0) (text : A → List ℕ) (part_at : Place → Read A) : Type 0 where
  pub takes : (p : Place) (x : A × Place) → IsBytes p.left → part_at p ≡ Ok x → Took p (text x.0) x.1 × Is x.0
  pub again : (x : A) (rest : List ℕ) (at : ℕ) → InRange x → Is x → (q : ℕ) × (part_at (place (text x ++ rest) at) ≡ Ok (x, place rest q))

module _ {A : Type 0} (Is : A → Type 0) (InRange : A → Type 0) (text : A → List ℕ) (part_at : Place → Read A) (part : Part Is InRange text part_at)
    (bytes : List ℕ) (at : ℕ) (fits : IsBytes bytes) (inside : at ≤ length bytes) where
  read_is_found : (x : A × ℕ) → behind (part_at (place_in bytes at)) ≡ Ok x → IsFound Is text bytes at x
  read_is_found x e =
      let a = read_ok A (part_at (place_in bytes at)) (λ one. Ok (one.0, one.1.at)) x e in
      let t = part.takes (place_in bytes at) a.0 (IsBytes-drop at bytes fits) a.1 in
      subst (IsFound Is text bytes at) (ok_is (a.0.0, a.0.1.at) x a.2) (t.1, stands bytes at (text a.0.0) a.0.1 inside t.0)

  pub part_found : (result : Result (A × ℕ) WsFault) → Gives (λ x. (x.0, x.1)) result (behind (part_at (place_in bytes at)))
      → IfOk result (IsFound Is text bytes at)
  part_found (Ok x) is = read_is_found x is
  part_found (Err fault) is = tt

  read_again : (x : A) (rest : List ℕ) → InRange x → Is x → drop at bytes ≡ text x ++ rest
      → (q : ℕ) × (behind (part_at (place_in bytes at)) ≡ Ok (x, q)) × (drop q bytes ≡ rest)
  read_again x rest range good stand =
      let again = part.again x rest at range good in
      let same : behind (part_at (place_in bytes at)) ≡ Ok (x, again.0) = ap (λ left. behind (part_at (place left at))) stand ∙ ap behind again.1 in
      let found = read_is_found (x, again.0) same in
      (again.0, same, append_cancel_left (text x) (drop again.0 bytes) rest (sym found.1.1 ∙ stand))

  pub part_only : (result : Result (A × ℕ) WsFault) → Gives (λ x. (x.0, x.1)) result (behind (part_at (place_in bytes at)))
      → (x : A) (rest : List ℕ) → InRange x → Is x → drop at bytes ≡ text x ++ rest
      → Gives (with_rest bytes) result (Ok (x, rest))
  part_only (Ok y) is x rest range good stand =
      let r = read_again x rest range good stand in
      let same : ◌≡◌ {A = A × ℕ} (x, r.0) y = ok_is (x, r.0) y (sym r.1 ∙ is) in
      ap (λ left. Ok (x, left)) (sym r.2) ∙ ap (λ (z : A × ℕ). Ok (with_rest bytes z)) same
  part_only (Err fault) is x rest range good stand =
      let r = read_again x rest range good stand in
      fails_along fault (behind (part_at (place_in bytes at))) (Ok (x, rest)) (λ e. absurd (never (x, r.0) fault (sym r.1 ∙ e))) is

-- ---- keys

keys_part : Part AreKeys KeysInRange keys_text keys_at
keys_part = record {
  takes = λ p x fits e. let t = keys_take p x fits e in (t.0, (t.1, t.2));
  again = λ keys rest at range are. keys_again keys rest at are.0 are.1 range;
}

pub keys_found : (bytes : List ℕ) (at : ℕ) → IsBytes bytes → at ≤ length bytes → (result : Result (Keys × ℕ) WsFault)
    → Gives (λ x. (x.0, x.1)) result (behind (keys_at (place_in bytes at))) → IfOk result (IsFound AreKeys keys_text bytes at)
keys_found = part_found AreKeys KeysInRange keys_text keys_at keys_part

pub keys_only : (bytes : List ℕ) (at : ℕ) → IsBytes bytes → at ≤ length bytes → (result : Result (Keys × ℕ) WsFault)
    → Gives (λ x. (x.0, x.1)) result (behind (keys_at (place_in bytes at)))
    → (keys : Keys) (rest : List ℕ) → KeysInRange keys → AreKeys keys → drop at bytes ≡ keys_text keys ++ rest
    → Gives (with_rest bytes) result (Ok (keys, rest))
keys_only = part_only AreKeys KeysInRange keys_text keys_at keys_part

-- ---- changes

ops_part : Part AreOps OpsInRange ops_text (ops_at false false)
ops_part = record {
  takes = λ p x fits e. let t = ops_take false false p x fits e in (t.0, and (nat_le (length x.0) MOST_OPS) (list_all op_fits x.0) t.2 (all_fit x.0 t.3));
  again = λ ops rest at range are.
      let f = both (nat_le (length ops) MOST_OPS) (list_all op_fits ops) are in ops_again false false ops rest at refl f.0 (each_fits ops f.1 range);
}

pub ops_found : (bytes : List ℕ) (at : ℕ) → IsBytes bytes → at ≤ length bytes → (result : Result (List Op × ℕ) WsFault)
    → Gives (λ x. (x.0, x.1)) result (behind (ops_at false false (place_in bytes at))) → IfOk result (IsFound AreOps ops_text bytes at)
ops_found = part_found AreOps OpsInRange ops_text (ops_at false false) ops_part

pub ops_only : (bytes : List ℕ) (at : ℕ) → IsBytes bytes → at ≤ length bytes → (result : Result (List Op × ℕ) WsFault)
    → Gives (λ x. (x.0, x.1)) result (behind (ops_at false false (place_in bytes at)))
    → (ops : List Op) (rest : List ℕ) → OpsInRange ops → AreOps ops → drop at bytes ≡ ops_text ops ++ rest
    → Gives (with_rest bytes) result (Ok (ops, rest))
ops_only = part_only AreOps OpsInRange ops_text (ops_at false false) ops_part
