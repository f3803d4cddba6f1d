-- What the rules say of counts.
use Rattle.std.proofs.Common.{ℕ, zero, suc, ◌<◌, ◌≤◌, List, [], ◌∷◌, length, get_or, arith}
use Rattle.std.specs.Prelude.{nat_le}
use Rattle.std.specs.List.{list_all, AllByRecursion}
use Rattle.std.proofs.lemmas.Bool.{leb-true}
use Rattle.row_model.specs.declared.ops.Op.{Op}
use Rattle.write_set.specs.Rules.{op_fits}
use Rattle.write_set.specs.Laws.{AreOps}
use Rattle.write_set.proofs.RulesOf.{both}
use Rattle.cert_meaning.specs.declared.items.Fragment.{Fragment}
use Rattle.cert_meaning.specs.declared.parts.MemberItem.{MemberItem}
use Rattle.cert_meaning.specs.declared.parts.OpenItem.{OpenItem}
use Rattle.state_snapshot.specs.Rules.{FragmentObeys, OpenObeys, OpenIsCounted}

-- what holds of all items holds of the one at an index
pub at_index : {A : Type 0} (P : A → Type 0) (xs : List A) (i : ℕ) (d : A) → AllByRecursion P xs → i < length xs → P (get_or xs i d)
at_index P [] i d all within = absurd (omega (arith, within))
at_index P (x ∷ xs) zero d all within = all.0
at_index P (x ∷ xs) (suc i) d all within = at_index P xs i d all.1 (omega (arith, within))

few_ops : (ops : List Op) → AreOps ops → length ops ≤ 8192
few_ops ops fit = leb-true (length ops) 8192 (both (nat_le (length ops) 8192) (list_all op_fits ops) fit).0

few_in_each : (fragments : List Fragment) → AllByRecursion FragmentObeys fragments
    → AllByRecursion (λ (fragment : Fragment). length fragment.ops ≤ 8192) fragments
few_in_each [] all = tt
few_in_each (fragment ∷ fragments) all = (few_ops fragment.ops all.0.1, few_in_each fragments all.1)

-- open transactions that meet the rules are counted
pub are_counted : (number : ℕ) (members : List MemberItem) (items : List OpenItem) → AllByRecursion (OpenObeys number members) items
    → AllByRecursion OpenIsCounted items
are_counted number members [] all = tt
are_counted number members (item ∷ items) all =
    ((all.0.counted, few_in_each item.fragments all.0.each), are_counted number members items all.1)
