-- The commit with a number, where a search by halves finds it among commits whose numbers rise.
use Rattle.std.proofs.Common.{◌≡◌, ℕ, zero, suc, ◌≤◌, ◌<◌, Bool, true, false, cond, ltb, List, [], ◌∷◌, length, get_or, Some, None, Ok, Err, refl, sym, ap, ◌∙◌, arith, ltb-true, eq-eqb}
use Rattle.std.proofs.lemmas.Bool.{ltb-false}
use Rattle.std.proofs.lemmas.Bool.Decides.{nat_tests}
use Rattle.std.proofs.lemmas.Cmp.{ranked}
use Rattle.std.specs.List.Sorted.{IsNonDecreasingBy, IsPartitionPoint, IsBinarySearchResult}
use Rattle.std.specs.declared.cmp.Ordering.TheVariants.{Less, Greater}
use Rattle.std.specs.Ordering.{nat_cmp, ordering_index}
use Rattle.cert_meaning.specs.declared.items.CommitItem.{CommitItem}
use Rattle.cert_meaning.specs.State.{RiseWithin, commit_numbered}
use Rattle.cert_meaning.proofs.ScanLemmas.{not_equal}
use Rattle.cert_meaning.proofs.HalvesLemmas.{never_falls}
use Rattle.certification.proofs.CommitsAbove.{higher-at}

-- a number is found where it stands
pub found-at : (above most : ℕ) (cs : List CommitItem) (at n : ℕ) (d : CommitItem) → RiseWithin above most cs → at < length cs
    → (get_or cs at d).number ≡ n → commit_numbered n cs ≡ Some (get_or cs at d)
found-at above most [] at n d rise within is = absurd (omega (arith, within))
found-at above most (c ∷ cs) zero n d rise within is =
    ap (λ b. cond b (Some c) (commit_numbered n cs)) (eq-eqb c.number n is)
found-at above most (c ∷ cs) (suc at) n d rise within is =
    let higher = higher-at c.number most cs rise.2 at d (omega (arith, within)) in
    ap (λ b. cond b (Some c) (commit_numbered n cs)) (not_equal c.number n (λ same. omega (arith, higher, is, same)))
    ∙ found-at c.number most cs at n d rise.2 (omega (arith, within)) is

-- a number that stands nowhere is not found
pub found-nowhere : (cs : List CommitItem) (n : ℕ) → ((k : ℕ) (d : CommitItem) → k < length cs → (get_or cs k d).number ≡ n → ⊥)
    → commit_numbered n cs ≡ None
found-nowhere [] n nowhere = refl
found-nowhere (c ∷ cs) n nowhere =
    ap (λ b. cond b (Some c) (commit_numbered n cs)) (not_equal c.number n (λ same. nowhere 0 c (omega arith) same))
    ∙ found-nowhere cs n (λ k d within is. nowhere (suc k) d (omega (arith, within)) is)

module _ (most : ℕ) (cs : List CommitItem) (rise : RiseWithin 0 most cs) (n : ℕ) where
  comparisons_rise : IsNonDecreasingBy (λ (c : CommitItem). ordering_index (nat_cmp c.number n)) cs
  comparisons_rise i j d le within =
      let numbers : (get_or cs i d).number ≤ (get_or cs j d).number = never_falls 0 most cs rise i j d le within in
      grind (arith, nat_tests)

  higher_or_lower : (at : ℕ) → IsPartitionPoint (λ (c : CommitItem). nat_cmp c.number n ≡ Less) (λ (c : CommitItem). nat_cmp c.number n ≡ Greater) cs at
      → (k : ℕ) (d : CommitItem) → k < length cs → (b : Bool) → ltb k at ≡ b → (get_or cs k d).number ≡ n → ⊥
  higher_or_lower at parts k d inside true before is =
      let lower = ranked _ n _ (sym (parts.0 k d (omega arith) (ltb-true k at before))) in omega (arith, lower, is)
  higher_or_lower at parts k d inside false after is =
      let higher = ranked _ n _ (sym (parts.1 k d (ltb-false k at after) inside)) in omega (arith, higher, is)

  -- what the search finds, and where it finds none
  pub searched-found : (at : ℕ) (d : CommitItem) → at < length cs
      → IsBinarySearchResult (λ (c : CommitItem). nat_cmp c.number n) cs (Ok at) → commit_numbered n cs ≡ Some (get_or cs at d)
  searched-found at d within equal = found-at 0 most cs at n d rise within (ranked _ n _ (sym (equal d)))

  pub searched-nowhere : (at : ℕ) → IsBinarySearchResult (λ (c : CommitItem). nat_cmp c.number n) cs (Err at) → commit_numbered n cs ≡ None
  searched-nowhere at parted =
      found-nowhere cs n (λ k d inside is. higher_or_lower at (parted comparisons_rise) k d inside (ltb k at) refl is)
