-- The index of holders: what its numbers say while a key is taken out, and that it has no more
-- numbers than entries.
use Rattle.std.proofs.Common.{◌≡◌, ℕ, ◌<◌, ◌≤◌, Bool, true, false, cond, List, [], ◌∷◌, map, length, Option, None, Some, subst, arith}
use Rattle.std.specs.Prelude.{is_some, nat_eq}
use Rattle.std.specs.Option.{unwrap_or}
use Rattle.std.specs.List.{list_any}
use Rattle.std.specs.Map.{lookup}
use Rattle.std.proofs.lemmas.Bool.{false_from_ne_true}
use Rattle.std.proofs.lemmas.Bool.Decides.{nat_tests}
use Rattle.std.proofs.lemmas.Map.Steps.{le-length_from_below}
use Rattle.std.proofs.lemmas.List.{length-map}
use Rattle.key_sets.specs.declared.parts.Parts.{Parts}
use Rattle.key_sets.specs.Parts.{parts_eq}
use Rattle.row_locks.specs.declared.holder.Holder.{Holder}
use Rattle.row_locks.specs.declared.holder_index.HolderIndex.{HolderIndex}
use Rattle.row_locks.specs.declared.holder_index.Place.{Place}
use Rattle.row_locks.specs.declared.lock_table.LockKey.{LockKey}
use Rattle.row_locks.specs.HolderIndex.{IsIndex, count, has_number, holder_in, number_of, place_at, place_eq}
use Rattle.row_locks.specs.LockKeys.{holder_eq, lock_eq, key_of}
use Rattle.row_locks.proofs.HolderLemmas.{holder_eq-exact, holder_eq-itself}
use Rattle.row_locks.proofs.NumberLemmas.{IsTestOf}
use Rattle.row_locks.proofs.TableLemmas.{lock_eq-exact, parts_eq-exact, parts_eq-itself}

pub parts_test : (p : Parts) → IsTestOf p (parts_eq p)
parts_test p = record { exact = parts_eq-exact p; itself = parts_eq-itself p }

pub holder_test : (h : Holder) → IsTestOf h (holder_eq h)
holder_test h = record { exact = holder_eq-exact h; itself = holder_eq-itself h }

-- a key's number is one of those at its parts
pub number_below : (a : HolderIndex) (key : LockKey) (n : ℕ) → IsIndex a → number_of a key ≡ Some n
    → n < count a key.parts
number_below a key n indexed is =
    let here = indexed key.parts in here.below n key.holder (here.back n key.holder is)

pub counted : (o : Option ℕ) (n : ℕ) → n < unwrap_or o 0 → is_some o ≡ true
counted o n less = grind arith

-- ---- taking a key out
is_left : (moved gone : Bool) (o number : Option ℕ) (i last : ℕ)
    → o ≡ cond moved (Some i) (cond gone None number)
    → (moved ≡ true → (gone ≡ false) × (number ≡ Some last))
    → is_some o ≡ cond gone false (is_some number)
is_left moved gone o number i last e is = grind arith

module _ (a : HolderIndex) (key : LockKey) (i last : ℕ) (z : Holder) (indexed : IsIndex a)
    (is : number_of a key ≡ Some i) (at_last : holder_in a key.parts last ≡ Some z)
    (inside : i < last) where
  abbrev there : number_of a (key_of z key.parts) ≡ Some last
  there = let here = indexed key.parts in here.there last z at_last

  -- the last key is another
  apart : lock_eq key (key_of z key.parts) ≡ false
  apart =
      false_from_ne_true _ (λ e.
      let same = lock_eq-exact key (key_of z key.parts) e in grind (arith, there))

  -- its place stays
  pub place_kept : (o : Option Holder)
      → o ≡ cond (place_eq (place_at key.parts last) (place_at key.parts i)) None
      (holder_in a key.parts i) → is_some o ≡ true
  place_kept o e = let here = indexed key.parts in grind (arith, nat_tests, here.back i key.holder)

  -- and so does the last key
  pub key_kept : (o : Option ℕ)
      → o ≡ cond (lock_eq key (key_of z key.parts)) None (number_of a (key_of z key.parts))
      → is_some o ≡ true
  key_kept o e = grind (arith, apart, there)

  pub numbers_left : (k : LockKey) (o : Option ℕ)
      → o ≡ cond (lock_eq (key_of z key.parts) k) (Some i)
      (cond (lock_eq key k) None (number_of a k))
      → is_some o ≡ cond (lock_eq key k) false (has_number a k)
  numbers_left k o e =
      is_left (lock_eq (key_of z key.parts) k) (lock_eq key k) o (number_of a k) i last e
      (λ f. subst (λ x. (lock_eq key x ≡ false) × (number_of a x ≡ Some last))
      (lock_eq-exact (key_of z key.parts) k f) (apart, there))

-- ---- no more numbers than entries
number_there : (es : List (Place × Holder)) (p : Parts) (n : ℕ)
    → is_some (lookup (place_eq (place_at p n)) es) ≡ true
    → list_any (nat_eq n) (map (λ e. e.0.number) es) ≡ true
number_there [] p n there = there
number_there (e ∷ es) p n there = grind (arith, number_there es p n)

pub count-le : (a : HolderIndex) (p : Parts) → IsIndex a → count a p ≤ length a.holders.entries
count-le a p indexed =
    let here = indexed p in let numbers = map (λ e. e.0.number) a.holders.entries in
    subst (λ n. count a p ≤ n) (length-map a.holders.entries (λ e. e.0.number))
    (le-length_from_below numbers (count a p)
    (λ n less. number_there a.holders.entries p n (here.full n less)))
