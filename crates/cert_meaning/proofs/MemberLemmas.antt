-- The members of a view, put in from the last one on.
use Rattle.std.proofs.Common.{◌≡◌, ℕ, List, [], ◌∷◌, ◌++◌, refl, ap}
use Rattle.std.specs.Ordering.{nat_cmp}
use Rattle.finite_map.specs.FiniteMap.{FiniteMap, empty, insert}
use Rattle.cert_meaning.specs.State.{Standing}
use Rattle.cert_meaning.specs.Fold.{standing_in, members_in}

-- the members put into a map, the first of them last
abbrev pub with_members : FiniteMap nat_cmp Standing → ℕ → List ℕ → FiniteMap nat_cmp Standing → FiniteMap nat_cmp Standing
with_members members number [] into = into
with_members members number (m ∷ ms) into =
    insert (with_members members number ms into) m (standing_in members number m)

pub with_members-all : (members : FiniteMap nat_cmp Standing) (number : ℕ) (ms : List ℕ)
    → with_members members number ms empty ≡ members_in members number ms
with_members-all members number [] = refl
with_members-all members number (m ∷ ms) =
    ap (λ (into : FiniteMap nat_cmp Standing). insert into m (standing_in members number m)) (with_members-all members number ms)

pub with_members-last : (members : FiniteMap nat_cmp Standing) (number : ℕ) (ms : List ℕ) (m : ℕ) (into : FiniteMap nat_cmp Standing)
    → with_members members number (ms ++ m ∷ []) into ≡ with_members members number ms (insert into m (standing_in members number m))
with_members-last members number [] m into = refl
with_members-last members number (n ∷ ms) m into =
    ap (λ (made : FiniteMap nat_cmp Standing). insert made n (standing_in members number n)) (with_members-last members number ms m into)
