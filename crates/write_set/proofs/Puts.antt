-- Several pieces are put one behind the other.
use Rattle.std.proofs.Common.{◌≡◌, ℕ, List, [], ◌∷◌, ◌++◌, Result, Ok, Err, append_assoc}
use Rattle.std.specs.Prelude.{OnOk}

pub on_ok : {X E : Type 0} (r : Result X E) (A B : Type 0) → (A → B) → OnOk r A → OnOk r B
on_ok (Ok x) A B f h = f h
on_ok (Err e) A B f h = h

pub four_put : (old : List ℕ) (a : ℕ) (b c d one two three four : List ℕ)
    → one ≡ old ++ a ∷ [] → two ≡ one ++ b → three ≡ two ++ c → four ≡ three ++ d → four ≡ old ++ a ∷ (b ++ (c ++ d))
four_put old a b c d one two three four e f g h =
    let ends : ((old ++ a ∷ []) ++ b) ++ c ++ d ≡ old ++ a ∷ (b ++ (c ++ d)) = simp append_assoc in cc

pub three_put : (old a : List ℕ) (b : ℕ) (c one two three : List ℕ)
    → one ≡ old ++ a → two ≡ one ++ b ∷ [] → three ≡ two ++ c → three ≡ old ++ (a ++ b ∷ c)
three_put old a b c one two three e f g =
    let ends : ((old ++ a) ++ b ∷ []) ++ c ≡ old ++ (a ++ b ∷ c) = simp append_assoc in cc
