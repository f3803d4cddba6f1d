-- Several pieces are put one behind the other.
use Rattle.std.proofs.Common.{◌≡◌, ℕ, ◌+◌, ◌<◌, List, [], ◌∷◌, ◌++◌, length, take, get_or, sym, ap, ◌∙◌, append_assoc}
use Rattle.std.specs.List.{flat_map}
use Rattle.std.proofs.lemmas.List.{append-nil, take_more}
use Rattle.std.proofs.lemmas.Grind.{flat_map-append}

pub two_put : (old a b one two : List ℕ) → one ≡ old ++ a → two ≡ one ++ b → two ≡ old ++ (a ++ b)
two_put old a b one two e f =
    let ends : (old ++ a) ++ b ≡ old ++ (a ++ b) = append_assoc old a b in cc

pub three_put : (old a b c one two three : List ℕ) → one ≡ old ++ a → two ≡ one ++ b → three ≡ two ++ c
    → three ≡ old ++ (a ++ (b ++ c))
three_put old a b c one two three e f g =
    let ends : ((old ++ a) ++ b) ++ c ≡ old ++ (a ++ (b ++ c)) = simp append_assoc in cc

pub four_put : (old a b c d one two three four : List ℕ) → one ≡ old ++ a → two ≡ one ++ b → three ≡ two ++ c → four ≡ three ++ d
    → four ≡ old ++ (a ++ (b ++ (c ++ d)))
four_put old a b c d one two three four e f g h =
    let ends : (((old ++ a) ++ b) ++ c) ++ d ≡ old ++ (a ++ (b ++ (c ++ d))) = simp append_assoc in cc

-- one more item of a list is put behind those before it
pub item_put : {A : Type 0} (text : A → List ℕ) (items : List A) (i : ℕ) (x : A) (old head out new : List ℕ)
    → i < length items → x ≡ get_or items i x → out ≡ old ++ (head ++ flat_map text (take i items)) → new ≡ out ++ text x
    → new ≡ old ++ (head ++ flat_map text (take (i + 1) items))
item_put text items i x old head out new within is so_far put =
    let front = flat_map text (take i items) in
    let y = get_or items i x in
    let more : flat_map text (take (i + 1) items) ≡ front ++ text x =
    ap (flat_map text) (take_more items i x within) ∙ flat_map-append text (take i items) (y ∷ [])
    ∙ ap (λ t. front ++ t) (append-nil (text y)) ∙ ap (λ z. front ++ text z) (sym is) in
    put ∙ ap (λ t. t ++ text x) so_far ∙ append_assoc old (head ++ front) (text x)
    ∙ ap (λ t. old ++ t) (append_assoc head front (text x)) ∙ ap (λ t. old ++ (head ++ t)) (sym more)
