-- The least and the greatest of numbers, found one after another.
use Rattle.std.proofs.Common.{◌≡◌, ℕ, List, [], ◌∷◌, ◌++◌, Option, Some, None, refl, sym, ap, ◌∙◌, arith}
use Rattle.std.specs.Prelude.{min, max, unwrap_or}
use Rattle.wsrep_base.specs.Trx.{least, greatest}
use Rattle.cert_meaning.specs.Extremes.{lesser, greater}

lesser_first : (n : ℕ) (rest : Option ℕ) → Some (min n (unwrap_or rest n)) ≡ lesser (Some n) rest
lesser_first n None = ap Some (let same : min n n ≡ n = omega arith in same)
lesser_first n (Some m) = refl

lesser_assoc : (a b c : Option ℕ) → lesser (lesser a b) c ≡ lesser a (lesser b c)
lesser_assoc None b c = refl
lesser_assoc (Some a) None c = refl
lesser_assoc (Some a) (Some b) None = refl
lesser_assoc (Some a) (Some b) (Some c) = ap Some (let same : min (min a b) c ≡ min a (min b c) = omega arith in same)

-- one number more is taken in
pub least-step : (so_far : Option ℕ) (n : ℕ) (ns : List ℕ) → lesser (lesser so_far (Some n)) (least ns) ≡ lesser so_far (least (n ∷ ns))
least-step so_far n ns = lesser_assoc so_far (Some n) (least ns) ∙ ap (lesser so_far) (sym (lesser_first n (least ns)))

pub lesser-none : (so_far : Option ℕ) → lesser so_far None ≡ so_far
lesser-none None = refl
lesser-none (Some n) = refl

pub greater_first : (n : ℕ) (rest : Option ℕ) → Some (max n (unwrap_or rest n)) ≡ greater (Some n) rest
greater_first n None = ap Some (let same : max n n ≡ n = omega arith in same)
greater_first n (Some m) = refl

pub greater-assoc : (a b c : Option ℕ) → greater (greater a b) c ≡ greater a (greater b c)
greater-assoc None b c = refl
greater-assoc (Some a) None c = refl
greater-assoc (Some a) (Some b) None = refl
greater-assoc (Some a) (Some b) (Some c) = ap Some (let same : max (max a b) c ≡ max a (max b c) = omega arith in same)

-- one number more is taken in
pub greatest-step : (so_far : Option ℕ) (n : ℕ) (ns : List ℕ) → greater (greater so_far (Some n)) (greatest ns) ≡ greater so_far (greatest (n ∷ ns))
greatest-step so_far n ns = greater-assoc so_far (Some n) (greatest ns) ∙ ap (greater so_far) (sym (greater_first n (greatest ns)))

pub greater-none : (so_far : Option ℕ) → greater so_far None ≡ so_far
greater-none None = refl
greater-none (Some n) = refl

-- the greatest of two lists
pub greatest-append : (ms ns : List ℕ) → greatest (ms ++ ns) ≡ greater (greatest ms) (greatest ns)
greatest-append [] ns = refl
greatest-append (m ∷ ms) ns =
    greater_first m (greatest (ms ++ ns)) ∙ ap (greater (Some m)) (greatest-append ms ns)
    ∙ sym (greater-assoc (Some m) (greatest ms) (greatest ns))
    ∙ ap (λ o. greater o (greatest ns)) (sym (greater_first m (greatest ms)))
