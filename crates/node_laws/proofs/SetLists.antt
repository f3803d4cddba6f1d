-- Lists of write sets: one more at the end, and the first one gone.
use Rattle.std.proofs.Common.{◌≡◌, ℕ, ◌+◌, ◌≤◌, ◌<◌, Bool, true, false, cond, List, [], ◌∷◌, ◌++◌, refl, ap, sym, subst, ◌∙◌, arith, eqb→eq, eq-eqb}
use Rattle.std.specs.Prelude.{◌==◌, T}
use Rattle.std.specs.List.{AllByRecursion}
use Rattle.std.proofs.lemmas.Bool.{false_from_ne_true}
use Rattle.std.proofs.lemmas.List.{append-nil}
use Rattle.std.proofs.lemmas.List.Elements.{filter-append}
use Rattle.write_set.specs.declared.write_set.WriteSet.{WriteSet}
use Rattle.node_meaning.specs.Facts.{sets_of, SerialsRise, IsOurs}

pub equal : (m n : ℕ) → m == n ≡ true → m ≡ n
equal m n same = eqb→eq m n (subst T (sym same) tt)

pub unequal : (m n : ℕ) → (m ≡ n → ⊥) → m == n ≡ false
unequal m n differs = false_from_ne_true (m == n) (λ same. differs (equal m n same))

-- ---- all of them
pub all_push : {X : Type 0} (P : X → Type 0) (xs : List X) (x : X) → AllByRecursion P xs → P x
    → AllByRecursion P (xs ++ x ∷ [])
all_push P [] x all new = (new, tt)
all_push P (y ∷ ys) x all new = (all.0, all_push P ys x all.1 new)

pub all_each : {X : Type 0} (P Q : X → Type 0) → ((x : X) → P x → Q x) → (xs : List X)
    → AllByRecursion P xs → AllByRecursion Q xs
all_each P Q each [] all = tt
all_each P Q each (x ∷ xs) all = (each x all.0, all_each P Q each xs all.1)

-- ---- serials
pub serials_push : (low : ℕ) (sets : List WriteSet) (next : ℕ) (w : WriteSet) → w.serial ≡ next
    → SerialsRise low sets next
    → SerialsRise low (sets ++ w ∷ []) (next + 1)
serials_push low [] next w is rise = (subst (λ k. low < k) (sym is) rise, omega (arith, is))
serials_push low (v ∷ sets) next w is rise = (rise.0, serials_push v.serial sets next w is rise.1)

pub serials_lower : (low high : ℕ) (sets : List WriteSet) (next : ℕ) → low ≤ high
    → SerialsRise high sets next → SerialsRise low sets next
serials_lower low high [] next below rise = omega (arith, below, rise)
serials_lower low high (w ∷ sets) next below rise = (omega (arith, below, rise.0), rise.1)

-- ---- those of one transaction
of-push : (begin : ℕ) (sets : List WriteSet) (w : WriteSet) (own : Bool) → w.begin == begin ≡ own
    → sets_of begin (sets ++ w ∷ []) ≡ sets_of begin sets ++ cond own (w ∷ []) []
of-push begin sets w own is =
    filter-append (λ (v : WriteSet). v.begin == begin) sets (w ∷ [])
    ∙ ap (λ b. sets_of begin sets ++ cond b (w ∷ []) []) is

pub of-other : (begin : ℕ) (sets : List WriteSet) (w : WriteSet) → w.begin == begin ≡ false
    → sets_of begin (sets ++ w ∷ []) ≡ sets_of begin sets
of-other begin sets w is = of-push begin sets w false is ∙ append-nil (sets_of begin sets)

pub of-own : (begin : ℕ) (sets : List WriteSet) (w : WriteSet) → w.begin ≡ begin
    → sets_of begin sets ≡ [] → sets_of begin (sets ++ w ∷ []) ≡ w ∷ []
of-own begin sets w is none = of-push begin sets w true (eq-eqb w.begin begin is)
    ∙ ap (λ vs. vs ++ w ∷ []) none

-- a transaction that has not begun has none
pub of-new : (member begin p : ℕ) (sets : List WriteSet)
    → AllByRecursion (IsOurs member begin p) sets → sets_of begin sets ≡ []
of-new member begin p [] ours = refl
of-new member begin p (w ∷ sets) ours =
    let below = ours.0.begun in
    ap (λ b. cond b (w ∷ sets_of begin sets) (sets_of begin sets))
    (unequal w.begin begin (λ same. omega (arith, same, below)))
    ∙ of-new member begin p sets ours.1

-- the first one
pub of-first : (begin : ℕ) (w : WriteSet) (sets : List WriteSet) (own : Bool)
    → w.begin == begin ≡ own
    → sets_of begin (w ∷ sets) ≡ cond own (w ∷ sets_of begin sets) (sets_of begin sets)
of-first begin w sets own is = ap (λ b. cond b (w ∷ sets_of begin sets) (sets_of begin sets)) is
