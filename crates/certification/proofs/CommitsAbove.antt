-- Commits whose numbers rise: those above a number, and those behind the oldest.
use Rattle.std.proofs.Common.{◌≡◌, ℕ, zero, suc, ◌≤◌, ◌<◌, cond, List, [], ◌∷◌, length, get_or, drop, refl, sym, ap, ◌∙◌, arith}
use Rattle.std.proofs.lemmas.Bool.{lt-ltb, le-ltb}
use Rattle.cert_meaning.specs.declared.items.CommitItem.{CommitItem}
use Rattle.cert_meaning.specs.State.{RiseWithin, Rise}
use Rattle.certification.specs.Certifies.{commits_above}

-- a lower number is below them too
pub rise-lower : (low above most : ℕ) (cs : List CommitItem) → low ≤ above → RiseWithin above most cs → RiseWithin low most cs
rise-lower low above most [] less rise = tt
rise-lower low above most (c ∷ cs) less rise = (omega (arith, less, rise.0), rise.1, rise.2)

-- those behind the oldest rise too
pub rise-behind : (c : CommitItem) (cs : List CommitItem) → Rise (c ∷ cs) → Rise cs
rise-behind c cs rise = (rise.0, rise-lower 0 c.number rise.0 cs (omega arith) rise.1.2)

-- each of them is above the number
pub higher-at : (above most : ℕ) (cs : List CommitItem) → RiseWithin above most cs → (at : ℕ) (d : CommitItem) → at < length cs
    → above < (get_or cs at d).number
higher-at above most [] rise at d within = absurd (omega (arith, within))
higher-at above most (c ∷ cs) rise zero d within = rise.0
higher-at above most (c ∷ cs) rise (suc at) d within =
    let later = higher-at c.number most cs rise.2 at d (omega (arith, within)) in omega (arith, rise.0, later)

-- the oldest goes, where it is not above
pub above-without : (to : ℕ) (c : CommitItem) (cs : List CommitItem) → c.number ≤ to → commits_above to (c ∷ cs) ≡ commits_above to cs
above-without to c cs low = ap (λ b. cond b (c ∷ commits_above to cs) (commits_above to cs)) (le-ltb to c.number low)

above-with : (to : ℕ) (c : CommitItem) (cs : List CommitItem) → to < c.number → commits_above to (c ∷ cs) ≡ c ∷ commits_above to cs
above-with to c cs high = ap (λ b. cond b (c ∷ commits_above to cs) (commits_above to cs)) (lt-ltb to c.number high)

-- where the number is not above that from which they rise, all stay
pub above-all : (to above most : ℕ) (cs : List CommitItem) → to ≤ above → RiseWithin above most cs → commits_above to cs ≡ cs
above-all to above most [] less rise = refl
above-all to above most (c ∷ cs) less rise =
    above-with to c cs (omega (arith, less, rise.0))
    ∙ ap (λ xs. c ∷ xs) (above-all to c.number most cs (omega (arith, less, rise.0)) rise.2)

-- where the oldest is above, all are
pub above-oldest : (to : ℕ) (c : CommitItem) (cs : List CommitItem) → to < c.number → Rise (c ∷ cs) → commits_above to (c ∷ cs) ≡ c ∷ cs
above-oldest to c cs high rise =
    above-with to c cs high ∙ ap (λ xs. c ∷ xs) (above-all to c.number rise.0 cs (omega (arith, high)) rise.1.2)

-- the oldest of some commits, and those behind it
pub oldest-first : (cs rest : List CommitItem) (c : CommitItem) → 0 < length cs → c ≡ get_or cs 0 c → rest ≡ drop 1 cs → cs ≡ c ∷ rest
oldest-first [] rest c some is less = absurd (omega (arith, some))
oldest-first (x ∷ xs) rest c some is less = λ i. sym is i ∷ sym less i
