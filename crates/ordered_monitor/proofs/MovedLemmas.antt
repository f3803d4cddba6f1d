-- the window, moved over one Finished number after another
use Rattle.std.proofs.Common.{◌≡◌, ℕ, ◌+◌, ◌<◌, ◌≤◌, zero, suc, List, [], ◌∷◌, ◌++◌, length, get_or, set, take, drop, replicate, refl, sym, ap, ◌∙◌, arith, add-one, append_assoc, append-nil}
use Rattle.std.proofs.lemmas.List.{drop-append-le}
use Rattle.ordered_monitor.specs.declared.entry.EntryState.{EntryState}
use Rattle.ordered_monitor.specs.declared.entry.EntryState.TheVariants.{Idle, Finished}
use Rattle.ordered_monitor.specs.Entries.{Entries, leading, moved, FinishedFit}

pub leading-le : (states : List EntryState) → leading states ≤ length states
leading-le [] = omega arith
leading-le (Finished ∷ states) = let h = leading-le states in omega arith
leading-le (_ ∷ states) = omega arith

leading-idle : (states : List EntryState) → leading (states ++ Idle ∷ []) ≡ leading states
leading-idle [] = refl
leading-idle (Finished ∷ states) = ap (λ n. n + 1) (leading-idle states)
leading-idle (_ ∷ states) = refl

get_or-idle : (states : List EntryState) (k : ℕ) → get_or (states ++ Idle ∷ []) k Idle ≡ get_or states k Idle
get_or-idle [] zero = refl
get_or-idle [] (suc k) = refl
get_or-idle (state ∷ states) zero = refl
get_or-idle (state ∷ states) (suc k) = get_or-idle states k

record_of : (m n : ℕ) (xs ys : List EntryState) → m ≡ n → xs ≡ ys
    → ◌≡◌ {A = Entries} (record { last_left = m; window = xs }) (record { last_left = n; window = ys })
record_of m n xs ys e f = λ i. record { last_left = e i; window = f i }

moved-once : (last_left : ℕ) (states : List EntryState) → moved (last_left + 1) (states ++ Idle ∷ []) ≡ moved last_left (Finished ∷ states)
moved-once last_left states =
    let n = leading states in
    let counted = leading-idle states in
    let short : n ≤ length states = leading-le states in
    record_of _ _ _ _ (omega (arith, counted))
    (ap (λ k. drop k (states ++ Idle ∷ []) ++ replicate k Idle) counted
    ∙ ap (λ xs. xs ++ replicate n Idle) (drop-append-le n states (Idle ∷ []) short)
    ∙ append_assoc (drop n states) (Idle ∷ []) (replicate n Idle)
    ∙ sym (ap (λ k. drop k (Finished ∷ states) ++ replicate k Idle) (add-one n)))

-- the window after its first number, a Finished one, went to its end as an Idle one
abbrev pub turned : List EntryState → List EntryState
turned states = drop 1 (set states 0 Idle) ++ take 1 (set states 0 Idle)

pub moved-turned : (last_left : ℕ) (states : List EntryState) → 0 < leading states → moved (last_left + 1) (turned states) ≡ moved last_left states
moved-turned last_left [] h = absurd (omega arith)
moved-turned last_left (Finished ∷ states) h = moved-once last_left states
moved-turned last_left (_ ∷ states) h = absurd (omega arith)

pub leading-turned : (states : List EntryState) → 0 < leading states → leading (turned states) + 1 ≡ leading states
leading-turned [] h = absurd (omega arith)
leading-turned (Finished ∷ states) h = ap (λ n. n + 1) (leading-idle states)
leading-turned (_ ∷ states) h = absurd (omega arith)

pub fit-turned : (last_left : ℕ) (states : List EntryState) → 0 < leading states → FinishedFit last_left states → FinishedFit (last_left + 1) (turned states)
fit-turned last_left [] h fit k is = absurd (omega arith)
fit-turned last_left (Finished ∷ states) h fit k is = let below = fit (suc k) (sym (get_or-idle states k) ∙ is) in omega arith
fit-turned last_left (_ ∷ states) h fit k is = absurd (omega arith)

pub moved-none : (last_left : ℕ) (states : List EntryState) → leading states ≡ 0 → moved last_left states ≡ record { last_left = last_left; window = states }
moved-none last_left states none =
    record_of _ _ _ _ (omega (arith, none))
    (ap (λ k. drop k states ++ replicate k Idle) none ∙ append-nil states)
