-- Commits searched from the newest one back, by their rising numbers.
use Rattle.std.proofs.Common.{◌≡◌, ℕ, ◌≤◌, ◌<◌, Bool, true, false, List, [], ◌∷◌, ◌++◌, Option, None, Some, refl, sym, ap, subst, ◌∙◌, arith}
use Rattle.std.specs.Prelude.{◌-◌, ◌==◌, ◌&&◌, cond, filter, map, max, nat_lt, T}
use Rattle.std.proofs.Math.Facts.{ltb_yes, yes_ltb}
use Rattle.std.proofs.Math.Dec.{eqb→eq}
use Rattle.std.proofs.lemmas.List.Elements.{filter-append}
use Rattle.wsrep_base.specs.Trx.{greatest}
use Rattle.key_sets.specs.Keys.{Keys}
use Rattle.cert_meaning.specs.Extremes.{greater}
use Rattle.cert_meaning.specs.State.{CommitItem, RiseWithin}
use Rattle.cert_meaning.specs.Search.{is_related, greatest_related}
use Rattle.cert_meaning.proofs.CommitLaws.{rise-more, rise-append}
use Rattle.cert_meaning.proofs.ExtremeLemmas.{greater_first, greater-assoc, greatest-append}

-- what is known of commits in front of the newest, and of that
pub record Newest (above most : ℕ) (front : List CommitItem) (commit : CommitItem) : Type 0 where
  pub rise : RiseWithin above (commit.number - 1) front
  pub low : above < commit.number
  pub high : commit.number ≤ most

pub rise_front : (above most : ℕ) (front : List CommitItem) (commit : CommitItem)
    → RiseWithin above most (front ++ commit ∷ []) → Newest above most front commit
rise_front above most [] commit h = record { rise = tt; low = h.0; high = h.1 }
rise_front above most (c ∷ cs) commit h =
    let rest = rise_front c.number most cs commit h.2 in
    record {
      rise = (h.0, omega (arith, rest.low), rest.rise);
      low = omega (arith, h.0, rest.low);
      high = rest.high;
    }

-- the commits in front still rise
pub rise_kept : (above most : ℕ) (front : List CommitItem) (commit : CommitItem) → Newest above most front commit → RiseWithin above most front
rise_kept above most front commit newest =
    rise-more above (commit.number - 1) most front (omega (arith, newest.high)) newest.rise

different : (b : Bool) → (b ≡ true → ⊥) → b ≡ false
different true no_truth = absurd (no_truth refl)
different false no_truth = refl

above_true : (b : Bool) → T b → b ≡ true
above_true true h = refl
above_true false h = absurd h

neither : (b c : Bool) → c ≡ false → b && c ≡ false
neither true c is = is
neither false c is = refl

not_above : (seen n : ℕ) → n ≤ seen → nat_lt seen n ≡ false
not_above seen n low = different (nat_lt seen n) (λ yes. let above : seen < n = ltb_yes (subst T (sym yes) tt) in omega (arith, low, above))

module _ (related : Keys → Keys → Bool) where
  -- none is above the number
  related_none : (above most seen : ℕ) (commits : List CommitItem) (keys : Keys) → most ≤ seen → RiseWithin above most commits
      → filter (is_related related seen keys) commits ≡ []
  related_none above most seen [] keys low rise = refl
  related_none above most seen (c ∷ cs) keys low rise =
      ap (λ b. cond (b && related c.keys keys) (c ∷ filter (is_related related seen keys) cs) (filter (is_related related seen keys) cs))
      (not_above seen c.number (omega (arith, low, rise.1)))
      ∙ related_none c.number most seen cs keys low rise.2

  -- where the newest is not above, none is
  pub related-seen : (above most seen : ℕ) (front : List CommitItem) (commit : CommitItem) (keys : Keys)
      → Newest above most front commit → commit.number ≤ seen → greatest_related related (front ++ commit ∷ []) seen keys ≡ None
  related-seen above most seen front commit keys newest low =
      ap (λ cs. greatest (map (λ (c : CommitItem). c.number) cs))
      (related_none above commit.number seen (front ++ commit ∷ []) keys low
      (rise-append above (commit.number - 1) front commit (omega (arith, newest.low)) (omega (arith, newest.low)) newest.rise))

  within_chosen : (c : CommitItem) (rest : List CommitItem) (n : ℕ) (b : Bool) → c.number ≤ n
      → greater (greatest (map (λ (c : CommitItem). c.number) rest)) (Some n) ≡ Some n
      → greater (greatest (map (λ (c : CommitItem). c.number) (cond b (c ∷ rest) rest))) (Some n) ≡ Some n
  within_chosen c rest n false low later = later
  within_chosen c rest n true low later =
      ap (λ o. greater o (Some n)) (greater_first c.number (greatest (map (λ (c : CommitItem). c.number) rest)))
      ∙ greater-assoc (Some c.number) (greatest (map (λ (c : CommitItem). c.number) rest)) (Some n)
      ∙ ap (greater (Some c.number)) later
      ∙ ap Some (let same : max c.number n ≡ n = omega (arith, low) in same)

  -- one more number, not below all of some commits, is the greatest
  within_greatest : (above most n : ℕ) (commits : List CommitItem) (test : CommitItem → Bool) → most ≤ n → RiseWithin above most commits
      → greater (greatest (map (λ (c : CommitItem). c.number) (filter test commits))) (Some n) ≡ Some n
  within_greatest above most n [] test low rise = refl
  within_greatest above most n (c ∷ cs) test low rise =
      within_chosen c (filter test cs) n (test c) (omega (arith, low, rise.1)) (within_greatest c.number most n cs test low rise.2)

  numbers-append : (xs ys : List CommitItem) → map (λ (c : CommitItem). c.number) (xs ++ ys)
      ≡ map (λ (c : CommitItem). c.number) xs ++ map (λ (c : CommitItem). c.number) ys
  numbers-append [] ys = refl
  numbers-append (x ∷ xs) ys = ap (λ ns. x.number ∷ ns) (numbers-append xs ys)

  split : (seen : ℕ) (front : List CommitItem) (commit : CommitItem) (keys : Keys) (b : Bool) → is_related related seen keys commit ≡ b
      → greatest_related related (front ++ commit ∷ []) seen keys
      ≡ greater (greatest_related related front seen keys) (greatest (map (λ (c : CommitItem). c.number) (cond b (commit ∷ []) [])))
  split seen front commit keys b is =
      ap (λ cs. greatest (map (λ (c : CommitItem). c.number) cs)) (filter-append (is_related related seen keys) front (commit ∷ []))
      ∙ ap (λ t. greatest (map (λ (c : CommitItem). c.number) (filter (is_related related seen keys) front ++ cond t (commit ∷ []) []))) is
      ∙ ap greatest (numbers-append (filter (is_related related seen keys) front) (cond b (commit ∷ []) []))
      ∙ greatest-append (map (λ (c : CommitItem). c.number) (filter (is_related related seen keys) front)) _

  -- where the newest is related it is the greatest
  pub related-found : (above most seen : ℕ) (front : List CommitItem) (commit : CommitItem) (keys : Keys)
      → Newest above most front commit → is_related related seen keys commit ≡ true
      → greatest_related related (front ++ commit ∷ []) seen keys ≡ Some commit.number
  related-found above most seen front commit keys newest is =
      split seen front commit keys true is
      ∙ ap (λ n. greater (greatest_related related front seen keys) (Some n)) (let same : max commit.number commit.number ≡ commit.number = omega arith in same)
      ∙ within_greatest above (commit.number - 1) commit.number front (is_related related seen keys) (omega arith) newest.rise

  greater_none : (o : Option ℕ) → greater o None ≡ o
  greater_none None = refl
  greater_none (Some n) = refl

  -- where the newest is not related, the greatest is among those in front
  pub related-passed : (seen : ℕ) (front : List CommitItem) (commit : CommitItem) (keys : Keys) → is_related related seen keys commit ≡ false
      → greatest_related related (front ++ commit ∷ []) seen keys ≡ greatest_related related front seen keys
  related-passed seen front commit keys is = split seen front commit keys false is ∙ greater_none (greatest_related related front seen keys)

  pub related_true : (seen : ℕ) (commit : CommitItem) (keys : Keys) → seen < commit.number → related commit.keys keys ≡ true
      → is_related related seen keys commit ≡ true
  related_true seen commit keys above is =
      ap (λ b. b && related commit.keys keys) (above_true (nat_lt seen commit.number) (yes_ltb above)) ∙ is

  pub related_false : (seen : ℕ) (commit : CommitItem) (keys : Keys) → related commit.keys keys ≡ false → is_related related seen keys commit ≡ false
  related_false seen commit keys is = neither (nat_lt seen commit.number) (related commit.keys keys) is

pub not_equal : (m n : ℕ) → (m ≡ n → ⊥) → m == n ≡ false
not_equal m n apart = different (m == n) (λ same. apart (eqb→eq m n (subst T (sym same) tt)))
