-- Names: what is read is a name, and a name is read again.
use Rattle.std.proofs.Common.{◌≡◌, ℕ, zero, suc, ◌+◌, ◌-◌, ◌<◌, ◌≤◌, Bool, true, false, cond, List, [], ◌∷◌, ◌++◌, length, take, drop, replicate, Option, Some, None, Result, Ok, refl, sym, ap, subst, ◌∙◌, arith}
use Rattle.std.specs.Prelude.{◌==◌, ◌||◌, ◌&&◌, not, nat_lt}
use Rattle.std.specs.List.{list_all, prefix_len, position, position_from}
use Rattle.std.proofs.lemmas.Bool.Decides.{nat_tests}
use Rattle.std.proofs.lemmas.List.{take_at, drop_at, take-append-drop, length-append, length-take-le, length-drop, length-replicate}
use Rattle.std.proofs.lemmas.List.Sums.{prefix_len-le-length}
use Rattle.std.proofs.lemmas.Iterator.Adapters.{position_from-zero}
use Rattle.write_set.specs.declared.fault.WsFault.TheVariants.{Short}
use Rattle.write_set.specs.declared.fault.WsFault.{WsFault}
use Rattle.write_set.specs.declared.names.NameRole.{NameRole}
use Rattle.write_set.specs.declared.names.NameRole.TheVariants as role
use Rattle.write_set.specs.Names.{admits, name_len, letters, padded, is_name}
use Rattle.write_set.specs.Spelling.{name_text}
use Rattle.write_set.specs.Place.{Place}
use Rattle.write_set.specs.Reading.{◌>>=◌, bad_letter, fault_of, name_at}
use Rattle.write_set.proofs.RulesOf.{both, and}
use Rattle.write_set.proofs.Bounds.{is_no, positive, some_is, within, is_within}
use Rattle.wsrep_base.proofs.Fields.{IsBytes, read_ok, passed, ok_is, place, Took, took_then, bytes_take, bytes_again, byte_takes, byte_again}

abbrev is_some_byte : ℕ → Bool
is_some_byte b = not (b == 0)

abbrev is_zero : ℕ → Bool
is_zero b = b == 0

-- ---- tests of all bytes

-- no byte fails where all pass
none_step : (b : Bool) (i : ℕ) (rest : Option ℕ) → cond (not b) (Some i) rest ≡ None → (b ≡ true) × (rest ≡ None)
none_step true i rest e = (refl, e)
none_step false i rest e = absurd cc

none_fails : (test : ℕ → Bool) (i : ℕ) (xs : List ℕ) → position_from (λ b. not (test b)) i xs ≡ None → list_all test xs ≡ true
none_fails test i [] e = refl
none_fails test i (x ∷ xs) e =
    let here = none_step (test x) i (position_from (λ b. not (test b)) (i + 1) xs) e in
    and (test x) (list_all test xs) here.0 (none_fails test (i + 1) xs here.1)

all_pass : (test : ℕ → Bool) (i : ℕ) (xs : List ℕ) → list_all test xs ≡ true → position_from (λ b. not (test b)) i xs ≡ None
all_pass test i [] h = refl
all_pass test i (x ∷ xs) h =
    let each = both (test x) (list_all test xs) h in
    ap (λ b. cond (not b) (Some i) (position_from (λ c. not (test c)) (i + 1) xs)) each.0 ∙ all_pass test (i + 1) xs each.1

no_letter : (r : NameRole) → admits r 0 ≡ true → ⊥
no_letter role.KeyTable h = absurd cc
no_letter role.KeyRow h = absurd cc
no_letter role.ChangeTable h = absurd cc
no_letter role.ChangeRow h = absurd cc

letter_is_some : (r : NameRole) (b : ℕ) → admits r b ≡ true → is_some_byte b ≡ true
letter_is_some r zero h = absurd (no_letter r h)
letter_is_some r (suc b) h = grind (arith, nat_tests)

letters_are_some : (r : NameRole) (xs : List ℕ) → list_all (admits r) xs ≡ true → list_all is_some_byte xs ≡ true
letters_are_some r [] h = refl
letters_are_some r (x ∷ xs) h =
    let each = both (admits r x) (list_all (admits r) xs) h in
    and (is_some_byte x) (list_all is_some_byte xs) (letter_is_some r x each.0) (letters_are_some r xs each.1)

-- ---- the letters of a padded name

zeros_stop : (k : ℕ) → prefix_len is_some_byte (replicate k 0) ≡ 0
zeros_stop zero = refl
zeros_stop (suc k) = refl

prefix_is : (xs : List ℕ) (k : ℕ) → list_all is_some_byte xs ≡ true → prefix_len is_some_byte (xs ++ replicate k 0) ≡ length xs
prefix_is [] k h = zeros_stop k
prefix_is (x ∷ xs) k h =
    let each = both (is_some_byte x) (list_all is_some_byte xs) h in
    ap (λ b. cond b (1 + prefix_len is_some_byte (xs ++ replicate k 0)) 0) each.0 ∙ ap (λ n. 1 + n) (prefix_is xs k each.1) ∙ omega arith

zeros_are : (k : ℕ) → list_all is_zero (replicate k 0) ≡ true
zeros_are zero = refl
zeros_are (suc k) = zeros_are k

-- sixteen zeros are those that the padding has
zeros_again : (xs : List ℕ) → list_all is_zero xs ≡ true → xs ≡ replicate (length xs) 0
zeros_again [] h = refl
zeros_again (x ∷ xs) h =
    let each = both (is_zero x) (list_all is_zero xs) h in
    let zero_is : x ≡ 0 = grind (arith, nat_tests, each.0) in
    λ i. zero_is i ∷ zeros_again xs each.1 i

pub record IsPaddedName (r : NameRole) (xs : List ℕ) : Type 0 where
  pub text : name_text (padded xs) ≡ length xs ∷ xs
  pub long : length (padded xs) ≡ 16
  pub is : is_name (admits r) (padded xs) ≡ true

padded_is : (r : NameRole) (xs : List ℕ) → 0 < length xs → length xs ≤ 16 → list_all (admits r) xs ≡ true → IsPaddedName r xs
unfolding is_name
padded_is r xs some most h =
    let zeros = replicate (16 - length xs) 0 in
    let len : name_len (padded xs) ≡ length xs = prefix_is xs (16 - length xs) (letters_are_some r xs h) in
    let front : letters (padded xs) ≡ xs = ap (λ n. take n (padded xs)) len ∙ take_at xs zeros (length xs) refl in
    let back : drop (name_len (padded xs)) (padded xs) ≡ zeros = ap (λ n. drop n (padded xs)) len ∙ drop_at xs zeros (length xs) refl in
    let named : not (name_len (padded xs) == 0) ≡ true = ap (λ n. not (n == 0)) len ∙ ap not (some_is (length xs) some) in
    record {
      text = λ i. length (front i) ∷ front i;
      long = omega (arith, length-append xs zeros, length-replicate {A = ℕ} (16 - length xs) 0);
      is = and _ _ (and _ _ named (ap (list_all (admits r)) front ∙ h)) (ap (list_all is_zero) back ∙ zeros_are (16 - length xs));
    }

-- a name is its letters, padded
pub record IsName (r : NameRole) (name : List ℕ) : Type 0 where
  pub some : 0 < length (letters name)
  pub most : length (letters name) ≤ 16
  pub good : list_all (admits r) (letters name) ≡ true
  pub whole : padded (letters name) ≡ name

name_is : (r : NameRole) (name : List ℕ) → length name ≡ 16 → is_name (admits r) name ≡ true → IsName r name
unfolding is_name
name_is r name long h =
    let n = name_len name in
    let parts = both (not (n == 0) && list_all (admits r) (letters name)) (list_all is_zero (drop n name)) h in
    let front = both (not (n == 0)) (list_all (admits r) (letters name)) parts.0 in
    let below : n ≤ 16 = rw (← long) (prefix_len-le-length is_some_byte name) in
    let len : length (letters name) ≡ n = length-take-le n name (rw long below) in
    let some : 0 < n = positive n (is_no (n == 0) front.0) in
    let rest : drop n name ≡ replicate (16 - n) 0 =
    zeros_again (drop n name) parts.1 ∙ ap (λ k. replicate k 0) (length-drop n name ∙ ap (λ k. k - n) long) in
    record {
      some = omega (arith, len);
      most = omega (arith, len);
      good = front.1;
      whole = ap (λ k. letters name ++ replicate (16 - k) 0) len ∙ ap (λ zeros. letters name ++ zeros) (sym rest) ∙ take-append-drop n name;
    }

-- ---- reading

letters_pass : {B : Type 0} (fault : ℕ → WsFault) (at : ℕ) (bad : Option ℕ) (f : Unit {0} → Result B WsFault) (y : B)
    → (bad_letter fault at bad >>= f) ≡ Ok y → (bad ≡ None) × (f tt ≡ Ok y)
letters_pass fault at None f y e = (refl, e)
letters_pass fault at (Some i) f y e = absurd cc

no_bad : (test : ℕ → Bool) (xs : List ℕ) → position (λ b. not (test b)) xs ≡ None → list_all test xs ≡ true
no_bad test xs e = none_fails test 0 xs (sym (position_from-zero (λ b. not (test b)) xs) ∙ e)

all_good : (test : ℕ → Bool) (xs : List ℕ) → list_all test xs ≡ true → position (λ b. not (test b)) xs ≡ None
all_good test xs h = position_from-zero (λ b. not (test b)) xs ∙ all_pass test 0 xs h

abbrev pub TakesName : NameRole → Place → List ℕ × Place → Type 0
TakesName r p x = Took p (name_text x.0) x.1 × (length x.0 ≡ 16) × (is_name (admits r) x.0 ≡ true)

pub name_takes : (r : NameRole) (p : Place) (x : List ℕ × Place) → IsBytes p.left → name_at r p ≡ Ok x → TakesName r p x
unfolding name_at
name_takes r p x fits e =
    let a = read_ok ℕ _ _ x e in
    let b = passed _ _ _ x a.2 in
    let c = read_ok (List ℕ) _ _ x b.1 in
    let d = letters_pass (fault_of r) a.0.1.at (position (λ b. not (admits r b)) c.0.0) (λ good. Ok (padded c.0.0, c.0.1)) x c.2 in
    let count = a.0.0 in
    let name = c.0.0 in
    let front = byte_takes Short p a.0 fits a.1 in
    let back = bytes_take Short count a.0.1 c.0 front.fits c.1 in
    let few = within 16 count b.0 in
    let len : length name ≡ count = back.1 in
    let is = padded_is r name (omega arith) (omega arith) (no_bad (admits r) name d.0) in
    let taken : Took p (count ∷ name) c.0.1 = took_then p (count ∷ []) a.0.1 name c.0.1 front back.0 in
    let text : name_text (padded name) ≡ count ∷ name = is.text ∙ ap (λ n. n ∷ name) len in
    subst (TakesName r p) (ok_is _ _ d.1) (subst (λ text. Took p text c.0.1) (sym text) taken, is.long, is.is)

pub name_again : (r : NameRole) (name rest : List ℕ) (at : ℕ) → length name ≡ 16 → is_name (admits r) name ≡ true
    → (q : ℕ) × (name_at r (place (name_text name ++ rest) at) ≡ Ok (name, place rest q))
unfolding name_at
name_again r name rest at long h =
    let n = name_is r name long h in
    let front = letters name in
    let count = length front in
    let q = at + 1 + count in
    let fits : (count == 0 || nat_lt 16 count) ≡ false = is_within 16 count n.some n.most in
    let good : position (λ b. not (admits r b)) front ≡ None = all_good (admits r) front n.good in
    let is : name_at r (place (name_text name ++ rest) at) ≡ Ok (padded front, place rest q) =
    rw (byte_again Short count (front ++ rest) at, fits, bytes_again Short count front rest (at + 1) refl, good) refl in
    (q, is ∙ ap (λ whole. Ok (whole, place rest q)) n.whole)
