-- A field that is read is the field that was written, and what was written is read again.
use Rattle.std.proofs.Common.{◌≡◌, ℕ, ◌+◌, ◌^◌, ◌<◌, ◌≤◌, Bool, true, false, cond, ltb, List, [], ◌∷◌, ◌++◌, length, get_or, take, drop, Result, Ok, Err, refl, sym, ap, subst, ◌∙◌, append_assoc, arith, inl, inr}
use Rattle.std.specs.Int.{Width, w8, w32, w64, byte_len, from_be_bytes, to_be_bytes}
use Rattle.std.proofs.lemmas.Bool.{cases_lt, ltb-false, le-ltb}
use Rattle.std.proofs.lemmas.List.{take_at, drop_at, take-append-drop, length-append, length-take, length-take-le, get_or-drop, get_or-take, get_or_past}
use Rattle.std.proofs.lemmas.Nat.{be_bytes_4, be_bytes_8, from_be_bytes-to_be_bytes_4, from_be_bytes-to_be_bytes_8}
use Rattle.wsrep_base.specs.Place.{Place}
use Rattle.wsrep_base.specs.Reading.{◌>>=◌, refuse, bytes_at, number_at}

abbrev pub IsBytes : List ℕ → Type 0
IsBytes bytes = (i : ℕ) → get_or bytes i 0 < 256

pub IsBytes-drop : (n : ℕ) (bytes : List ℕ) → IsBytes bytes → IsBytes (drop n bytes)
IsBytes-drop n bytes h i = rw get_or-drop (h (n + i))

IsBytes-take : (n : ℕ) (bytes : List ℕ) → IsBytes bytes → IsBytes (take n bytes)
IsBytes-take n bytes h i =
    elim (cases_lt i n) [
      | inl lt ↦ rw (get_or-take n bytes i 0 lt) (h i)
      | inr le ↦ rw (get_or_past (take n bytes) i 0 (omega (arith, length-take n bytes))) (omega arith)
    ]

-- ---- steps that did not fail

-- the value of a step that did not fail
pub bind_ok : {A B F : Type 0} (r : Result A F) (f : A → Result B F) (y : B) → (r >>= f) ≡ Ok y → (x : A) × (r ≡ Ok x) × (f x ≡ Ok y)
bind_ok (Ok x) f y e = (x, refl, e)
bind_ok (Err fault) f y e = absurd cc

-- the same for a field, whose type is named
pub read_ok : (A : Type 0) {B F : Type 0} (r : Result (A × Place) F) (f : A × Place → Result B F) (y : B) → (r >>= f) ≡ Ok y → (x : A × Place) × (r ≡ Ok x) × (f x ≡ Ok y)
read_ok A r f y e = bind_ok {A = A × Place} r f y e

-- a test that did not refuse
pub passed : {B F : Type 0} (test : Bool) (fault : F) (f : Unit {0} → Result B F) (y : B) → (refuse test fault >>= f) ≡ Ok y → (test ≡ false) × (f tt ≡ Ok y)
passed true fault f y e = absurd cc
passed false fault f y e = (refl, e)

guard_ok : {A F : Type 0} (b : Bool) (fault : F) (x y : A) → cond b (Err fault) (Ok x) ≡ Ok y → (b ≡ false) × (x ≡ y)
guard_ok true fault x y e = absurd cc
guard_ok false fault x y e = (refl, cc)

pub ok_is : {A F : Type 0} (x y : A) → ◌≡◌ {A = Result A F} (Ok x) (Ok y) → x ≡ y
ok_is x y e = cc

-- ---- what is taken from the front

abbrev pub place : List ℕ → ℕ → Place
place bytes at = record { left = bytes; at = at }

-- these bytes stand between the two places
pub record Took (p : Place) (text : List ℕ) (q : Place) : Type 0 where
  pub parts : p.left ≡ text ++ q.left
  pub moved : q.at ≡ p.at + length text
  pub fits : IsBytes q.left

pub took_none : (p : Place) → IsBytes p.left → Took p [] p
took_none p fits = record { parts = refl; moved = omega arith; fits = fits }

pub took_then : (p : Place) (a : List ℕ) (q : Place) (b : List ℕ) (r : Place) → Took p a q → Took q b r → Took p (a ++ b) r
took_then p a q b r one two = record {
  parts = one.parts ∙ ap (λ text. a ++ text) two.parts ∙ sym (append_assoc a b r.left);
  moved = omega (arith, one.moved, two.moved, length-append a b);
  fits = two.fits;
}

-- ---- bytes and numbers

pub bytes_take : {F : Type 0} (short : ℕ → F) (n : ℕ) (p : Place) (x : List ℕ × Place) → IsBytes p.left → bytes_at short n p ≡ Ok x → Took p x.0 x.1 × (length x.0 ≡ n) × IsBytes x.0
unfolding bytes_at
bytes_take short n p x fits e =
    let after = place (drop n p.left) (p.at + n) in
    let g = guard_ok (ltb (length p.left) n) (short p.at) (take n p.left, after) x e in
    let long : n ≤ length p.left = ltb-false _ _ g.0 in
    let len : length (take n p.left) ≡ n = length-take-le n p.left long in
    let taken : Took p (take n p.left) after = record {
      parts = sym (take-append-drop n p.left);
      moved = omega (arith, len);
      fits = IsBytes-drop n p.left fits;
    } in
    subst (λ (y : List ℕ × Place). Took p y.0 y.1 × (length y.0 ≡ n) × IsBytes y.0) g.1 (taken, len, IsBytes-take n p.left fits)

pub bytes_again : {F : Type 0} (short : ℕ → F) (n : ℕ) (text rest : List ℕ) (at : ℕ) → length text ≡ n → bytes_at short n (place (text ++ rest) at) ≡ Ok (text, place rest (at + n))
unfolding bytes_at
bytes_again short n text rest at len =
    let long : ltb (length (text ++ rest)) n ≡ false = le-ltb _ _ (omega (arith, length-append text rest)) in
    rw (long, take_at text rest n len, drop_at text rest n len) refl

pub record IsWide (w : Width) (limit : ℕ) : Type 0 where
  pub len : (n : ℕ) → length (to_be_bytes w n) ≡ byte_len w
  pub back : (bytes : List ℕ) → length bytes ≡ byte_len w → IsBytes bytes → to_be_bytes w (from_be_bytes w bytes) ≡ bytes
  pub again : (n : ℕ) → n < limit → from_be_bytes w (to_be_bytes w n) ≡ n
  pub below : (bytes : List ℕ) → IsBytes bytes → from_be_bytes w bytes < limit

pub wide32 : IsWide w32 (2 ^ 32)
wide32 = record {
  len = λ n. refl;
  back = λ bytes len fits. be_bytes_4 bytes _ len fits refl;
  again = λ n lt. from_be_bytes-to_be_bytes_4 n lt;
  below = λ bytes fits. omega (arith, fits 0, fits 1, fits 2, fits 3);
}

pub wide64 : IsWide w64 (2 ^ 64)
wide64 = record {
  len = λ n. refl;
  back = λ bytes len fits. be_bytes_8 bytes _ len fits refl;
  again = λ n lt. from_be_bytes-to_be_bytes_8 n lt;
  below = λ bytes fits. omega (arith, fits 0, fits 1, fits 2, fits 3, fits 4, fits 5, fits 6, fits 7);
}

pub number_takes : {F : Type 0} (short : ℕ → F) (w : Width) (limit : ℕ) (wide : IsWide w limit) (p : Place) (x : ℕ × Place) → IsBytes p.left → number_at short w p ≡ Ok x
    → Took p (to_be_bytes w x.0) x.1 × (x.0 < limit)
unfolding number_at
number_takes short w limit wide p x fits e =
    let b = bind_ok _ _ x e in
    let t = bytes_take short (byte_len w) p b.0 fits b.1 in
    let text : Took p (to_be_bytes w (from_be_bytes w b.0.0)) b.0.1 = rw (wide.back b.0.0 t.1 t.2) t.0 in
    subst (λ (y : ℕ × Place). Took p (to_be_bytes w y.0) y.1 × (y.0 < limit)) (ok_is _ _ b.2) (text, wide.below b.0.0 t.2)

pub number_again : {F : Type 0} (short : ℕ → F) (w : Width) (limit : ℕ) (wide : IsWide w limit) (n : ℕ) (rest : List ℕ) (at : ℕ) → n < limit
    → number_at short w (place (to_be_bytes w n ++ rest) at) ≡ Ok (n, place rest (at + byte_len w))
unfolding number_at
number_again short w limit wide n rest at lt =
    rw (bytes_again short (byte_len w) (to_be_bytes w n) rest at (wide.len n), wide.again n lt) refl

one_byte : (bytes : List ℕ) → length bytes ≡ 1 → bytes ≡ from_be_bytes w8 bytes ∷ []
one_byte [] e = absurd (omega arith)
one_byte (b ∷ []) e = ap (λ n. n ∷ []) (omega arith)
one_byte (b ∷ c ∷ bytes) e = absurd (omega arith)

pub byte_takes : {F : Type 0} (short : ℕ → F) (p : Place) (x : ℕ × Place) → IsBytes p.left → number_at short w8 p ≡ Ok x → Took p (x.0 ∷ []) x.1
unfolding number_at
byte_takes short p x fits e =
    let b = bind_ok _ _ x e in
    let t = bytes_take short 1 p b.0 fits b.1 in
    let text : Took p (from_be_bytes w8 b.0.0 ∷ []) b.0.1 = subst (λ text. Took p text b.0.1) (one_byte b.0.0 t.1) t.0 in
    subst (λ (y : ℕ × Place). Took p (y.0 ∷ []) y.1) (ok_is _ _ b.2) text

pub byte_again : {F : Type 0} (short : ℕ → F) (b : ℕ) (rest : List ℕ) (at : ℕ) → number_at short w8 (place (b ∷ rest) at) ≡ Ok (b, place rest (at + 1))
unfolding number_at
byte_again short b rest at =
    let same : from_be_bytes w8 (b ∷ []) ≡ b = omega arith in
    rw (bytes_again short 1 (b ∷ []) rest at refl) (ap (λ n. Ok (n, place rest (at + 1))) same)

-- ---- several values one behind the other, as a loop reads them

-- what was read before, and what is still read
abbrev pub with_front : {A F : Type 0} → List A → Result (List A × Place) F → Result (List A × Place) F
with_front front (Ok more) = Ok (front ++ more.0, more.1)
with_front front (Err fault) = Err fault

pub regroup : {A F : Type 0} (front : List A) (x : A) (more : Result (List A × Place) F)
    → with_front front (more >>= λ others. Ok (x ∷ others.0, others.1)) ≡ with_front (front ++ x ∷ []) more
regroup front x (Ok more) = ap (λ xs. Ok (xs, more.1)) (sym (append_assoc front (x ∷ []) more.0))
regroup front x (Err fault) = refl
