-- Keys of a fragment, added to those of its transaction: what is read are keys in order, and such keys are read again.
use Rattle.std.proofs.Common.{◌≡◌, ℕ, ◌+◌, ◌^◌, ◌≤◌, Bool, true, false, cond, is_some, List, [], ◌∷◌, ◌++◌, length, Option, Some, None, Ok, Err, refl, sym, ap, subst, ◌∙◌, append_assoc, arith}
use Rattle.std.specs.Prelude.{not, nat_le, nat_lt}
use Rattle.std.specs.Int.{w32, to_be_bytes}
use Rattle.std.specs.List.{flat_map}
use Rattle.std.proofs.lemmas.Bool.{ltb-false, le-leb, leb-true}
use Rattle.finite_map.specs.FiniteMap.{empty, get, len}
use Rattle.key_sets.specs.declared.kind.Kind.{Kind}
use Rattle.key_sets.specs.declared.parts.Parts.{Parts}
use Rattle.key_sets.specs.Keys.{Keys, LIMIT, with_key, with_keys, union}
use Rattle.key_sets.proofs.PartsLemmas.{parts_total}
use Rattle.key_sets.proofs.WithKey.{len-with_key}
use Rattle.write_set.specs.declared.fault.WsFault.TheVariants.{Short}
use Rattle.write_set.specs.Laws.{AreKeys}
use Rattle.write_set.specs.Rules.{parts_fit, parts_in_range, KeysInRange}
use Rattle.write_set.specs.Spelling.{key_text, keys_text}
use Rattle.write_set.specs.Place.{Place}
use Rattle.write_set.specs.Reading.{Read, key_at, is_above}
use Rattle.write_set.proofs.Bounds.{is_not, above}
use Rattle.write_set.proofs.RulesOf.{both, and}
use Rattle.write_set.proofs.KeyLaws.{Rises, all_fit, AllInRange, key_takes, key_again}
use Rattle.write_set.proofs.SetLaws.{sorted_from, set_entries, set_again}
use Rattle.wsrep_base.proofs.Fields.{IsBytes, read_ok, passed, ok_is, place, Took, took_then, number_takes, number_again, wide32}
use Rattle.state_snapshot.specs.Reading.{each_at, whole_key_at, with_both, whole_keys_at}
use Rattle.state_snapshot.proofs.Each.{Step, AllFit, all_next, each_take, each_again}
use Rattle.state_snapshot.proofs.Sorted.{KeysRise, rises_all, entries_sorted}

abbrev Key : Type 0
Key = Parts × Kind

abbrev SoFar : Type 0
SoFar = Option Parts × Keys

abbrev next_key : SoFar → Key → SoFar
next_key s key = (Some key.0, with_key s.1 key.0 key.1)

-- the keys of the transaction are few
abbrev AreFew : SoFar → Type 0
AreFew s = len s.1 ≤ LIMIT

abbrev KeyFits : SoFar → Key → Type 0
KeyFits s key =
    (is_above s.0 key.0 ≡ true) × (len (with_key s.1 key.0 key.1) ≤ LIMIT) × (parts_fit key.0 ≡ true) × parts_in_range key.0

abbrev TakesKey : SoFar → Place → (Key × SoFar) × Place → Type 0
TakesKey s p x = Took p (key_text x.0.0) x.1 × KeyFits s x.0.0 × (x.0.1 ≡ next_key s x.0.0) × AreFew (next_key s x.0.0)

whole_key_takes : (s : SoFar) (p : Place) (x : (Key × SoFar) × Place) → IsBytes p.left → AreFew s → whole_key_at s p ≡ Ok x → TakesKey s p x
unfolding whole_key_at
whole_key_takes s p x fits few e =
    let k = read_ok Key (key_at p) _ x e in
    let key = k.0.0 in
    let rising = passed (not (is_above s.0 key.0)) _ _ x k.2 in
    let room = passed (nat_lt LIMIT (len (with_key s.1 key.0 key.1))) _ _ x rising.1 in
    let t = key_takes p k.0 fits k.1 in
    let within = ltb-false LIMIT (len (with_key s.1 key.0 key.1)) room.0 in
    subst (TakesKey s p) (ok_is ((key, next_key s key), k.0.1) x room.1)
    (t.0, (is_not (is_above s.0 key.0) rising.0, within, t.1, t.2), refl, within)

whole_key_again : (s : SoFar) (key : Key) (rest : List ℕ) (at : ℕ) → KeyFits s key
    → (q : ℕ) × (whole_key_at s (place (key_text key ++ rest) at) ≡ Ok ((key, next_key s key), place rest q))
unfolding whole_key_at
whole_key_again s key rest at fits =
    let k = key_again key rest at fits.2 fits.3 in
    (k.0, rw (k.1, fits.0, above LIMIT (len (with_key s.1 key.0 key.1)) fits.1) refl)

key_step : Step key_text next_key AreFew KeyFits whole_key_at
key_step = record { takes = whole_key_takes; again = whole_key_again }

abbrev WholeFit : SoFar → List Key → Type 0
WholeFit s es = AllFit next_key KeyFits s es

-- ---- all keys of a fragment

rises_from : (s : SoFar) (es : List Key) → WholeFit s es → Rises s.0 es
rises_from s [] fit = tt
rises_from s (e ∷ es) fit = (fit.0.0, rises_from (next_key s e) es fit.1)

fit_from : (s : SoFar) (es : List Key) → WholeFit s es → all_fit es ≡ true
fit_from s [] fit = refl
fit_from s (e ∷ es) fit = and (parts_fit e.0) (all_fit es) fit.0.2 (fit_from (next_key s e) es fit.1)

range_from : (s : SoFar) (es : List Key) → WholeFit s es → AllInRange es
range_from s [] fit = tt
range_from s (e ∷ es) fit = (fit.0.3, range_from (next_key s e) es fit.1)

-- what is known behind keys
behind_keys : (s : SoFar) (es : List Key) → (all_next next_key s es).1 ≡ with_keys s.1 es
unfolding with_keys
behind_keys s [] = refl
behind_keys s (e ∷ es) = behind_keys (next_key s e) es

more_by : (n : ℕ) (b : Bool) → n ≤ cond b n (n + 1)
more_by n true = omega arith
more_by n false = omega arith

-- a set with more keys has no fewer
pub grows : (keys : Keys) (es : List Key) → len keys ≤ len (with_keys keys es)
unfolding with_keys
grows keys [] = omega arith
grows keys (e ∷ es) =
    let one : len keys ≤ len (with_key keys e.0 e.1) =
    subst (λ n. len keys ≤ n) (sym (len-with_key keys e.0 e.1)) (more_by (len keys) (is_some (get keys e.0))) in
    let rest = grows (with_key keys e.0 e.1) es in omega (arith, one, rest)

abbrev rises_in : List Key → Type 0
rises_in es = KeysRise parts_total None es

above_last : (last : Parts) (es : List Key) → KeysRise parts_total (Some last) es → Rises (Some last) es
above_last last [] rises = tt
above_last last (e ∷ es) rises = (rises.0, above_last e.0 es rises.1)

own_rise : (es : List Key) → KeysRise parts_total None es → Rises None es
own_rise [] rises = tt
own_rise (e ∷ es) rises = (refl, above_last e.0 es rises)

fits_whole : (s : SoFar) (es : List Key) → Rises s.0 es → all_fit es ≡ true → AllInRange es → len (with_keys s.1 es) ≤ LIMIT → WholeFit s es
unfolding with_keys
fits_whole s [] rises fit range few = tt
fits_whole s (e ∷ es) rises fit range few =
    let f = both (parts_fit e.0) (all_fit es) fit in
    let one = grows (with_key s.1 e.0 e.1) es in
    ((rises.0, omega (arith, one, few), f.0, range.0), fits_whole (next_key s e) es rises.1 f.1 range.1 few)

both_read : (keys whole : Keys) (read : Read (List Key)) (x : (Keys × Keys) × Place) → with_both keys whole read ≡ Ok x
    → (y : List Key × Place) × (read ≡ Ok y) × (((with_keys keys y.0, with_keys whole y.0), y.1) ≡ x)
both_read keys whole (Ok y) x e = (y, refl, ok_is ((with_keys keys y.0, with_keys whole y.0), y.1) x e)
both_read keys whole (Err fault) x e = absurd cc

-- the keys are in their form, and those of the transaction have them too and are few
abbrev pub TakesWhole : Keys → Place → (Keys × Keys) × Place → Type 0
TakesWhole whole p x =
    Took p (keys_text x.0.0) x.1 × AreKeys x.0.0 × KeysInRange x.0.0 × (x.0.1 ≡ union whole x.0.0) × (len x.0.1 ≤ LIMIT)

pub whole_keys_take : (whole : Keys) (p : Place) (x : (Keys × Keys) × Place) → IsBytes p.left → len whole ≤ LIMIT → whole_keys_at whole p ≡ Ok x
    → TakesWhole whole p x
unfolding whole_keys_at len
whole_keys_take whole p x fits few e =
    let a = read_ok ℕ _ _ x e in
    let b = passed (nat_lt LIMIT a.0.0) _ _ x a.2 in
    let c = both_read empty whole (each_at whole_key_at a.0.0 (None, whole) a.0.1) x b.1 in
    let es = c.0.0 in
    let t = number_takes Short w32 (2 ^ 32) wide32 p a.0 fits a.1 in
    let k = each_take key_text next_key AreFew KeyFits whole_key_at key_step a.0.0 (None, whole) a.0.1 c.0 t.0.fits few c.1 in
    let most : a.0.0 ≤ LIMIT = ltb-false LIMIT a.0.0 b.0 in
    let set = with_keys empty es in
    let entries : set.entries ≡ es = set_entries es (sorted_from None es (rises_from (None, whole) es k.2)) in
    let back : es ≡ set.entries = sym entries in
    let text : to_be_bytes w32 a.0.0 ++ flat_map key_text es ≡ keys_text set =
    ap (λ n. to_be_bytes w32 n ++ flat_map key_text es) (sym k.1) ∙ ap (λ es'. to_be_bytes w32 (length es') ++ flat_map key_text es') back in
    let taken : Took p (keys_text set) c.0.1 =
    subst (λ text. Took p text c.0.1) text (took_then p (to_be_bytes w32 a.0.0) a.0.1 (flat_map key_text es) c.0.1 t.0 k.0) in
    let within : len (with_keys whole es) ≤ LIMIT = subst (λ (keys : Keys). len keys ≤ LIMIT) (behind_keys (None, whole) es) k.3 in
    subst (TakesWhole whole p) c.2 (
      taken,
      (
        ap (λ es'. nat_le (length es') LIMIT) entries ∙ le-leb (length es) LIMIT (rw k.1 most),
        ap all_fit entries ∙ fit_from (None, whole) es k.2,
      ),
      subst AllInRange back (range_from (None, whole) es k.2),
      ap (with_keys whole) back,
      within,
    )

pub whole_keys_again : (whole keys : Keys) (rest : List ℕ) (at : ℕ) → AreKeys keys → KeysInRange keys → len (union whole keys) ≤ LIMIT
    → (q : ℕ) × (whole_keys_at whole (place (keys_text keys ++ rest) at) ≡ Ok ((keys, union whole keys), place rest q))
unfolding whole_keys_at len
whole_keys_again whole keys rest at are range few =
    let es = keys.entries in
    let n = length es in
    let most : n ≤ LIMIT = leb-true n LIMIT are.0 in
    let others = flat_map key_text es in
    let fit = fits_whole (None, whole) es (own_rise es (rises_all parts_total es (entries_sorted parts_total keys))) are.1 range few in
    let k = each_again key_text next_key AreFew KeyFits whole_key_at key_step es (None, whole) rest (at + 4) fit in
    let is : whole_keys_at whole (place (to_be_bytes w32 n ++ (others ++ rest)) at) ≡ Ok ((with_keys empty es, union whole keys), place rest k.0) =
    rw (number_again Short w32 (2 ^ 32) wide32 n (others ++ rest) at (omega arith), above LIMIT n most, k.1) refl in (
      k.0,
      ap (λ text. whole_keys_at whole (place text at)) (append_assoc (to_be_bytes w32 n) others rest) ∙ is
          ∙ ap (λ set. Ok ((set, union whole keys), place rest k.0)) (set_again keys),
    )
