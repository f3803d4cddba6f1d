-- Reading items one behind the other, as a loop does.
use Rattle.std.proofs.Common.{◌≡◌, ℕ, suc, ◌+◌, ◌-◌, ◌<◌, ◌≤◌, cond, is_some, List, [], ◌∷◌, ◌++◌, Option, None, Some, Ok, Err, refl, sym, ap, ◌∙◌, append_assoc, arith}
use Rattle.std.proofs.lemmas.List.{append-nil}
use Rattle.std.proofs.lemmas.Bool.Decides.{nat_tests}
use Rattle.std.specs.Prelude.{nat_lt, nat_le, not, ◌&&◌, is_none}
use Rattle.finite_map.specs.FiniteMap.{get, len}
use Rattle.key_sets.specs.declared.kind.Kind.{Kind}
use Rattle.key_sets.specs.declared.parts.Parts.{Parts}
use Rattle.key_sets.specs.Keys.{Keys, with_key, with_keys}
use Rattle.key_sets.proofs.WithKey.{len-with_key}
use Rattle.write_set.specs.declared.fault.WsFault.{WsFault}
use Rattle.write_set.specs.Place.{Place}
use Rattle.write_set.specs.Reading.{◌>>=◌, Read, Fails, key_at, is_above}
use Rattle.wsrep_base.proofs.Fields.{read_ok, passed, ok_is}
use Rattle.write_set.proofs.Steps.{fails_along}
use Rattle.wsrep_base.proofs.Fields.{with_front}
use Rattle.state_snapshot.specs.Reading.{each_at, whole_key_at, with_both}

regroup : {A : Type 0} (front : List A) (x : A) (more : Read (List A))
    → with_front front (more >>= λ others. Ok (x ∷ others.0, others.1)) ≡ with_front (front ++ x ∷ []) more
regroup front x (Ok more) = ap (λ xs. Ok (xs, more.1)) (sym (append_assoc front (x ∷ []) more.0))
regroup front x (Err fault) = refl

pub goes_on : {A S : Type 0} (one_at : S → Place → Read (A × S)) (front : List A) (count i : ℕ) (s : S) (p : Place) (x : A) (t : S)
    (after : Place) (total : Read (List A))
    → i < count → one_at s p ≡ Ok ((x, t), after) → with_front front (each_at one_at (count - i) s p) ≡ total
    → with_front (front ++ x ∷ []) (each_at one_at (count - (i + 1)) t after) ≡ total
unfolding each_at
goes_on one_at front count i s p x t after total below is so_far =
    let more : count - i ≡ suc (count - (i + 1)) = omega arith in
    let one : with_front front (each_at one_at (count - i) s p) ≡ with_front (front ++ x ∷ []) (each_at one_at (count - (i + 1)) t after) =
    rw (more, is) (regroup front x (each_at one_at (count - (i + 1)) t after)) in
    sym one ∙ so_far

pub ends : {A S : Type 0} (one_at : S → Place → Read (A × S)) (fault : WsFault) (front : List A) (count i : ℕ) (s : S) (p : Place)
    (total : Read (List A))
    → i < count → Fails fault (one_at s p) → with_front front (each_at one_at (count - i) s p) ≡ total → Fails fault total
unfolding each_at
ends one_at fault front count i s p total below fails so_far =
    let more : count - i ≡ suc (count - (i + 1)) = omega arith in
    fails_along fault (one_at s p) total (λ is.
    let one : with_front front (each_at one_at (count - i) s p) ≡ Err fault = rw (more, is) refl in sym so_far ∙ one) fails

pub is_done : {A S : Type 0} (one_at : S → Place → Read (A × S)) (front : List A) (count i : ℕ) (s : S) (p : Place) (total : Read (List A))
    → count ≤ i → with_front front (each_at one_at (count - i) s p) ≡ total → total ≡ Ok (front, p)
unfolding each_at
is_done one_at front count i s p total all so_far =
    let more : count - i ≡ 0 = omega arith in
    let one : with_front front (each_at one_at (count - i) s p) ≡ Ok (front, p) = rw more (ap (λ xs. Ok (xs, p)) (append-nil front)) in
    sym so_far ∙ one

-- keys, which are added to two sets

regroup_keys : (keys whole : Keys) (key : Parts × Kind) (more : Read (List (Parts × Kind)))
    → with_both keys whole (more >>= λ others. Ok (key ∷ others.0, others.1))
    ≡ with_both (with_key keys key.0 key.1) (with_key whole key.0 key.1) more
unfolding with_keys
regroup_keys keys whole key (Ok more) = refl
regroup_keys keys whole key (Err fault) = refl

-- the keys after one that is read have it
pub key_ok : (before : Option Parts) (whole : Keys) (p : Place) (parts : Parts) (kind : Kind) (t : Option Parts × Keys) (after : Place)
    → whole_key_at (before, whole) p ≡ Ok (((parts, kind), t), after) → t ≡ (Some parts, with_key whole parts kind)
unfolding whole_key_at
key_ok before whole p parts kind t after e =
    let x : ((Parts × Kind) × (Option Parts × Keys)) × Place = (((parts, kind), t), after) in
    let k = read_ok (Parts × Kind) (key_at p) _ x e in
    let r = passed (not (is_above before k.0.0.0)) _ _ x k.2 in
    let f = passed (nat_lt 4096 (len (with_key whole k.0.0.0 k.0.0.1))) _ _ x r.1 in
    let same = ok_is ((k.0.0, (Some k.0.0.0, with_key whole k.0.0.0 k.0.0.1)), k.0.1) x f.1 in
    sym (ap (λ (y : ((Parts × Kind) × (Option Parts × Keys)) × Place). y.0.1) same)
    ∙ ap (λ (key : Parts × Kind). (Some key.0, with_key whole key.0 key.1)) (ap (λ (y : ((Parts × Kind) × (Option Parts × Keys)) × Place). y.0.0) same)

pub key_goes_on : (keys whole : Keys) (count i : ℕ) (before : Option Parts) (p : Place) (parts : Parts) (kind : Kind) (next : Keys) (after : Place)
    (total : Read (Keys × Keys))
    → i < count → whole_key_at (before, whole) p ≡ Ok (((parts, kind), (Some parts, next)), after)
    → with_both keys whole (each_at whole_key_at (count - i) (before, whole) p) ≡ total
    → with_both (with_key keys parts kind) next (each_at whole_key_at (count - (i + 1)) (Some parts, next) after) ≡ total
unfolding each_at
key_goes_on keys whole count i before p parts kind next after total below is so_far =
    let more : count - i ≡ suc (count - (i + 1)) = omega arith in
    let rest = each_at whole_key_at (count - (i + 1)) (Some parts, next) after in
    let with_it : next ≡ with_key whole parts kind = ap (λ (t : Option Parts × Keys). t.1) (key_ok before whole p parts kind (Some parts, next) after is) in
    let one : with_both keys whole (each_at whole_key_at (count - i) (before, whole) p)
    ≡ with_both (with_key keys parts kind) (with_key whole parts kind) rest =
    rw (more, is) (regroup_keys keys whole (parts, kind) rest) in
    ap (λ set. with_both (with_key keys parts kind) set rest) with_it ∙ sym one ∙ so_far

pub key_ends : (fault : WsFault) (keys whole : Keys) (count i : ℕ) (before : Option Parts) (p : Place) (total : Read (Keys × Keys))
    → i < count → Fails fault (whole_key_at (before, whole) p)
    → with_both keys whole (each_at whole_key_at (count - i) (before, whole) p) ≡ total → Fails fault total
unfolding each_at
key_ends fault keys whole count i before p total below fails so_far =
    let more : count - i ≡ suc (count - (i + 1)) = omega arith in
    fails_along fault (whole_key_at (before, whole) p) total (λ is.
    let one : with_both keys whole (each_at whole_key_at (count - i) (before, whole) p) ≡ Err fault = rw (more, is) refl in sym so_far ∙ one) fails

pub keys_done : (keys whole : Keys) (count i : ℕ) (before : Option Parts) (p : Place) (total : Read (Keys × Keys))
    → count ≤ i → with_both keys whole (each_at whole_key_at (count - i) (before, whole) p) ≡ total → total ≡ Ok ((keys, whole), p)
unfolding each_at with_keys
keys_done keys whole count i before p total all so_far =
    let more : count - i ≡ 0 = omega arith in
    let one : with_both keys whole (each_at whole_key_at (count - i) (before, whole) p) ≡ Ok ((keys, whole), p) = rw more refl in
    sym so_far ∙ one

-- a set with one more key

full_with : (n : ℕ) (old : Option Kind) → n ≤ 4096 → nat_lt 4096 (cond (is_some old) n (n + 1)) ≡ nat_le 4096 n && is_none old
full_with n None most = grind (arith, nat_tests)
full_with n (Some kind) most = grind (arith, nat_tests)

-- it has too many where the set is full and the parts are new
pub full_is : (keys : Keys) (parts : Parts) (kind : Kind) → len keys ≤ 4096
    → nat_lt 4096 (len (with_key keys parts kind)) ≡ nat_le 4096 (len keys) && is_none (get keys parts)
full_is keys parts kind most = ap (nat_lt 4096) (len-with_key keys parts kind) ∙ full_with (len keys) (get keys parts) most
