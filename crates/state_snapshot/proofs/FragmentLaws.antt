-- Fragments: what is read are fragments in order, and fragments in order are read again.
use Rattle.std.proofs.Common.{◌≡◌, ℕ, ◌+◌, ◌^◌, ◌<◌, ◌≤◌, false, List, [], ◌∷◌, ◌++◌, length, Ok, refl, sym, ap, subst, ◌∙◌, append_assoc, arith}
use Rattle.std.specs.Prelude.{◌==◌, ◌||◌, nat_lt, nat_le, fold}
use Rattle.std.specs.Int.{w32, w64, to_be_bytes}
use Rattle.std.specs.List.{flat_map, AllByRecursion}
use Rattle.std.proofs.lemmas.Bool.{ltb-false, leb-false, le-ltb, lt-leb}
use Rattle.finite_map.specs.FiniteMap.{empty, len, len-empty}
use Rattle.key_sets.specs.declared.kind.Kind.{Kind}
use Rattle.key_sets.specs.Parts.{parts_cmp}
use Rattle.key_sets.specs.Keys.{Keys, LIMIT, union}
use Rattle.row_model.specs.declared.ops.Op.{Op}
use Rattle.write_set.specs.declared.fault.WsFault.TheVariants.{Short}
use Rattle.write_set.specs.Place.{Place}
use Rattle.write_set.specs.Spelling.{keys_text, ops_text}
use Rattle.write_set.proofs.Bounds.{neither, positive, some_is}
use Rattle.wsrep_base.proofs.Fields.{IsBytes, read_ok, passed, ok_is, place, Took, took_then, number_takes, number_again, wide32, wide64}
use Rattle.cert_meaning.specs.declared.items.Fragment.{Fragment}
use Rattle.state_snapshot.specs.Reading.{FragmentsSoFar, no_fragments, with_fragment, whole_keys_at, covered_ops_at, fragment_at, fragments_at}
use Rattle.state_snapshot.specs.Spelling.{counted_text, fragment_text}
use Rattle.state_snapshot.specs.Rules.{AreCounted, FragmentsRise, FragmentObeys}
use Rattle.state_snapshot.specs.Laws.{FragmentInRange}
use Rattle.state_snapshot.proofs.Each.{Step, AllFit, all_next, each_take, each_again}
use Rattle.state_snapshot.proofs.KeyLaws.{grows, whole_keys_take, whole_keys_again}
use Rattle.state_snapshot.proofs.OpLaws.{covered_ops_take, covered_ops_again}

-- ---- one fragment

abbrev next_fragment : FragmentsSoFar → Fragment → FragmentsSoFar
next_fragment s fragment = with_fragment fragment (union s.whole fragment.keys)

abbrev AreFew : FragmentsSoFar → Type 0
AreFew s = len s.whole ≤ LIMIT

pub record FragmentFits (most : ℕ) (s : FragmentsSoFar) (fragment : Fragment) : Type 0 where
  pub above : s.least ≤ fragment.number
  pub within : fragment.number ≤ most
  pub later : s.last_seen ≤ fragment.last_seen
  pub before : fragment.last_seen < fragment.number
  pub obeys : FragmentObeys fragment
  pub range : FragmentInRange fragment
  pub few : len (union s.whole fragment.keys) ≤ LIMIT

abbrev TakesFragment : ℕ → FragmentsSoFar → Place → (Fragment × FragmentsSoFar) × Place → Type 0
TakesFragment most s p x =
    Took p (fragment_text x.0.0) x.1 × FragmentFits most s x.0.0 × (x.0.1 ≡ next_fragment s x.0.0) × AreFew (next_fragment s x.0.0)

fragment_takes : (most : ℕ) (s : FragmentsSoFar) (p : Place) (x : (Fragment × FragmentsSoFar) × Place) → IsBytes p.left → AreFew s
    → fragment_at most s p ≡ Ok x → TakesFragment most s p x
unfolding fragment_at
fragment_takes most s p x fits few e =
    let n = read_ok ℕ _ _ x e in
    let rising = passed (nat_lt n.0.0 s.least || nat_lt most n.0.0) _ _ x n.2 in
    let bounds = neither (nat_lt n.0.0 s.least) (nat_lt most n.0.0) rising.0 in
    let l = read_ok ℕ _ _ x rising.1 in
    let seen = passed (nat_le n.0.0 l.0.0 || nat_lt l.0.0 s.last_seen) _ _ x l.2 in
    let order = neither (nat_le n.0.0 l.0.0) (nat_lt l.0.0 s.last_seen) seen.0 in
    let k = read_ok (Keys × Keys) (whole_keys_at s.whole l.0.1) _ x seen.1 in
    let o = read_ok (List Op) (covered_ops_at k.0.0.0 k.0.1) _ x k.2 in
    let keys = k.0.0.0 in
    let ops = o.0.0 in
    let tn = number_takes Short w64 (2 ^ 64) wide64 p n.0 fits n.1 in
    let tl = number_takes Short w64 (2 ^ 64) wide64 n.0.1 l.0 tn.0.fits l.1 in
    let tk = whole_keys_take s.whole l.0.1 k.0 tl.0.fits few k.1 in
    let to = covered_ops_take keys k.0.1 o.0 tk.0.fits o.1 in
    let fragment : Fragment = record { number = n.0.0; last_seen = l.0.0; keys = keys; ops = ops } in
    let end = o.0.1 in
    let text2 = keys_text keys ++ ops_text ops in
    let text1 = to_be_bytes w64 l.0.0 ++ text2 in
    let t2 : Took l.0.1 text2 end = took_then l.0.1 (keys_text keys) k.0.1 (ops_text ops) end tk.0 to.0 in
    let t1 : Took n.0.1 text1 end = took_then n.0.1 (to_be_bytes w64 l.0.0) l.0.1 text2 end tl.0 t2 in
    let taken : Took p (fragment_text fragment) end = took_then p (to_be_bytes w64 n.0.0) n.0.1 text1 end tn.0 t1 in
    let within : len (union s.whole keys) ≤ LIMIT = subst (λ (all : Keys). len all ≤ LIMIT) tk.3 tk.4 in
    let is : FragmentFits most s fragment = record {
      above = ltb-false n.0.0 s.least bounds.0;
      within = ltb-false most n.0.0 bounds.1;
      later = ltb-false l.0.0 s.last_seen order.1;
      before = leb-false n.0.0 l.0.0 order.0;
      obeys = (tk.1, to.1, to.3);
      range = (tn.1, tl.1, tk.2, to.2);
      few = within;
    } in
    subst (TakesFragment most s p) (ok_is ((fragment, with_fragment fragment k.0.0.1), end) x o.2)
    (taken, is, ap (with_fragment fragment) tk.3, within)

in_order : (a b c d : ℕ) → b ≤ a → a ≤ c → nat_lt a b || nat_lt c a ≡ false
in_order a b c d low high = λ i. (le-ltb a b low) i || (le-ltb c a high) i

seen_before : (number seen last : ℕ) → seen < number → last ≤ seen → nat_le number seen || nat_lt seen last ≡ false
seen_before number seen last before later = λ i. (lt-leb number seen before) i || (le-ltb seen last later) i

fragment_again : (most : ℕ) (s : FragmentsSoFar) (fragment : Fragment) (rest : List ℕ) (at : ℕ) → FragmentFits most s fragment
    → (q : ℕ) × (fragment_at most s (place (fragment_text fragment ++ rest) at) ≡ Ok ((fragment, next_fragment s fragment), place rest q))
unfolding fragment_at
fragment_again most s fragment rest at fits =
    let number = to_be_bytes w64 fragment.number in
    let seen = to_be_bytes w64 fragment.last_seen in
    let keys = keys_text fragment.keys in
    let ops = ops_text fragment.ops in
    let obeys = fits.obeys in
    let range = fits.range in
    let k = whole_keys_again s.whole fragment.keys (ops ++ rest) (at + 8 + 8) obeys.0 range.2 fits.few in
    let o = covered_ops_again fragment.keys fragment.ops rest k.0 obeys.1 range.3 obeys.2 in
    let is : fragment_at most s (place (number ++ (seen ++ (keys ++ (ops ++ rest)))) at)
    ≡ Ok ((fragment, next_fragment s fragment), place rest o.0) =
    rw (
      number_again Short w64 (2 ^ 64) wide64 fragment.number (seen ++ (keys ++ (ops ++ rest))) at range.0,
      in_order fragment.number s.least most 0 fits.above fits.within,
      number_again Short w64 (2 ^ 64) wide64 fragment.last_seen (keys ++ (ops ++ rest)) (at + 8) range.1,
      seen_before fragment.number fragment.last_seen s.last_seen fits.before fits.later,
      k.1,
      o.1,
    ) refl in (
      o.0,
      ap (λ left. fragment_at most s (place left at))
          (append_assoc number (seen ++ (keys ++ ops)) rest
          ∙ ap (λ left. number ++ left) (append_assoc seen (keys ++ ops) rest ∙ ap (λ left. seen ++ left) (append_assoc keys ops rest))) ∙ is,
    )

fragment_step : (most : ℕ) → Step fragment_text next_fragment AreFew (FragmentFits most) (fragment_at most)
fragment_step most = record { takes = fragment_takes most; again = fragment_again most }

-- ---- all fragments of a transaction

abbrev FragmentsFit : ℕ → FragmentsSoFar → List Fragment → Type 0
FragmentsFit most s fragments = AllFit next_fragment (FragmentFits most) s fragments

-- the keys of fragments, added to others
abbrev all_keys : Keys → List Fragment → Keys
all_keys keys fragments = fold (λ (all : Keys) (fragment : Fragment). union all fragment.keys) keys fragments

-- what fragments that fit say
pub record FragmentsSay (most : ℕ) (s : FragmentsSoFar) (fragments : List Fragment) : Type 0 where
  pub rise : FragmentsRise most s.least s.last_seen fragments
  pub each : AllByRecursion FragmentObeys fragments
  pub range : AllByRecursion FragmentInRange fragments
  pub few : len (all_keys s.whole fragments) ≤ LIMIT

fragments_say : (most : ℕ) (s : FragmentsSoFar) (fragments : List Fragment) → FragmentsFit most s fragments
    → AreFew (all_next next_fragment s fragments) → FragmentsSay most s fragments
fragments_say most s [] fit few = record { rise = tt; each = tt; range = tt; few = few }
fragments_say most s (fragment ∷ fragments) fit few =
    let f = fit.0 in
    let rest = fragments_say most (next_fragment s fragment) fragments fit.1 few in
    record {
      rise = (f.above, f.within, f.later, f.before, rest.rise);
      each = (f.obeys, rest.each);
      range = (f.range, rest.range);
      few = rest.few;
    }

all_grow : (keys : Keys) (fragments : List Fragment) → len keys ≤ len (all_keys keys fragments)
all_grow keys [] = omega arith
all_grow keys (fragment ∷ fragments) =
    let one = grows keys fragment.keys.entries in
    let rest = all_grow (union keys fragment.keys) fragments in omega (arith, one, rest)

fragments_fit : (most : ℕ) (s : FragmentsSoFar) (fragments : List Fragment) → FragmentsSay most s fragments → FragmentsFit most s fragments
fragments_fit most s [] say = tt
fragments_fit most s (fragment ∷ fragments) say =
    let more = all_grow (union s.whole fragment.keys) fragments in
    let rest : FragmentsSay most (next_fragment s fragment) fragments = record {
      rise = say.rise.4;
      each = say.each.1;
      range = say.range.1;
      few = say.few;
    } in
    let one : FragmentFits most s fragment = record {
      above = say.rise.0;
      within = say.rise.1;
      later = say.rise.2;
      before = say.rise.3;
      obeys = say.each.0;
      range = say.range.0;
      few = omega (arith, more, say.few);
    } in
    (one, fragments_fit most (next_fragment s fragment) fragments rest)

-- fragments of a transaction, of which there is one
pub record AreFragments (most : ℕ) (fragments : List Fragment) : Type 0 where
  pub counted : AreCounted fragments
  pub some : 0 < length fragments
  pub say : FragmentsSay most no_fragments fragments

abbrev pub TakesFragments : ℕ → Place → List Fragment × Place → Type 0
TakesFragments most p x = Took p (counted_text fragment_text x.0) x.1 × AreFragments most x.0

none_few : len (empty {X = Kind} {R = parts_cmp}) ≤ LIMIT
none_few = omega (arith, len-empty parts_cmp Kind)

pub fragments_take : (most : ℕ) (p : Place) (x : List Fragment × Place) → IsBytes p.left → fragments_at most p ≡ Ok x → TakesFragments most p x
unfolding fragments_at
fragments_take most p x fits e =
    let a = read_ok ℕ _ _ x e in
    let b = passed (a.0.0 == 0) _ _ x a.2 in
    let t = number_takes Short w32 (2 ^ 32) wide32 p a.0 fits a.1 in
    let f = each_take fragment_text next_fragment AreFew (FragmentFits most) (fragment_at most) (fragment_step most)
    a.0.0 no_fragments a.0.1 x t.0.fits none_few b.1 in
    let taken : Took p (to_be_bytes w32 a.0.0 ++ flat_map fragment_text x.0) x.1 =
    took_then p (to_be_bytes w32 a.0.0) a.0.1 (flat_map fragment_text x.0) x.1 t.0 f.0 in
    let some = positive a.0.0 b.0 in
    let are : AreFragments most x.0 = record {
      counted = omega (arith, t.1, f.1);
      some = omega (arith, some, f.1);
      say = fragments_say most no_fragments x.0 f.2 f.3;
    } in
    (subst (λ n. Took p (to_be_bytes w32 n ++ flat_map fragment_text x.0) x.1) (sym f.1) taken, are)

pub fragments_again : (most : ℕ) (fragments : List Fragment) (rest : List ℕ) (at : ℕ) → AreFragments most fragments
    → (q : ℕ) × (fragments_at most (place (counted_text fragment_text fragments ++ rest) at) ≡ Ok (fragments, place rest q))
unfolding fragments_at
fragments_again most fragments rest at are =
    let n = length fragments in
    let others = flat_map fragment_text fragments in
    let f = each_again fragment_text next_fragment AreFew (FragmentFits most) (fragment_at most) (fragment_step most)
    fragments no_fragments rest (at + 4) (fragments_fit most no_fragments fragments are.say) in
    let is : fragments_at most (place (to_be_bytes w32 n ++ (others ++ rest)) at) ≡ Ok (fragments, place rest f.0) =
    rw (number_again Short w32 (2 ^ 32) wide32 n (others ++ rest) at are.counted, some_is n are.some, f.1) refl in
    (f.0, ap (λ text. fragments_at most (place text at)) (append_assoc (to_be_bytes w32 n) others rest) ∙ is)
