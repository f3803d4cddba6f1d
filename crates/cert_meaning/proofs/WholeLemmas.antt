-- All keys of a transaction, joined one fragment after another.
use Rattle.std.proofs.Common.{◌≡◌, ℕ, suc, ◌≤◌, ◌<◌, Bool, true, false, List, [], ◌∷◌, ◌++◌, None, Some, refl, sym, ap, subst, ◌∙◌, arith, append_assoc}
use Rattle.std.specs.Prelude.{◌==◌, fold, length, nat_le, nat_lt, cond, not, T}
use Rattle.std.proofs.lemmas.Bool.{le-ltb}
use Rattle.std.proofs.lemmas.List.Sums.{fold-append}
use Rattle.std.proofs.Math.Facts.{leb_yes, yes_leb}
use Rattle.std.proofs.Math.Dec.{eqb→eq}
use Rattle.finite_map.specs.FiniteMap.{empty, len, len-empty}
use Rattle.key_sets.specs.declared.kind.Kind.{Kind}
use Rattle.key_sets.specs.Parts.{parts_cmp}
use Rattle.key_sets.specs.Keys.{Keys, LIMIT, union}
use Rattle.key_sets.proofs.UnionLaws.{len-union-left, union-symm, union-empty}
use Rattle.cert_meaning.specs.State.{Fragment, fragment_keys, whole_keys}
use Rattle.cert_meaning.specs.Whole.{within, KeepsKeys}

-- the keys of one fragment more
pub fragment_keys-more : (front : List Fragment) (fragment : Fragment)
    → fragment_keys (front ++ fragment ∷ []) ≡ union (fragment_keys front) fragment.keys
fragment_keys-more front fragment = fold-append (λ all (f : Fragment). union all f.keys) empty front (fragment ∷ [])

different : (b : Bool) → (b ≡ true → ⊥) → b ≡ false
different true no_truth = absurd (no_truth refl)
different false no_truth = refl

grows : (all : Keys) (more : List Fragment) → len all ≤ len (fold (λ keys (f : Fragment). union keys f.keys) all more)
grows all [] = omega arith
grows all (f ∷ fs) = omega (arith, len-union-left all f.keys, grows (union all f.keys) fs)

-- some fragments have at most the keys of the whole
pub len-whole : (front more : List Fragment) (keys : Keys) → len (fragment_keys front) ≤ len (whole_keys (front ++ more) keys)
len-whole front more keys =
    let all = fragment_keys front in
    let split : fragment_keys (front ++ more) ≡ fold (λ ks (f : Fragment). union ks f.keys) all more = fold-append (λ ks (f : Fragment). union ks f.keys) empty front more in
    let more_keys : len all ≤ len (fragment_keys (front ++ more)) = subst (λ (ks : Keys). len all ≤ len ks) (sym split) (grows all more) in
    omega (arith, more_keys, len-union-left (fragment_keys (front ++ more)) keys)

-- a transaction of one write set has its keys
pub whole_keys-alone : (keys : Keys) → whole_keys [] keys ≡ keys
whole_keys-alone keys = union-symm empty keys ∙ union-empty keys

over_false : (n : ℕ) → LIMIT < n → nat_le n LIMIT ≡ false
over_false n over = different (nat_le n LIMIT) (λ yes. let few : n ≤ LIMIT = leb_yes (subst T (sym yes) tt) in omega (arith, over, few))

-- keys that are too many are none
pub within-over : (keys : Keys) → LIMIT < len keys → within keys ≡ None
within-over keys over = ap (λ b. cond b (Some keys) None) (over_false (len keys) over)

few_true : (b : Bool) → T b → b ≡ true
few_true true h = refl
few_true false h = absurd h

-- keys that are not too many are those
pub within-few : (keys : Keys) → len keys ≤ LIMIT → within keys ≡ Some keys
within-few keys few = ap (λ b. cond b (Some keys) None) (few_true (nat_le (len keys) LIMIT) (yes_leb few))

-- where the keys of some fragments are too many, those of the whole are
pub over-whole : (front more : List Fragment) (fragment : Fragment) (keys : Keys)
    → LIMIT < len (union (fragment_keys front) fragment.keys) → LIMIT < len (whole_keys (front ++ fragment ∷ more) keys)
over-whole front more fragment keys over =
    let part : len (fragment_keys (front ++ fragment ∷ [])) ≤ len (whole_keys ((front ++ fragment ∷ []) ++ more) keys) = len-whole (front ++ fragment ∷ []) more keys in
    let size : len (fragment_keys (front ++ fragment ∷ [])) ≡ len (union (fragment_keys front) fragment.keys) = ap len (fragment_keys-more front fragment) in
    let same : whole_keys ((front ++ fragment ∷ []) ++ more) keys ≡ whole_keys (front ++ fragment ∷ more) keys =
    ap (λ fragments. whole_keys fragments keys) (append_assoc front (fragment ∷ []) more) in
    let whole : len (whole_keys ((front ++ fragment ∷ []) ++ more) keys) ≡ len (whole_keys (front ++ fragment ∷ more) keys) = ap len same in
    omega (arith, part, over, size, whole)

pub not_true : (b : Bool) → not b ≡ true → b ≡ false
not_true true is = cc
not_true false is = refl

no_fragments : (fragments : List Fragment) → length fragments == 0 ≡ true → fragments ≡ []
no_fragments [] is = refl
no_fragments (f ∷ fs) is = let none : suc (length fs) ≡ 0 = eqb→eq (suc (length fs)) 0 (subst T (sym is) tt) in absurd (omega (arith, none))

-- the keys of a transaction of one write set are those of the set
pub whole_keys-none : (fragments : List Fragment) (keys : Keys) → length fragments == 0 ≡ true → len keys ≤ LIMIT
    → within (whole_keys fragments keys) ≡ Some keys
whole_keys-none fragments keys none few =
    ap (λ fs. within (whole_keys fs keys)) (no_fragments fragments none)
    ∙ ap within (whole_keys-alone keys) ∙ within-few keys few

-- where there are no fragments, the keys of one set are not too many
pub few-alone : (fragments : List Fragment) (keys : Keys) → length fragments == 0 ≡ true → len keys ≤ LIMIT
    → nat_lt LIMIT (len (whole_keys fragments keys)) ≡ false
few-alone fragments keys none few =
    ap (λ fs. nat_lt LIMIT (len (whole_keys fs keys))) (no_fragments fragments none)
    ∙ ap (λ ks. nat_lt LIMIT (len ks)) (whole_keys-alone keys) ∙ le-ltb LIMIT (len keys) few

-- keys of some set, where that is not too large
within-some : (keys all : Keys) → within keys ≡ Some all → (all ≡ keys) × (len keys ≤ LIMIT)
within-some keys all is = by (nat_le (len keys) LIMIT) refl is
  where
    by : (b : Bool) → nat_le (len keys) LIMIT ≡ b → cond b (Some keys) None ≡ Some all → (all ≡ keys) × (len keys ≤ LIMIT)
    by true few some = (cc, leb_yes (subst T (sym few) tt))
    by false few none = cc

-- no fragment has no key
pub keeps-none : KeepsKeys [] None
keeps-none = let none : len (fragment_keys []) ≡ 0 = len-empty parts_cmp Kind in (omega (arith, none), tt)

none_more : (fragments : List Fragment) (none : Keys) → none ≡ empty → whole_keys fragments none ≡ fragment_keys fragments
none_more fragments none is = ap (whole_keys fragments) is ∙ union-empty (fragment_keys fragments)

-- keys that were joined, with none more, are all that the fragments have
pub keeps-joined : (fragments : List Fragment) (none keys : Keys) → none ≡ empty → within (whole_keys fragments none) ≡ Some keys
    → KeepsKeys fragments (Some keys)
keeps-joined fragments none keys is some =
    let found = within-some (whole_keys fragments none) keys some in
    let same = none_more fragments none is in
    (subst (λ (all : Keys). len all ≤ LIMIT) same found.1, found.0 ∙ same)

-- fragments that have not too many keys can be joined
pub joined-within : (fragments : List Fragment) (none : Keys) → none ≡ empty → len (fragment_keys fragments) ≤ LIMIT
    → within (whole_keys fragments none) ≡ Some (fragment_keys fragments)
joined-within fragments none is few = ap within (none_more fragments none is) ∙ within-few (fragment_keys fragments) few
