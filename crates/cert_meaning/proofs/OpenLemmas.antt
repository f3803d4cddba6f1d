-- The fragments of other transactions, found one transaction after another.
use Rattle.std.proofs.Common.{◌≡◌, ℕ, Bool, true, false, cond, not, List, [], ◌∷◌, ◌++◌, Option, Some, refl, sym, ap, ◌∙◌}
use Rattle.std.specs.Prelude.{flat_map, filter, map}
use Rattle.std.specs.Ordering.{eq_by_cmp}
use Rattle.std.specs.FinMap.Entries.{find}
use Rattle.std.proofs.lemmas.List.Elements.{filter-append}
use Rattle.finite_map.specs.FiniteMap.{FiniteMap, remove, retain_keys}
use Rattle.finite_map.proofs.Edits.{tied}
use Rattle.wsrep_base.specs.declared.ids.TrxId.{TrxId}
use Rattle.wsrep_base.specs.Trx.{trx_cmp, greatest}
use Rattle.key_sets.specs.Keys.{Keys, touches}
use Rattle.cert_meaning.specs.State.{Fragment, fragments_but}
use Rattle.cert_meaning.specs.Extremes.{greater}
use Rattle.cert_meaning.specs.Verdict.{greatest_touching}
use Rattle.cert_meaning.proofs.ExtremeLemmas.{greatest-append, greatest-step, greater-assoc}
use Rattle.cert_meaning.proofs.TrxLemmas.{transactions}

-- the fragments of the transactions that are left but one
abbrev pub left_but : TrxId → List (TrxId × List Fragment) → List Fragment
left_but trx entries = flat_map (λ entry. entry.1) (filter (λ entry. not (eq_by_cmp trx_cmp trx entry.0)) entries)

pub fragments_but-entries : (open_trx : FiniteMap trx_cmp (List Fragment)) (trx : TrxId)
    → fragments_but open_trx trx ≡ left_but trx open_trx.entries
unfolding remove retain_keys
fragments_but-entries open_trx trx = refl

map-append : (xs ys : List Fragment) → map (λ (fragment : Fragment). fragment.number) (xs ++ ys)
    ≡ map (λ (fragment : Fragment). fragment.number) xs ++ map (λ (fragment : Fragment). fragment.number) ys
map-append [] ys = refl
map-append (x ∷ xs) ys = ap (λ ns. x.number ∷ ns) (map-append xs ys)

pub touching-append : (xs ys : List Fragment) (keys : Keys)
    → greatest_touching (xs ++ ys) keys ≡ greater (greatest_touching xs keys) (greatest_touching ys keys)
touching-append xs ys keys =
    ap (λ fs. greatest (map (λ (fragment : Fragment). fragment.number) fs)) (filter-append (λ (fragment : Fragment). touches fragment.keys keys) xs ys)
    ∙ ap greatest (map-append (filter (λ (fragment : Fragment). touches fragment.keys keys) xs) _)
    ∙ greatest-append _ _

-- one fragment more is looked at
pub touching-step : (so_far : Option ℕ) (fragment : Fragment) (rest : List Fragment) (keys : Keys) (meets : Bool) → touches fragment.keys keys ≡ meets
    → greater (cond meets (greater so_far (Some fragment.number)) so_far) (greatest_touching rest keys) ≡ greater so_far (greatest_touching (fragment ∷ rest) keys)
touching-step so_far fragment rest keys true is =
    greatest-step so_far fragment.number _
    ∙ ap (λ b. greater so_far (greatest (map (λ (f : Fragment). f.number) (cond b (fragment ∷ filter (λ (f : Fragment). touches f.keys keys) rest) (filter (λ (f : Fragment). touches f.keys keys) rest))))) (sym is)
touching-step so_far fragment rest keys false is =
    ap (λ b. greater so_far (greatest (map (λ (f : Fragment). f.number) (cond b (fragment ∷ filter (λ (f : Fragment). touches f.keys keys) rest) (filter (λ (f : Fragment). touches f.keys keys) rest))))) (sym is)

-- one transaction more is looked at, unless it is the one
pub but-step : (so_far : Option ℕ) (trx : TrxId) (entry : TrxId × List Fragment) (rest : List (TrxId × List Fragment)) (keys : Keys) (same : Bool)
    → eq_by_cmp trx_cmp trx entry.0 ≡ same
    → greater (cond same so_far (greater so_far (greatest_touching entry.1 keys))) (greatest_touching (left_but trx rest) keys)
    ≡ greater so_far (greatest_touching (left_but trx (entry ∷ rest)) keys)
but-step so_far trx entry rest keys true is =
    ap (λ b. greater so_far (greatest_touching (flat_map (λ e. e.1) (cond (not b) (entry ∷ filter (λ e. not (eq_by_cmp trx_cmp trx e.0)) rest) (filter (λ e. not (eq_by_cmp trx_cmp trx e.0)) rest))) keys)) (sym is)
but-step so_far trx entry rest keys false is =
    greater-assoc so_far (greatest_touching entry.1 keys) (greatest_touching (left_but trx rest) keys)
    ∙ ap (greater so_far) (sym (touching-append entry.1 (left_but trx rest) keys))
    ∙ ap (λ b. greater so_far (greatest_touching (flat_map (λ e. e.1) (cond (not b) (entry ∷ filter (λ e. not (eq_by_cmp trx_cmp trx e.0)) rest) (filter (λ e. not (eq_by_cmp trx_cmp trx e.0)) rest))) keys)) (sym is)

-- a transaction that differs from the first is behind it
pub find-behind : (t u : TrxId) (here : List Fragment) (es : List (TrxId × List Fragment))
    → (t ≡ u → ⊥) → find trx_cmp t ((u, here) ∷ es) ≡ find trx_cmp t es
find-behind t u here es apart = by (eq_by_cmp trx_cmp t u) refl
  where
    by : (b : Bool) → eq_by_cmp trx_cmp t u ≡ b
        → cond b (Some here) (find trx_cmp t es) ≡ find trx_cmp t es
    by true tie = absurd (apart (tied transactions t u tie))
    by false other = refl
