-- Members that are dropped one after another leave what a view of the others leaves.
use Rattle.std.proofs.Common.{◌≡◌, ℕ, Bool, true, false, cond, not, ◌||◌, List, [], ◌∷◌, Option, Some, None, refl, sym, ap, ◌∙◌}
use Rattle.std.specs.Prelude.{◌==◌}
use Rattle.std.specs.Cmp.{nat_eq_equiv}
use Rattle.std.specs.Ordering.{eq_by_cmp}
use Rattle.finite_map.specs.FiniteMap.{get, get-remove, get-retain_keys, remove, retain_keys, same_map}
use Rattle.wsrep_base.specs.Trx.{trx_cmp}
use Rattle.wsrep_base.specs.declared.ids.TrxId.{TrxId}
use Rattle.cert_meaning.specs.declared.items.Fragment.{Fragment}
use Rattle.cert_meaning.specs.Fold.{is_of}
use Rattle.cert_meaning.specs.OpenSearch.{HasNoneOf}
use Rattle.finite_map.proofs.Edits.{tied}
use Rattle.cert_meaning.proofs.TrxLemmas.{transactions, trx_exact, trx_total}
use Rattle.sr_fragments.specs.Following.{all_dropped, DropsTheGone}
use Rattle.sr_fragments.specs.OpenSet.{Open, dropped}
use Rattle.sr_fragments.proofs.MarkLemmas.{number_itself, number_same}

get-kept : (open_trx : Open) (p : TrxId → Bool) (t : TrxId)
    → get (retain_keys open_trx p) t ≡ cond (p t) (get open_trx t) None
get-kept open_trx p t = get-retain_keys open_trx p t (λ x tie. ap p (sym (trx_exact t x tie)))

turned : (m n : ℕ) → (m == n) ≡ (n == m)
turned m n = nat_eq_equiv.symm m n

once : (first rest : Bool) (o : Option (List Fragment))
    → cond rest None (cond (not first) o None) ≡ cond (first || rest) None o
once true true o = refl
once true false o = refl
once false rest o = refl

get-all_dropped : (open_trx : Open) (gone : List ℕ) (t : TrxId)
    → get (all_dropped open_trx gone) t ≡ cond (is_of gone t) None (get open_trx t)
get-all_dropped open_trx [] t = refl
get-all_dropped open_trx (member ∷ gone) t =
    get-all_dropped (dropped open_trx member) gone t
    ∙ ap (cond (is_of gone t) None) (get-kept open_trx (λ trx. not (trx.member == member)) t)
    ∙ once (t.member == member) (is_of gone t) (get open_trx t)
    ∙ ap (λ b. cond (b || is_of gone t) None (get open_trx t)) (turned t.member member)

pub drops : DropsTheGone
drops open_trx listed gone whole apart =
    same_map trx_total trx_exact (all_dropped open_trx gone) (retain_keys open_trx (is_of listed))
    (λ t.
    get-all_dropped open_trx gone t
    ∙ by t (get open_trx t) refl (is_of listed t) (is_of gone t) refl refl
    ∙ sym (get-kept open_trx (is_of listed) t))
  where
    by : (t : TrxId) (o : Option (List Fragment)) → get open_trx t ≡ o → (l g : Bool)
        → is_of listed t ≡ l → is_of gone t ≡ g
        → cond g None o ≡ cond l o None
    by t None is true true at_l at_g = refl
    by t None is true false at_l at_g = refl
    by t None is false true at_l at_g = refl
    by t None is false false at_l at_g = refl
    by t (Some fs) is true true at_l at_g = let not_both = apart t.member at_l in cc
    by t (Some fs) is true false at_l at_g = refl
    by t (Some fs) is false true at_l at_g = refl
    by t (Some fs) is false false at_l at_g = let one = whole t fs is in cc

-- where a transaction that is not to be kept is closed, as much is kept
pub kept-removed : (open_trx : Open) (p : TrxId → Bool) (trx : TrxId) → p trx ≡ false
    → retain_keys (remove open_trx trx) p ≡ retain_keys open_trx p
kept-removed open_trx p trx goes =
    same_map trx_total trx_exact (retain_keys (remove open_trx trx) p) (retain_keys open_trx p)
    (λ t.
    get-kept (remove open_trx trx) p t
    ∙ ap (λ o. cond (p t) o None) (get-remove trx_total open_trx trx t)
    ∙ by t (eq_by_cmp trx_cmp t trx) refl
    ∙ sym (get-kept open_trx p t))
  where
    by : (t : TrxId) (b : Bool) → eq_by_cmp trx_cmp t trx ≡ b
        → cond (p t) (cond b None (get open_trx t)) None ≡ cond (p t) (get open_trx t) None
    by t false apart = refl
    by t true tie =
        let here : p t ≡ false = ap p (tied transactions t trx tie) ∙ goes in
        ap (λ b. cond b (cond true None (get open_trx t)) None) here
        ∙ sym (ap (λ b. cond b (get open_trx t) None) here)

-- and where there is none, all are kept
pub kept-none : (open_trx : Open) (p : TrxId → Bool)
    → ((t : TrxId) → p t ≡ false → get open_trx t ≡ None) → retain_keys open_trx p ≡ open_trx
kept-none open_trx p none =
    same_map trx_total trx_exact (retain_keys open_trx p) open_trx (λ t.
    get-kept open_trx p t ∙ by t (p t) refl)
  where
    by : (t : TrxId) (b : Bool) → p t ≡ b → cond b (get open_trx t) None ≡ get open_trx t
    by t true stays = refl
    by t false goes = sym (none t goes)

-- where a transaction of the member is closed, as much is left to be dropped
pub dropped-removed : (open_trx : Open) (trx : TrxId) (member : ℕ) → trx.member ≡ member
    → dropped (remove open_trx trx) member ≡ dropped open_trx member
dropped-removed open_trx trx member its =
    kept-removed open_trx (λ u. not (u.member == member)) trx
    (ap not (ap (λ n. n == member) its ∙ number_itself member))

-- and where it has none, nothing is
pub dropped-none : (open_trx : Open) (member : ℕ) → HasNoneOf open_trx member
    → dropped open_trx member ≡ open_trx
dropped-none open_trx member none =
    kept-none open_trx (λ u. not (u.member == member))
    (λ t goes. none t (number_same t.member member (is_so (t.member == member) goes)))
  where
    is_so : (b : Bool) → not b ≡ false → b ≡ true
    is_so true goes = refl
    is_so false goes = cc
