-- Locks by look-ups: what each holder has once a key is added or a holder is taken out.
use Rattle.std.proofs.Common.{◌≡◌, cond, Option, Some, ap, ◌∙◌, arith}
use Rattle.std.specs.Option.{unwrap_or}
use Rattle.finite_map.specs.FiniteMap.{empty, get, insert, remove, get-empty, get-insert, get-remove, same_map}
use Rattle.key_sets.specs.declared.kind.Kind.{Kind}
use Rattle.key_sets.specs.declared.parts.Parts.{Parts}
use Rattle.key_sets.specs.Parts.{parts_cmp}
use Rattle.key_sets.specs.Keys.{Keys}
use Rattle.key_sets.proofs.PartsLemmas.{parts_total, parts_exact, parts_eq-same, same_parts-itself}
use Rattle.row_locks.specs.declared.holder.Holder.{Holder}
use Rattle.row_locks.specs.Holders.{holder_cmp, same_holder}
use Rattle.row_locks.specs.Locks.{Locks, keys_at}
use Rattle.row_locks.specs.LockKeys.{lock_eq, key_of}
use Rattle.row_locks.specs.LockTable.{with_entry}
use Rattle.row_locks.proofs.HolderLemmas.{cond-ap, holder_ties, holder_total, holder_exact, same_holder-exact}

-- each holder that stands there has a key
abbrev pub HaveKeys : Locks → Type 0
HaveKeys locks = (h : Holder) (keys : Keys) → get locks h ≡ Some keys → keys ≡ empty → ⊥

-- what is there, or no keys
abbrev or_empty : Option Keys → Keys
or_empty o = unwrap_or o empty

pub keys_at-empty : (h : Holder) → keys_at empty h ≡ empty
keys_at-empty h = ap or_empty (get-empty holder_cmp h)

pub keys_at-insert : (locks : Locks) (h : Holder) (keys : Keys) (q : Holder)
    → keys_at (insert locks h keys) q ≡ cond (same_holder q h) keys (keys_at locks q)
keys_at-insert locks h keys q =
    ap or_empty (get-insert holder_total locks h keys q) ∙ cond-ap or_empty (same_holder q h) _ _

-- after a holder is taken out it has no keys, and the others have what they had
pub keys_at-remove : (locks : Locks) (h q : Holder)
    → keys_at (remove locks h) q ≡ cond (same_holder q h) empty (keys_at locks q)
keys_at-remove locks h q =
    ap or_empty (get-remove holder_total locks h q) ∙ cond-ap or_empty (same_holder q h) _ _

-- a key with this kind
pub kind-with_entry : (locks : Locks) (h : Holder) (p : Parts) (k : Kind) (q : Holder) (r : Parts)
    → get (keys_at (with_entry locks h p k) q) r
    ≡ cond (lock_eq (key_of q r) (key_of h p)) (Some k) (get (keys_at locks q) r)
kind-with_entry locks h p k q r =
    let put = insert (keys_at locks h) p k in
    let own = get-insert parts_total (keys_at locks h) p k r in
    let all = keys_at-insert locks h put q in
    let same = same_holder-exact q h in
    grind (arith, own, all, same, holder_ties q h, parts_eq-same r p)

not_empty : (keys : Keys) (p : Parts) (k : Kind) → insert keys p k ≡ empty → ⊥
not_empty keys p k e =
    let none = get-empty {X = Kind} parts_cmp p in
    grind (arith, get-insert parts_total keys p k p, same_parts-itself p, none)

pub HaveKeys-empty : HaveKeys empty
HaveKeys-empty h keys e none = let o = get-empty {X = Keys} holder_cmp h in cc

pub HaveKeys-with_entry : (locks : Locks) (h : Holder) (p : Parts) (k : Kind) → HaveKeys locks
    → HaveKeys (with_entry locks h p k)
HaveKeys-with_entry locks h p k held q keys e none =
    let put = insert (keys_at locks h) p k in
    let some = not_empty (keys_at locks h) p k in
    grind (arith, get-insert holder_total locks h put q, held q keys, some)

pub HaveKeys-remove : (locks : Locks) (h : Holder) → HaveKeys locks → HaveKeys (remove locks h)
HaveKeys-remove locks h held q keys e none =
    grind (arith, get-remove holder_total locks h q, held q keys)

-- locks with the same kind at each holder's keys are the same
pub same_locks : (m n : Locks) → HaveKeys m → HaveKeys n
    → ((q : Holder) (r : Parts) → get (keys_at m q) r ≡ get (keys_at n q) r) → m ≡ n
same_locks m n one other is =
    same_map holder_total holder_exact m n (λ q.
    let same : keys_at m q ≡ keys_at n q = same_map parts_total parts_exact _ _ (is q) in
    grind (arith, one q, other q, same))
