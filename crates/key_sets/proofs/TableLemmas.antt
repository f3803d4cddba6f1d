-- Keys that rise, and the set that they are seen as.
use Rattle.std.proofs.Common.{◌≡◌, cond, List, [], ◌∷◌, length, Some, refl, sym, ap, ◌∙◌, arith}
use Rattle.std.specs.Prelude.{T}
use Rattle.std.specs.FinMap.Entries.{put, is_sorted, find-put, same_entries}
use Rattle.std.specs.List.{refill}
use Rattle.finite_map.specs.FiniteMap.{empty, insert, get-entries, get-insert, get-from_entries, same_map, same_entries_map}
use Rattle.key_sets.specs.declared.kind.Kind.{Kind}
use Rattle.key_sets.specs.declared.parts.Parts.{Parts}
use Rattle.key_sets.specs.Parts.{parts_cmp, same_parts}
use Rattle.key_sets.specs.Keys.{Keys, keys_from}
use Rattle.key_sets.proofs.PartsLemmas.{parts_total, parts_exact}

-- the set has just these keys
pub entries-keys_from : (es : List (Parts × Kind)) → T (is_sorted parts_cmp es) → (keys_from es).entries ≡ es
entries-keys_from es rising =
    same_entries parts_cmp parts_total parts_exact (keys_from es).entries es (keys_from es).sorted rising
    (λ q. sym (get-entries (keys_from es) q) ∙ get-from_entries parts_total es q)

pub keys_from-entries : (keys : Keys) → keys_from keys.entries ≡ keys
keys_from-entries keys = same_entries_map _ _ (entries-keys_from keys.entries keys.sorted)

-- a key that is put at its place is put in the set
pub put-keys_from : (k : Parts) (v : Kind) (es : List (Parts × Kind))
    → keys_from (put parts_cmp k v es) ≡ insert (keys_from es) k v
put-keys_from k v es = same_map parts_total parts_exact _ _ (λ q.
    get-from_entries parts_total (put parts_cmp k v es) q
    ∙ find-put parts_cmp parts_total q k v es
    ∙ ap (cond (same_parts q k) (Some v)) (sym (get-from_entries parts_total es q))
    ∙ sym (get-insert parts_total (keys_from es) k v q))

-- the keys of the set that rising keys are seen as
pub entries-seen : (es : List (Parts × Kind)) (keys : Keys) → T (is_sorted parts_cmp es) → keys_from es ≡ keys
    → keys.entries ≡ es
entries-seen es keys rising seen = ap (λ (m : Keys). m.entries) (sym seen) ∙ entries-keys_from es rising

-- a slice that is as long as the vector writes over it all
pub refill_whole : {X : Type 0} (xs ws : List X) → length ws ≡ length xs → refill (length xs) xs ws ≡ ws
refill_whole [] [] e = refl
refill_whole [] (w ∷ ws) e = absurd (omega (arith, e))
refill_whole (x ∷ xs) [] e = absurd (omega (arith, e))
refill_whole (x ∷ xs) (w ∷ ws) e = ap (λ l. w ∷ l) (refill_whole xs ws (omega (arith, e)))

-- a set with no keys is the empty set
pub none-empty : (keys : Keys) → length keys.entries ≡ 0 → keys ≡ empty
unfolding empty
none-empty keys none = same_entries_map keys empty (nothing keys.entries none)
  where
    nothing : (es : List (Parts × Kind)) → length es ≡ 0 → es ≡ []
    nothing [] e = refl
    nothing (x ∷ es) e = cc

pub empty-none : (keys : Keys) → keys ≡ empty → length keys.entries ≡ 0
unfolding empty
empty-none keys is = ap (λ (m : Keys). length m.entries) is
