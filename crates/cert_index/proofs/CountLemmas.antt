-- The table is the map of the latest commits, and has as many entries.
use Rattle.std.proofs.Common.{◌≡◌, ◌+◌, ℕ, Bool, true, false, cond, ◌&&◌, List, [], ◌∷◌, length, Option, Some, None, is_some, refl, sym, ap, ◌∙◌, add-one}
use Rattle.std.specs.Prelude.{max, unwrap_or}
use Rattle.std.specs.List.{list_any, IsDistinct, AllByRecursion}
use Rattle.std.specs.Map.{lookup, keys_of}
use Rattle.std.specs.Ordering.{nat_cmp, ordering_then, is_eq, eq_by_cmp}
use Rattle.std.specs.declared.cmp.Ordering.{Ordering}
use Rattle.std.specs.declared.cmp.Ordering.TheVariants.{Less, Equal, Greater}
use Rattle.std.specs.Cmp.{IsTotalOrder, eq_by_cmp_equiv, nat_cmp_total}
use Rattle.std.specs.FinMap.{IsAntisymmetric}
use Rattle.std.proofs.lemmas.Cmp.{then_total, on_total}
use Rattle.std.proofs.lemmas.Map.Keys.{IsDistinct-head, IsDistinct-tail}
use Rattle.finite_map.specs.FiniteMap.{get, len, from_entries, get-empty, get-insert, len-empty, len-insert, same_map}
use Rattle.finite_map.proofs.Tables as tables
use Rattle.key_sets.specs.declared.kind.Kind.{Kind}
use Rattle.key_sets.specs.declared.kind.Kind.TheVariants.{Shared, Update, Exclusive}
use Rattle.key_sets.specs.declared.parts.Parts.{Parts}
use Rattle.key_sets.specs.Keys.{pairs_of_key}
use Rattle.key_sets.specs.Kinds.{kind_number}
use Rattle.key_sets.specs.Parts.{parts_cmp, same_parts}
use Rattle.key_sets.proofs.PartsLemmas.{parts_total, parts_eq-same, same_parts-exact}
use Rattle.cert_meaning.specs.Extremes.{greater}
use Rattle.cert_meaning.proofs.ExtremeLemmas.{greater_first, greater-assoc}
use Rattle.cert_index.specs.declared.pair.Pair.{Pair}
use Rattle.cert_index.specs.Count.{Latest, pair_cmp, raise, raise_all, latest_of}
use Rattle.cert_index.specs.Index.{Entry, latest}
use Rattle.cert_index.specs.Pairs.{is_at, is_pair, pair_eq, same_kind}
use Rattle.cert_index.proofs.LatestLemmas.{at, at-or, latest-step}
use Rattle.cert_index.proofs.PairLemmas.{own, kind_eq-same, pair_eq-is}

pair_total : IsTotalOrder pair_cmp
pair_total =
    then_total (on_total (λ (p : Pair). p.parts) parts_total) (on_total (λ (p : Pair). kind_number p.kind) nat_cmp_total)

both_tie : (o p : Ordering) → is_eq o && is_eq p ≡ is_eq (ordering_then o p)
both_tie Less p = refl
both_tie Equal p = refl
both_tie Greater p = refl

kinds_tie : (k l : Kind) → same_kind k l ≡ is_eq (nat_cmp (kind_number k) (kind_number l))
kinds_tie Shared Shared = refl
kinds_tie Shared Update = refl
kinds_tie Shared Exclusive = refl
kinds_tie Update Shared = refl
kinds_tie Update Update = refl
kinds_tie Update Exclusive = refl
kinds_tie Exclusive Shared = refl
kinds_tie Exclusive Update = refl
kinds_tie Exclusive Exclusive = refl

-- what `==` of pairs answers, by their order
pair_ties : (p q : Pair) → pair_eq p q ≡ eq_by_cmp pair_cmp p q
pair_ties p q =
    (λ i. parts_eq-same p.parts q.parts i && (kind_eq-same p.kind q.kind ∙ kinds_tie p.kind q.kind) i)
    ∙ both_tie (parts_cmp p.parts q.parts) (nat_cmp (kind_number p.kind) (kind_number q.kind))

both_are : (a b : Bool) → a && b ≡ true → (a ≡ true) × (b ≡ true)
both_are true b h = (refl, h)
both_are false b h = cc

kind_exact : (k l : Kind) → same_kind k l ≡ true → k ≡ l
kind_exact Shared Shared e = refl
kind_exact Shared Update e = cc
kind_exact Shared Exclusive e = cc
kind_exact Update Shared e = cc
kind_exact Update Update e = refl
kind_exact Update Exclusive e = cc
kind_exact Exclusive Shared e = cc
kind_exact Exclusive Update e = cc
kind_exact Exclusive Exclusive e = refl

tied : (p q : Pair) → eq_by_cmp pair_cmp p q ≡ true → p ≡ q
tied p q e =
    let both = both_are (same_parts p.parts q.parts) (is_eq (nat_cmp (kind_number p.kind) (kind_number q.kind)))
    (both_tie (parts_cmp p.parts q.parts) (nat_cmp (kind_number p.kind) (kind_number q.kind)) ∙ e) in
    let parts = same_parts-exact p.parts q.parts both.0 in
    let kinds = kind_exact p.kind q.kind (kinds_tie p.kind q.kind ∙ both.1) in
    λ i. record { parts = parts i; kind = kinds i }

pair_exact : IsAntisymmetric pair_cmp
pair_exact p q e = tied p q (ap is_eq e)

raised_at : (b : Bool) (n : ℕ) (here there : Option ℕ) → (b ≡ true → here ≡ there)
    → cond b (Some (max n (unwrap_or here n))) there ≡ greater (at b n) there
raised_at true n here there same = greater_first n here ∙ ap (greater (Some n)) (same refl)
raised_at false n here there same = refl

get-raise : (m : Latest) (p : Pair) (n : ℕ) (q : Pair) → get (raise m p n) q ≡ greater (at (eq_by_cmp pair_cmp q p) n) (get m q)
unfolding raise
get-raise m p n q =
    get-insert pair_total m p (max n (unwrap_or (get m p) n)) q
    ∙ raised_at (eq_by_cmp pair_cmp q p) n (get m p) (get m q) (λ e. ap (get m) (sym (tied q p e)))

is_pair-ties : (q : Pair) (p : Parts × Kind) → eq_by_cmp pair_cmp q (own p) ≡ is_pair q p
is_pair-ties q p = (eq_by_cmp_equiv pair_total).symm q (own p) ∙ sym (pair_ties (own p) q) ∙ pair_eq-is p q

get-raise_all : (m : Latest) (n : ℕ) (ps : List (Parts × Kind)) (q : Pair)
    → get (raise_all m n ps) q ≡ greater (at (list_any (is_pair q) ps) n) (get m q)
unfolding raise_all
get-raise_all m n [] q = refl
get-raise_all m n (p ∷ ps) q =
    get-raise (raise_all m n ps) (own p) n q
    ∙ (λ i. greater (at (is_pair-ties q p i) n) (get-raise_all m n ps q i))
    ∙ sym (greater-assoc (at (is_pair q p) n) (at (list_any (is_pair q) ps) n) (get m q))
    ∙ ap (λ o. greater o (get m q)) (sym (at-or (is_pair q p) (list_any (is_pair q) ps) n))

-- the map of the latest commits has the latest entry with the pair
pub get-latest_of : (es : List Entry) (q : Pair) → get (latest_of es) q ≡ latest (is_at q) es
unfolding latest_of
get-latest_of [] q = get-empty pair_cmp q
get-latest_of (e ∷ es) q =
    get-raise_all (latest_of es) e.number (pairs_of_key e.key) q
    ∙ ap (greater (at (is_at q e) e.number)) (get-latest_of es q)
    ∙ sym (latest-step (is_at q) e es)

none_here : (p : Pair) (es : List (Pair × ℕ)) → AllByRecursion (λ y. pair_eq p y ≡ false) (keys_of es) → lookup (pair_eq p) es ≡ None
none_here p [] h = refl
none_here p (e ∷ es) h = ap (λ b. cond b (Some e.1) (lookup (pair_eq p) es)) h.0 ∙ none_here p es h.1

table_len : (es : List (Pair × ℕ)) → IsDistinct pair_eq (keys_of es) → len (from_entries {R = pair_cmp} es) ≡ length es
table_len [] h = len-empty pair_cmp ℕ
table_len (e ∷ es) h =
    let none = tables.get-table pair_total pair_ties es e.0 ∙ none_here e.0 es (IsDistinct-head pair_eq e.0 (keys_of es) h) in
    len-insert pair_total (from_entries es) e.0 e.1
    ∙ ap (λ o. cond (is_some o) (len (from_entries {R = pair_cmp} es)) (len (from_entries {R = pair_cmp} es) + 1)) none
    ∙ ap (λ n. n + 1) (table_len es (IsDistinct-tail pair_eq e.0 (keys_of es) h))
    ∙ add-one (length es)

-- a table that finds the latest entries has as many entries as their map
pub latest-len : (table : List (Pair × ℕ)) (es : List Entry) → IsDistinct pair_eq (keys_of table)
    → ((q : Pair) → lookup (pair_eq q) table ≡ latest (is_at q) es) → length table ≡ len (latest_of es)
latest-len table es unique found =
    sym (table_len table unique)
    ∙ ap len (same_map pair_total pair_exact (from_entries table) (latest_of es) (λ q.
    tables.get-table pair_total pair_ties table q ∙ found q ∙ sym (get-latest_of es q)))
