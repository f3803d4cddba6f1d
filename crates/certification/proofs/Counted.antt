-- The map of the latest commits has as many keys as there are different kinds at parts.
use Rattle.std.proofs.Common.{◌≡◌, ◌+◌, ℕ, suc, Bool, true, false, cond, ◌||◌, ◌&&◌, List, [], ◌∷◌, ◌++◌, length, Option, Some, refl, sym, ap, ◌∙◌, add-one}
use Rattle.std.specs.Prelude.{◌==◌, flat_map, is_some, max, unwrap_or}
use Rattle.std.specs.List.{list_any}
use Rattle.std.specs.Ordering.{nat_cmp, ordering_then, is_eq, eq_by_cmp}
use Rattle.std.specs.declared.cmp.Ordering.{Ordering}
use Rattle.std.specs.declared.cmp.Ordering.TheVariants.{Less, Equal, Greater}
use Rattle.std.specs.Cmp.{IsTotalOrder, nat_cmp_total}
use Rattle.std.proofs.lemmas.Cmp.{then_total, on_total}
use Rattle.std.proofs.lemmas.List.{append_assoc}
use Rattle.finite_map.specs.FiniteMap.{get, len, get-empty, get-insert, len-empty, len-insert}
use Rattle.key_sets.specs.declared.kind.Kind.{Kind}
use Rattle.key_sets.specs.declared.kind.Kind.TheVariants.{Shared, Update, Exclusive}
use Rattle.key_sets.specs.declared.parts.Parts.{Parts}
use Rattle.key_sets.specs.Keys.{pairs_of, pairs_of_key}
use Rattle.key_sets.specs.Kinds.{kind_number}
use Rattle.key_sets.specs.Parts.{parts_cmp}
use Rattle.key_sets.proofs.PartsLemmas.{parts_total}
use Rattle.cert_meaning.specs.declared.items.CommitItem.{CommitItem}
use Rattle.cert_index.specs.declared.pair.Pair.{Pair}
use Rattle.cert_index.specs.Count.{Latest, pair_cmp, raise, raise_all, latest_of}
use Rattle.cert_index.specs.declared.entry.Entry.{Entry}
use Rattle.cert_index.specs.Index.{entered, entries_of}
use Rattle.node_meaning.specs.Status.{each_once, same_pair}

-- ---- pairs
pair_total : IsTotalOrder pair_cmp
pair_total =
    then_total (on_total (λ (p : Pair). p.parts) parts_total) (on_total (λ (p : Pair). kind_number p.kind) nat_cmp_total)

both_tie : (o p : Ordering) → is_eq (ordering_then o p) ≡ is_eq o && is_eq p
both_tie Less p = refl
both_tie Equal p = refl
both_tie Greater p = refl

kinds_tie : (k l : Kind) → is_eq (nat_cmp (kind_number k) (kind_number l)) ≡ kind_number k == kind_number l
kinds_tie Shared Shared = refl
kinds_tie Shared Update = refl
kinds_tie Shared Exclusive = refl
kinds_tie Update Shared = refl
kinds_tie Update Update = refl
kinds_tie Update Exclusive = refl
kinds_tie Exclusive Shared = refl
kinds_tie Exclusive Update = refl
kinds_tie Exclusive Exclusive = refl

abbrev pair : Parts × Kind → Pair
pair p = record { parts = p.0; kind = p.1 }

pairs_tie : (p q : Parts × Kind) → eq_by_cmp pair_cmp (pair p) (pair q) ≡ same_pair p q
pairs_tie p q =
    both_tie (parts_cmp p.0 q.0) (nat_cmp (kind_number p.1) (kind_number q.1))
    ∙ ap (λ b. is_eq (parts_cmp p.0 q.0) && b) (kinds_tie p.1 q.1)

-- ---- the map has these pairs as its keys, and no other
record Counts (latest : Latest) (pairs : List (Parts × Kind)) : Type 0 where
  count : len latest ≡ length (each_once pairs)
  has : (q : Parts × Kind) → is_some (get latest (pair q)) ≡ list_any (same_pair q) pairs

count_one : (b : Bool) (p : Parts × Kind) (ps : List (Parts × Kind)) (n : ℕ) → n ≡ length ps
    → cond b n (n + 1) ≡ length (cond b ps (p ∷ ps))
count_one true p ps n is = is
count_one false p ps n is = add-one n ∙ ap suc is

has_one : (b : Bool) (n : ℕ) (o : Option ℕ) → is_some (cond b (Some n) o) ≡ b || is_some o
has_one true n o = refl
has_one false n o = refl

counts_raised : (m : Latest) (ps : List (Parts × Kind)) → Counts m ps → (p : Parts × Kind) (number : ℕ)
    → Counts (raise m (pair p) number) (p ∷ ps)
unfolding raise
counts_raised m ps counts p number =
    let top = max number (unwrap_or (get m (pair p)) number) in
    record {
      count = len-insert pair_total m (pair p) top
          ∙ ap (λ b. cond b (len m) (len m + 1)) (counts.has p)
          ∙ count_one (list_any (same_pair p) ps) p (each_once ps) (len m) counts.count;
      has = λ q.
          ap is_some (get-insert pair_total m (pair p) top (pair q))
          ∙ has_one (eq_by_cmp pair_cmp (pair q) (pair p)) top (get m (pair q))
          ∙ (λ i. pairs_tie q p i || counts.has q i);
    }

counts_all : (m : Latest) (rest : List (Parts × Kind)) → Counts m rest → (number : ℕ) (ps : List (Parts × Kind))
    → Counts (raise_all m number ps) (ps ++ rest)
unfolding raise_all
counts_all m rest counts number [] = counts
counts_all m rest counts number (p ∷ ps) =
    counts_raised (raise_all m number ps) (ps ++ rest) (counts_all m rest counts number ps) p number

counts_entries : (es : List Entry) → Counts (latest_of es) (flat_map (λ (e : Entry). pairs_of_key e.key) es)
unfolding latest_of
counts_entries [] = record { count = len-empty pair_cmp ℕ; has = λ q. ap is_some (get-empty pair_cmp (pair q)) }
counts_entries (e ∷ es) =
    counts_all (latest_of es) (flat_map (λ (x : Entry). pairs_of_key x.key) es) (counts_entries es) e.number (pairs_of_key e.key)

-- ---- the pairs of entered commits are those of their keys
pairs_entered : (number : ℕ) (keys : List (Parts × Kind)) (rest : List Entry)
    → flat_map (λ (e : Entry). pairs_of_key e.key) (entries_of number keys ++ rest)
    ≡ flat_map pairs_of_key keys ++ flat_map (λ (e : Entry). pairs_of_key e.key) rest
pairs_entered number [] rest = refl
pairs_entered number (k ∷ ks) rest =
    ap (λ ps. pairs_of_key k ++ ps) (pairs_entered number ks rest)
    ∙ sym (append_assoc (pairs_of_key k) (flat_map pairs_of_key ks) (flat_map (λ (e : Entry). pairs_of_key e.key) rest))

pairs_all : (commits : List CommitItem)
    → flat_map (λ (e : Entry). pairs_of_key e.key) (entered commits) ≡ flat_map (λ (c : CommitItem). pairs_of c.keys) commits
unfolding pairs_of
pairs_all [] = refl
pairs_all (c ∷ cs) =
    pairs_entered c.number c.keys.entries (entered cs)
    ∙ ap (λ ps. flat_map pairs_of_key c.keys.entries ++ ps) (pairs_all cs)

pub latest-count : (commits : List CommitItem)
    → len (latest_of (entered commits)) ≡ length (each_once (flat_map (λ (c : CommitItem). pairs_of c.keys) commits))
latest-count commits =
    (counts_entries (entered commits)).count ∙ ap (λ ps. length (each_once ps)) (pairs_all commits)
