-- What an index finds among the commits that it holds, and what it holds once one is entered or old ones are purged.
use Rattle.std.proofs.Common.{◌≡◌, ℕ, ◌≤◌, Bool, true, false, cond, ◌||◌, ◌&&◌, List, [], ◌∷◌, ◌++◌, refl, sym, ap, ◌∙◌, arith, append-nil}
use Rattle.std.specs.Prelude.{map, filter, flat_map, nat_lt}
use Rattle.std.specs.List.{list_any}
use Rattle.std.proofs.lemmas.Bool.{lt-ltb, le-ltb, ltb-false}
use Rattle.std.proofs.lemmas.List.Concat.{flat_map-append}
use Rattle.std.proofs.lemmas.List.Elements.{filter-append}
use Rattle.std.proofs.lemmas.List.Folds.{list_any-append}
use Rattle.wsrep_base.specs.Trx.{greatest}
use Rattle.key_sets.specs.declared.kind.Kind.{Kind}
use Rattle.key_sets.specs.declared.parts.Parts.{Parts}
use Rattle.key_sets.specs.Keys.{Keys, meet, pairs_meet, pairs_of, pairs_of_key}
use Rattle.key_sets.specs.Kinds.{kinds_conflict, kinds_touch}
use Rattle.cert_meaning.specs.declared.items.CommitItem.{CommitItem}
use Rattle.cert_meaning.specs.Extremes.{greater}
use Rattle.cert_meaning.specs.Search.{greatest_related, is_related}
use Rattle.cert_meaning.proofs.ExtremeLemmas.{greater_first}
use Rattle.cert_index.specs.Index.{Entry, above, entered, entries_of, latest, meets}
use Rattle.cert_index.specs.Laws.{FindsConflict, FindsTouch, HoldsEntered, HoldsPurged}
use Rattle.cert_index.proofs.LatestLemmas.{at, at-or, latest-step, latest-append}
use Rattle.cert_index.proofs.TableLemmas.{entry}

any_flat : {X Y : Type 0} (f : Y → Bool) (g : X → List Y) (xs : List X)
    → list_any f (flat_map g xs) ≡ list_any (λ x. list_any f (g x)) xs
any_flat f g [] = refl
any_flat f g (x ∷ xs) = list_any-append f (g x) (flat_map g xs) ∙ ap (λ b. list_any f (g x) || b) (any_flat f g xs)

module _ (test : Kind → Kind → Bool) (keys : Keys) where
  -- an entry of these keys passes where their set meets the other
  key_meets : (n : ℕ) (own : Keys) → list_any (λ k. meets test keys.entries (entry n k)) own.entries ≡ meet test own keys
  unfolding meet pairs_of
  key_meets n own = sym (any_flat (λ p. list_any (pairs_meet test p) (flat_map pairs_of_key keys.entries)) pairs_of_key own.entries)

  -- the latest of a commit's keys
  of_keys : (n : ℕ) (ks : List (Parts × Kind))
      → latest (meets test keys.entries) (entries_of n ks) ≡ at (list_any (λ k. meets test keys.entries (entry n k)) ks) n
  of_keys n [] = refl
  of_keys n (k ∷ ks) =
      latest-step (meets test keys.entries) (entry n k) (entries_of n ks)
      ∙ ap (greater (at (meets test keys.entries (entry n k)) n)) (of_keys n ks)
      ∙ sym (at-or (meets test keys.entries (entry n k)) (list_any (λ l. meets test keys.entries (entry n l)) ks) n)

above_keys : (to n : ℕ) (ks : List (Parts × Kind)) (b : Bool) → nat_lt to n ≡ b → above to (entries_of n ks) ≡ cond b (entries_of n ks) []
above_keys to n [] true is = refl
above_keys to n [] false is = refl
above_keys to n (k ∷ ks) true is =
    ap (λ b. cond b (entry n k ∷ above to (entries_of n ks)) (above to (entries_of n ks))) is
    ∙ ap (λ es. entry n k ∷ es) (above_keys to n ks true is)
above_keys to n (k ∷ ks) false is =
    ap (λ b. cond b (entry n k ∷ above to (entries_of n ks)) (above to (entries_of n ks))) is ∙ above_keys to n ks false is

module _ (test : Kind → Kind → Bool) (keys : Keys) (to : ℕ) where
  -- the latest of a commit's keys, where it is above
  of_commit : (c : CommitItem) (b : Bool) → nat_lt to c.number ≡ b
      → latest (meets test keys.entries) (above to (entries_of c.number c.keys.entries)) ≡ at (b && meet test c.keys keys) c.number
  of_commit c true is =
      ap (latest (meets test keys.entries)) (above_keys to c.number c.keys.entries true is)
      ∙ of_keys test keys c.number c.keys.entries
      ∙ ap (λ b. at b c.number) (key_meets test keys c.number c.keys)
  of_commit c false is = ap (latest (meets test keys.entries)) (above_keys to c.number c.keys.entries false is)

  search_step : (c : CommitItem) (cs : List CommitItem)
      → greatest_related (meet test) (c ∷ cs) to keys
      ≡ greater (at (nat_lt to c.number && meet test c.keys keys) c.number) (greatest_related (meet test) cs to keys)
  search_step c cs = by (nat_lt to c.number && meet test c.keys keys)
    where
      rest : List CommitItem
      rest = filter (is_related (meet test) to keys) cs

      by : (b : Bool) → greatest (map (λ (x : CommitItem). x.number) (cond b (c ∷ rest) rest))
          ≡ greater (at b c.number) (greatest_related (meet test) cs to keys)
      by true = greater_first c.number (greatest_related (meet test) cs to keys)
      by false = refl

  -- the latest of all keys above a number is what the search over the commits finds
  pub found : (cs : List CommitItem) → latest (meets test keys.entries) (above to (entered cs)) ≡ greatest_related (meet test) cs to keys
  found [] = refl
  found (c ∷ cs) =
      ap (latest (meets test keys.entries)) (filter-append (λ (e : Entry). nat_lt to e.number) (entries_of c.number c.keys.entries) (entered cs))
      ∙ latest-append (meets test keys.entries) (above to (entries_of c.number c.keys.entries)) (above to (entered cs))
      ∙ (λ i. greater (of_commit c (nat_lt to c.number) refl i) (found cs i))
      ∙ sym (search_step c cs)

twice : (to higher : ℕ) (e : Entry) (es fs : List Entry) → to ≤ higher → above higher fs ≡ above higher es
    → (b : Bool) → nat_lt to e.number ≡ b → above higher (cond b (e ∷ fs) fs) ≡ above higher (e ∷ es)
twice to higher e es fs up rest true is = ap (λ xs. cond (nat_lt higher e.number) (e ∷ xs) xs) rest
twice to higher e es fs up rest false is =
    let low = ltb-false to e.number is in
    let under = le-ltb higher e.number (let less : e.number ≤ higher = omega (arith, low, up) in less) in
    rest ∙ sym (ap (λ b. cond b (e ∷ above higher es) (above higher es)) under)

-- what is above the higher of two numbers
above-twice : (to higher : ℕ) (es : List Entry) → to ≤ higher → above higher (above to es) ≡ above higher es
above-twice to higher [] up = refl
above-twice to higher (e ∷ es) up =
    twice to higher e es (above to es) up (above-twice to higher es up) (nat_lt to e.number) refl

pub finds_conflict : FindsConflict
finds_conflict kept to last_seen commits keys holds up =
    ap (λ es. latest (meets kinds_conflict keys.entries) (above last_seen es)) holds
    ∙ ap (latest (meets kinds_conflict keys.entries)) (above-twice to last_seen (entered commits) up)
    ∙ found kinds_conflict keys last_seen commits

pub finds_touch : FindsTouch
finds_touch kept to commits keys holds = ap (latest (meets kinds_touch keys.entries)) holds ∙ found kinds_touch keys to commits

pub holds_purged : HoldsPurged
holds_purged kept to higher commits holds up = ap (above higher) holds ∙ above-twice to higher (entered commits) up

pub holds_entered : HoldsEntered
holds_entered kept to commits c holds less =
    ap (λ es. es ++ entries_of c.number c.keys.entries) holds
    ∙ ap (λ es. above to (entered commits) ++ es)
    (sym (ap (above to) (append-nil (entries_of c.number c.keys.entries))
    ∙ above_keys to c.number c.keys.entries true (lt-ltb to c.number less)))
    ∙ sym (filter-append (λ (e : Entry). nat_lt to e.number) (entered commits) (entries_of c.number c.keys.entries ++ []))
    ∙ ap (above to) (sym (flat_map-append (λ (x : CommitItem). entries_of x.number x.keys.entries) commits (c ∷ [])))
