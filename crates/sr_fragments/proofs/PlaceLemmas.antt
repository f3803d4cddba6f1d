-- The places of keys.
use Rattle.std.proofs.Common.{◌≡◌, ℕ, ◌+◌, ◌<◌, length, take, get_or, Bool, true, false, cond, ◌||◌, ◌&&◌, List, [], ◌∷◌, ◌++◌, Option, Some, None, refl, sym, ap, ◌∙◌}
use Rattle.std.specs.Prelude.{is_some}
use Rattle.std.specs.Bool.{beq}
use Rattle.std.specs.List.{list_any}
use Rattle.std.proofs.lemmas.List.Folds.{list_any_more, list_any-append}
use Rattle.wsrep_base.specs.declared.ids.TrxId.{TrxId}
use Rattle.wsrep_base.specs.Trx.{same_trx}
use Rattle.key_sets.specs.declared.kind.Kind.{Kind}
use Rattle.key_sets.specs.declared.kind.Kind.TheVariants.{Shared}
use Rattle.key_sets.specs.declared.parts.Parts.{Parts}
use Rattle.key_sets.specs.Keys.{table_pair}
use Rattle.key_sets.specs.Parts.{table_of}
use Rattle.key_sets.proofs.PartsLemmas.{parts_eq-same}
use Rattle.sr_fragments.specs.declared.spot.Spot.{Spot}
use Rattle.sr_fragments.specs.declared.spot.Place.{Place}
use Rattle.sr_fragments.specs.Spots.{is_changing, place_of}
use Rattle.sr_fragments.specs.HeldIndex.{is_in, is_key_at, is_pair_at, is_place, is_rising, place_eq}
use Rattle.sr_fragments.proofs.MarkLemmas.{place_same}
use Rattle.cert_meaning.proofs.TrxLemmas.{trx_ties}

or_false : (b : Bool) → b || false ≡ b
or_false true = refl
or_false false = refl

-- the place of a kind at some parts
pub place_of-is : (trx : TrxId) (pair : Parts × Kind) (p : Place)
    → place_eq (place_of trx pair) p ≡ is_pair_at p.spot pair && same_trx trx p.trx
place_of-is trx pair p =
    λ i. (parts_eq-same pair.0 p.spot.parts i && beq (is_changing pair.1) p.spot.changing)
    && trx_ties trx p.trx i

-- where a key of a row is
row_key_at : (spot : Spot) (key : Parts × Kind) (row : Option (List ℕ)) → key.0.row ≡ row
    → is_some row ≡ true
    → is_key_at spot key ≡ is_pair_at spot key || is_pair_at spot (table_of key.0, Shared)
row_key_at spot key None is e = cc
row_key_at spot key (Some name) is e =
    (λ i. is_pair_at spot key || list_any (is_pair_at spot) (table_pair key.0 (is i)))
    ∙ ap (λ b. is_pair_at spot key || b) (or_false (is_pair_at spot (table_of key.0, Shared)))

-- and one of a table
table_key_at : (spot : Spot) (key : Parts × Kind) (row : Option (List ℕ)) → key.0.row ≡ row
    → is_some row ≡ false
    → is_key_at spot key ≡ is_pair_at spot key
table_key_at spot key (Some name) is e = cc
table_key_at spot key None is e =
    (λ i. is_pair_at spot key || list_any (is_pair_at spot) (table_pair key.0 (is i)))
    ∙ or_false (is_pair_at spot key)

-- ---- a place more is rising
add_one : (same rising inside : Bool) → (same ≡ true → rising ≡ true)
    → inside || (same || false) ≡ (same && rising) || inside
add_one true true true h = refl
add_one true true false h = refl
add_one true false inside h = let e = h refl in cc
add_one false rising true h = refl
add_one false rising false h = refl

pub rising-added : (latest : Place → Option ℕ) (number : ℕ) (place p : Place)
    (places more : List Place)
    → is_rising number (latest place) ≡ true → more ≡ places ++ place ∷ []
    → is_in p more ≡ (place_eq place p && is_rising number (latest p)) || is_in p places
rising-added latest number place p places more rises is =
    ap (is_in p) is ∙ list_any-append (λ q. place_eq q p) places (place ∷ [])
    ∙ add_one (place_eq place p) (is_rising number (latest p)) (is_in p places)
    (λ same. ap (λ q. is_rising number (latest q)) (sym (place_same place p same)) ∙ rises)

add_none : (same rising inside : Bool) → (same ≡ true → rising ≡ false)
    → inside ≡ (same && rising) || inside
add_none true false inside h = refl
add_none true true inside h = let e = h refl in cc
add_none false rising inside h = refl

pub rising-passed : (latest : Place → Option ℕ) (number : ℕ) (place p : Place) (places : List Place)
    → is_rising number (latest place) ≡ false
    → is_in p places ≡ (place_eq place p && is_rising number (latest p)) || is_in p places
rising-passed latest number place p places stays =
    add_none (place_eq place p) (is_rising number (latest p)) (is_in p places)
    (λ same. ap (λ q. is_rising number (latest q)) (sym (place_same place p same)) ∙ stays)

-- ---- a key more is gone over
abbrev pub blank_key : Parts × Kind
blank_key = (record { table = []; row = None }, Shared)

step_row : (own table trx rising before : Bool)
    → ((table && trx) && rising) || (((own && trx) && rising) || ((trx && before) && rising))
    ≡ (trx && (before || (own || table))) && rising
step_row true true true true true = refl
step_row true true true true false = refl
step_row true true true false true = refl
step_row true true true false false = refl
step_row true true false rising before = refl
step_row true false true true true = refl
step_row true false true true false = refl
step_row true false true false true = refl
step_row true false true false false = refl
step_row true false false rising before = refl
step_row false true true true true = refl
step_row false true true true false = refl
step_row false true true false true = refl
step_row false true true false false = refl
step_row false true false rising before = refl
step_row false false true true true = refl
step_row false false true true false = refl
step_row false false true false true = refl
step_row false false true false false = refl
step_row false false false rising before = refl

step_table : (own trx rising before : Bool)
    → ((own && trx) && rising) || ((trx && before) && rising) ≡ (trx && (before || own)) && rising
step_table true true true true = refl
step_table true true true false = refl
step_table true true false true = refl
step_table true true false false = refl
step_table true false rising before = refl
step_table false true rising true = refl
step_table false true rising false = refl
step_table false false rising before = refl

-- what the places say of a list of keys
abbrev pub rising_keys : TrxId → List (Parts × Kind) → Place → Bool → Bool
rising_keys trx keys p rising = is_place trx keys p && rising

keys_more : (trx : TrxId) (keys : List (Parts × Kind)) (i : ℕ) (d : Parts × Kind) (p : Place)
    (rising : Bool) → i < length keys
    → rising_keys trx (take (i + 1) keys) p rising
    ≡ (same_trx trx p.trx && (list_any (is_key_at p.spot) (take i keys)
    || is_key_at p.spot (get_or keys i d))) && rising
keys_more trx keys i d p rising within =
    ap (λ b. (same_trx trx p.trx && b) && rising) (list_any_more (is_key_at p.spot) keys i d within)

pub rising-row : (trx : TrxId) (keys : List (Parts × Kind)) (i : ℕ) (d : Parts × Kind) (p : Place)
    (rising was one both : Bool)
    → i < length keys → is_some (get_or keys i d).0.row ≡ true
    → was ≡ rising_keys trx (take i keys) p rising
    → one ≡ (place_eq (place_of trx (get_or keys i d)) p && rising) || was
    → both ≡ (place_eq (place_of trx (table_of (get_or keys i d).0, Shared)) p && rising) || one
    → both ≡ rising_keys trx (take (i + 1) keys) p rising
rising-row trx keys i d p rising was one both within row at_was at_one at_both =
    let key = get_or keys i d in
    let own = is_pair_at p.spot key in
    let table = is_pair_at p.spot (table_of key.0, Shared) in
    let before = list_any (is_key_at p.spot) (take i keys) in
    at_both
    ∙ (λ j. (place_of-is trx (table_of key.0, Shared) p j && rising)
    || (at_one ∙ (λ k. (place_of-is trx key p k && rising) || at_was k)) j)
    ∙ step_row own table (same_trx trx p.trx) rising before
    ∙ ap (λ b. (same_trx trx p.trx && (before || b)) && rising)
    (sym (row_key_at p.spot key key.0.row refl row))
    ∙ sym (keys_more trx keys i d p rising within)

pub rising-table : (trx : TrxId) (keys : List (Parts × Kind)) (i : ℕ) (d : Parts × Kind) (p : Place)
    (rising was one : Bool)
    → i < length keys → is_some (get_or keys i d).0.row ≡ false
    → was ≡ rising_keys trx (take i keys) p rising
    → one ≡ (place_eq (place_of trx (get_or keys i d)) p && rising) || was
    → one ≡ rising_keys trx (take (i + 1) keys) p rising
rising-table trx keys i d p rising was one within row at_was at_one =
    let key = get_or keys i d in
    let own = is_pair_at p.spot key in
    let before = list_any (is_key_at p.spot) (take i keys) in
    at_one ∙ (λ j. (place_of-is trx key p j && rising) || at_was j)
    ∙ step_table own (same_trx trx p.trx) rising before
    ∙ ap (λ b. (same_trx trx p.trx && (before || b)) && rising)
    (sym (table_key_at p.spot key key.0.row refl row))
    ∙ sym (keys_more trx keys i d p rising within)

-- ---- a key is forgotten
gone_row : (own table trx : Bool) (o : Option ℕ)
    → cond (table && trx) None (cond (own && trx) None o)
    ≡ cond (trx && ((own || table) || false)) None o
gone_row true true true o = refl
gone_row true true false o = refl
gone_row true false true o = refl
gone_row true false false o = refl
gone_row false true true o = refl
gone_row false true false o = refl
gone_row false false true o = refl
gone_row false false false o = refl

pub forgotten-row : (trx : TrxId) (key : Parts × Kind) (p : Place) (had one both : Option ℕ)
    → is_some key.0.row ≡ true
    → one ≡ cond (place_eq (place_of trx key) p) None had
    → both ≡ cond (place_eq (place_of trx (table_of key.0, Shared)) p) None one
    → both ≡ cond (is_place trx (key ∷ []) p) None had
forgotten-row trx key p had one both row at_one at_both =
    at_both
    ∙ (λ j. cond (place_of-is trx (table_of key.0, Shared) p j) None
    ((at_one ∙ (λ k. cond (place_of-is trx key p k) None had)) j))
    ∙ gone_row (is_pair_at p.spot key) (is_pair_at p.spot (table_of key.0, Shared))
    (same_trx trx p.trx) had
    ∙ ap (λ b. cond (same_trx trx p.trx && (b || false)) None had)
    (sym (row_key_at p.spot key key.0.row refl row))

gone_table : (own trx : Bool) (o : Option ℕ)
    → cond (own && trx) None o ≡ cond (trx && (own || false)) None o
gone_table true true o = refl
gone_table true false o = refl
gone_table false true o = refl
gone_table false false o = refl

pub forgotten-table : (trx : TrxId) (key : Parts × Kind) (p : Place) (had one : Option ℕ)
    → is_some key.0.row ≡ false
    → one ≡ cond (place_eq (place_of trx key) p) None had
    → one ≡ cond (is_place trx (key ∷ []) p) None had
forgotten-table trx key p had one row at_one =
    at_one ∙ (λ j. cond (place_of-is trx key p j) None had)
    ∙ gone_table (is_pair_at p.spot key) (same_trx trx p.trx) had
    ∙ ap (λ b. cond (same_trx trx p.trx && (b || false)) None had)
    (sym (table_key_at p.spot key key.0.row refl row))

-- ---- keys are forgotten one after another
gone_next : (trx first rest : Bool) (o : Option ℕ)
    → cond (trx && rest) None (cond (trx && (first || false)) None o)
    ≡ cond (trx && (first || rest)) None o
gone_next true true true o = refl
gone_next true true false o = refl
gone_next true false rest o = refl
gone_next false first rest o = refl

pub forgotten-next : (trx : TrxId) (left next : List (Parts × Kind)) (key : Parts × Kind)
    (p : Place) (was now all : Option ℕ)
    → left ≡ key ∷ next
    → cond (is_place trx left p) None was ≡ all
    → now ≡ cond (is_place trx (key ∷ []) p) None was
    → cond (is_place trx next p) None now ≡ all
forgotten-next trx left next key p was now all is before step =
    ap (cond (is_place trx next p) None) step
    ∙ gone_next (same_trx trx p.trx) (is_key_at p.spot key) (list_any (is_key_at p.spot) next) was
    ∙ ap (λ ks. cond (is_place trx ks p) None was) (sym is)
    ∙ before

pub and_none : (b : Bool) → b && false ≡ false
and_none true = refl
and_none false = refl

pub forgotten-all : (trx : TrxId) (left keys : List (Parts × Kind)) (p : Place) (was had : Option ℕ)
    → left ≡ []
    → cond (is_place trx left p) None was ≡ cond (is_place trx keys p) None had
    → was ≡ cond (is_place trx keys p) None had
forgotten-all trx left keys p was had is before =
    sym (ap (λ ks. cond (is_place trx ks p) None was) is
    ∙ ap (λ b. cond b None was) (and_none (same_trx trx p.trx)))
    ∙ before
