-- What `==` of pairs answers, and the pairs that a key has.
use Rattle.std.proofs.Common.{◌≡◌, ℕ, Bool, true, false, cond, ◌||◌, ◌&&◌, List, Option, Some, None, refl, sym, ap, ◌∙◌}
use Rattle.std.specs.Prelude.{is_some}
use Rattle.std.specs.List.{list_any}
use Rattle.key_sets.specs.declared.kind.Kind.{Kind}
use Rattle.key_sets.specs.declared.kind.Kind.TheVariants.{Shared, Update, Exclusive}
use Rattle.key_sets.specs.declared.parts.Parts.{Parts}
use Rattle.key_sets.specs.Keys.{table_pair}
use Rattle.key_sets.specs.Parts.{table_of}
use Rattle.key_sets.proofs.PartsLemmas.{parts_eq-same}
use Rattle.cert_index.specs.declared.pair.Pair.{Pair}
use Rattle.cert_index.specs.Pairs.{is_of, is_pair, kind_eq, pair_eq, same_kind, table_pair_of}
use Rattle.cert_index.specs.Index.{only_above}
use Rattle.cert_index.proofs.MeetLemmas.{or_false}

pub kind_eq-same : (k l : Kind) → kind_eq k l ≡ same_kind k l
kind_eq-same Shared Shared = refl
kind_eq-same Shared Update = refl
kind_eq-same Shared Exclusive = refl
kind_eq-same Update Shared = refl
kind_eq-same Update Update = refl
kind_eq-same Update Exclusive = refl
kind_eq-same Exclusive Shared = refl
kind_eq-same Exclusive Update = refl
kind_eq-same Exclusive Exclusive = refl

abbrev pub own : Parts × Kind → Pair
own key = record { parts = key.0; kind = key.1 }

pub pair_eq-is : (key : Parts × Kind) (q : Pair) → pair_eq (own key) q ≡ is_pair q key
pair_eq-is key q = λ i. parts_eq-same key.0 q.parts i && kind_eq-same key.1 q.kind i

-- the key of a row has two pairs
row_is_of : (key : Parts × Kind) (q : Pair) (row : Option (List ℕ)) → key.0.row ≡ row → is_some row ≡ true
    → is_of q key ≡ pair_eq (own key) q || pair_eq (table_pair_of key.0) q
row_is_of key q None is e = cc
row_is_of key q (Some name) is e =
    (λ i. is_pair q key || list_any (is_pair q) (table_pair key.0 (is i)))
    ∙ ap (λ b. is_pair q key || b) (or_false (is_pair q (table_of key.0, Shared)))
    ∙ (λ i. sym (pair_eq-is key q) i || sym (pair_eq-is (table_of key.0, Shared) q) i)

-- that of a table has one
table_is_of : (key : Parts × Kind) (q : Pair) (row : Option (List ℕ)) → key.0.row ≡ row → is_some row ≡ false
    → is_of q key ≡ pair_eq (own key) q
table_is_of key q (Some name) is e = cc
table_is_of key q None is e =
    (λ i. is_pair q key || list_any (is_pair q) (table_pair key.0 (is i)))
    ∙ or_false (is_pair q key) ∙ sym (pair_eq-is key q)

put_twice : (b c : Bool) (v o : Option ℕ) → cond c v (cond b v o) ≡ cond (b || c) v o
put_twice true true v o = refl
put_twice true false v o = refl
put_twice false c v o = refl

-- a number is put at both pairs of a row's key
pub put-row : (key : Parts × Kind) (q : Pair) → is_some key.0.row ≡ true → (v was first : Option ℕ)
    → first ≡ cond (pair_eq (own key) q) v was → (last : Option ℕ) → last ≡ cond (pair_eq (table_pair_of key.0) q) v first
    → last ≡ cond (is_of q key) v was
put-row key q row v was first at_first last at_last =
    at_last ∙ ap (cond (pair_eq (table_pair_of key.0) q) v) at_first
    ∙ put_twice (pair_eq (own key) q) (pair_eq (table_pair_of key.0) q) v was
    ∙ ap (λ b. cond b v was) (sym (row_is_of key q key.0.row refl row))

pub put-table : (key : Parts × Kind) (q : Pair) → is_some key.0.row ≡ false → (v was last : Option ℕ)
    → last ≡ cond (pair_eq (own key) q) v was → last ≡ cond (is_of q key) v was
put-table key q row v was last at_last = at_last ∙ ap (λ b. cond b v was) (sym (table_is_of key q key.0.row refl row))

above_again : (to : ℕ) (b : Bool) (n : ℕ) → cond b (Some n) None ≡ only_above to (Some n)
    → only_above to (cond b (Some n) None) ≡ cond b (Some n) None
above_again to true n is = sym is
above_again to false n is = refl

pub only_above-again : (to : ℕ) (o : Option ℕ) → only_above to (only_above to o) ≡ only_above to o
only_above-again to None = refl
only_above-again to (Some n) = above_again to _ n refl

drop_twice : (to : ℕ) (b c : Bool) (o : Option ℕ)
    → cond c (only_above to (cond b (only_above to o) o)) (cond b (only_above to o) o) ≡ cond (b || c) (only_above to o) o
drop_twice to true true o = only_above-again to o
drop_twice to true false o = refl
drop_twice to false c o = refl

-- what is old goes at both pairs of a row's key
pub drop-row : (to : ℕ) (key : Parts × Kind) (q : Pair) → is_some key.0.row ≡ true → (was first : Option ℕ)
    → first ≡ cond (pair_eq (own key) q) (only_above to was) was
    → (last : Option ℕ) → last ≡ cond (pair_eq (table_pair_of key.0) q) (only_above to first) first
    → last ≡ cond (is_of q key) (only_above to was) was
drop-row to key q row was first at_first last at_last =
    at_last ∙ ap (λ o. cond (pair_eq (table_pair_of key.0) q) (only_above to o) o) at_first
    ∙ drop_twice to (pair_eq (own key) q) (pair_eq (table_pair_of key.0) q) was
    ∙ ap (λ b. cond b (only_above to was) was) (sym (row_is_of key q key.0.row refl row))

pub drop-table : (to : ℕ) (key : Parts × Kind) (q : Pair) → is_some key.0.row ≡ false → (was last : Option ℕ)
    → last ≡ cond (pair_eq (own key) q) (only_above to was) was → last ≡ cond (is_of q key) (only_above to was) was
drop-table to key q row was last at_last =
    at_last ∙ ap (λ b. cond b (only_above to was) was) (sym (table_is_of key q key.0.row refl row))
