-- Keys: what is read are keys in order, and keys in order are read again.
use Rattle.std.proofs.Common.{◌≡◌, ℕ, zero, suc, ◌+◌, ◌<◌, ◌≤◌, Bool, true, false, cond, List, [], ◌∷◌, ◌++◌, length, Option, Some, None, Ok, refl, sym, ap, subst, ◌∙◌, append_assoc, arith}
use Rattle.std.specs.Prelude.{◌==◌, ◌||◌, not, nat_lt, IfSome}
use Rattle.std.specs.List.{list_all, flat_map, AllByRecursion}
use Rattle.std.proofs.lemmas.Bool.{eqb-true}
use Rattle.key_sets.specs.declared.kind.Kind.{Kind}
use Rattle.key_sets.specs.declared.kind.Kind.TheVariants as kind
use Rattle.key_sets.specs.declared.parts.Parts.{Parts}
use Rattle.write_set.specs.declared.fault.WsFault.TheVariants.{Short}
use Rattle.write_set.specs.declared.names.NameRole.TheVariants as role
use Rattle.write_set.specs.Names.{is_name, is_table_letter}
use Rattle.write_set.specs.Rules.{row_fits, parts_fit, parts_in_range}
use Rattle.write_set.specs.Spelling.{name_text, kind_byte, parts_byte, row_text, key_text}
use Rattle.write_set.specs.Place.{Place}
use Rattle.write_set.specs.Reading.{◌>>=◌, name_at, kind_of_byte, key_row_at, key_at, is_above, some_keys_at}
use Rattle.write_set.proofs.RulesOf.{both, and}
use Rattle.write_set.proofs.Bounds.{is_not, within}
use Rattle.wsrep_base.proofs.Fields.{IsBytes, read_ok, passed, ok_is, place, Took, took_none, took_then, byte_takes, byte_again}
use Rattle.write_set.proofs.NameLaws.{name_takes, name_again}

-- ---- one key

abbrev pub RowInRange : Option (List ℕ) → Type 0
RowInRange row = IfSome row (λ name. length name ≡ 16)

abbrev pub TakesRow : ℕ → Place → Option (List ℕ) × Place → Type 0
TakesRow parts p x = Took p (row_text x.0) x.1 × (row_fits x.0 ≡ true) × RowInRange x.0 × (parts ≡ parts_byte x.0)

by_parts : (one : Bool) (parts : ℕ) (p : Place) (x : Option (List ℕ) × Place) → IsBytes p.left → (parts == 1) ≡ one → one || (parts == 2) ≡ true
    → cond one (Ok (None, p)) (name_at role.KeyRow p >>= λ row. Ok (Some row.0, row.1)) ≡ Ok x → TakesRow parts p x
by_parts true parts p x fits one known e =
    subst (TakesRow parts p) (ok_is (None, p) x e) (took_none p fits, refl, tt, eqb-true parts 1 one)
by_parts false parts p x fits one known e =
    let a = read_ok (List ℕ) _ _ x e in
    let t = name_takes role.KeyRow p a.0 fits a.1 in
    subst (TakesRow parts p) (ok_is (Some a.0.0, a.0.1) x a.2) (t.0, t.2, t.1, eqb-true parts 2 known)

row_takes : (parts : ℕ) (p : Place) (x : Option (List ℕ) × Place) → IsBytes p.left → (parts == 1 || parts == 2) ≡ true → key_row_at parts p ≡ Ok x
    → TakesRow parts p x
unfolding key_row_at
row_takes parts p x fits known e = by_parts (parts == 1) parts p x fits refl known e

row_again : (row : Option (List ℕ)) (rest : List ℕ) (at : ℕ) → row_fits row ≡ true → RowInRange row
    → (q : ℕ) × (key_row_at (parts_byte row) (place (row_text row ++ rest) at) ≡ Ok (row, place rest q))
unfolding key_row_at
row_again None rest at fit range = (at, refl)
row_again (Some name) rest at fit range =
    let n = name_again role.KeyRow name rest at range fit in
    (n.0, ap (λ read. read >>= λ row. Ok (Some row.0, row.1)) n.1)

kind_back : (b : ℕ) → 0 < b → b ≤ 3 → kind_byte (kind_of_byte b) ≡ b
kind_back zero some most = absurd (omega arith)
kind_back (suc zero) some most = refl
kind_back (suc (suc zero)) some most = refl
kind_back (suc (suc (suc b))) some most = omega arith

kind_again : (k : Kind) → kind_of_byte (kind_byte k) ≡ k
kind_again kind.Shared = refl
kind_again kind.Update = refl
kind_again kind.Exclusive = refl

pub known_kind : (k : Kind) → (kind_byte k == 0 || nat_lt 3 (kind_byte k)) ≡ false
known_kind kind.Shared = refl
known_kind kind.Update = refl
known_kind kind.Exclusive = refl

known_parts : (row : Option (List ℕ)) → not (parts_byte row == 1 || parts_byte row == 2) ≡ false
known_parts None = refl
known_parts (Some row) = refl

abbrev pub TakesKey : Place → (Parts × Kind) × Place → Type 0
TakesKey p x = Took p (key_text x.0) x.1 × (parts_fit x.0.0 ≡ true) × parts_in_range x.0.0

pub key_takes : (p : Place) (x : (Parts × Kind) × Place) → IsBytes p.left → key_at p ≡ Ok x → TakesKey p x
unfolding key_at
key_takes p x fits e =
    let a = read_ok ℕ _ _ x e in
    let b = passed _ _ _ x a.2 in
    let c = read_ok ℕ _ _ x b.1 in
    let d = passed _ _ _ x c.2 in
    let t = read_ok (List ℕ) _ _ x d.1 in
    let r = read_ok (Option (List ℕ)) _ _ x t.2 in
    let ta = byte_takes Short p a.0 fits a.1 in
    let tc = byte_takes Short a.0.1 c.0 ta.fits c.1 in
    let tt' = name_takes role.KeyTable c.0.1 t.0 tc.fits t.1 in
    let tr = row_takes a.0.0 t.0.1 r.0 tt'.0.fits (is_not (a.0.0 == 1 || a.0.0 == 2) b.0) r.1 in
    let known = within 3 c.0.0 d.0 in
    let key : Parts × Kind = (record { table = t.0.0; row = r.0.0 }, kind_of_byte c.0.0) in
    let names = name_text t.0.0 ++ row_text r.0.0 in
    let taken : Took p (a.0.0 ∷ c.0.0 ∷ names) r.0.1 =
    took_then p (a.0.0 ∷ []) a.0.1 (c.0.0 ∷ names) r.0.1 ta
    (took_then a.0.1 (c.0.0 ∷ []) c.0.1 names r.0.1 tc (took_then c.0.1 (name_text t.0.0) t.0.1 (row_text r.0.0) r.0.1 tt'.0 tr.0)) in
    let text : a.0.0 ∷ c.0.0 ∷ names ≡ key_text key = λ i. tr.3 i ∷ sym (kind_back c.0.0 known.0 known.1) i ∷ names in
    subst (TakesKey p) (ok_is (key, r.0.1) x r.2) (subst (λ text. Took p text r.0.1) text taken, and _ _ tt'.2 tr.1, (tt'.1, tr.2))

pub key_again : (key : Parts × Kind) (rest : List ℕ) (at : ℕ) → parts_fit key.0 ≡ true → parts_in_range key.0
    → (q : ℕ) × (key_at (place (key_text key ++ rest) at) ≡ Ok (key, place rest q))
unfolding key_at
key_again key rest at fit range =
    let parts = parts_byte key.0.row in
    let kind = kind_byte key.1 in
    let name = name_text key.0.table in
    let row = row_text key.0.row in
    let f = both (is_name is_table_letter key.0.table) (row_fits key.0.row) fit in
    let t = name_again role.KeyTable key.0.table (row ++ rest) (at + 1 + 1) range.0 f.0 in
    let r = row_again key.0.row rest t.0 f.1 range.1 in
    let is : key_at (place (parts ∷ kind ∷ (name ++ (row ++ rest))) at) ≡ Ok (key, place rest r.0) =
    rw (
      byte_again Short parts (kind ∷ (name ++ (row ++ rest))) at,
      known_parts key.0.row,
      byte_again Short kind (name ++ (row ++ rest)) (at + 1),
      known_kind key.1,
      t.1,
      r.1,
      kind_again key.1,
    ) refl in
    (r.0, ap (λ text. key_at (place (parts ∷ kind ∷ text) at)) (append_assoc name row rest) ∙ is)

-- ---- keys in order

-- each key is above the one before it
abbrev pub Rises : Option Parts → List (Parts × Kind) → Type 0
Rises before [] = Unit {0}
Rises before (e ∷ es) = (is_above before e.0 ≡ true) × Rises (Some e.0) es

abbrev pub all_fit : List (Parts × Kind) → Bool
all_fit es = list_all (λ key. parts_fit key.0) es

abbrev pub AllInRange : List (Parts × Kind) → Type 0
AllInRange es = AllByRecursion (λ key. parts_in_range key.0) es

abbrev pub TakesKeys : ℕ → Option Parts → Place → List (Parts × Kind) × Place → Type 0
TakesKeys n before p x =
    Took p (flat_map key_text x.0) x.1 × (length x.0 ≡ n) × (all_fit x.0 ≡ true) × AllInRange x.0 × Rises before x.0

pub some_keys_take : (n : ℕ) (before : Option Parts) (p : Place) (x : List (Parts × Kind) × Place) → IsBytes p.left → some_keys_at n before p ≡ Ok x
    → TakesKeys n before p x
unfolding some_keys_at
some_keys_take zero before p x fits e = subst (TakesKeys zero before p) (ok_is ([], p) x e) (took_none p fits, refl, refl, tt, tt)
some_keys_take (suc n) before p x fits e =
    let a = read_ok (Parts × Kind) _ _ x e in
    let b = passed _ _ _ x a.2 in
    let c = read_ok (List (Parts × Kind)) _ _ x b.1 in
    let key = a.0.0 in
    let t = key_takes p a.0 fits a.1 in
    let rec = some_keys_take n (Some key.0) a.0.1 c.0 t.0.fits c.1 in
    let rises : is_above before key.0 ≡ true = is_not (is_above before key.0) b.0 in
    subst (TakesKeys (suc n) before p) (ok_is (key ∷ c.0.0, c.0.1) x c.2) (
      took_then p (key_text key) a.0.1 (flat_map key_text c.0.0) c.0.1 t.0 rec.0,
      ap suc rec.1,
      and (parts_fit key.0) (all_fit c.0.0) t.1 rec.2,
      (t.2, rec.3),
      (rises, rec.4),
    )

pub some_keys_again : (es : List (Parts × Kind)) (before : Option Parts) (rest : List ℕ) (at : ℕ) → all_fit es ≡ true → AllInRange es → Rises before es
    → (q : ℕ) × (some_keys_at (length es) before (place (flat_map key_text es ++ rest) at) ≡ Ok (es, place rest q))
unfolding some_keys_at
some_keys_again [] before rest at fit range rises = (at, refl)
some_keys_again (e ∷ es) before rest at fit range rises =
    let f = both (parts_fit e.0) (all_fit es) fit in
    let others = flat_map key_text es in
    let k = key_again e (others ++ rest) at f.0 range.0 in
    let r = some_keys_again es (Some e.0) rest k.0 f.1 range.1 rises.1 in
    let is : some_keys_at (suc (length es)) before (place (key_text e ++ (others ++ rest)) at) ≡ Ok (e ∷ es, place rest r.0) =
    rw (k.1, rises.0, r.1) refl in
    (r.0, ap (λ text. some_keys_at (suc (length es)) before (place text at)) (append_assoc (key_text e) others rest) ∙ is)
