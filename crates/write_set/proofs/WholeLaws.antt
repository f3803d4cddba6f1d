-- Whole write sets: what is read is spelled so, and what is spelled is read again.
use Rattle.std.proofs.Common.{◌≡◌, ℕ, ◌+◌, ◌^◌, ◌<◌, ◌≤◌, Bool, true, false, List, [], ◌∷◌, ◌++◌, length, Option, Some, None, Result, Ok, Err, refl, sym, ap, subst, ◌∙◌, append_assoc, arith}
use Rattle.std.specs.Prelude.{◌==◌, ◌||◌, ◌&&◌, not, nat_le, is_none, IfOk}
use Rattle.std.specs.Int.{w32, w64, to_be_bytes}
use Rattle.std.specs.List.{list_all, flat_map, AllByRecursion}
use Rattle.std.specs.Result.{result_ok}
use Rattle.std.proofs.lemmas.Bool.{ltb-false, leb-true, le-leb, eqb-true}
use Rattle.std.proofs.lemmas.List.{append-nil, nil_from_length}
use Rattle.finite_map.specs.FiniteMap.{len}
use Rattle.key_sets.specs.Keys.{Keys}
use Rattle.row_model.specs.declared.ops.Op.{Op}
use Rattle.write_set.specs.declared.fault.WsFault.TheVariants.{Short, Trailing}
use Rattle.write_set.specs.declared.rules.TheConstants.{MOST_OPS}
use Rattle.write_set.specs.declared.fault.WsFault.{WsFault}
use Rattle.write_set.specs.declared.write_set.Header.{Header}
use Rattle.write_set.specs.declared.write_set.WriteSet.{WriteSet}
use Rattle.write_set.specs.Rules.{flags_fit, op_fits, OpInRange, uncovered_from, obeys, InRange}
use Rattle.write_set.specs.Spelling.{keys_text, op_text, ops_text, spelling}
use Rattle.write_set.specs.Laws.{IsSpelled}
use Rattle.write_set.specs.Place.{Place, place_in}
use Rattle.write_set.specs.Reading.{◌>>=◌, Gives, op_at, keys_at, ops_at, header_at, covered, write_set_of, finished, read, decoded, begin_of_end, begin_in, commit_begin}
use Rattle.write_set.proofs.RulesOf.{both, and, Rules, rules_of, obeyed}
use Rattle.write_set.proofs.Bounds.{is_not, above}
use Rattle.wsrep_base.proofs.Fields.{IsBytes, read_ok, passed, ok_is, place, Took, took_then, number_takes, number_again, wide32, wide64, byte_takes, byte_again}
use Rattle.write_set.proofs.SetLaws.{keys_take, keys_again}
use Rattle.write_set.proofs.OpLaws.{OpFits, many_take, many_again, op_field}

-- ---- the changes

pub all_fit : (ops : List Op) → AllByRecursion OpFits ops → list_all op_fits ops ≡ true
all_fit [] fits = refl
all_fit (op ∷ ops) fits = and (op_fits op) (list_all op_fits ops) fits.0.0 (all_fit ops fits.1)

all_in_range : (ops : List Op) → AllByRecursion OpFits ops → AllByRecursion OpInRange ops
all_in_range [] fits = tt
all_in_range (op ∷ ops) fits = (fits.0.1, all_in_range ops fits.1)

pub each_fits : (ops : List Op) → list_all op_fits ops ≡ true → AllByRecursion OpInRange ops → AllByRecursion OpFits ops
each_fits [] fit range = tt
each_fits (op ∷ ops) fit range =
    let f = both (op_fits op) (list_all op_fits ops) fit in ((f.0, range.0), each_fits ops f.1 range.1)

abbrev pub TakesOps : Bool → Bool → Place → List Op × Place → Type 0
TakesOps rollback keyed p x =
    Took p (ops_text x.0) x.1 × (rollback && (keyed || not (length x.0 == 0)) ≡ false) × (nat_le (length x.0) MOST_OPS ≡ true)
    × AllByRecursion OpFits x.0

pub ops_take : (rollback keyed : Bool) (p : Place) (x : List Op × Place) → IsBytes p.left → ops_at rollback keyed p ≡ Ok x → TakesOps rollback keyed p x
unfolding ops_at
ops_take rollback keyed p x fits e =
    let a = read_ok ℕ _ _ x e in
    let b = passed _ _ _ x a.2 in
    let c = passed _ _ _ x b.1 in
    let t = number_takes Short w32 (2 ^ 32) wide32 p a.0 fits a.1 in
    let o = many_take op_text OpFits op_at op_field a.0.0 a.0.1 x t.0.fits c.1 in
    let few : a.0.0 ≤ MOST_OPS = ltb-false MOST_OPS a.0.0 c.0 in
    let taken : Took p (to_be_bytes w32 a.0.0 ++ flat_map op_text x.0) x.1 =
    took_then p (to_be_bytes w32 a.0.0) a.0.1 (flat_map op_text x.0) x.1 t.0 o.0 in
    let count : a.0.0 ≡ length x.0 = sym o.1 in (
      subst (λ n. Took p (to_be_bytes w32 n ++ flat_map op_text x.0) x.1) count taken,
      subst (λ n. rollback && (keyed || not (n == 0)) ≡ false) count b.0,
      le-leb (length x.0) MOST_OPS (rw o.1 few),
      o.2,
    )

pub ops_again : (rollback keyed : Bool) (ops : List Op) (rest : List ℕ) (at : ℕ) → rollback && (keyed || not (length ops == 0)) ≡ false
    → nat_le (length ops) MOST_OPS ≡ true → AllByRecursion OpFits ops
    → (q : ℕ) × (ops_at rollback keyed (place (ops_text ops ++ rest) at) ≡ Ok (ops, place rest q))
unfolding ops_at
ops_again rollback keyed ops rest at bare few fits =
    let n = length ops in
    let most : n ≤ 8192 = leb-true n 8192 few in
    let others = flat_map op_text ops in
    let o = many_again op_text OpFits op_at op_field ops rest (at + 4) fits in
    let is : ops_at rollback keyed (place (to_be_bytes w32 n ++ (others ++ rest)) at) ≡ Ok (ops, place rest o.0) =
    rw (number_again Short w32 (2 ^ 32) wide32 n (others ++ rest) at (omega arith), bare, above MOST_OPS n most, o.1) refl in
    (o.0, ap (λ text. ops_at rollback keyed (place text at)) (append_assoc (to_be_bytes w32 n) others rest) ∙ is)

-- ---- the fields before the keys

abbrev fields_text : Header → List ℕ
fields_text h =
    to_be_bytes w32 h.member ++ (to_be_bytes w64 h.serial ++ (to_be_bytes w64 h.begin ++ (to_be_bytes w32 h.fragment
    ++ (h.flags ∷ to_be_bytes w64 h.last_seen))))

abbrev TakesHeader : Place → Header × Place → Type 0
TakesHeader p x = Took p (1 ∷ fields_text x.0) x.1 × (flags_fit x.0.flags x.0.fragment ≡ true)

header_takes : (p : Place) (x : Header × Place) → IsBytes p.left → header_at p ≡ Ok x → TakesHeader p x
unfolding header_at
header_takes p x fits e =
    let v = read_ok ℕ _ _ x e in
    let known = passed _ _ _ x v.2 in
    let m = read_ok ℕ _ _ x known.1 in
    let s = read_ok ℕ _ _ x m.2 in
    let b = read_ok ℕ _ _ x s.2 in
    let f = read_ok ℕ _ _ x b.2 in
    let g = read_ok ℕ _ _ x f.2 in
    let fit = passed _ _ _ x g.2 in
    let l = read_ok ℕ _ _ x fit.1 in
    let tv = byte_takes Short p v.0 fits v.1 in
    let tm = number_takes Short w32 (2 ^ 32) wide32 v.0.1 m.0 tv.fits m.1 in
    let ts = number_takes Short w64 (2 ^ 64) wide64 m.0.1 s.0 tm.0.fits s.1 in
    let tb = number_takes Short w64 (2 ^ 64) wide64 s.0.1 b.0 ts.0.fits b.1 in
    let tf = number_takes Short w32 (2 ^ 32) wide32 b.0.1 f.0 tb.0.fits f.1 in
    let tg = byte_takes Short f.0.1 g.0 tf.0.fits g.1 in
    let tl = number_takes Short w64 (2 ^ 64) wide64 g.0.1 l.0 tg.fits l.1 in
    let h : Header = record { member = m.0.0; serial = s.0.0; begin = b.0.0; fragment = f.0.0; flags = g.0.0; last_seen = l.0.0 } in
    let end = l.0.1 in
    let text6 = to_be_bytes w64 l.0.0 in
    let text5 = g.0.0 ∷ text6 in
    let text4 = to_be_bytes w32 f.0.0 ++ text5 in
    let text3 = to_be_bytes w64 b.0.0 ++ text4 in
    let text2 = to_be_bytes w64 s.0.0 ++ text3 in
    let t5 : Took f.0.1 text5 end = took_then f.0.1 (g.0.0 ∷ []) g.0.1 text6 end tg tl.0 in
    let t4 : Took b.0.1 text4 end = took_then b.0.1 (to_be_bytes w32 f.0.0) f.0.1 text5 end tf.0 t5 in
    let t3 : Took s.0.1 text3 end = took_then s.0.1 (to_be_bytes w64 b.0.0) b.0.1 text4 end tb.0 t4 in
    let t2 : Took m.0.1 text2 end = took_then m.0.1 (to_be_bytes w64 s.0.0) s.0.1 text3 end ts.0 t3 in
    let t1 : Took v.0.1 (fields_text h) end = took_then v.0.1 (to_be_bytes w32 m.0.0) m.0.1 text2 end tm.0 t2 in
    let t0 : Took p (v.0.0 ∷ fields_text h) end = took_then p (v.0.0 ∷ []) v.0.1 (fields_text h) end tv t1 in
    let version : v.0.0 ≡ 1 = eqb-true v.0.0 1 (is_not (v.0.0 == 1) known.0) in
    subst (TakesHeader p) (ok_is (h, end) x l.2)
    (subst (λ b. Took p (b ∷ fields_text h) end) version t0, is_not (flags_fit g.0.0 f.0.0) fit.0)

pub record HeaderInRange (h : Header) : Type 0 where
  pub member : h.member < 2 ^ 32
  pub serial : h.serial < 2 ^ 64
  pub begin : h.begin < 2 ^ 64
  pub fragment : h.fragment < 2 ^ 32
  pub last_seen : h.last_seen < 2 ^ 64
  pub fit : flags_fit h.flags h.fragment ≡ true

module _ (h : Header) (rest : List ℕ) (range : HeaderInRange h) where
  abbrev rest6 : List ℕ
  rest6 = to_be_bytes w64 h.last_seen ++ rest

  abbrev rest4 : List ℕ
  rest4 = to_be_bytes w32 h.fragment ++ h.flags ∷ rest6

  abbrev rest3 : List ℕ
  rest3 = to_be_bytes w64 h.begin ++ rest4

  abbrev rest2 : List ℕ
  rest2 = to_be_bytes w64 h.serial ++ rest3

  fields_again : (at : ℕ) → (q : ℕ) × (header_at (place (1 ∷ (to_be_bytes w32 h.member ++ rest2)) at) ≡ Ok (h, place rest q))
  unfolding header_at
  fields_again at = (
    at + 1 + 4 + 8 + 8 + 4 + 1 + 8,
    rw (
      byte_again Short 1 (to_be_bytes w32 h.member ++ rest2) at,
      number_again Short w32 (2 ^ 32) wide32 h.member rest2 (at + 1) range.member,
      number_again Short w64 (2 ^ 64) wide64 h.serial rest3 (at + 1 + 4) range.serial,
      number_again Short w64 (2 ^ 64) wide64 h.begin rest4 (at + 1 + 4 + 8) range.begin,
      number_again Short w32 (2 ^ 32) wide32 h.fragment (h.flags ∷ rest6) (at + 1 + 4 + 8 + 8) range.fragment,
      byte_again Short h.flags rest6 (at + 1 + 4 + 8 + 8 + 4),
      range.fit,
      number_again Short w64 (2 ^ 64) wide64 h.last_seen rest (at + 1 + 4 + 8 + 8 + 4 + 1) range.last_seen,
    ) refl,
  )

-- ---- the whole

all_covered : {B : Type 0} (bad : Option ℕ) (f : Unit {0} → Result B WsFault) (y : B) → (covered bad >>= f) ≡ Ok y → (is_none bad ≡ true) × (f tt ≡ Ok y)
all_covered None f y e = (refl, e)
all_covered (Some at) f y e = absurd cc

none_bad : (bad : Option ℕ) → is_none bad ≡ true → covered bad ≡ Ok tt
none_bad None h = refl
none_bad (Some at) h = absurd cc

bare_from : (r a b : Bool) → r && (not a || not b) ≡ false → (not r || (a && b)) ≡ true
bare_from true true true e = refl
bare_from true true false e = absurd cc
bare_from true false b e = absurd cc
bare_from false a b e = refl

bare_again : (r a b : Bool) → (not r || (a && b)) ≡ true → r && (not a || not b) ≡ false
bare_again true true true e = refl
bare_again true true false e = absurd cc
bare_again true false b e = absurd cc
bare_again false a b e = refl

abbrev header_of : WriteSet → Header
header_of w = record { member = w.member; serial = w.serial; begin = w.begin; fragment = w.fragment; flags = w.flags; last_seen = w.last_seen }

spelled : (w : WriteSet) → (1 ∷ fields_text (header_of w)) ++ (keys_text w.keys ++ ops_text w.ops) ≡ spelling w
unfolding spelling
spelled w = refl

pub read_takes : (bytes : List ℕ) (w : WriteSet) → IsBytes bytes → read bytes ≡ Ok w → IsSpelled bytes w
unfolding read finished
read_takes bytes w fits e =
    let a = read_ok Header _ _ w e in
    let b = read_ok Keys _ _ w a.2 in
    let c = read_ok (List Op) _ _ w b.2 in
    let d = passed _ _ _ w c.2 in
    let f = all_covered _ _ w d.1 in
    let h = a.0.0 in
    let keys = b.0.0 in
    let ops = c.0.0 in
    let start = place_in bytes 0 in
    let ta = header_takes start a.0 fits a.1 in
    let tb = keys_take a.0.1 b.0 ta.0.fits b.1 in
    let tc = ops_take (h.flags == 4) (not (len keys == 0)) b.0.1 c.0 tb.0.fits c.1 in
    let made : WriteSet = write_set_of h keys ops in
    let text = (1 ∷ fields_text h) ++ (keys_text keys ++ ops_text ops) in
    let taken : Took start text c.0.1 =
    took_then start (1 ∷ fields_text h) a.0.1 (keys_text keys ++ ops_text ops) c.0.1 ta.0
    (took_then a.0.1 (keys_text keys) b.0.1 (ops_text ops) c.0.1 tb.0 tc.0) in
    let none : c.0.1.left ≡ [] = nil_from_length c.0.1.left (eqb-true (length c.0.1.left) 0 (is_not (length c.0.1.left == 0) d.0)) in
    let bytes_are : bytes ≡ spelling made = taken.parts ∙ ap (λ rest. text ++ rest) none ∙ append-nil text ∙ spelled made in
    let rules : Rules made = record {
      flags = ta.1;
      bare = bare_from (h.flags == 4) (len keys == 0) (length ops == 0) tc.1;
      few_keys = tb.1;
      keys = tb.2;
      few_ops = tc.2;
      ops = all_fit ops tc.3;
      covered = f.0;
    } in
    subst (IsSpelled bytes) (ok_is made w f.1) (obeyed made rules, bytes_are)

pub read_again : (w : WriteSet) → InRange w → obeys w ≡ true → read (spelling w) ≡ Ok w
unfolding read finished
read_again w range h =
    let rules = rules_of w h in
    let keyed = not (len w.keys == 0) in
    let rollback = w.flags == 4 in
    let bare : rollback && (keyed || not (length w.ops == 0)) ≡ false = bare_again rollback (len w.keys == 0) (length w.ops == 0) rules.bare in
    let ops = ops_text w.ops ++ [] in
    let tail = keys_text w.keys ++ ops in
    let head : HeaderInRange (header_of w) = record {
      member = range.member;
      serial = range.serial;
      begin = range.begin;
      fragment = range.fragment;
      last_seen = range.last_seen;
      fit = rules.flags;
    } in
    let f = fields_again (header_of w) tail head 0 in
    let k = keys_again w.keys ops f.0 rules.few_keys rules.keys range.keys in
    let o = ops_again rollback keyed w.ops [] k.0 bare rules.few_ops (each_fits w.ops rules.ops range.ops) in
    let all = none_bad (uncovered_from 0 w.keys w.ops) rules.covered in
    let is : read ((1 ∷ fields_text (header_of w)) ++ tail) ≡ Ok w = rw (f.1, k.1, o.1, all) refl in
    ap read (sym (spelled w) ∙ ap (λ rest. (1 ∷ fields_text (header_of w)) ++ (keys_text w.keys ++ rest)) (sym (append-nil (ops_text w.ops)))) ∙ is

pub is_found : (bytes : List ℕ) (result : Result WriteSet WsFault) → IsBytes bytes → Gives (λ w. w) result (read bytes) → IfOk result (λ w. IsSpelled bytes w)
is_found bytes (Ok w) fits is = read_takes bytes w fits is
is_found bytes (Err fault) fits is = tt

-- ---- the begin number of a commit

read_as : (r : Result WriteSet WsFault) (w : WriteSet) → result_ok r ≡ Some w → r ≡ Ok w
read_as (Ok x) w is = cc
read_as (Err fault) w is = absurd cc

begin_from : (bytes : List ℕ) (w : WriteSet) → read bytes ≡ Ok w → commit_begin bytes ≡ begin_of_end w.flags w.begin
unfolding read finished commit_begin
begin_from bytes w e =
    let a = read_ok Header (header_at (place_in bytes 0)) _ w e in
    let b = read_ok Keys (keys_at a.0.1) _ w a.2 in
    let c = read_ok (List Op) (ops_at (a.0.0.flags == 4) (not (len b.0.0 == 0)) b.0.1) _ w b.2 in
    let d = passed (not (length c.0.1.left == 0)) (Trailing c.0.1.at) _ w c.2 in
    let f = all_covered (uncovered_from 0 b.0.0 c.0.0) _ w d.1 in
    ap begin_in a.1 ∙ ap (λ (x : WriteSet). begin_of_end x.flags x.begin) (ok_is (write_set_of a.0.0 b.0.0 c.0.0) w f.1)

-- of the bytes of a write set it is what the write set says
pub begin_is : (bytes : List ℕ) (w : WriteSet) → decoded bytes ≡ Some w → commit_begin bytes ≡ begin_of_end w.flags w.begin
begin_is bytes w is = begin_from bytes w (read_as (read bytes) w is)
