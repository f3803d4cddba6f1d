-- A write set that is read has the ranges of its types.
use Rattle.std.proofs.Common.{◌≡◌, ℕ, ◌^◌, ◌<◌, List, [], ◌∷◌, length, Some, Result, Ok, Err, refl, subst, ap}
use Rattle.std.specs.Prelude.{◌==◌, not, unwrap_or, IfOk}
use Rattle.std.specs.Int.{w8, w32, w64}
use Rattle.std.specs.List.{AllByRecursion}
use Rattle.std.specs.Result.{result_ok}
use Rattle.finite_map.specs.FiniteMap.{len}
use Rattle.row_model.specs.declared.ops.Op.{Op}
use Rattle.write_set.specs.declared.fault.WsFault.{WsFault}
use Rattle.write_set.specs.declared.fault.WsFault.TheVariants.{Short, BadVersion, BadFlags, Trailing}
use Rattle.write_set.specs.declared.write_set.WriteSet.{WriteSet}
use Rattle.write_set.specs.Rules.{KeysInRange, OpsInRange, flags_fit, uncovered_from}
use Rattle.write_set.specs.Place.{Place, place_in}
use Rattle.write_set.specs.Reading.{◌>>=◌, refuse, number_at, header_at, keys_at, ops_at, covered, finished, decoded, read}
use Rattle.write_set.proofs.OpLaws.{OpFits}
use Rattle.write_set.proofs.SetLaws.{keys_take}
use Rattle.write_set.proofs.WholeLaws.{ops_take}
use Rattle.wsrep_base.proofs.Fields.{IsBytes, number_takes, wide32, wide64, byte_takes}

-- what the numbers of a header say
record HeaderSays (serial begin last_seen : ℕ) (left : List ℕ) : Type 0 where
  serial_fits : serial < 2 ^ 64
  begin_fits : begin < 2 ^ 64
  seen_fits : last_seen < 2 ^ 64
  bytes : IsBytes left

-- what holds of all that the rest gives, where the first is read, holds of what is given
along : {A B : Type 0} (P : B → Type 0) (one : Result A WsFault) (rest : A → Result B WsFault) → ((x : A) → one ≡ Ok x → IfOk (rest x) P)
    → IfOk (one >>= rest) P
along P (Ok x) rest later = later x refl
along P (Err fault) rest later = tt

header_says : (p : Place) → IsBytes p.left → IfOk (header_at p) (λ x. HeaderSays x.0.serial x.0.begin x.0.last_seen x.1.left)
unfolding header_at
header_says p fits =
    along _ (number_at w8 p) _ (λ v ev. along _ (refuse (not (v.0 == 1)) (BadVersion v.0)) _ (λ known ek.
    along _ (number_at w32 v.1) _ (λ m em. along _ (number_at w64 m.1) _ (λ s es. along _ (number_at w64 s.1) _ (λ b eb.
    along _ (number_at w32 b.1) _ (λ f ef. along _ (number_at w8 f.1) _ (λ g eg. along _ (refuse (not (flags_fit g.0 f.0)) BadFlags) _ (λ fit et.
    along _ (number_at w64 g.1) _ (λ l el.
    let tv = byte_takes Short p v fits ev in
    let tm = number_takes Short w32 (2 ^ 32) wide32 v.1 m tv.fits em in
    let ts = number_takes Short w64 (2 ^ 64) wide64 m.1 s tm.0.fits es in
    let tb = number_takes Short w64 (2 ^ 64) wide64 s.1 b ts.0.fits eb in
    let tf = number_takes Short w32 (2 ^ 32) wide32 b.1 f tb.0.fits ef in
    let tg = byte_takes Short f.1 g tf.0.fits eg in
    let tl = number_takes Short w64 (2 ^ 64) wide64 g.1 l tg.fits el in
    record { serial_fits = ts.1; begin_fits = tb.1; seen_fits = tl.1; bytes = tl.0.fits })))))))))

range_of : (ops : List Op) → AllByRecursion OpFits ops → OpsInRange ops
range_of [] all = tt
range_of (op ∷ ops) all = (all.0.1, range_of ops all.1)

pub record SetInRange (w : WriteSet) : Type 0 where
  pub serial : w.serial < 2 ^ 64
  pub begin : w.begin < 2 ^ 64
  pub last_seen : w.last_seen < 2 ^ 64
  pub keys : KeysInRange w.keys
  pub ops : OpsInRange w.ops

read_says : (bytes : List ℕ) → IsBytes bytes → IfOk (read bytes) SetInRange
unfolding read finished
read_says bytes fits =
    along _ (header_at (place_in bytes 0)) _ (λ h eh.
    let says = subst (λ r. IfOk r (λ x. HeaderSays x.0.serial x.0.begin x.0.last_seen x.1.left)) eh (header_says (place_in bytes 0) fits) in
    along _ (keys_at h.1) _ (λ k ek.
    let tk = keys_take h.1 k says.bytes ek in
    along _ (ops_at (h.0.flags == 4) (not (len k.0 == 0)) k.1) _ (λ o eo.
    let to = ops_take (h.0.flags == 4) (not (len k.0 == 0)) k.1 o tk.0.fits eo in
    along _ (refuse (not (length o.1.left == 0)) (Trailing o.1.at)) _ (λ ended ed.
    along _ (covered (uncovered_from 0 k.0 o.0)) _ (λ all ea.
    record { serial = says.serial_fits; begin = says.begin_fits; last_seen = says.seen_fits; keys = tk.3; ops = range_of o.0 to.3 })))))

read_range : (bytes : List ℕ) (w : WriteSet) → IsBytes bytes → read bytes ≡ Ok w → SetInRange w
read_range bytes w fits e = subst (λ (r : Result WriteSet WsFault). IfOk r SetInRange) e (read_says bytes fits)

decoded_read : (r : Result WriteSet WsFault) (w : WriteSet) → result_ok r ≡ Some w → r ≡ Ok w
decoded_read (Ok v) w is = ap (λ o. Ok (unwrap_or o v)) is
decoded_read (Err fault) w is = absurd cc

pub set_in_range : (body : List ℕ) (w : WriteSet) → IsBytes body → decoded body ≡ Some w → SetInRange w
set_in_range body w fits is = read_range body w fits (decoded_read (read body) w is)
