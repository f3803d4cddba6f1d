-- Open transactions: what is read are transactions in order, and transactions in order are read again.
use Rattle.std.proofs.Common.{◌≡◌, ℕ, ◌+◌, ◌^◌, ◌≤◌, Bool, true, false, cond, List, [], ◌∷◌, ◌++◌, Option, Some, None, Ok, refl, ap, subst, ◌∙◌, append_assoc, arith}
use Rattle.std.specs.Prelude.{◌==◌, ◌&&◌, not, nat_lt}
use Rattle.std.specs.Int.{w32, w64, to_be_bytes}
use Rattle.std.specs.List.{AllByRecursion}
use Rattle.std.specs.Ordering.{is_lt, nat_cmp, ordering_then}
use Rattle.std.specs.declared.cmp.Ordering.{Ordering}
use Rattle.std.specs.declared.cmp.Ordering.TheVariants.{Less, Equal, Greater}
use Rattle.std.proofs.lemmas.Bool.{ltb-true, eqb-true, le-leb}
use Rattle.wsrep_base.specs.declared.ids.TrxId.{TrxId}
use Rattle.write_set.specs.declared.fault.WsFault.TheVariants.{Short}
use Rattle.write_set.specs.Place.{Place}
use Rattle.write_set.proofs.Bounds.{is_not}
use Rattle.write_set.proofs.RulesOf.{both, and}
use Rattle.wsrep_base.proofs.Fields.{IsBytes, read_ok, passed, ok_is, place, Took, took_then, number_takes, number_again, wide32, wide64}
use Rattle.cert_meaning.specs.declared.items.Fragment.{Fragment}
use Rattle.cert_meaning.specs.declared.parts.MemberItem.{MemberItem}
use Rattle.cert_meaning.specs.declared.parts.OpenItem.{OpenItem}
use Rattle.state_snapshot.specs.Reading.{is_listed, is_member_from, is_trx_above, no_fragments, fragments_at, open_at}
use Rattle.state_snapshot.specs.Spelling.{counted_text, fragment_text, trx_text, open_text}
use Rattle.state_snapshot.specs.Rules.{OpenObeys, OpenRise}
use Rattle.state_snapshot.specs.Laws.{TrxInRange, OpenInRange}
use Rattle.state_snapshot.proofs.Each.{Step, Always, AllFit}
use Rattle.state_snapshot.proofs.FragmentLaws.{AreFragments, FragmentsSay, fragments_take, fragments_again}

-- ---- one transaction

pub record OpenFits (most : ℕ) (members : List MemberItem) (last : Option TrxId) (item : OpenItem) : Type 0 where
  pub listed : is_listed members item.trx.member ≡ true
  pub above : is_trx_above last item.trx ≡ true
  pub range : TrxInRange item.trx
  pub fragments : AreFragments most item.fragments

abbrev pub next_open : Option TrxId → OpenItem → Option TrxId
next_open last item = Some item.trx

abbrev TakesOpen : ℕ → List MemberItem → Option TrxId → Place → (OpenItem × Option TrxId) × Place → Type 0
TakesOpen most members last p x =
    Took p (open_text x.0.0) x.1 × OpenFits most members last x.0.0 × (x.0.1 ≡ next_open last x.0.0) × Always (next_open last x.0.0)

open_takes : (most : ℕ) (members : List MemberItem) (last : Option TrxId) (p : Place) (x : (OpenItem × Option TrxId) × Place) → IsBytes p.left
    → Always last → open_at most members last p ≡ Ok x → TakesOpen most members last p x
unfolding open_at
open_takes most members last p x fits holds e =
    let m = read_ok ℕ _ _ x e in
    let known = passed (not (is_listed members m.0.0 && is_member_from last m.0.0)) _ _ x m.2 in
    let b = read_ok ℕ _ _ x known.1 in
    let trx : TrxId = record { member = m.0.0; begin = b.0.0 } in
    let rising = passed (not (is_trx_above last trx)) _ _ x b.2 in
    let f = read_ok (List Fragment) (fragments_at most b.0.1) _ x rising.1 in
    let tm = number_takes Short w32 (2 ^ 32) wide32 p m.0 fits m.1 in
    let tb = number_takes Short w64 (2 ^ 64) wide64 m.0.1 b.0 tm.0.fits b.1 in
    let tf = fragments_take most b.0.1 f.0 tb.0.fits f.1 in
    let item : OpenItem = record { trx = trx; fragments = f.0.0 } in
    let id : Took p (trx_text trx) b.0.1 = took_then p (to_be_bytes w32 m.0.0) m.0.1 (to_be_bytes w64 b.0.0) b.0.1 tm.0 tb.0 in
    let taken : Took p (open_text item) f.0.1 = took_then p (trx_text trx) b.0.1 (counted_text fragment_text f.0.0) f.0.1 id tf.0 in
    let listed = both (is_listed members m.0.0) (is_member_from last m.0.0) (is_not (is_listed members m.0.0 && is_member_from last m.0.0) known.0) in
    let is : OpenFits most members last item = record {
      listed = listed.0;
      above = is_not (is_trx_above last trx) rising.0;
      range = (tm.1, tb.1);
      fragments = tf.1;
    } in
    subst (TakesOpen most members last p) (ok_is ((item, Some trx), f.0.1) x f.2) (taken, is, refl, tt)

from_by : (x y : ℕ) (o : Ordering) (lt eq : Bool) → nat_lt x y ≡ lt → (x == y) ≡ eq
    → is_lt (ordering_then (cond lt Less (cond eq Equal Greater)) o) ≡ true → x ≤ y
from_by x y o true eq l e h = let below = ltb-true x y l in omega (arith, below)
from_by x y o false true l e h = let same = eqb-true x y e in omega (arith, same)
from_by x y o false false l e h = absurd cc

-- a transaction behind the last one is of no member before its member
member_from : (last : Option TrxId) (trx : TrxId) → is_trx_above last trx ≡ true → is_member_from last trx.member ≡ true
member_from None trx h = refl
member_from (Some last) trx h =
    le-leb last.member trx.member
    (from_by last.member trx.member (nat_cmp last.begin trx.begin) (nat_lt last.member trx.member) (last.member == trx.member) refl refl h)

open_again : (most : ℕ) (members : List MemberItem) (last : Option TrxId) (item : OpenItem) (rest : List ℕ) (at : ℕ)
    → OpenFits most members last item
    → (q : ℕ) × (open_at most members last (place (open_text item ++ rest) at) ≡ Ok ((item, Some item.trx), place rest q))
unfolding open_at
open_again most members last item rest at fits =
    let trx = item.trx in
    let member = to_be_bytes w32 trx.member in
    let begin = to_be_bytes w64 trx.begin in
    let fragments = counted_text fragment_text item.fragments in
    let range = fits.range in
    let known : not (is_listed members trx.member && is_member_from last trx.member) ≡ false =
    ap not (and (is_listed members trx.member) (is_member_from last trx.member) fits.listed (member_from last trx fits.above)) in
    let f = fragments_again most item.fragments rest (at + 4 + 8) fits.fragments in
    let is : open_at most members last (place (member ++ (begin ++ (fragments ++ rest))) at) ≡ Ok ((item, Some trx), place rest f.0) =
    rw (
      number_again Short w32 (2 ^ 32) wide32 trx.member (begin ++ (fragments ++ rest)) at range.0,
      known,
      number_again Short w64 (2 ^ 64) wide64 trx.begin (fragments ++ rest) (at + 4) range.1,
      fits.above,
      f.1,
    ) refl in (
      f.0,
      ap (λ left. open_at most members last (place left at))
          (append_assoc (trx_text trx) fragments rest ∙ append_assoc member begin (fragments ++ rest)) ∙ is,
    )

pub open_step : (most : ℕ) (members : List MemberItem) → Step open_text next_open Always (OpenFits most members) (open_at most members)
open_step most members = record { takes = open_takes most members; again = open_again most members }

-- ---- all transactions

abbrev OpenFit : ℕ → List MemberItem → Option TrxId → List OpenItem → Type 0
OpenFit most members last items = AllFit next_open (OpenFits most members) last items

-- what transactions that fit say
pub record OpenSay (most : ℕ) (members : List MemberItem) (last : Option TrxId) (items : List OpenItem) : Type 0 where
  pub rise : OpenRise last items
  pub each : AllByRecursion (OpenObeys most members) items
  pub range : AllByRecursion OpenInRange items

open_obeys : (most : ℕ) (members : List MemberItem) (last : Option TrxId) (item : OpenItem) → OpenFits most members last item
    → OpenObeys most members item
open_obeys most members last item fits =
    let are = fits.fragments in
    let say = are.say in
    record {
      listed = fits.listed;
      counted = are.counted;
      some = are.some;
      rise = say.rise;
      each = say.each;
      few = say.few;
    }

open_fits : (most : ℕ) (members : List MemberItem) (last : Option TrxId) (item : OpenItem) → is_trx_above last item.trx ≡ true
    → OpenObeys most members item → OpenInRange item → OpenFits most members last item
open_fits most members last item above obeys range =
    let say : FragmentsSay most no_fragments item.fragments = record {
      rise = obeys.rise;
      each = obeys.each;
      range = range.1;
      few = obeys.few;
    } in
    let are : AreFragments most item.fragments = record { counted = obeys.counted; some = obeys.some; say = say } in
    record { listed = obeys.listed; above = above; range = range.0; fragments = are }

pub open_say : (most : ℕ) (members : List MemberItem) (last : Option TrxId) (items : List OpenItem) → OpenFit most members last items
    → OpenSay most members last items
open_say most members last [] fit = record { rise = tt; each = tt; range = tt }
open_say most members last (item ∷ items) fit =
    let f = fit.0 in
    let are = f.fragments in
    let say = are.say in
    let rest = open_say most members (Some item.trx) items fit.1 in
    record {
      rise = (f.above, rest.rise);
      each = (open_obeys most members last item f, rest.each);
      range = ((f.range, say.range), rest.range);
    }

pub open_fit : (most : ℕ) (members : List MemberItem) (last : Option TrxId) (items : List OpenItem) → OpenSay most members last items
    → OpenFit most members last items
open_fit most members last [] say = tt
open_fit most members last (item ∷ items) say =
    let rest : OpenSay most members (Some item.trx) items = record { rise = say.rise.1; each = say.each.1; range = say.range.1 } in
    (open_fits most members last item say.rise.0 say.each.0 say.range.0, open_fit most members (Some item.trx) items rest)
