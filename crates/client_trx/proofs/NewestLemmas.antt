-- What came since the last fragment stays a part of the whole, while statements come and fragments
-- are sent.
use Rattle.std.proofs.Common.{◌≡◌, ℕ, ◌+◌, ◌≤◌, ◌<◌, false, List, [], ◌∷◌, length, Option, None, Some, refl, sym, ap, subst, ◌∙◌, arith, length-append}
use Rattle.std.specs.Prelude.{nat_lt, IfSome, IsTrue, option_map}
use Rattle.std.proofs.lemmas.Bool.Decides.{nat_tests}
use Rattle.finite_map.specs.FiniteMap.{empty, get, get-empty}
use Rattle.key_sets.specs.declared.kind.Kind.{Kind}
use Rattle.key_sets.specs.declared.parts.Parts.{Parts}
use Rattle.key_sets.specs.Parts.{parts_cmp}
use Rattle.key_sets.specs.Keys.{Keys}
use Rattle.row_model.specs.declared.ops.Op.{Op}
use Rattle.write_set.specs.Rules.{parts_fit}
use Rattle.client_trx.specs.KeyedOps.{Keyed, with_op, with_change, is_over, IsKeyOf, IsPart}
use Rattle.client_trx.specs.Newest.{with_last, settled, with_gain, newest_part, IsReady, IsReadyIn, AreParts}
use Rattle.client_trx.specs.declared.newest.Gain.{Gain}
use Rattle.client_trx.specs.declared.newest.Newest.{Newest}
use Rattle.client_trx.proofs.FitLemmas.{neither}
use Rattle.client_trx.proofs.PartLemmas.{part_not_over, part_more}

-- ---- the last key and change go to the others
pub settled_part : (whole : Keyed) (newest : Option Newest) → newest_part whole (option_map settled newest) ≡ newest_part whole newest
settled_part whole None = refl
settled_part whole (Some newest) = refl

settled_ready : (newest : Option Newest) → IfSome (option_map settled newest) (λ newest. IsReadyIn newest)
settled_ready None = tt
settled_ready (Some newest) = tt

pub settled_parts : (whole : Keyed) (newest more : Option Newest) (sent : ℕ) → AreParts whole newest sent
    → more ≡ option_map settled newest → AreParts whole more sent
settled_parts whole newest more sent kept is = rw is (record {
  part = subst (λ (part : Keyed). IsPart whole part) (sym (settled_part whole newest)) kept.part;
  ready = settled_ready newest;
  few = subst (λ (part : Keyed). sent + length part.ops ≤ length whole.ops) (sym (settled_part whole newest)) kept.few;
  small = kept.small;
})

-- ---- one more key and change
few_ops : (n : ℕ) → nat_lt 8192 n ≡ false → n ≤ 8192
few_ops n h = grind (arith, nat_tests)

pub grown_part : (whole after : Keyed) (newest : Option Newest) (gain : Gain) → after ≡ with_change whole gain.parts gain.kind gain.op
    → newest_part after (option_map (with_gain gain) (option_map settled newest))
    ≡ with_change (newest_part whole newest) gain.parts gain.kind gain.op
grown_part whole after None gain is = is
grown_part whole after (Some newest) gain is = refl

no_fewer_left : (sent : ℕ) (part whole : List Op) (o : Option Op) → sent + length part ≤ length whole
    → sent + length (with_op part o) ≤ length (with_op whole o)
no_fewer_left sent part whole None few = few
no_fewer_left sent part whole (Some o) few = grind (arith, length-append)

grown_ready : (whole : Keyed) (newest : Option Newest) (gain : Gain) → IsTrue (parts_fit gain.parts)
    → IfSome gain.op (λ op. IsKeyOf gain.parts gain.kind op) → IsPart whole (newest_part whole newest)
    → is_over (with_change whole gain.parts gain.kind gain.op) ≡ false
    → IfSome (option_map (with_gain gain) (option_map settled newest)) (λ newest. IsReadyIn newest)
grown_ready whole None gain names change part room = tt
grown_ready whole (Some newest) gain names change part room =
    let all = with_last newest.keyed newest.last in
    record {
      names = names;
      change = change;
      room = part_not_over (with_change whole gain.parts gain.kind gain.op) (with_change all gain.parts gain.kind gain.op)
          (part_more whole all gain.parts gain.kind gain.op part) room;
    }

pub grown_parts : (whole after : Keyed) (newest more : Option Newest) (sent : ℕ) (gain : Gain) → IsTrue (parts_fit gain.parts)
    → IfSome gain.op (λ op. IsKeyOf gain.parts gain.kind op)
    → is_over (with_change whole gain.parts gain.kind gain.op) ≡ false → AreParts whole newest sent
    → after ≡ with_change whole gain.parts gain.kind gain.op
    → more ≡ option_map (with_gain gain) (option_map settled newest) → AreParts after more sent
grown_parts whole after newest more sent gain names change room kept after_is more_is =
    let part_is = grown_part whole (with_change whole gain.parts gain.kind gain.op) newest gain refl in
    rw (more_is, after_is) (record {
      part = subst (λ (part : Keyed). IsPart (with_change whole gain.parts gain.kind gain.op) part) (sym part_is)
          (part_more whole (newest_part whole newest) gain.parts gain.kind gain.op kept.part);
      ready = grown_ready whole newest gain names change kept.part room;
      few = subst (λ (part : Keyed). sent + length part.ops ≤ length (with_op whole.ops gain.op)) (sym part_is)
          (no_fewer_left sent (newest_part whole newest).ops whole.ops gain.op kept.few);
      small = few_ops (length (with_op whole.ops gain.op)) (neither _ _ room).1;
    })

-- what came since the last fragment has room where the whole has
pub room_newest : (whole all : Keyed) (newest : Option Newest) (sent : ℕ) (p : Parts) (k : Kind) (o : Option Op)
    → AreParts whole newest sent → all ≡ newest_part whole newest → is_over (with_change whole p k o) ≡ false
    → is_over (with_change all p k o) ≡ false
room_newest whole all newest sent p k o kept is room =
    rw is (part_not_over (with_change whole p k o) (with_change (newest_part whole newest) p k o)
    (part_more whole (newest_part whole newest) p k o kept.part) room)

-- ---- a fragment is sent
pub sent_parts : (whole : Keyed) (newest more : Option Newest) (sent next : ℕ) → AreParts whole newest sent
    → 0 < length (newest_part whole newest).ops → next ≡ sent + 1
    → more ≡ Some (record { keyed = record { keys = empty; ops = [] }; last = None }) → AreParts whole more next
sent_parts whole newest more sent next kept change next_is is =
    let few = kept.few in
    rw (is, next_is) (record {
      part = record { keys = λ p none. get-empty parts_cmp p; ops = omega arith };
      ready = tt;
      few = omega (arith, few, change);
      small = kept.small;
    })

-- a transaction that has done nothing
pub no_parts : (whole : Keyed) → whole.ops ≡ [] → AreParts whole None 0
no_parts whole none =
    let few : length whole.ops ≡ 0 = ap length none in
    record {
      part = record { keys = λ p none. none; ops = omega arith };
      ready = tt;
      few = omega arith;
      small = omega (arith, few);
    }
