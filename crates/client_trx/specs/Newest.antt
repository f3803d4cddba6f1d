-- What a transaction gathered since its last fragment, as it is kept: its last key and change wait
-- beside the others, so that a statement changes both this and the whole, or neither.
use Rattle.std.specs.Prelude.{◌≡◌, ◌≤◌, ℕ, ◌+◌, false, length, Option, Some, None, IfSome, IsTrue}
use Rattle.write_set.specs.Rules.{parts_fit}
use Rattle.client_trx.specs.KeyedOps.{Keyed, with_change, is_over, IsKeyOf, IsPart}
use Rattle.client_trx.specs.declared.newest.Gain.{Gain}
use Rattle.client_trx.specs.declared.newest.Newest.{Newest}

-- the keys and changes, and one more key and change where there is one
abbrev pub with_last : Keyed → Option Gain → Keyed
with_last all None = all
with_last all (Some gain) = with_change all gain.parts gain.kind gain.op

-- the last key and change are among the others
abbrev pub settled : Newest → Newest
settled newest = record { keyed = with_last newest.keyed newest.last; last = None }

-- the last key and change are these
abbrev pub with_gain : Gain → Newest → Newest
with_gain gain newest = record { keyed = newest.keyed; last = Some gain }

-- what came since the last fragment: the whole, where none was sent
abbrev pub newest_part : Keyed → Option Newest → Keyed
newest_part whole None = whole
newest_part whole (Some newest) = with_last newest.keyed newest.last

-- a key and a change that can be added
pub record IsReady (all : Keyed) (gain : Gain) : Type 0 where
  pub names : IsTrue (parts_fit gain.parts)
  pub change : IfSome gain.op (λ op. IsKeyOf gain.parts gain.kind op)
  pub room : is_over (with_change all gain.parts gain.kind gain.op) ≡ false

abbrev pub IsReadyIn : Newest → Type 0
IsReadyIn newest = IfSome newest.last (λ gain. IsReady newest.keyed gain)

-- what came since the last fragment is a part of the whole, and each fragment took a change
pub record AreParts (whole : Keyed) (newest : Option Newest) (sent : ℕ) : Type 0 where
  pub part : IsPart whole (newest_part whole newest)
  pub ready : IfSome newest (λ newest. IsReadyIn newest)
  pub few : sent + length (newest_part whole newest).ops ≤ length whole.ops
  pub small : length whole.ops ≤ 8192
