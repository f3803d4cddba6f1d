-- The commits of a snapshot rise, so that a state can be made of them.
use Rattle.std.proofs.Common.{◌≡◌, ℕ, List, [], ◌∷◌, Ok, arith}
use Rattle.wsrep_base.proofs.Fields.{IsBytes}
use Rattle.cert_meaning.specs.declared.items.CommitItem.{CommitItem}
use Rattle.cert_meaning.specs.declared.parts.StateParts.{StateParts}
use Rattle.cert_meaning.specs.State.{RiseWithin}
use Rattle.state_snapshot.specs.Reading.{read}
use Rattle.state_snapshot.proofs.WholeLaws.{read_takes}

from_start : (above most : ℕ) (commits : List CommitItem) → RiseWithin above most commits → RiseWithin 0 most commits
from_start above most [] rise = tt
from_start above most (commit ∷ commits) rise = (omega (arith, rise.0), rise.1, rise.2)

-- those of parts that are read rise up to the number of the state
pub read_rise : (bytes : List ℕ) (x : StateParts × List ℕ) → IsBytes bytes → read bytes ≡ Ok x → RiseWithin 0 x.0.number x.0.commits
read_rise bytes x fits e =
    let is = read_takes bytes x fits e in
    let rules = is.rules in
    let commits = rules.commits in
    from_start x.0.floor x.0.number x.0.commits commits.rise
