-- the generator of `load`: the steps of a schedule of three nodes, drawn from a seed
use Rattle.std.specs.Prelude.{ℕ, zero, suc, ◌+◌, ◌*◌, ◌/◌, ◌%◌, ◌^◌, ◌==◌, List, [], ◌∷◌, ◌++◌, map, replicate, codes, decimal, Some, None, if◌then◌else◌}
use Rattle.std.specs.List.{range_with_len}
use Rattle.row_model.specs.declared.row.RowId.{RowId}
use Rattle.row_model.specs.declared.calls.Call.{Call}
use Rattle.row_model.specs.declared.calls.Call.TheVariants as call
use Rattle.row_model.specs.Names.{padded}
use Rattle.order_event.specs.declared.step.Act.{Act}
use Rattle.order_event.specs.declared.step.Act.TheVariants as act
use Rattle.order_event.specs.declared.step.Step.{Step}
use Rattle.script_text.specs.declared.line.Header.{Header}
use Rattle.script_text.specs.declared.rounds.Round.{Round}

-- the header of the schedule
abbrev pub load_header : Header
load_header = record { nodes = 3; gcache = 1_048_576; id = replicate 15 0 ++ 161 ∷ [] }

-- the number behind a number
unfoldable pub next_number : ℕ → ℕ
next_number x = (x * 6_364_136_223_846_793_005 + 1_442_695_040_888_963_407) % 2 ^ 64

-- what is drawn from a number: one below the bound
unfoldable pub drawn : ℕ → ℕ → ℕ
drawn bound x = x / 2 ^ 33 % bound

-- the row `rJ` of the table `acct`
abbrev pub account : ℕ → RowId
account j = record { table = padded (codes "acct"); row = padded (codes "r" ++ decimal j) }

-- the first column of a row becomes this
abbrev pub set_to : ℕ → ℕ → Call
set_to value j = call.Update (account j) (Some value ∷ replicate 7 None)

-- a step of a session, and of a node
abbrev pub asks : ℕ → ℕ → Call → Step
asks node session asked = record { node = node; act = act.Client session asked }

abbrev pub does : Act → ℕ → Step
does what node = record { node = node; act = what }

abbrev pub each_does : Act → List Step
each_does what = map (does what) (1 ∷ 2 ∷ 3 ∷ [])

-- Session 1 of node 1 inserts 64 rows, and all nodes commit them.
abbrev pub inserts : ℕ → Step
inserts j = asks 1 1 (call.Insert (account j) (0 ∷ []))

abbrev pub insert_committed : List Step
insert_committed =
    asks 1 1 call.Commit
    ∷ does act.Drain 1
    ∷ asks 1 1 call.Poll
    ∷ does act.Drain 2
    ∷ does act.Drain 3
    ∷ []

unfoldable pub opening : List Step
opening =
    each_does act.Drain
    ++ asks 1 1 (call.Begin 0)
    ∷ map inserts (range_with_len 0 64)
    ++ insert_committed

-- all nodes drain twice
abbrev pub closing : List Step
closing = each_does act.Drain ++ each_does act.Drain

-- the n-th number behind x
abbrev pub number_at : ℕ → ℕ → ℕ
number_at zero x = x
number_at (suc n) x = next_number (number_at n x)

-- the round i is drawn from the six numbers behind x
abbrev pub round_of : ℕ → ℕ → Round
round_of i x =
    record {
      node = 1 + drawn 3 (number_at 1 x);
      session = 1 + drawn 4 (number_at 2 x);
      first = drawn 64 (number_at 3 x);
      second = drawn 64 (number_at 4 x);
      unit = if drawn 8 (number_at 5 x) == 0 then 1 else 0;
      drained = 1 + drawn 3 (number_at 6 x);
      number = i;
    }

-- at every 16th round each node reports
abbrev pub reports : ℕ → List Step
reports i = if i % 16 == 0 then each_does act.Report else []

-- A session sets two rows to the number of the round, and a node drains.
abbrev pub round_steps : Round → List Step
round_steps r =
    asks r.node r.session call.Poll
    ∷ asks r.node r.session (call.Begin r.unit)
    ∷ asks r.node r.session (set_to r.number r.first)
    ∷ asks r.node r.session (set_to r.number r.second)
    ∷ asks r.node r.session call.Commit
    ∷ does act.Drain r.drained
    ∷ reports r.number

-- so many rounds, the first of which is round i and is drawn behind x
unfoldable pub rounds : ℕ → ℕ → ℕ → List Step
rounds i x zero = []
rounds i x (suc left) = round_steps (round_of i x) ++ rounds (i + 1) (number_at 6 x) left

-- the steps of so many rounds, drawn from the seed
abbrev pub load_steps : ℕ → ℕ → List Step
load_steps seed count = opening ++ rounds 1 seed count ++ closing
