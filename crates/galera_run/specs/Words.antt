-- what the words behind the program's name ask for
use Rattle.std.specs.Prelude.{◌≡◌, ◌≤◌, ℕ, ◌&&◌, Bool, true, false, nat_le, List, [], ◌∷◌, codes, Option, Some, None, IfSome, if◌then◌else◌}
use Rattle.std.specs.Str.{bytes_eq}
use Rattle.clap.specs.Words.{App, Kinds, Row, Rule, fault_of, first_of, matches_of, new_app, new_rule, with_rule}
use Rattle.script_text.specs.Words.{◌>>=◌}
use Rattle.script_text.specs.Fields.{number_of, only_if}
use Rattle.galera_run.specs.declared.words.Asked.{Asked}

-- the words are the command `steps`
abbrev pub IsSteps : List (List ℕ) → Type 0
IsSteps words = words ≡ codes "steps" ∷ []

-- the first word is `load`
abbrev pub is_load : List (List ℕ) → Bool
is_load [] = false
is_load (word ∷ words) = bytes_eq word (codes "load")

-- the command `load`: two options, each of which must be there and has one value
abbrev pub option_rule : List ℕ → Rule
option_rule name = record (new_rule name) { long = Some name; required = true }

abbrev pub load_app : App
load_app =
    with_rule (with_rule (new_app (codes "load")) (option_rule (codes "seed")))
    (option_rule (codes "count"))

-- a command that refuses its words for no kind of fault takes them
abbrev pub passes : Kinds → Bool
passes [] = true
passes (kind ∷ kinds) = false

-- the number that an option is given
abbrev pub option_number : List ℕ → List Row → Option ℕ
option_number name rows = first_of name rows >>= λ text. number_of text

-- a count of transactions that may be asked for
abbrev pub is_count : ℕ → Bool
is_count count = nat_le 1 count && nat_le count 30_000

-- the numbers of both options
unfoldable pub numbers_of : List Row → Option Asked
numbers_of rows =
    option_number (codes "seed") rows >>= λ seed.
    only_if is_count (option_number (codes "count") rows) >>= λ count.
    Some (record { seed = seed; count = count })

-- the workload that the words ask for: they begin with `load`, and the command takes the others
unfoldable pub load_asked : List (List ℕ) → Option Asked
load_asked words =
    if is_load words && passes (fault_of load_app words) then numbers_of (matches_of load_app words)
    else None

-- the count of what is asked for is one that may be
abbrev pub HasCount : Option Asked → Type 0
HasCount asked = IfSome asked (λ a. (1 ≤ a.count) × (a.count ≤ 30_000))
