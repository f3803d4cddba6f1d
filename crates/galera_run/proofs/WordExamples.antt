-- What lists of words ask for.
use Rattle.std.proofs.Common.{◌≡◌, ℕ, [], ◌∷◌, refl}
use Rattle.std.specs.Prelude.{codes, Option, Some, None}
use Rattle.clap.proofs.OnLiterals.{clap_on_literals}
use Rattle.script_text.specs.Fields.{number_of}
use Rattle.galera_run.specs.declared.words.Asked.{Asked}
use Rattle.galera_run.specs.Words.{load_asked, numbers_of}

abbrev asks : ℕ → ℕ → Option Asked
asks seed count = Some (record { seed = seed; count = count })

both_options : load_asked (codes "load" ∷ codes "--seed" ∷ codes "7" ∷ codes "--count" ∷ codes "20000" ∷ []) ≡ asks 7 20_000
unfolding load_asked numbers_of number_of clap_on_literals
both_options = refl

other_order : load_asked (codes "load" ∷ codes "--count=500" ∷ codes "--seed=007" ∷ []) ≡ asks 7 500
unfolding load_asked numbers_of number_of clap_on_literals
other_order = refl

no_count : load_asked (codes "load" ∷ codes "--seed" ∷ codes "7" ∷ []) ≡ None
unfolding load_asked numbers_of number_of clap_on_literals
no_count = refl

count_of_none : load_asked (codes "load" ∷ codes "--seed" ∷ codes "7" ∷ codes "--count" ∷ codes "0" ∷ []) ≡ None
unfolding load_asked numbers_of number_of clap_on_literals
count_of_none = refl

count_too_large : load_asked (codes "load" ∷ codes "--seed" ∷ codes "7" ∷ codes "--count" ∷ codes "30001" ∷ []) ≡ None
unfolding load_asked numbers_of number_of clap_on_literals
count_too_large = refl

seed_twice : load_asked (codes "load" ∷ codes "--seed=7" ∷ codes "--count=1" ∷ codes "--seed=7" ∷ []) ≡ None
unfolding load_asked numbers_of number_of clap_on_literals
seed_twice = refl

word_behind : load_asked (codes "load" ∷ codes "--seed=7" ∷ codes "--count=1" ∷ codes "more" ∷ []) ≡ None
unfolding load_asked numbers_of number_of clap_on_literals
word_behind = refl

help_alone : load_asked (codes "load" ∷ codes "--help" ∷ []) ≡ None
unfolding load_asked numbers_of number_of clap_on_literals
help_alone = refl
