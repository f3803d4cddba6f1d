use Rattle.std.proofs.Common.{ap, sym, ◌∙◌}
use Rattle.std.specs.Prelude.{option_map, option_and_then}
use Rattle.clap.specs.Matches.{found_of}
use Rattle.clap.proofs.WalkLemmas.{first_value-rows}
use Rattle.script_text.specs.Fields.{number_of}
use Rattle.galera_run.proofs.words.option_number.Goals as goal

pub returns-in-Some : goal.returns-in-Some
returns-in-Some c =
    c.number.ensures ∙ ap number_of c.as_bytes.ensures.value
    ∙ ap (λ o. option_and_then (λ t. number_of t) (option_map (λ s. s.now) o)) (sym c.in-Some.is)
    ∙ ap (option_and_then (λ t. number_of t)) (c.get_str.ensures ∙ first_value-rows (found_of c.args.matches.now) c.args.name.now)

pub returns-in-None : goal.returns-in-None
returns-in-None c =
    ap (λ o. option_and_then (λ t. number_of t) (option_map (λ s. s.now) o)) (sym c.in-None.is)
    ∙ ap (option_and_then (λ t. number_of t)) (c.get_str.ensures ∙ first_value-rows (found_of c.args.matches.now) c.args.name.now)
