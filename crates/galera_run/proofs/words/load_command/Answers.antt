use Rattle.std.proofs.Common.{rules, ap₂, codes, ◌≡◌, ◌∙◌}
use Rattle.std.proofs.lemmas.Result.{IfOk-weaker}
use Rattle.clap.specs.Words.{rule_of, with_rule}
use Rattle.galera_run.specs.Words.{option_rule}
use Rattle.galera_run.proofs.words.load_command.Goals as goal

pub returns : goal.returns
returns c =
    let seed_is : rule_of c.required-seed.result ≡ option_rule (codes "seed") = search rules in
    let count_is : rule_of c.required-count.result ≡ option_rule (codes "count") = search rules in
    let first = c.in_ok-arg.ensures.shape (search rules) ∙ ap₂ with_rule c.new-3.ensures.app seed_is in
    IfOk-weaker c.arg-2.result _ _ (λ command h. h.shape (search rules) ∙ ap₂ with_rule first count_is) c.arg-2.ensures
