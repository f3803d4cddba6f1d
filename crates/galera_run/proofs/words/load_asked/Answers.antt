use Rattle.std.proofs.Common.{rules, ◌≡◌, true, false, ap, sym, ◌∙◌, map, string_bytes, inl, inr}
use Rattle.clap.specs.Words.{app_of, fault_of, found_of, is_simple, is_simple_and_free, kind_of, matches_of, rows_of}
use Rattle.galera_run.specs.Words.{is_load}
use Rattle.galera_run.proofs.Askings.{is_known, is_plain, not_load, taken, refused}
use Rattle.galera_run.proofs.words.load_asked.Goals as goal

pub returns-then-not-is_load-clause-ok : goal.returns-then-not-is_load-clause-ok
returns-then-not-is_load-clause-ok c =
    let other : is_load (map string_bytes c.args.words.now) ≡ false = search rules in
    not_load (map string_bytes c.args.words.now) other

pub returns-in-Ok-clause-ok : goal.returns-in-Ok-clause-ok
returns-in-Ok-clause-ok c =
    let words = map string_bytes c.args.words.now in
    let first : is_load (map string_bytes c.args.words.now) ≡ true = search rules in
    let app = c.in_ok-command.ensures in
    let matched = (c.in-Ok.ensures.matches (ap is_simple app ∙ is_plain)).0 ∙ ap (λ a. matches_of a words) app in
    let none = sym (ap (λ a. fault_of a words) app) ∙ c.in-Ok.ensures.kinds (ap is_simple_and_free app ∙ is_known) in
    c.numbers.ensures.numbers ∙ taken words (rows_of (found_of c.in-Ok.matches)) first none matched

pub returns-in-Err-2-clause-ok : goal.returns-in-Err-2-clause-ok
returns-in-Err-2-clause-ok c =
    let words = map string_bytes c.args.words.now in
    let app = c.in_ok-command.ensures in
    let fails = c.in-Err-2.ensures.kinds (ap is_simple_and_free app ∙ is_known) in
    elim fails [
      | inl memory ↦ search rules
      | inr among ↦ refused words (kind_of c.in-Err-2.field-0) (fault_of (app_of c.in_ok-command.command) words)
          (ap (λ a. fault_of a words) app) among
    ]
