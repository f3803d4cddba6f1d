-- The id is what the text parses to, and none where it parses to nothing.
use Rattle.std.proofs.Common.{◌≡◌, Option, None, Some, false, true, refl, sym, ◌∙◌, ap}
use Rattle.std.specs.Prelude.{option_and_then}
use Rattle.wsrep_base.specs.StateId.{id_of, not_nil}
use Rattle.wsrep_base.proofs.ids.StateId.parse_bytes.Goals as goal

none_where : {A : Type 0} (o : Option A) → ((x : A) × (o ≡ Some x) → ⊥) → o ≡ None
none_where None no_value = refl
none_where (Some x) no_value = absurd (no_value (x, refl))

pub returns-in-Ok : goal.returns-in-Ok
unfolding id_of
returns-in-Ok c = c.unless_nil.ensures ∙ ap (option_and_then not_nil) c.in-Ok.ensures.bytes

pub returns-in-Err : goal.returns-in-Err
unfolding id_of
returns-in-Err c =
    sym (ap (option_and_then not_nil) (none_where _ (λ p. let no : false ≡ true = c.in-Err.ensures.ok.1 p in cc)))
