-- An id that was read is not nil.
use Rattle.std.proofs.Common.{◌≡◌, Bool, true, false, cond, List, ℕ, Option, None, Some, refl, sym, ap, ◌∙◌}
use Rattle.std.specs.Prelude.{◌≢◌, IfSome, option_and_then}
use Rattle.std.specs.Str.{bytes_eq}
use Rattle.uuid.specs.Text.{parsed}
use Rattle.wsrep_base.specs.StateId.{id_of, nil_id, not_nil}

not_nil_by : (id : List ℕ) (b : Bool) → bytes_eq id nil_id ≡ b
    → IfSome (cond b None (Some id)) (λ i. i ≢ nil_id)
not_nil_by id true e = tt
not_nil_by id false e = λ same.
    let f : false ≡ true = sym e ∙ ap (λ i. bytes_eq i nil_id) same in absurd cc

pub id_is : (text : List ℕ) → IfSome (id_of text) (λ i. i ≢ nil_id)
unfolding id_of
id_is text = by_parsed (parsed text)
  where
    by_parsed : (o : Option (List ℕ)) → IfSome (option_and_then not_nil o) (λ i. i ≢ nil_id)
    by_parsed None = tt
    by_parsed (Some id) = not_nil_by id (bytes_eq id nil_id) refl
