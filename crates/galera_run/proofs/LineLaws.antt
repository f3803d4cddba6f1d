-- What a header and a step of a schedule bring for the calls of a cluster.
use Rattle.std.proofs.Common.{◌≡◌, ℕ, Bool, true, false, cond, List, [], ◌∷◌, Option, None, Some, refl, sym, ap, subst, ◌∙◌}
use Rattle.std.specs.Prelude.{◌≢◌, IfSome, Ok, Err, option_map, option_and_then, ◌&&◌}
use Rattle.std.specs.Str.{bytes_eq}
use Rattle.uuid.specs.Text.{parsed}
use Rattle.wsrep_base.specs.StateId.{id_of, nil_id, not_nil}
use Rattle.order_event.specs.declared.step.Act.{Act}
use Rattle.order_event.specs.declared.step.Act.TheVariants as act
use Rattle.script_text.specs.declared.line.Header.{Header}
use Rattle.script_text.specs.declared.line.ScriptCause.TheVariants as cause
use Rattle.script_text.specs.Words.{text_of, words_of, ◌>>=◌}
use Rattle.script_text.specs.Fields.{counting_of, number_of}
use Rattle.script_text.specs.Grammar.{judged, is_passed_over, header_at, first_at, first_of, is_short, first_is_within}
use Rattle.script_text.specs.Steps.{HasSession}
use Rattle.script_text.proofs.FitLemmas.{first_is}
use Rattle.cluster_core.specs.Steps.{has_session}
use Rattle.galera_run.specs.Feeding.{IsHeaderOf}

-- a session of a step is one that the cluster takes
pub session_of_step : (a : Act) → HasSession a → has_session a
session_of_step (act.Client session call) h = h
session_of_step other h = tt

-- ---- the id of a header
abbrev HasId : Header → Type 0
HasId header = header.id ≢ nil_id

not_nil_by : (id : List ℕ) (b : Bool) → bytes_eq id nil_id ≡ b → IfSome (cond b None (Some id)) (λ i. i ≢ nil_id)
not_nil_by id true e = tt
not_nil_by id false e = λ same. let f : false ≡ true = sym e ∙ ap (λ i. bytes_eq i nil_id) same in absurd cc

id_is : (text : List ℕ) → IfSome (id_of text) (λ i. i ≢ nil_id)
unfolding id_of
id_is text = by_parsed (parsed text)
  where
    by_parsed : (o : Option (List ℕ)) → IfSome (option_and_then not_nil o) (λ i. i ≢ nil_id)
    by_parsed None = tt
    by_parsed (Some id) = not_nil_by id (bytes_eq id nil_id) refl

chained : {A B : Type 0} (Q : B → Type 0) (o : Option A) (f : A → Option B) → ((x : A) → IfSome (f x) Q) → IfSome (o >>= f) Q
chained Q None f q = tt
chained Q (Some x) f q = q x

chained_by : {A B : Type 0} (P : A → Type 0) (Q : B → Type 0) (o : Option A) (f : A → Option B) → IfSome o P
    → ((x : A) → P x → IfSome (f x) Q) → IfSome (o >>= f) Q
chained_by P Q None f p q = tt
chained_by P Q (Some x) f p q = q x p

chosen : {A : Type 0} (P : A → Type 0) (b : Bool) (x : Option A) → IfSome x P → IfSome (cond b x None) P
chosen P true x p = p
chosen P false x p = tt

header_id : (words : List (List ℕ)) → IfSome (header_at words) HasId
unfolding header_at
header_id [] = tt
header_id (cluster ∷ []) = tt
header_id (cluster ∷ k ∷ []) = tt
header_id (cluster ∷ k ∷ gcache ∷ []) = tt
header_id (cluster ∷ k ∷ gcache ∷ b ∷ []) = tt
header_id (cluster ∷ k ∷ gcache ∷ b ∷ id ∷ []) = tt
header_id (cluster ∷ k ∷ gcache ∷ b ∷ id ∷ u ∷ []) =
    chosen HasId _ _
    (chained HasId (counting_of k) _ (λ nodes. chained HasId (number_of b) _ (λ bytes.
    chained_by (λ i. i ≢ nil_id) HasId (id_of u) _ (id_is u) (λ state some. some))))
header_id (cluster ∷ k ∷ gcache ∷ b ∷ id ∷ u ∷ word ∷ words) = tt

pub judged_some : {X : Type 0} (within : X → Bool) (o : Option X) (x : X) → judged within o ≡ Ok x → o ≡ Some x
judged_some within None x e = absurd cc
judged_some within (Some y) x e = by_within (within y) e
  where
    by_within : (b : Bool) → cond b (Ok y) (Err cause.Limit) ≡ Ok x → Some y ≡ Some x
    by_within true e = cc
    by_within false e = absurd cc

header_said : (passed : Bool) (o : Option Header) (header : Header)
    → cond passed (Some None) (option_map (λ x. Some x) o) ≡ Some (Some header) → o ≡ Some header
header_said true o header e = absurd cc
header_said false None header e = absurd cc
header_said false (Some h) header e = cc

-- the header that a line is has what a cluster needs
pub header_of_line : (line : List ℕ) (header : Header) → first_of line ≡ Ok (Some header) → IsHeaderOf header
unfolding first_of
header_of_line line header e =
    let words = words_of (text_of line) in
    let said = judged_some (λ first. is_short line && first_is_within first) (first_at words) (Some header) e in
    let there = header_said (is_passed_over words) (header_at words) header said in
    record {
      limits = first_is line header e;
      some_id = subst (λ (o : Option Header). IfSome o HasId) there (header_id words);
    }
