-- Without a fault an input within the grammar and the limits ends with its whole text, unless
-- memory is wanting; and so does a workload.
use Rattle.std.proofs.Common.{◌≡◌, ℕ, zero, suc, ◌≤◌, Bool, true, false, cond, List, refl, ap, sym, subst, ◌∙◌, arith, inl, inr}
use Rattle.std.specs.Prelude.{◌≢◌, ◌⊎◌, ◌&&◌, nat_le, Option, Some, None}
use Rattle.std.proofs.lemmas.Bool.Decides.{nat_tests}
use Rattle.outside_io.specs.Outside.{Rose}
use Rattle.script_text.specs.Load.{load_header, load_steps}
use Rattle.script_text.specs.Fields.{only_if}
use Rattle.script_text.specs.Words.{◌>>=◌}
use Rattle.script_text.proofs.LoadLaws.{load_length}
use Rattle.clap.specs.Words.{Row, fault_of, matches_of}
use Rattle.galera_run.specs.declared.words.Asked.{Asked}
use Rattle.galera_run.specs.Reading.{finished, refused, run_of}
use Rattle.galera_run.specs.Words.{is_load, load_app, load_asked, numbers_of, option_number, passes, is_count, HasCount, IsSteps}
use Rattle.galera_run.specs.Program.{HasCauses, EndsAs, TellsAsked, TellsEnd, TellsRefused}
use Rattle.galera_run.specs.Replicated.{LoadReplicates, AskedReplicates, IsWithinGrammar, EndsWhole, StepsEndWhole, LoadEndsWhole}
use Rattle.galera_run.proofs.Askings.{not_load}
use Rattle.galera_run.proofs.LoadRanges.{load_fits}
use Rattle.galera_run.proofs.Replicating.{runs_replicate}
use Rattle.std.specs.Prelude.{codes}
use Rattle.answer_laws.proofs.RunAnswers.{few_joins}

-- ---- `steps`
module _ (input : List ℕ) (b u v : Option (List ℕ)) (within : IsWithinGrammar input) where
  -- at 0 the whole text was written, and no line is refused
  by_status : (status : ℕ) → (status ≤ 2) ⊎ (status ≡ 6) → status ≢ 1
      → (status ≡ 0 → TellsEnd (Some input) b u v) → (status ≡ 2 → TellsRefused (Some input) u v)
      → EndsWhole status u v (run_of input).text
  by_status status (inr is) usage ends refuses = inr is
  by_status zero (inl few) usage ends refuses = inl (refl, (ends refl).0.1.written)
  by_status (suc zero) (inl few) usage ends refuses = absurd (usage refl)
  by_status (suc (suc zero)) (inl few) usage ends refuses =
      let t = refuses refl in
      let e : finished within.steps within.cluster ≡ refused t.number t.why =
      sym within.ends ∙ t.ending in absurd cc
  by_status (suc (suc (suc k))) (inl few) usage ends refuses = absurd (omega (arith, few))

  by_causes : (status so sn ko kn : ℕ) → HasCauses status so sn ko kn
      → (Rose so sn → ⊥) → (Rose ko kn → ⊥) → status ≢ 1
      → (status ≡ 0 → TellsEnd (Some input) b u v) → (status ≡ 2 → TellsRefused (Some input) u v)
      → EndsWhole status u v (run_of input).text
  by_causes status so sn ko kn (inl h) source sink usage ends refuses =
      by_status status h.0 usage ends refuses
  by_causes status so sn ko kn (inr (inl h)) source sink usage ends refuses =
      absurd (source h.1)
  by_causes status so sn ko kn (inr (inr h)) source sink usage ends refuses = absurd (sink h.1)

pub steps_end_whole : (a b u v : Option (List ℕ)) (status so sn ko kn : ℕ)
    → HasCauses status so sn ko kn → status ≢ 1 → (status ≡ 0 → TellsEnd a b u v)
    → (status ≡ 2 → TellsRefused a u v) → StepsEndWhole status a u v so sn ko kn
steps_end_whole None b u v status so sn ko kn causes usage ends refuses = λ source sink. tt
steps_end_whole (Some input) b u v status so sn ko kn causes usage ends refuses =
    λ source sink within.
    by_causes input b u v within status so sn ko kn causes source sink usage ends refuses

-- ---- `load`
load_ends_whole : (a : Asked) (u v : Option (List ℕ)) (status ko kn : ℕ)
    → EndsAs 0 status ko kn ⊎ ((status ≡ 6) × (kn ≡ ko))
    → (status ≡ 0 → TellsAsked (Some a) u v) → LoadEndsWhole status (Some a) u v ko kn
load_ends_whole a u v status ko kn (inl (inl h)) ends = λ sink. inl (h.0, ends h.0)
load_ends_whole a u v status ko kn (inl (inr h)) ends = λ sink. absurd (sink h.1)
load_ends_whole a u v status ko kn (inr h) ends = λ sink. inr h.0

pub asked_ends_whole : (o : Option Asked) (a : Asked) (u v : Option (List ℕ)) (status ko kn : ℕ)
    → Some a ≡ o → EndsAs 0 status ko kn ⊎ ((status ≡ 6) × (kn ≡ ko))
    → (status ≡ 0 → TellsAsked (Some a) u v) → LoadEndsWhole status o u v ko kn
asked_ends_whole o a u v status ko kn is causes ends =
    subst (λ x. LoadEndsWhole status x u v ko kn) is
    (load_ends_whole a u v status ko kn causes ends)

pub wanting_whole : (o : Option Asked) (u v : Option (List ℕ)) (status ko kn : ℕ) → status ≡ 6
    → LoadEndsWhole status o u v ko kn
wanting_whole None u v status ko kn is = λ sink. tt
wanting_whole (Some a) u v status ko kn is = λ sink. inr is

pub none_whole : (o : Option Asked) (u v : Option (List ℕ)) (status ko kn : ℕ) → o ≡ None
    → LoadEndsWhole status o u v ko kn
none_whole o u v status ko kn is =
    subst (λ x. LoadEndsWhole status x u v ko kn) (sym is) (λ sink. tt)

-- ---- the run of a workload is right
pub load_replicates : (seed count : ℕ) → count ≤ 30_000 → LoadReplicates seed count
load_replicates seed count few =
    runs_replicate load_header.nodes load_header.gcache load_header.id (load_steps seed count)
    (omega (arith, load_length seed count, few, few_joins (load_steps seed count)))
    (omega (arith, load_length seed count, few)) (load_fits seed count few)

is_at_least : (m n : ℕ) → nat_le m n ≡ true → m ≤ n
is_at_least m n e = grind (arith, nat_tests)

both : (a b : Bool) → a && b ≡ true → (a ≡ true) × (b ≡ true)
both true true e = (refl, refl)
both true false e = absurd cc
both false b e = absurd cc

-- what is asked for has a count that may be
count_by : (seed count : ℕ) (b : Bool) → is_count count ≡ b
    → HasCount (cond b (Some count) None >>= λ n. Some (record { seed = seed; count = n }))
count_by seed count true is =
    let tests = both (nat_le 1 count) (nat_le count 30_000) is in
    (is_at_least 1 count tests.0, is_at_least count 30_000 tests.1)
count_by seed count false is = tt

count_of : (seed : ℕ) (o : Option ℕ)
    → HasCount (only_if is_count o >>= λ n. Some (record { seed = seed; count = n }))
count_of seed None = tt
count_of seed (Some count) = count_by seed count (is_count count) refl

seed_of : (o p : Option ℕ) → HasCount (o >>= λ seed.
    only_if is_count p >>= λ n. Some (record { seed = seed; count = n }))
seed_of None p = tt
seed_of (Some seed) p = count_of seed p

numbers_count : (rows : List Row) → HasCount (numbers_of rows)
unfolding numbers_of
numbers_count rows =
    seed_of (option_number (codes "seed") rows) (option_number (codes "count") rows)

either_count : (b : Bool) (o : Option Asked) → HasCount o → HasCount (cond b o None)
either_count true o h = h
either_count false o h = tt

asked_count : (words : List (List ℕ)) → HasCount (load_asked words)
unfolding load_asked
asked_count words =
    either_count (is_load words && passes (fault_of load_app words))
    (numbers_of (matches_of load_app words)) (numbers_count (matches_of load_app words))

by_asked : (o : Option Asked) → HasCount o → AskedReplicates o
by_asked None h = tt
by_asked (Some a) h = load_replicates a.seed a.count h.1

pub asked_replicates : (words : List (List ℕ)) → AskedReplicates (load_asked words)
asked_replicates words = by_asked (load_asked words) (asked_count words)

-- the command `steps` asks for no workload
pub steps_ask_none : (words : List (List ℕ)) → IsSteps words → load_asked words ≡ None
steps_ask_none words is = sym (not_load words (ap is_load is))
