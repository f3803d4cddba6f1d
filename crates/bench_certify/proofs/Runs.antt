-- A line of events goes on.
use Rattle.std.proofs.Common.{◌≡◌, ℕ, zero, suc, ◌+◌, List, [], ◌∷◌, ◌++◌, length, Some, ap, sym, subst, ◌∙◌, arith, length-append, refl}
use Rattle.std.specs.Prelude.{slice_get}
use Rattle.order_event.specs.declared.event.Event.{Event}
use Rattle.certification.specs.Certifies.{ModelCertification, Certifies}
use Rattle.bench_certify.specs.Line.{Runs}

-- the event that follows stands at their number
next_there : (events : List Event) (e : Event) (more : List Event)
    → slice_get (events ++ e ∷ more) (length events) ≡ Some e
next_there [] e more = refl
next_there (_ ∷ events) e more = next_there events e more

-- one more event, and then the others
one_more : (events : List Event) (e : Event) (more : List Event)
    → (events ++ e ∷ []) ++ more ≡ events ++ e ∷ more
one_more [] e more = refl
one_more (first ∷ events) e more = ap (λ rest. first ∷ rest) (one_more events e more)

-- where one more event is certified and committed whatever follows it, so many more are
pub runs_next : (number : ℕ) (e : Event) (before after : ModelCertification) → Runs number before
    → ((order : List Event) → Certifies order number number before → slice_get order number ≡ Some e
    → Certifies order (number + 1) (number + 1) after)
    → Runs (number + 1) after
runs_next number e before after runs goes_on = record {
  events = runs.events ++ e ∷ [];
  all = length-append runs.events (e ∷ []) ∙ ap (λ n. n + 1) runs.all;
  certifies = λ more.
      subst (λ order. Certifies order (number + 1) (number + 1) after) (sym (one_more runs.events e more))
      (goes_on (runs.events ++ e ∷ more) (runs.certifies (e ∷ more))
      (subst (λ n. slice_get (runs.events ++ e ∷ more) n ≡ Some e) runs.all (next_there runs.events e more)));
}
