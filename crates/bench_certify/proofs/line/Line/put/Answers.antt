-- One more event is certified, over every order that goes on with it, and then committed.
use Rattle.std.proofs.Common.{◌≡◌, ◌+◌, [], ◌++◌, arith, subst, sym}
use Rattle.certification.specs.Certifies.{Certifies}
use Rattle.bench_certify.specs.Line.{Runs}
use Rattle.bench_certify.proofs.Runs.{runs_next}
use Rattle.bench_certify.proofs.line.Line.put.Goals as goal

pub certify-requires : goal.certify-requires
certify-requires c = record {
  order = c.self.invariant.events ++ [];
  committed = c.self.inside.number;
  certified = c.self.inside.number;
  certifies = c.self.invariant.certifies [];
  fits = c.in-Some.ensures.0;
}

pub invariant_of-self-2 : goal.invariant_of-self-2
invariant_of-self-2 c =
    let number = c.self.inside.number in
    let is_next : c.in-Some.next ≡ number + 1 = c.in-Some.ensures.1 in
    subst (λ n. Runs n c.commit.new.self) (sym is_next)
    (runs_next number c.args.event.now c.self.inside.certification c.commit.new.self c.self.invariant
    (λ order is there.
    let next = c.in_ok-told.ensures.ok order number number is (omega arith) there in
    subst (λ n. Certifies order n (number + 1) c.commit.new.self) is_next
    (c.commit.ensures.certifies order number (number + 1) next.certifies is_next)))
