-- What is handed over is installed.
use Rattle.cluster_core.specs.Seated.{seen}
use Rattle.cluster_core.proofs.GiftLaws.{gift_fits, no_fault, takes_gift}
use Rattle.cluster_core.proofs.seat.Seat.receive.Goals as goal

pub receive-requires : goal.receive-requires
receive-requires g c = record {
  stands = (c.requires.awaits.order, c.requires.awaits.seated.stands);
  joining = c.requires.awaits.joining;
  rests = c.requires.awaits.rests;
  fits = gift_fits c.args.gift.now (seen c.args.self.now) c.requires.awaits;
}

pub returns-in-Ok-clause-ok : goal.returns-in-Ok-clause-ok
returns-in-Ok-clause-ok g c = takes_gift (seen c.args.self.now) c.receive.new.self.parts c.args.gift.now _ c.in-Ok.ensures.ok

pub unreachable-requires : goal.unreachable-requires
unreachable-requires g c =
    no_fault c.args.gift.now (seen c.args.self.now) _ c.requires.awaits (rw c.in-Err-Snap.field-0-is at c.in-Err-Snap.ensures.fault)
