-- what is asked of a step
use Rattle.std.specs.Prelude.{IsTrue}
use Rattle.row_model.specs.Names.{call_fits}
use Rattle.order_event.specs.declared.step.Act.{Act}
use Rattle.order_event.specs.declared.step.Act.TheVariants as act
use Rattle.node_meaning.specs.Facts.{CallInRange}

-- a call has names in their form and values in range; of other steps nothing is asked
abbrev pub ActFits : Act → Type 0
ActFits (act.Client session call) = IsTrue (call_fits call) × CallInRange call
ActFits act.Order = Unit {0}
ActFits act.Take = Unit {0}
ActFits act.Certify = Unit {0}
ActFits (act.Start number) = Unit {0}
ActFits (act.Finish number) = Unit {0}
ActFits act.Advance = Unit {0}
ActFits act.Drain = Unit {0}
ActFits act.Report = Unit {0}
ActFits act.Status = Unit {0}
ActFits act.Leave = Unit {0}
ActFits (act.Join fresh) = Unit {0}
ActFits (act.Transfer donor) = Unit {0}
