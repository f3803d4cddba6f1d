-- steps whose names have their form
use Rattle.std.specs.Prelude.{Bool, true}
use Rattle.row_model.specs.Names.{call_fits}
use Rattle.order_event.specs.declared.step.Act.{Act}
use Rattle.order_event.specs.declared.step.Act.TheVariants.{Client}
use Rattle.order_event.specs.declared.step.Step.{Step}

-- the names of a client's call have their form; other acts have no names
abbrev pub act_fits : Act → Bool
act_fits (Client session call) = call_fits call
act_fits other = true

abbrev pub step_fits : Step → Bool
step_fits step = act_fits step.act
