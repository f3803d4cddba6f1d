-- what was read of a line before its limits are looked at
use Rattle.order_event.specs.declared.step.Act.TheVariants.{Client}
use Rattle.order_event.specs.declared.step.Step.{Step}
use Rattle.script_text.specs.declared.line.Header.{Header}
use Rattle.script_text.specs.declared.steps.WrittenStep.{WrittenStep}
use Rattle.script_text.specs.declared.steps.WrittenStep.TheVariants as written
use Rattle.script_text.specs.declared.header.WrittenHeader.{WrittenHeader}

-- a step, whose session may be any number
abbrev pub step_written : WrittenStep → Step
step_written (written.Session node session call) = record { node = node; act = Client session call }
step_written (written.Node node act) = record { node = node; act = act }

-- a header, with any number of nodes
abbrev pub header_written : WrittenHeader → Header
header_written header = record { nodes = header.nodes; gcache = header.gcache; id = header.id }
