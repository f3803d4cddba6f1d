-- what a fault of the group is told as
use Rattle.group_order.specs.declared.fault.GroupFault.{GroupFault}
use Rattle.group_order.specs.declared.fault.GroupFault.TheVariants as group
use Rattle.cluster_core.specs.declared.fault.StepFault.{StepFault}
use Rattle.cluster_core.specs.declared.fault.StepFault.TheVariants as fault

abbrev pub step_fault : GroupFault → StepFault
step_fault group.Failed = fault.Group
step_fault group.NoMemory = fault.NoMemory
