-- the laws of runs hold of a cluster, with what it has given out as the bound of its numbers
use Rattle.node_meaning.specs.Cluster.{ModelCluster}
use Rattle.node_laws.specs.Given.{given}
use Rattle.course_laws.specs.RunLaws.{RunLaws}

abbrev pub IsLawful : ModelCluster → Type 0
IsLawful c = RunLaws (given c) c
