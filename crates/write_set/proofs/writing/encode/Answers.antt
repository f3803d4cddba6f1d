use Rattle.write_set.proofs.RulesOf.{few_changes}
use Rattle.write_set.proofs.writing.encode.Goals as goal

pub put_all_ops-requires : goal.put_all_ops-requires
put_all_ops-requires c = rw c.as_slice.ensures (few_changes c.args.w.now c.requires)
