use Rattle.gw_er7.proofs.Tables.{table_is}
use Rattle.gw_er7.proofs.classes.ByteClasses.of.Goals as goal

pub invariant_of-result : goal.invariant_of-result
invariant_of-result c = table_is c.args.delimiters
