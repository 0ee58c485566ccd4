use Rattle.name_table.specs.Named.{names_in}
use Rattle.decl_table.proofs.BoundLemmas.{lower-written, lower-unwritten}
use Rattle.decl_table.proofs.bounds.lower_value.Goals as goal

pub returns-in-Some : goal.returns-in-Some
returns-in-Some c = lower-written c.args.constants.now (names_in c.args.functions.now) c.args.lower.now c.in-Some.e c.bound_value.result c.in-Some.is c.bound_value.ensures

pub returns-in-None : goal.returns-in-None
returns-in-None c = lower-unwritten c.args.constants.now (names_in c.args.functions.now) c.args.lower.now c.in-None.is
