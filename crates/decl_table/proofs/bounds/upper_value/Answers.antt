use Rattle.name_table.specs.Named.{names_in}
use Rattle.decl_table.proofs.BoundLemmas.{upper-written, upper-star}
use Rattle.decl_table.proofs.bounds.upper_value.Goals as goal

pub returns-in_ok-bound_value-in-Value : goal.returns-in_ok-bound_value-in-Value
returns-in_ok-bound_value-in-Value c =
    upper-written c.args.constants.now (names_in c.args.functions.now) c.args.upper.now c.in-Value.e c.in_ok-bound_value-in-Value.field-0 c.written.result c.in-Value.is c.in_ok-bound_value-in-Value.ensures
    c.written.ensures

pub returns-in-Star : goal.returns-in-Star
returns-in-Star c = upper-star c.args.constants.now (names_in c.args.functions.now) c.args.upper.now c.in-Star.is
