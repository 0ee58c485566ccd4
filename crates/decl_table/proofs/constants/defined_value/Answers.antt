use Rattle.decl_table.proofs.ConstantLemmas.{defined-some, defined-none}
use Rattle.decl_table.proofs.constants.defined_value.Goals as goal

pub returns-in_ok-fitted_value-in-Some : goal.returns-in_ok-fitted_value-in-Some
returns-in_ok-fitted_value-in-Some c =
    defined-some c.args.constants.now c.args.width c.args.e.now c.in_ok-value.field-0 c.in-Some.value c.in_ok-fitted_value-in-Some.field-0 c.in-Some.is c.in_ok-value.ensures
    c.in_ok-fitted_value-in-Some.ensures

pub returns-in-None : goal.returns-in-None
returns-in-None c = defined-none c.args.constants.now c.args.width c.args.e.now c.in_ok-value.field-0 c.in-None.is c.in_ok-value.ensures
