use Rattle.translator.proofs.HeadingLemmas.{procedure_told, variable_told}
use Rattle.translator.proofs.heading.parameter.Goals as goal

pub returns-in-DummyProcedure : goal.returns-in-DummyProcedure
returns-in-DummyProcedure c u known are =
    procedure_told u c.args.table.now c.args.name.now c.class.result c.basic.result c.procedure_parameter.result are c.class.ensures c.in-DummyProcedure.is c.basic.ensures
    (c.procedure_parameter.ensures u known)

pub returns-in_default : goal.returns-in_default
returns-in_default c u known are =
    variable_told u c.args.table.now c.args.name.now c.class.result c.basic-in_default.result c.variable_parameter.result are c.class.ensures c.in_default.not-DummyProcedure
    c.basic-in_default.ensures c.variable_parameter.ensures
