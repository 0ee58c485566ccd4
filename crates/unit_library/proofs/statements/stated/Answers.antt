use Rattle.unit_library.specs.declared.functions.UnitStatement.TheVariants as stating
use Rattle.unit_library.proofs.NamedUnits.{as-opened, as-closed, as-positioned, statement-as}
use Rattle.unit_library.proofs.statements.stated.Goals as goal

pub returns-in-Open-clause-unit : goal.returns-in-Open-clause-unit
returns-in-Open-clause-unit g c = statement-as c.args.function stating.Open c.args.run.now c.args.pointer c.f_open.result c.in-Open.is (as-opened c.args.run.now c.args.pointer c.f_open.result c.f_open.ensures.unit)

pub returns-in-Close-clause-unit : goal.returns-in-Close-clause-unit
returns-in-Close-clause-unit g c = statement-as c.args.function stating.Close c.args.run.now c.args.pointer c.f_clos.result c.in-Close.is (as-closed c.args.run.now c.args.pointer c.f_clos.result c.f_clos.ensures.unit)

pub returns-in-Back-clause-unit : goal.returns-in-Back-clause-unit
returns-in-Back-clause-unit g c = statement-as c.args.function stating.Back c.args.run.now c.args.pointer c.f_back.result c.in-Back.is (as-positioned c.args.run.now c.args.pointer c.f_back.result c.f_back.ensures.unit)

pub returns-in-Rewind-clause-unit : goal.returns-in-Rewind-clause-unit
returns-in-Rewind-clause-unit g c = statement-as c.args.function stating.Rewind c.args.run.now c.args.pointer c.f_rew.result c.in-Rewind.is (as-positioned c.args.run.now c.args.pointer c.f_rew.result c.f_rew.ensures.unit)

pub returns-in-End-clause-unit : goal.returns-in-End-clause-unit
returns-in-End-clause-unit g c = statement-as c.args.function stating.End c.args.run.now c.args.pointer c.f_end.result c.in-End.is (as-positioned c.args.run.now c.args.pointer c.f_end.result c.f_end.ensures.unit)
