use Rattle.f_tree.specs.Lines.{way_of}
use Rattle.expression_lowering.specs.Purposes.{purpose_of}
use Rattle.statement_lowering.proofs.ControlOperands.{after-none, after-some}
use Rattle.statement_lowering.proofs.controls.lower_after.Goals as goal

pub returns-in-None : goal.returns-in-None
returns-in-None c = λ names told.
    after-none (way_of c.args.way) names c.args.word c.args.e.now (purpose_of c.args.purpose) c.args.free c.args.steps.now.items c.in-None.ensures

pub returns-in_ok-one-in-Some : goal.returns-in_ok-one-in-Some
returns-in_ok-one-in-Some c =
    after-some (way_of c.args.way) c.args.table.now c.args.word c.in-Some.manner c.args.e.now (purpose_of c.args.purpose) c.args.free c.args.steps.now.items
    c.lower_by.new.steps.items c.in_ok-one-in-Some.one c.in-Some.ensures c.in_ok-one-in-Some.ensures
