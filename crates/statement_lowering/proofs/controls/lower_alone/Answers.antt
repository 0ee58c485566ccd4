use Rattle.statement_lowering.proofs.ControlOperands.{alone-done}
use Rattle.statement_lowering.proofs.controls.lower_alone.Goals as goal

pub returns : goal.returns
returns c =
    alone-done c.args.table.now c.inside.result c.args.purpose c.args.free c.args.e.now c.args.steps.now.items c.place_for.new.steps.items c.in_ok-place.place
    c.first_of.result c.inside.ensures c.in_ok-place.ensures c.first_of.ensures
