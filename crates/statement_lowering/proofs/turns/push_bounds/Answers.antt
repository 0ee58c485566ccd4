use Rattle.lowered_tree.specs.Shapes.{pure_of}
use Rattle.statement_lowering.proofs.TurnLaws.{turn-done}
use Rattle.statement_lowering.proofs.turns.push_bounds.Goals as goal

pub returns : goal.returns
returns c =
    turn-done c.args.table.now c.args.once c.args.free c.args.back c.args.control.now c.args.steps.now.items c.push_turn.new.steps.items (pure_of c.in_ok-bounds.bounds.limit)
    (pure_of c.in_ok-bounds.bounds.by) c.as_slice-name.result.now c.push_turn.result c.requires c.in_ok-bounds.ensures.values c.as_slice-name.ensures c.push_turn.ensures
