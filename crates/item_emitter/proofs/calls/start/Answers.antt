use Rattle.std.proofs.Common.{arith}
use Rattle.lowered_tree.specs.Shapes.{controls_of}
use Rattle.item_emitter.specs.Knowing.{known_of}
use Rattle.item_emitter.proofs.CallForms.{start-none-listed, start-one-listed, start-more-listed}
use Rattle.item_emitter.proofs.calls.start.Goals as goal

pub returns-in-empty : goal.returns-in-empty
returns-in-empty c = start-none-listed (known_of c.args.known.now) c.args.position (controls_of c.args.controls.now) c.args.row.now (omega arith)

pub returns-in-len1 : goal.returns-in-len1
returns-in-len1 c =
    start-one-listed (known_of c.args.known.now) c.args.position (controls_of c.args.controls.now) c.args.row.now c.unit-item.result c.integer_in.result c.start_unit.result
    c.in-len1.len_at_least c.in-len1.len_below c.unit-item.is c.integer_in.ensures c.start_unit.ensures

pub returns-in-len2-up : goal.returns-in-len2-up
returns-in-len2-up c = start-more-listed (known_of c.args.known.now) c.args.position (controls_of c.args.controls.now) c.args.row.now (omega arith)
