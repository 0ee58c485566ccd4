use Rattle.source_reader.proofs.TreeLemmas.{parts_pass, nests_read, check_stops}
use Rattle.source_reader.proofs.source.read_trees.Goals as goal

pub returns-in-Ok-spliced : goal.returns-in-Ok-spliced
returns-in-Ok-spliced c =
    nests_read c.args.files.now c.args.names.now c.args.parts.now c.in-Ok-after.trees c.in-Ok-spliced.set c.not_deep.result
    (parts_pass c.args.files.now c.args.names.now c.args.parts.now c.in-Ok.trees c.in-Ok-after.trees c.check_parts.result c.in-Ok.ensures c.check_parts.ensures
    c.in-Ok-after.ensures) c.in-Ok-spliced.ensures c.not_deep.ensures

pub returns-in-Err-after : goal.returns-in-Err-after
returns-in-Err-after c =
    check_stops (Unit {0}) c.args.files.now c.args.names.now c.args.parts.now c.in-Ok.trees c.check_parts.result c.in-Err-after.fail c.in-Ok.ensures
    c.check_parts.ensures c.in-Err-after.ensures
