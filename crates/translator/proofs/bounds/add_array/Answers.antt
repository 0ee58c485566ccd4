use Rattle.std.proofs.Common.{map}
use Rattle.unit_writer.specs.ToldUnits.{bound_told}
use Rattle.translator.proofs.BoundLemmas.{on_ok, array-kept, array-passed}
use Rattle.translator.proofs.bounds.add_array.Goals as goal

pub returns-then-is_adjustable_array : goal.returns-then-is_adjustable_array
returns-then-is_adjustable_array c =
    on_ok _ _ c.add_dimensions.result
    (λ put. array-kept c.args.unit.now c.args.table.now c.requires.table c.args.name.now c.shape.result.now c.is_adjustable_array.result (map bound_told c.args.found.now.items)
    (map bound_told c.add_dimensions.new.found.items) c.is_adjustable_array.ensures c.if-is_adjustable_array.true c.shape.ensures put)
    c.add_dimensions.ensures

pub returns-else-is_adjustable_array : goal.returns-else-is_adjustable_array
returns-else-is_adjustable_array c =
    array-passed c.args.unit.now c.args.table.now c.requires.table c.args.name.now c.is_adjustable_array.result (map bound_told c.args.found.now.items) c.is_adjustable_array.ensures
    c.if-is_adjustable_array.false
