use Rattle.std.proofs.Common.{map}
use Rattle.unit_writer.specs.ToldUnits.{bound_told, told_units_opened}
use Rattle.translator.proofs.BoundLemmas.{on_ok, dimension-put}
use Rattle.translator.proofs.bounds.add_dimension.Goals as goal

pub returns : goal.returns
unfolding told_units_opened
returns c =
    on_ok _ _ c.add_bound-2.result
    (λ put. dimension-put c.args.table.now c.args.name.now c.args.place c.args.dimension.now (map bound_told c.args.found.now.items) (map bound_told c.add_bound.new.found.items)
    (map bound_told c.add_bound-2.new.found.items) _ _ c.in_ok-add_bound.ensures c.in_ok-lower.ensures c.in_ok-size.ensures put)
    c.add_bound-2.ensures
