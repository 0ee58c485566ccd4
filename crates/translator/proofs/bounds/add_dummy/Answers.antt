use Rattle.std.proofs.Common.{map}
use Rattle.unit_writer.specs.ToldUnits.{bound_told}
use Rattle.translator.proofs.BoundLemmas.{on_ok, dummy-kept, return-kept}
use Rattle.translator.proofs.bounds.add_dummy.Goals as goal

pub returns-in-Named : goal.returns-in-Named
returns-in-Named c =
    on_ok _ _ c.add_array.result
    (λ put. dummy-kept c.args.unit.now c.args.dummy.now c.in-Named.name c.as_slice.result.now (map bound_told c.args.found.now.items) (map bound_told c.add_array.new.found.items) c.in-Named.is
    c.as_slice.ensures put)
    c.add_array.ensures

pub returns-in-AlternateReturn : goal.returns-in-AlternateReturn
returns-in-AlternateReturn c = return-kept c.args.unit.now c.args.dummy.now (map bound_told c.args.found.now.items) c.in-AlternateReturn.is
