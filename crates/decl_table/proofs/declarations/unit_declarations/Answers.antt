use Rattle.decl_table.proofs.DeclarationLemmas.{declared-types, declared-all}
use Rattle.decl_table.proofs.declarations.unit_declarations.Goals as goal

pub unit_constants-constants-requires : goal.unit_constants-constants-requires
unit_constants-constants-requires c =
    declared-types c.args.unit.now c.unit_types.result c.in_ok-typed.typed c.in_ok-shaped.shaped c.in_ok-typed.ensures.1 c.in_ok-shaped.ensures.0 c.unit_types.ensures

pub returns : goal.returns
returns c =
    declared-all c.args.unit.now c.in_ok-signs.signs c.unit_functions-functions.result c.unit_types.result c.unit_shapes.result c.unit_constants-constants.result
    c.in_ok-named.named c.in_ok-typed.typed c.in_ok-shaped.shaped c.in_ok-whole.whole
    c.in_ok-named.ensures c.in_ok-typed.ensures c.in_ok-shaped.ensures c.in_ok-whole.ensures
    c.in_ok-signs.ensures c.unit_functions-functions.ensures c.unit_types.ensures c.unit_shapes.ensures c.unit_constants-constants.ensures
