use Rattle.std.proofs.Common.{ap, ◌∙◌}
use Rattle.decl_table.specs.UnitFacts.{is_intrinsic}
use Rattle.decl_table.proofs.FunctionLemmas.{function-put, function-not}
use Rattle.decl_table.proofs.functions.add_function.Goals as goal

pub returns-then-is_intrinsic : goal.returns-then-is_intrinsic
returns-then-is_intrinsic c =
    function-put c.add.result c.args.unit.now c.args.functions.now _ c.args.name.now c.is_intrinsic.result (c.is_intrinsic.ensures ∙ ap is_intrinsic c.class_of.ensures) c.if-is_intrinsic.true
    c.add.ensures.names c.add.ensures.is_set

pub returns : goal.returns
returns c =
    function-not c.args.unit.now c.args.functions.now c.args.name.now c.is_intrinsic.result (c.is_intrinsic.ensures ∙ ap is_intrinsic c.class_of.ensures) c.if-is_intrinsic.false
    c.requires.is_set
