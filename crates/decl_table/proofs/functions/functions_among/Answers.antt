use Rattle.std.proofs.Common.{get_or, refl, arith}
use Rattle.decl_table.proofs.FunctionLemmas.{no_text, functions-none, functions-more, functions-end}
use Rattle.decl_table.proofs.functions.functions_among.Goals as goal

pub loop-name-init : goal.loop-name-init
loop-name-init c = functions-none c.args.unit.now c.new-functions.result c.new-functions.ensures.names c.new-functions.ensures.is_set

pub add_function-requires : goal.add_function-requires
add_function-requires c = record { signs = c.requires; is_set = c.loop-name.invariant.is_set }

pub loop-name-preserved : goal.loop-name-preserved
loop-name-preserved c =
    functions-more c.args.unit.now _ _ c.args.names.now c.loop-name.name-index (get_or c.args.names.now c.loop-name.name-index no_text) no_text c.loop-name-test.true refl c.loop-name.invariant c.in_ok-add_function.ensures

pub returns : goal.returns
returns c = functions-end c.args.unit.now _ c.args.names.now c.loop-name.name-index (omega arith) c.loop-name.invariant
