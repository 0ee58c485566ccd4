use Rattle.std.proofs.Common.{◌∷◌, [], ◌++◌, ap, ◌∙◌, refl, arith}
use Rattle.unit_writer.proofs.LocalLaws.{function_alone, functions_behind}
use Rattle.unit_writer.proofs.Walks.{each_end, each_more}
use Rattle.unit_writer.proofs.locals.add_functions.Goals as goal

pub loop-function-preserved : goal.loop-function-preserved
loop-function-preserved c =
    each_more functions_behind function_alone (λ f fs. refl) c.args.functions.now c.loop-function.function-index _ _ _ _ _ c.loop-function-test.true refl c.loop-function.invariant
    (c.in_ok-push.ensures.items ∙ ap (λ local. c.loop-function.locals.items ++ local ∷ []) c.in_ok-function_local.ensures)

pub returns : goal.returns
returns c = each_end functions_behind function_alone refl c.args.functions.now c.loop-function.function-index _ _ (omega arith) c.loop-function.invariant
