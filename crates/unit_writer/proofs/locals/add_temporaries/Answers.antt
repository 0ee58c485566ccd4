use Rattle.std.proofs.Common.{◌∷◌, [], ◌++◌, ap, ◌∙◌, arith}
use Rattle.c_tree.specs.declared.declaration.CLocal.TheVariants as local
use Rattle.c_tree.specs.declared.types.NumberType.TheVariants as number_type
use Rattle.unit_writer.proofs.LocalLaws.{temporaries_more, temporaries_end}
use Rattle.unit_writer.proofs.locals.add_temporaries.Goals as goal

pub loop-before-preserved : goal.loop-before-preserved
loop-before-preserved c =
    temporaries_more c.loop-before.before c.args.count _ _ _ c.loop-before-test.true c.loop-before.invariant
    (c.in_ok-push.ensures.items ∙ ap (λ name. c.loop-before.locals.items ++ local.Number number_type.Integer name ∷ []) c.in_ok-name.ensures)

pub returns : goal.returns
returns c = temporaries_end c.loop-before.before c.args.count _ _ (omega arith) c.loop-before.invariant
