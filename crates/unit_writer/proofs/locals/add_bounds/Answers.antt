use Rattle.std.proofs.Common.{◌∷◌, [], ◌++◌, ap, ◌∙◌, refl, arith}
use Rattle.c_tree.specs.declared.declaration.CLocal.TheVariants as local
use Rattle.c_tree.specs.declared.types.NumberType.TheVariants as number_type
use Rattle.unit_writer.proofs.LocalLaws.{bound_alone, bounds_behind}
use Rattle.unit_writer.proofs.Walks.{each_end, each_more}
use Rattle.unit_writer.proofs.locals.add_bounds.Goals as goal

pub loop-one-preserved : goal.loop-one-preserved
loop-one-preserved c =
    each_more bounds_behind bound_alone (λ one ones. refl) c.args.bounds.now c.loop-one.one-index _ _ _ _ _ c.loop-one-test.true c.one-item.is c.loop-one.invariant
    (c.in_ok-push.ensures.items ∙ ap (λ name. c.loop-one.locals.items ++ local.Number number_type.Integer name ∷ []) c.in_ok-name.ensures)

pub returns : goal.returns
returns c = each_end bounds_behind bound_alone refl c.args.bounds.now c.loop-one.one-index _ _ (omega arith) c.loop-one.invariant
