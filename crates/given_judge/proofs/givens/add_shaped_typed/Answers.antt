use Rattle.std.proofs.Common.{◌++◌, List, map, ap, ◌∙◌, arith}
use Rattle.found_rows.proofs.Walks.{each_more, each_end}
use Rattle.f_tree.specs.Values.{Bytes}
use Rattle.given_judge.specs.GiftsSeen.{givens_in, shape_of, dimensions_given}
use Rattle.f_tree.specs.declared.statements.Declarator.{Declarator}
use Rattle.given_judge.proofs.GivenForms.{dimensions_of, typed_shapes_step, shapes_end}
use Rattle.f_tree.specs.declared.statements.Dimension.{Dimension as WrittenDimension}
use Rattle.given_judge.proofs.givens.add_shaped_typed.Goals as goal

pub loop-item-preserved : goal.loop-item-preserved
loop-item-preserved c =
    each_more (λ (xs : List Declarator). dimensions_of (map shape_of xs)) (λ (x : Declarator). dimensions_given x.name x.dimensions) typed_shapes_step
    c.args.items.now c.loop-item.item-index c.item-item.result _ _ _ _ c.loop-item-test.true c.item-item.is c.loop-item.invariant
    (c.in_ok-add_shaped.ensures ∙ ap (λ (x : Bytes). givens_in c.loop-item.givens.items ++ dimensions_given x c.as_slice-in-loop-item.result.now) c.as_slice.ensures
    ∙ ap (λ (ds : List WrittenDimension). givens_in c.loop-item.givens.items ++ dimensions_given c.item-item.result.name ds) c.as_slice-in-loop-item.ensures)

pub returns : goal.returns
returns c =
    each_end (λ (xs : List Declarator). dimensions_of (map shape_of xs)) (λ (x : Declarator). dimensions_given x.name x.dimensions) shapes_end
    c.args.items.now c.loop-item.item-index _ _ (omega arith) c.loop-item.invariant
