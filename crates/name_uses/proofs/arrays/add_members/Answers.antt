use Rattle.std.proofs.Common.{map, ◌∷◌, [], ◌++◌, ap, ◌∙◌, arith}
use Rattle.found_rows.proofs.Walks.{each_more, each_end}
use Rattle.f_tree.specs.Attributes.{array_names, shape_of_array}
use Rattle.f_tree.specs.declared.statements.ArrayDeclarator.{ArrayDeclarator}
use Rattle.f_tree.specs.declared.statements.Dimension.{Dimension as WrittenDimension}
use Rattle.f_tree.specs.Values.{Bytes}
use Rattle.std.proofs.Common.{List}
use Rattle.name_table.specs.Named.{names_in}
use Rattle.name_uses.proofs.ArrayLemmas.{members_step, shaped_none}
use Rattle.name_uses.proofs.arrays.add_members.Goals as goal

pub loop-item-preserved : goal.loop-item-preserved
loop-item-preserved c = record {
  is_set = c.in_ok-add_shaped.ensures.is_set;
  names = each_more (λ ds. array_names (map shape_of_array ds)) (λ (d : ArrayDeclarator). array_names (record { name = d.name; dimensions = d.dimensions } ∷ [])) members_step c.args.items.now c.loop-item.item-index c.item-item.result _ _ _ _ c.loop-item-test.true c.item-item.is
      c.loop-item.invariant.names (c.in_ok-add_shaped.ensures.put ∙ ap (λ (x : Bytes). names_in c.loop-item.arrays ++ array_names (record { name = x; dimensions = c.as_slice-in-loop-item.result.now } ∷ [])) c.as_slice.ensures ∙ ap (λ (ds : List WrittenDimension). names_in c.loop-item.arrays ++ array_names (record { name = c.item-item.result.name; dimensions = ds } ∷ [])) c.as_slice-in-loop-item.ensures);
}

pub returns : goal.returns
returns c = record {
  put = each_end (λ ds. array_names (map shape_of_array ds)) (λ (d : ArrayDeclarator). array_names (record { name = d.name; dimensions = d.dimensions } ∷ [])) shaped_none c.args.items.now c.loop-item.item-index _ _ (omega arith) c.loop-item.invariant.names;
  is_set = c.loop-item.invariant.is_set;
}
