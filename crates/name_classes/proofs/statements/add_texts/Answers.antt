use Rattle.std.proofs.Common.{List, ◌++◌, ◌∷◌, [], map, refl, sym, ap, ◌∙◌, arith}
use Rattle.name_uses.proofs.found_rows.Walks.{each_more, each_end}
use Rattle.f_tree.specs.Values.{Bytes}
use Rattle.name_table.specs.Named.{names_in}
use Rattle.name_classes.proofs.statements.add_texts.Goals as goal

pub loop-item-preserved : goal.loop-item-preserved
loop-item-preserved c = record {
  is_set = c.in_ok-add.ensures.is_set;
  put =
      each_more (λ (xs : List Bytes). xs) (λ (x : Bytes). x ∷ []) (λ x xs. refl) c.args.items.now c.loop-item.item-index c.item-item.result _ _ _ _ c.loop-item-test.true c.item-item.is
      c.loop-item.invariant.put (c.in_ok-add.ensures.names ∙ ap (λ (x : Bytes). names_in c.loop-item.names ++ x ∷ []) c.as_slice.ensures);
}

pub returns : goal.returns
returns c = record {
  put = each_end (λ (xs : List Bytes). xs) (λ (x : Bytes). x ∷ []) refl c.args.items.now c.loop-item.item-index _ _ (omega arith) c.loop-item.invariant.put;
  is_set = c.loop-item.invariant.is_set;
}
