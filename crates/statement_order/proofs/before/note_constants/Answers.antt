use Rattle.std.proofs.Common.{◌||◌, ◌++◌, ◌∷◌, [], map, refl, sym, ap, ◌∙◌, arith}
use Rattle.std.specs.List.{list_any}
use Rattle.std.proofs.lemmas.List.{drop_all}
use Rattle.found_rows.proofs.Walks.{comes_on, each_more, each_end}
use Rattle.f_tree.specs.Values.{Bytes}
use Rattle.f_tree.specs.declared.statements.ConstantDefinition.{ConstantDefinition}
use Rattle.name_table.specs.Named.{names_in}
use Rattle.statement_order.specs.BeforeSteps.{first_passes}
use Rattle.statement_order.proofs.UseSets.{or_false, or_along}
use Rattle.statement_order.proofs.before.note_constants.Goals as goal

pub loop-item-preserved : goal.loop-item-preserved
loop-item-preserved c =
    let d = c.item-item.result in
    let names = names_in c.loop-item.constants in
    record {
      is_set = c.in_ok-add.ensures.is_set;
      names = each_more (λ ds. map (λ (e : ConstantDefinition). e.name) ds) (λ (e : ConstantDefinition). e.name ∷ []) (λ e ds. refl) c.args.items.now c.loop-item.item-index d _ _ _ _
          c.loop-item-test.true c.item-item.is c.loop-item.invariant.names
          (c.in_ok-add.ensures.names ∙ ap (λ (x : Bytes). names ++ x ∷ []) c.as_slice.ensures);
      letters = λ p.
          comes_on (λ b ds. b || list_any (first_passes p) (map (λ (e : ConstantDefinition). e.name) ds)) (λ b (e : ConstantDefinition). b || first_passes p e.name)
          (λ b e ds. or_along b (first_passes p e.name) (list_any (first_passes p) (map (λ (e : ConstantDefinition). e.name) ds))) c.args.items.now c.loop-item.item-index d _
          (list_any p c.loop-item.letters.items) _ _ c.loop-item-test.true c.item-item.is (c.loop-item.invariant.letters p)
          (c.in_ok-note_letter.ensures p ∙ ap (λ (x : Bytes). list_any p c.loop-item.letters.items || first_passes p x) c.as_slice-in-loop-item.ensures);
    }

pub returns-clause-names : goal.returns-clause-names
returns-clause-names c = record {
  put = each_end (λ ds. map (λ (e : ConstantDefinition). e.name) ds) (λ (e : ConstantDefinition). e.name ∷ []) refl c.args.items.now c.loop-item.item-index _ _ (omega arith)
      c.loop-item.invariant.names;
  is_set = c.loop-item.invariant.is_set;
}

pub returns-clause-letters : goal.returns-clause-letters
returns-clause-letters c = λ p.
    sym
    (c.loop-item.invariant.letters p
    ∙ ap (λ ds. list_any p c.loop-item.letters.items || list_any (first_passes p) (map (λ (e : ConstantDefinition). e.name) ds)) (drop_all c.loop-item.item-index c.args.items.now (omega arith))
    ∙ sym (or_false (list_any p c.loop-item.letters.items)))
