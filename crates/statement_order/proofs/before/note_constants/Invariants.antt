use Rattle.std.proofs.Common.{◌≡◌, ◌++◌, ◌||◌, ℕ, Bool, drop, map}
use Rattle.std.specs.List.{list_any}
use Rattle.f_tree.specs.declared.statements.ConstantDefinition.{ConstantDefinition}
use Rattle.name_table.specs.Named.{names_in, IsNameSet}
use Rattle.statement_order.specs.BeforeSteps.{first_passes}
use Rattle.statement_order.proofs.before.note_constants.Given as goal

abbrev pub invariant-loop-item : goal.invariant-loop-item
invariant-loop-item l = record {
  is_set : IsNameSet l.constants;
  names : names_in l.initial.constants ++ map (λ (d : ConstantDefinition). d.name) l.items ≡ names_in l.constants ++ map (λ (d : ConstantDefinition). d.name) (drop l.item-index l.items);
  letters : (p : ℕ → Bool) → (list_any p l.initial.letters.items || list_any (first_passes p) (map (λ (d : ConstantDefinition). d.name) l.items))
      ≡ (list_any p l.letters.items || list_any (first_passes p) (map (λ (d : ConstantDefinition). d.name) (drop l.item-index l.items)));
}
