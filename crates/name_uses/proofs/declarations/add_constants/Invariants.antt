use Rattle.std.proofs.Common.{◌≡◌, ◌++◌, drop}
use Rattle.f_tree.specs.Uses as written
use Rattle.f_tree.specs.Uses.{all_of, used, uses_of}
use Rattle.f_tree.specs.declared.statements.ConstantDefinition.{ConstantDefinition}
use Rattle.name_uses.specs.UsesSeen.{used_in}
use Rattle.name_uses.proofs.declarations.add_constants.Given as goal

abbrev pub invariant-loop-constant : goal.invariant-loop-constant
invariant-loop-constant l =
    used_in l.initial.uses.items ++ all_of (λ (d : ConstantDefinition). used d.name written.Declared ++ uses_of d.value) l.constants ≡ used_in l.uses.items ++ all_of (λ (d : ConstantDefinition). used d.name written.Declared ++ uses_of d.value) (drop l.constant-index l.constants)
