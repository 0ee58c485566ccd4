use Rattle.std.proofs.Common.{◌≡◌, ◌++◌, drop}
use Rattle.f_tree.specs.Uses.{all_of, uses_of_value}
use Rattle.f_tree.specs.declared.statements.Control.{Control}
use Rattle.name_uses.specs.UsesSeen.{used_in}
use Rattle.name_uses.proofs.statements.add_controls.Given as goal

abbrev pub invariant-loop-control : goal.invariant-loop-control
invariant-loop-control l =
    used_in l.initial.uses.items ++ all_of (λ (c : Control). uses_of_value c.value) l.controls ≡ used_in l.uses.items ++ all_of (λ (c : Control). uses_of_value c.value) (drop l.control-index l.controls)
