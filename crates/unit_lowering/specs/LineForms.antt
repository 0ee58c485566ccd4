-- How a statement stands to the blocks and the loops of its unit. ANSI X3.9-1978, sections 11.6 to 11.10; MIL-STD-1753 for DO WHILE.
use Rattle.std.specs.Prelude.{ℕ, List, Option, Some, None, slice_get}
use Rattle.f_tree.specs.declared.statements.Body.{Body}
use Rattle.f_tree.specs.declared.statements.Body.TheOpen as body
use Rattle.f_tree.specs.declared.statements.LoopControl.{LoopControl}
use Rattle.f_tree.specs.declared.statements.Stmt.{Stmt}
use Rattle.f_tree.specs.Folds.{layer_of}
use Rattle.f_tree.specs.Facts.{Mark, Plain, Opens, Arm, Closes}
use Rattle.unit_lowering.specs.declared.forms.ArmForm.{ArmForm}
use Rattle.unit_lowering.specs.declared.forms.ArmForm.TheVariants as arm
use Rattle.unit_lowering.specs.declared.forms.LoopForm.{LoopForm}
use Rattle.unit_lowering.specs.declared.forms.LoopForm.TheVariants as form

-- a statement in the nest of IF blocks
unfoldable pub mark_by : ArmForm → Mark
mark_by arm.Plain = Plain
mark_by arm.Opens = Opens
mark_by arm.Arm = Arm
mark_by arm.Closes = Closes

-- the loop that a statement begins
unfoldable pub form_in : Body → LoopForm
form_in b = elim (layer_of b) [ body.Do label control ↦ form.Counted | body.DoWhile label e ↦ form.Tested | _ ↦ form.Other ]

-- the control of a DO statement; another statement has none
unfoldable pub control_in : Body → Option LoopControl
control_in b = elim (layer_of b) [ body.Do label control ↦ Some control | _ ↦ None ]

unfoldable pub control_of_line : Option Stmt → Option LoopControl
control_of_line None = None
control_of_line (Some s) = control_in s.body

unfoldable pub control_at : List Stmt → ℕ → Option LoopControl
control_at ss i = control_of_line (slice_get ss i)

unfoldable pub line_forms_opened : Unit {0}
unfolding mark_by form_in control_in control_of_line control_at
line_forms_opened = tt
