-- How statements stand to loops, as the code has it.
use Rattle.std.specs.Prelude.{ℕ, List, [], ◌∷◌, Option, Some, None}
use Rattle.f_tree.specs.declared.statements.Body.{Body}
use Rattle.f_tree.specs.declared.statements.Body.TheOpen as body
use Rattle.f_tree.specs.Folds.{layer_of}
use Rattle.loop_ranges.specs.declared.forms.LoopForm.{LoopForm}
use Rattle.loop_ranges.specs.declared.forms.LoopForm.TheVariants as form

unfoldable pub begun_by : Option ℕ → LoopForm
begun_by (Some label) = form.ToLabel label
begun_by None = form.ToEndDo

unfoldable pub form_of : Body → LoopForm
form_of b = elim (layer_of b) [
  | body.Do label control ↦ begun_by label
  | body.DoWhile label e ↦ begun_by label
  | body.EndDo ↦ form.EndDo
  | _ ↦ form.Other
]

-- the label that a DO names
unfoldable pub named_label : LoopForm → List ℕ
named_label (form.ToLabel label) = label ∷ []
named_label _ = []
