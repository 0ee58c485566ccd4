-- Which steps fit into memory, each by itself. ANSI X3.9-1978, sections 3.4, 10.3, 11.12 and 15.5.
use Rattle.std.specs.Prelude.{◌≡◌, suc, ◌^◌, nat_lt, Bool, true, ◌&&◌}
use Rattle.lowered_tree.specs.l_core.Steps.{Step, Keep, Compute, CallFor, Jump, Way, Text}
use Rattle.lowered_text.specs.declared.text.LoweredText.{LoweredText}
use Rattle.lowered_text.specs.Texts.{IsText}
use Rattle.translated_forms.specs.TranslatedForms.{stop_fits}
use Rattle.translated_files.specs.TranslatedFiles.{text_fits}

-- the temporaries up to the one that gets a value can be counted
unfoldable pub keep_fits : Step → Bool
keep_fits (Keep k p) = nat_lt (suc k) (2 ^ 64)
keep_fits (Compute k f ps) = nat_lt (suc k) (2 ^ 64)
keep_fits (CallFor k callee ps) = nat_lt (suc k) (2 ^ 64)
keep_fits st = true

-- the label to which it goes is a number
unfoldable pub jump_fits : Step → Bool
jump_fits (Jump label) = nat_lt label (2 ^ 64)
jump_fits (Way label) = nat_lt label (2 ^ 64)
jump_fits st = true

unfoldable pub step_fits : Step → Bool
step_fits st = keep_fits st && (jump_fits st && stop_fits st)

-- whether a lowered text fits, whatever the unit is of which it is the text
pub record FitsIf (t : LoweredText) (b : Bool) : Type 0 where
  pub is : (u : Text) → IsText t u → b ≡ text_fits u

unfoldable pub fitting_steps_opened : Unit {0}
unfolding keep_fits jump_fits step_fits
fitting_steps_opened = tt
