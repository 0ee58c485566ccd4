-- A unit that is lowered has the text of the steps of its statements.
use Rattle.std.specs.Prelude.{◌≡◌, Bool, true, false, List, Option, Some, None, if◌then◌else◌}
use Rattle.lowering.specs.l_core.f_tree.Facts.{Facts}
use Rattle.lowering.specs.l_core.Steps.{Step, Text}
use Rattle.lowering.specs.Units.{lines_code, text_with, calls_well, if_called_well, lowered_unit}

text_if : (c : Facts) (u : Text) (steps : List Step) (well : Bool) → text_with c (if well then Some steps else None) ≡ Some u → text_with c (Some steps) ≡ Some u
unfolding text_with
text_if c u steps true e = e
text_if c u steps false e = absurd (cc)

text_by : (c : Facts) (u : Text) (x : Option (List Step)) → text_with c (if_called_well x) ≡ Some u → text_with c x ≡ Some u
unfolding if_called_well
text_by c u None e = e
text_by c u (Some steps) e = text_if c u steps (calls_well steps) e

pub text_lowered : (c : Facts) (u : Text) → lowered_unit c ≡ Some u → text_with c (lines_code c.program 0 c.program.lines) ≡ Some u
unfolding lowered_unit
text_lowered c u e = text_by c u (lines_code c.program 0 c.program.lines) e
