-- When the data of a translator stand for the lowered text of a unit. ANSI X3.9-1978, sections 3.5, 4.1, 11 and 15.
use Rattle.std.specs.Prelude.{◌≡◌, ℕ, nat_eq, Option, Some, None, map, if◌then◌else◌}
use Rattle.std.specs.HashMap.{get_by}
use Rattle.f_tree.specs.declared.names.Basic.{Basic}
use Rattle.lowered_tree.specs.l_core.Steps as core
use Rattle.lowered_tree.specs.Shapes.{steps_of}
use Rattle.lowered_text.specs.declared.text.Mark.{Mark}
use Rattle.lowered_text.specs.declared.text.Mark.TheVariants as mark
use Rattle.lowered_text.specs.declared.text.Marked.{Marked}
use Rattle.lowered_text.specs.declared.text.LoweredText.{LoweredText}
use Rattle.lowered_text.specs.declared.kept.Kept.{Kept}

unfoldable pub mark_of : Mark → core.Mark
mark_of (mark.Card card) = core.Card card
mark_of mark.OpensLoop = core.OpensLoop
mark_of mark.OpensLoopOnce = core.OpensLoopOnce
mark_of mark.ClosesLoop = core.ClosesLoop
mark_of mark.OpensWhile = core.OpensWhile
mark_of mark.ClosesWhile = core.ClosesWhile
mark_of mark.OpensArm = core.OpensArm
mark_of mark.NextArm = core.NextArm
mark_of mark.ClosesArm = core.ClosesArm

unfoldable pub marked_of : Marked → core.Marked
marked_of m = record { at = m.at; mark = mark_of m.mark }

-- the steps, the marks, and where each label stands
pub record IsText (t : LoweredText) (u : core.Text) : Type 0 where
  pub steps : steps_of t.steps.items ≡ u.steps
  pub marks : map marked_of t.marks.items ≡ u.marks
  pub labels : (label : ℕ) → get_by (nat_eq label) t.labels ≡ u.position label

-- the type of what a temporary holds, where one alone may keep a value
unfoldable pub kinds_of : Option Kept → ℕ → Option Basic
kinds_of None k = None
kinds_of (Some kept) k = if nat_eq k kept.temporary then Some kept.basic else None

unfoldable pub texts_opened : Unit {0}
unfolding mark_of marked_of kinds_of
texts_opened = tt
