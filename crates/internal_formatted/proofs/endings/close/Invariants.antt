use Rattle.formatted_output.proofs.PlaceLaws.{edits_behind}
use Rattle.internal_formatted.specs.Storing.{held}
use Rattle.internal_formatted.proofs.CloseLaws.{Closing}
use Rattle.internal_formatted.proofs.endings.close.Given as goal

abbrev pub invariant-edits : goal.invariant-edits
invariant-edits l = Closing l.format l.fn.walk l.walk l.fn.sheet l.sheet (held l.fn.file l.fn.run) (held l.file l.run)

abbrev pub decreases-edits : goal.decreases-edits
decreases-edits l = edits_behind l.format l.walk
