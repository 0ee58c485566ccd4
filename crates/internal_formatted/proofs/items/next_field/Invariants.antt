use Rattle.formatted_output.proofs.PlaceLaws.{edits_ahead}
use Rattle.internal_formatted.specs.Storing.{held}
use Rattle.internal_formatted.proofs.ReachLaws.{Going}
use Rattle.internal_formatted.proofs.items.next_field.Given as goal

abbrev pub invariant-edits : goal.invariant-edits
invariant-edits l = Going l.format l.fn.walk l.walk l.fn.sheet l.sheet (held l.fn.file l.fn.run) (held l.file l.run)

abbrev pub decreases-edits : goal.decreases-edits
decreases-edits l = edits_ahead l.format l.walk
