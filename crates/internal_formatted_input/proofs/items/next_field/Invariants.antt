use Rattle.formatted_output.proofs.PlaceLaws.{edits_ahead}
use Rattle.internal_output.specs.Files.{file_of}
use Rattle.internal_formatted_input.proofs.ReachLaws.{Going}
use Rattle.internal_formatted_input.proofs.items.next_field.Given as goal

abbrev pub invariant-edits : goal.invariant-edits
invariant-edits l = Going l.run l.format l.fn.walk l.walk (file_of l.fn.file) (file_of l.file) l.fn.record l.record

abbrev pub decreases-edits : goal.decreases-edits
decreases-edits l = edits_ahead l.format l.walk
