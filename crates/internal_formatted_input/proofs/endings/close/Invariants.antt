use Rattle.formatted_output.proofs.PlaceLaws.{edits_behind}
use Rattle.internal_output.specs.Files.{file_of}
use Rattle.internal_formatted_input.proofs.CloseLaws.{Closing}
use Rattle.internal_formatted_input.proofs.endings.close.Given as goal

abbrev pub invariant-edits : goal.invariant-edits
invariant-edits l = Closing l.run l.format l.fn.walk l.walk (file_of l.fn.file) (file_of l.file) l.fn.record l.record

abbrev pub decreases-edits : goal.decreases-edits
decreases-edits l = edits_behind l.format l.walk
