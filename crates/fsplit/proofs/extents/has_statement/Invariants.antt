use Rattle.std.proofs.Common.{◌≡◌, length}
use Rattle.std.specs.List.{list_any}
use Rattle.fortran_text.specs.Lines.{lines}
use Rattle.split_pieces.specs.Pieces.{is_initial}
use Rattle.fsplit.proofs.extents.has_statement.Given as goal

abbrev pub invariant-loop-rest : goal.invariant-loop-rest
invariant-loop-rest l = list_any is_initial (lines l.fn.text) ≡ list_any is_initial (lines l.rest)

abbrev pub decreases-loop-rest : goal.decreases-loop-rest
decreases-loop-rest l = length l.rest
