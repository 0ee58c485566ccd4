use Rattle.internal_output.proofs.FileLaws.{Blanks}
use Rattle.internal_output.proofs.files.put_blanks.Given as goal

-- the blanks so far are stored, and the others come behind them
abbrev pub invariant-loop-left : goal.invariant-loop-left
invariant-loop-left l = Blanks l.object l.fn.at l.place l.count l.left l.fn.run l.run

abbrev pub decreases-loop-left : goal.decreases-loop-left
decreases-loop-left l = l.left
