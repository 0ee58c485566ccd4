use Rattle.std.proofs.Common.{length}
use Rattle.c_lexer.proofs.PartLemmas.{InComment}
use Rattle.c_lexer.proofs.spans.comment_end.Given as goal

abbrev pub invariant-loop-rest : goal.invariant-loop-rest
invariant-loop-rest l = InComment l.fn.text l.passed l.rest

abbrev pub decreases-loop-rest : goal.decreases-loop-rest
decreases-loop-rest l = length l.rest
