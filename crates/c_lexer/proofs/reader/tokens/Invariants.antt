use Rattle.std.proofs.Common.{length}
use Rattle.c_lexer.proofs.ReaderLemmas.{Reads}
use Rattle.c_lexer.proofs.reader.tokens.Given as goal

abbrev pub invariant-loop-rest : goal.invariant-loop-rest
invariant-loop-rest l = Reads l.fn.bytes l.found l.line l.alone l.known l.rest

abbrev pub decreases-loop-rest : goal.decreases-loop-rest
decreases-loop-rest l = length l.rest
