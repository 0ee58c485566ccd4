use Rattle.c_lexer.proofs.StringLemmas.{Stands}
use Rattle.c_lexer.proofs.strings.string_end.Given as goal

abbrev pub invariant-loop-at : goal.invariant-loop-at
invariant-loop-at l = Stands l.text l.bytes l.awaited l.at
