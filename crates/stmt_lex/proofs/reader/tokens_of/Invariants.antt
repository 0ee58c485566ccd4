use Rattle.std.proofs.Common.{◌≡◌, ◌++◌, ◌-◌, ◌≤◌, drop, length}
use Rattle.fortran_lexemes.specs.PiecesOfStatements.{pieces_from}
use Rattle.fortran_lexemes.specs.declared.modes.Mode.TheVariants.{Begins}
use Rattle.stmt_lex.specs.SeenTokens.{seen}
use Rattle.stmt_lex.proofs.reader.tokens_of.Given as goal

abbrev pub invariant-loop : goal.invariant-loop
invariant-loop l = record {
  start : pieces_from (length l.text) (Begins l.fn.kind) l.text ≡ seen l.text l.found ++ pieces_from (length l.text - l.counter) l.mode (drop l.at l.text);
  within : l.at ≤ length l.text;
}
