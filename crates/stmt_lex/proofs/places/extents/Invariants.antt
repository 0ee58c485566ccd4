use Rattle.std.proofs.Common.{◌≡◌, ◌++◌, ◌-◌, ◌≤◌, drop, length}
use Rattle.fortran_lexemes.specs.declared.modes.Mode.TheVariants.{Begins}
use Rattle.stmt_lex.specs.PlacesOfTokens.{extents_from}
use Rattle.stmt_lex.proofs.places.extents.Given as goal

abbrev pub invariant-loop : goal.invariant-loop
invariant-loop l = record {
  start : extents_from (length l.text) (Begins l.fn.kind) 0 l.text ≡ l.found ++ extents_from (length l.text - l.counter) l.mode l.at (drop l.at l.text);
  within : l.at ≤ length l.text;
}
