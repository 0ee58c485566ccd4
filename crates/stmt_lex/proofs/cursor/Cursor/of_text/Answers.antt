use Rattle.std.proofs.Common.{refl, arith}
use Rattle.fortran_text.specs.declared.characters.Standing.TheVariants.{Outside}
use Rattle.std.specs.Prelude.{None}
use Rattle.stmt_lex.specs.Cursors.{left_in}
use Rattle.stmt_lex.proofs.CursorLemmas.{written_short}
use Rattle.stmt_lex.proofs.cursor.Cursor.of_text.Goals as goal

pub invariant_of-result : goal.invariant_of-result
unfolding left_in
invariant_of-result c = record { short = written_short c.args.counts (Outside None) c.args.text.now (omega arith) }

pub returns : goal.returns
unfolding left_in
returns c = refl
