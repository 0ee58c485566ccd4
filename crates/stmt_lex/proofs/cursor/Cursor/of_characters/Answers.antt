use Rattle.std.proofs.Common.{refl, arith}
use Rattle.stmt_lex.specs.Cursors.{left_in}
use Rattle.stmt_lex.proofs.CursorLemmas.{squeezed_short}
use Rattle.stmt_lex.proofs.cursor.Cursor.of_characters.Goals as goal

pub invariant_of-result : goal.invariant_of-result
unfolding left_in
invariant_of-result c = record { short = squeezed_short c.args.text.now (omega arith) }

pub returns : goal.returns
unfolding left_in
returns c = refl
