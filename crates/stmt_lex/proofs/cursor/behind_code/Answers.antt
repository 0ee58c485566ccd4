use Rattle.std.proofs.Common.{sym, ◌∙◌, arith}
use Rattle.fortran_text.specs.CharactersOfText.{after}
use Rattle.stmt_lex.specs.Cursors.{left_in}
use Rattle.stmt_lex.proofs.CursorLemmas.{chosen_two, chosen_one, capped_from}
use Rattle.stmt_lex.proofs.cursor.behind_code.Goals as goal

pub returns-then-shows_two : goal.returns-then-shows_two
unfolding left_in
returns-then-shows_two c = chosen_two _ _ _ (sym c.shows_two.ensures ∙ c.if-shows_two.true)

pub returns-else-shows_two : goal.returns-else-shows_two
unfolding left_in
returns-else-shows_two c = chosen_one _ _ _ _ (sym c.shows_two.ensures ∙ c.if-shows_two.false) (capped_from c.args.counts (after c.args.counts c.args.standing c.args.c) c.after.result c.args.behind.now (omega arith) c.after.ensures)
