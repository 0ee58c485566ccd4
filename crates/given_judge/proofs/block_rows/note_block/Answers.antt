use Rattle.std.proofs.Common.{sym, ◌∙◌}
use Rattle.name_places.proofs.NoteLemmas.{notes_old, then_new}
use Rattle.given_judge.proofs.block_rows.note_block.Goals as goal

pub returns-in-Some : goal.returns-in-Some
returns-in-Some c = notes_old c.args.at _ _ _ (sym c.get.ensures ∙ c.in-Some.is)

pub returns-in-None : goal.returns-in-None
returns-in-None c = then_new c.put.result c.args.at _ _ _ (sym c.get.ensures ∙ c.in-None.is) c.put.ensures
