use Rattle.piece_names.proofs.AskingLemmas.{there_is_none, taken_is_none, free_is_some}
use Rattle.piece_names.proofs.choosing.if_free.Goals as goal

pub returns-in-Ok-true-clause-free : goal.returns-in-Ok-true-clause-free
returns-in-Ok-true-clause-free g c =
    there_is_none (g.H.Shelf.state c.args.shelf.now).told c.args.taken.now c.args.name c.in-Ok-true.field-0 c.in-Ok-true.field-0-test
    c.in-Ok-true.ensures.asked.answer

pub returns-then-is_taken-clause-free : goal.returns-then-is_taken-clause-free
returns-then-is_taken-clause-free g c =
    taken_is_none (g.H.Shelf.state c.args.shelf.now).told c.args.taken.now c.args.name c.in-Ok-false.field-0 c.is_taken.result c.in-Ok-false.field-0-test
    c.in-Ok-false.ensures.asked.answer c.is_taken.ensures c.if-is_taken.true

pub returns-else-is_taken-clause-free : goal.returns-else-is_taken-clause-free
returns-else-is_taken-clause-free g c =
    free_is_some (g.H.Shelf.state c.args.shelf.now).told c.args.taken.now c.args.name c.in-Ok-false.field-0 c.is_taken.result c.in-Ok-false.field-0-test
    c.in-Ok-false.ensures.asked.answer c.is_taken.ensures c.if-is_taken.false
