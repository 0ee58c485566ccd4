use Rattle.std.proofs.Common.{sym, subst, ◌∙◌}
use Rattle.fortran_text.specs.FirstFault.{FaultOfCards}
use Rattle.fortran_text.specs.StatementsOfFile.{file_cards}
use Rattle.cards.proofs.FaultLemmas.{IsFound}
use Rattle.cards.proofs.FirstLemmas.{included_found, rows_of, read_of_included, answer_sound, answer_read, answer_failed}
use Rattle.cards.proofs.reader.read_included.Goals as goal

pub returns-clause-sound : goal.returns-clause-sound
returns-clause-sound c =
    let bytes = c.args.bytes.now in
    let refused = c.args.opts.now.long_cards in
    let reading = c.in_ok-reading.reading in
    let found = included_found refused bytes reading.fault reading.too_long (rows_of c.args.file refused bytes reading c.in_ok-reading.ensures) (sym
    c.in_ok-reading.ensures.too_long) in
    answer_sound (FaultOfCards refused bytes) c.first_of_included.result _ c.answer.result c.answer.ensures.read (subst (IsFound (FaultOfCards refused bytes)) (sym
    c.first_of_included.ensures) found)

pub returns-clause-read : goal.returns-clause-read
returns-clause-read c =
    answer_read c.first_of_included.result _ (file_cards c.args.file c.args.bytes.now) c.answer.result c.answer.ensures.read
    (λ none. read_of_included c.args.file c.args.opts.now.long_cards c.args.bytes.now c.in_ok-reading.reading c.in_ok-reading.ensures (sym
    c.first_of_included.ensures ∙ none))

pub returns-clause-failed : goal.returns-clause-failed
returns-clause-failed c =
    let bytes = c.args.bytes.now in
    let refused = c.args.opts.now.long_cards in
    let reading = c.in_ok-reading.reading in
    let found = included_found refused bytes reading.fault reading.too_long (rows_of c.args.file refused bytes reading c.in_ok-reading.ensures) (sym
    c.in_ok-reading.ensures.too_long) in
    answer_failed (FaultOfCards refused bytes) c.args.file c.first_of_included.result c.answer.result c.answer.ensures.failed (subst (IsFound (FaultOfCards refused
    bytes)) (sym c.first_of_included.ensures) found)
