use Rattle.std.proofs.Common.{◌≡◌, sym, ap, subst, ◌∙◌, None}
use Rattle.fortran_text.specs.FirstFault.{too_long, unended, FaultOfFile}
use Rattle.fortran_text.specs.StatementsOfFile.{file_cards}
use Rattle.cards.proofs.FaultLemmas.{IsFound}
use Rattle.cards.proofs.FirstLemmas.{file_found, rows_of, last_of_file, read_of_file, answer_sound, answer_read, answer_failed}
use Rattle.cards.proofs.reader.read_cards.Goals as goal

pub returns-clause-sound : goal.returns-clause-sound
returns-clause-sound c =
    let bytes = c.args.bytes.now in
    let refused = c.args.opts.now.long_cards in
    let reading = c.in_ok-reading.reading in
    let end_is = c.unended-end.ensures ∙ ap unended c.as_slice.ensures in
    let last = λ (within : too_long bytes ≡ None). last_of_file c.args.file bytes reading.statements c.in_ok-reading.ensures.statements within ∙ sym end_is in
    let found = file_found refused bytes reading.fault reading.too_long c.unended-end.result (rows_of c.args.file refused bytes reading c.in_ok-reading.ensures) (sym
    c.in_ok-reading.ensures.too_long) last in
    answer_sound (FaultOfFile refused bytes) c.first_of_file.result _ c.answer.result c.answer.ensures.read (subst (IsFound (FaultOfFile refused bytes)) (sym
    c.first_of_file.ensures) found)

pub returns-clause-read : goal.returns-clause-read
returns-clause-read c =
    let bytes = c.args.bytes.now in
    let reading = c.in_ok-reading.reading in
    answer_read c.first_of_file.result _ (file_cards c.args.file bytes) c.answer.result c.answer.ensures.read
    (λ none. read_of_file c.args.file c.args.opts.now.long_cards bytes reading c.unended-end.result c.in_ok-reading.ensures (sym c.first_of_file.ensures ∙ none))

pub returns-clause-failed : goal.returns-clause-failed
returns-clause-failed c =
    let bytes = c.args.bytes.now in
    let refused = c.args.opts.now.long_cards in
    let reading = c.in_ok-reading.reading in
    let end_is = c.unended-end.ensures ∙ ap unended c.as_slice.ensures in
    let last = λ (within : too_long bytes ≡ None). last_of_file c.args.file bytes reading.statements c.in_ok-reading.ensures.statements within ∙ sym end_is in
    let found = file_found refused bytes reading.fault reading.too_long c.unended-end.result (rows_of c.args.file refused bytes reading c.in_ok-reading.ensures) (sym
    c.in_ok-reading.ensures.too_long) last in
    answer_failed (FaultOfFile refused bytes) c.args.file c.first_of_file.result c.answer.result c.answer.ensures.failed (subst (IsFound (FaultOfFile refused bytes))
    (sym c.first_of_file.ensures) found)
