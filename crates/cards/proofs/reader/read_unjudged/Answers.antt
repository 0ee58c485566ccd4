use Rattle.std.proofs.Common.{sym, ◌∙◌}
use Rattle.fortran_text.specs.StatementsOfFile.{file_cards}
use Rattle.cards.proofs.FirstLemmas.{read_of_unjudged, answer_read}
use Rattle.cards.proofs.reader.read_unjudged.Goals as goal

pub returns-clause-read : goal.returns-clause-read
returns-clause-read c =
    answer_read c.at_limit.result _ (file_cards c.args.file c.args.bytes.now) c.answer.result c.answer.ensures.read
    (λ none. read_of_unjudged c.args.file _ c.args.bytes.now c.in_ok-reading.reading c.in_ok-reading.ensures (sym c.at_limit.ensures ∙ none))
