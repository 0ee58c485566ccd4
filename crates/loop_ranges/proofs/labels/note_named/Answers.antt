use Rattle.std.proofs.Common.{is_some}
use Rattle.found_rows.proofs.Walks.{then_ok}
use Rattle.name_table.specs.Named.{labelled}
use Rattle.loop_ranges.proofs.LabelLemmas.{named_some, named_none}
use Rattle.loop_ranges.proofs.labels.note_named.Goals as goal

pub returns-in-Some : goal.returns-in-Some
returns-in-Some c =
    then_ok _ _ c.put.result
    (λ put l. named_some c.args.label c.in-Some.label l (labelled c.args.named.now l) (labelled c.put.new.self l) c.in-Some.is (put l)) c.put.ensures

pub returns-in-None : goal.returns-in-None
returns-in-None c = λ l. named_none c.args.label l (is_some (labelled c.args.named.now l)) c.in-None.is
