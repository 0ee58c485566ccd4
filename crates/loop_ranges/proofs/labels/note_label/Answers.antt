use Rattle.std.proofs.Common.{sym, ◌∙◌}
use Rattle.found_rows.proofs.Walks.{then_ok}
use Rattle.name_table.specs.Named.{labelled}
use Rattle.loop_ranges.proofs.LabelLemmas.{kept_at, put_at}
use Rattle.loop_ranges.proofs.labels.note_label.Goals as goal

pub returns-in-Some : goal.returns-in-Some
returns-in-Some c = λ l. kept_at (labelled c.args.places.now) c.args.label l c.args.place _ (sym c.get.ensures ∙ c.in-Some.is)

pub returns-in-None : goal.returns-in-None
returns-in-None c =
    then_ok _ _ c.put.result
    (λ put l. put_at (labelled c.args.places.now) (labelled c.put.new.self) c.args.label l c.args.place (sym c.get.ensures ∙ c.in-None.is) put) c.put.ensures
