use Rattle.found_rows.proofs.Walks.{then_ok}
use Rattle.name_table.specs.Named.{labelled}
use Rattle.loop_ranges.proofs.LabelLemmas.{place_noted, place_none}
use Rattle.loop_ranges.proofs.labels.note_place.Goals as goal

pub returns-in-Some : goal.returns-in-Some
returns-in-Some c =
    then_ok _ _ c.note_label.result
    (λ put l. place_noted (labelled c.args.places.now l) (labelled c.note_label.new.places l) c.args.label c.in-Some.label l c.args.place c.in-Some.is (put l)) c.note_label.ensures

pub returns-in-None : goal.returns-in-None
returns-in-None c = λ l. place_none (labelled c.args.places.now l) c.args.label l c.args.place c.in-None.is
