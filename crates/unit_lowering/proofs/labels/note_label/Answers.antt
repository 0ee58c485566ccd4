use Rattle.std.proofs.Common.{nat_eq}
use Rattle.std.specs.HashMap.{get_by}
use Rattle.statement_places.proofs.loop_ranges.LabelLemmas.{place_noted, place_none}
use Rattle.unit_lowering.proofs.Appending.{then_ok}
use Rattle.unit_lowering.proofs.labels.note_label.Goals as goal

pub returns-in-Some : goal.returns-in-Some
returns-in-Some c =
    then_ok _ _ c.note_start.result
    (λ put l. place_noted (get_by (nat_eq l) c.args.labels.now) (get_by (nat_eq l) c.note_start.new.labels) c.args.label c.in-Some.label l c.args.start c.in-Some.is (put l))
    c.note_start.ensures

pub returns-in-None : goal.returns-in-None
returns-in-None c = λ l. place_none (get_by (nat_eq l) c.args.labels.now) c.args.label l c.args.start c.in-None.is
