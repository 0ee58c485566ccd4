use Rattle.std.proofs.Common.{nat_eq, sym, ap, ◌∙◌}
use Rattle.std.specs.HashMap.{get_by}
use Rattle.std.specs.Option.{option_copied}
use Rattle.unit_lowering.proofs.LabelStartLemmas.{start_at-no_statement, start_at-no_place}
use Rattle.unit_lowering.proofs.labels.note_label_at.Goals as goal

pub returns-in-Some-None : goal.returns-in-Some-None
returns-in-Some-None c = λ l.
    start_at-no_place l c.args.statements.now c.args.places.now c.args.at (get_by (nat_eq l) c.args.labels.now) (sym (ap option_copied c.in-Some-None.is-1) ∙ c.place_at.ensures)

pub returns-in-None-default : goal.returns-in-None-default
returns-in-None-default c = λ l.
    start_at-no_statement l c.args.statements.now c.args.places.now c.args.at (get_by (nat_eq l) c.args.labels.now) (sym (ap option_copied c.in-None-default.is-0) ∙ c.statement_at.ensures)
