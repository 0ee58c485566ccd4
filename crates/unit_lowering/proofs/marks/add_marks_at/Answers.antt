use Rattle.std.proofs.Common.{map, sym, ap, ◌∙◌}
use Rattle.std.specs.Option.{option_copied}
use Rattle.lowered_text.specs.Texts.{marked_of}
use Rattle.unit_lowering.proofs.MarkLemmas.{line_at-no_statement, line_at-no_place}
use Rattle.unit_lowering.proofs.marks.add_marks_at.Goals as goal

pub returns-in-Some-None : goal.returns-in-Some-None
returns-in-Some-None c =
    line_at-no_place c.args.once c.args.statements.now c.args.places.now c.args.at (map marked_of c.args.marks.now.items) (sym (ap option_copied c.in-Some-None.is-1) ∙ c.place_at.ensures)

pub returns-in-None-default : goal.returns-in-None-default
returns-in-None-default c =
    line_at-no_statement c.args.once c.args.statements.now c.args.places.now c.args.at (map marked_of c.args.marks.now.items) (sym (ap option_copied c.in-None-default.is-0) ∙ c.statement_at.ensures)
