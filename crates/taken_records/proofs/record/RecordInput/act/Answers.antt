use Rattle.std.proofs.Common.{ap, sym, ◌∙◌, ◌-◌, take, drop}
use Rattle.std.specs.Prelude.{Ok}
use Rattle.edit_rules.specs.PartPlaces.{edit_in, literal_of}
use Rattle.taken_records.proofs.FieldLaws.{same-control}
use Rattle.taken_records.proofs.record.RecordInput.act.Goals as goal

pub returns-in-Literal : goal.returns-in-Literal
returns-in-Literal c text control is inside = same-control _ control _ _ _ (sym (ap (edit_in text) c.in-Literal.is) ∙ is) (c.literal.ensures (literal_of c.in-Literal.doubled (take (c.in-Literal.to - c.in-Literal.from) (drop c.in-Literal.from text))))

pub returns-in-Column : goal.returns-in-Column
returns-in-Column c text control is inside = same-control _ control _ _ _ (sym (ap (edit_in text) c.in-Column.is) ∙ is) c.to_column.ensures

pub returns-in-Left : goal.returns-in-Left
returns-in-Left c text control is inside = same-control _ control _ _ _ (sym (ap (edit_in text) c.in-Left.is) ∙ is) c.left_by.ensures

pub returns-in-Right : goal.returns-in-Right
returns-in-Right c text control is inside = same-control _ control _ _ _ (sym (ap (edit_in text) c.in-Right.is) ∙ is) c.right_by.ensures

pub returns-in-ZeroBlanks : goal.returns-in-ZeroBlanks
returns-in-ZeroBlanks c text control is inside =
    same-control _ control c.args.self.now c.zero_blanks.new.self (Ok tt) (sym (ap (edit_in text) c.in-ZeroBlanks.is) ∙ is) c.zero_blanks.ensures
