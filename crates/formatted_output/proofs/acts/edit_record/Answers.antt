use Rattle.std.proofs.Common.{sym, ap, ◌∙◌, subst, List, ℕ, Ok}
use Rattle.edit_rules.specs.edit_meaning.Formats.{Literal}
use Rattle.edit_rules.specs.edit_meaning.EditedRecords.{with_control}
use Rattle.edit_rules.specs.PartPlaces.{edit_in, literal_of}
use Rattle.formatted_records.specs.Sheets.{Acts}
use Rattle.formatted_output.proofs.ActLaws.{same-control}
use Rattle.formatted_output.proofs.acts.edit_record.Goals as goal

pub returns-in-Literal : goal.returns-in-Literal
returns-in-Literal c control is inside page =
    same-control page _ control _ _ _ (sym (ap (edit_in c.args.format.now) c.in-Literal.is) ∙ is)
    (subst (λ (text : List ℕ). Acts page (with_control page (Literal (literal_of c.in-Literal.doubled text))) c.args.sheet.now c.put_literal.new.sheet c.put_literal.result)
    c.between.ensures (c.put_literal.ensures page))

pub returns-in-Column : goal.returns-in-Column
returns-in-Column c control is inside page =
    same-control page _ control _ _ _ (sym (ap (edit_in c.args.format.now) c.in-Column.is) ∙ is) (c.to_column.ensures page)

pub returns-in-Left : goal.returns-in-Left
returns-in-Left c control is inside page = same-control page _ control _ _ _ (sym (ap (edit_in c.args.format.now) c.in-Left.is) ∙ is) (c.left_by.ensures page)

pub returns-in-Right : goal.returns-in-Right
returns-in-Right c control is inside page = same-control page _ control _ _ _ (sym (ap (edit_in c.args.format.now) c.in-Right.is) ∙ is) (c.right_by.ensures page)

pub returns-in-ShowPlus : goal.returns-in-ShowPlus
returns-in-ShowPlus c control is inside page = same-control page _ control c.args.sheet.now c.plus_signs.new.self (Ok tt) (sym (ap (edit_in c.args.format.now) c.in-ShowPlus.is) ∙ is) (c.plus_signs.ensures page)
