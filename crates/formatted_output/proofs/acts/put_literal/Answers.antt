use Rattle.std.proofs.Common.{Bool, sym, subst}
use Rattle.edit_rules.specs.edit_meaning.Formats.{Literal}
use Rattle.edit_rules.specs.edit_meaning.EditedRecords.{with_control}
use Rattle.edit_rules.specs.PartPlaces.{literal_of}
use Rattle.formatted_records.specs.Sheets.{Acts}
use Rattle.formatted_output.proofs.acts.put_literal.Goals as goal

pub returns-then-doubled : goal.returns-then-doubled
returns-then-doubled c page =
    subst (λ (doubled : Bool). Acts page (with_control page (Literal (literal_of doubled c.args.text.now))) c.args.sheet.now c.put_quoted.new.sheet c.put_quoted.result)
    (sym c.if-doubled.true) (c.put_quoted.ensures page)
