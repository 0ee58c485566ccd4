-- What a format gives behind the last item, and the last record (ANSI X3.9-1978, 12.9.5.2 and 13.3).
use Rattle.std.specs.Prelude.{◌≡◌, ℕ, ℤ, List, [], ◌++◌, None, Result, Ok, Err}
use Rattle.edit_rules.specs.edit_meaning.Formats as formats
use Rattle.edit_rules.specs.edit_meaning.Formats.{closing}
use Rattle.edit_rules.specs.edit_meaning.EditedRecords.{Output, unit_sheet, output, output_closed}
use Rattle.edit_rules.specs.edit_meaning.Transfers.{edited}
use Rattle.edit_rules.specs.declared.format_walk.FormatWalk.{FormatWalk}
use Rattle.edit_rules.specs.Walks.{Stands}
use Rattle.f2c_outside.specs.Table.{Row}
use Rattle.listed_output.specs.Writing.{Writes}
use Rattle.formatted_records.specs.declared.sheet.RecordSheet.{RecordSheet}
use Rattle.formatted_records.specs.Sheets.{StandsOn, shown}
use Rattle.formatted_output.specs.declared.acts.Stop.{Stop}
use Rattle.formatted_output.specs.Acting.{writing, StopsBy, Comes}

-- the edits behind the last item are done
pub record Closes (text : List ℕ) (walk : FormatWalk) (unit : ℤ) (old new : RecordSheet) (rows rows' : List Row) (result : Result (Unit {0}) Stop) : Type 0 where
  pub lines : List (List ℕ)
  pub writes : Writes unit lines rows rows' (writing result)
  pub comes : (again rest : List formats.Edit) → Stands text again walk rest → (complete : List (List ℕ)) → StandsOn unit_sheet complete old →
      Comes (edited (output unit_sheet) None (closing rest) [] (shown old complete)) (complete ++ lines) new result

-- an output at its end, or why it goes no further
abbrev pub Finished : Output → List (List ℕ) → Result (Unit {0}) Stop → Type 0
Finished out complete (Ok done) = (out.complete ≡ complete) × (out.halted ≡ None)
Finished out complete (Err why) = StopsBy out complete why

-- the output is closed, with its last record
pub record Finishes (text : List ℕ) (walk : FormatWalk) (unit : ℤ) (old : RecordSheet) (rows rows' : List Row) (result : Result (Unit {0}) Stop) : Type 0 where
  pub lines : List (List ℕ)
  pub writes : Writes unit lines rows rows' (writing result)
  pub comes : (again rest : List formats.Edit) → Stands text again walk rest → (complete : List (List ℕ)) → StandsOn unit_sheet complete old →
      Finished (output_closed unit_sheet rest (shown old complete)) (complete ++ lines) result
