-- What a format gives behind the last item, and the last record (ANSI X3.9-1978, 12.9.5.2 and 13.3).
use Rattle.std.specs.Prelude.{◌≡◌, ℕ, List, [], ◌++◌, None, Result, Ok, Err}
use Rattle.edit_rules.specs.edit_meaning.Formats as formats
use Rattle.edit_rules.specs.edit_meaning.Formats.{closing}
use Rattle.edit_rules.specs.edit_meaning.EditedRecords.{Sheet, Output, output, output_closed}
use Rattle.edit_rules.specs.edit_meaning.Transfers.{edited}
use Rattle.edit_rules.specs.declared.format_walk.FormatWalk.{FormatWalk}
use Rattle.edit_rules.specs.Walks.{Stands}
use Rattle.formatted_records.specs.declared.sheet.RecordSheet.{RecordSheet}
use Rattle.formatted_records.specs.Sheets.{StandsOn, shown}
use Rattle.internal_formatted.specs.declared.acts.Stop.{Stop}
use Rattle.internal_formatted.specs.Acting.{storing, StopsBy, Comes}
use Rattle.internal_formatted.specs.Storing.{Held, Stores}

-- the edits behind the last item are done
pub record Closes (text : List ℕ) (walk : FormatWalk) (old new : RecordSheet) (before after : Held) (result : Result (Unit {0}) Stop) : Type 0 where
  pub lines : List (List ℕ)
  pub stores : Stores lines before after (storing result)
  pub comes : (again rest : List formats.Edit) → Stands text again walk rest → (page : Sheet) → (complete : List (List ℕ)) → StandsOn page complete old →
      Comes page (edited (output page) None (closing rest) [] (shown old complete)) (complete ++ lines) new result

-- an output at its end, or why it goes no further
abbrev pub Finished : Output → List (List ℕ) → Result (Unit {0}) Stop → Type 0
Finished out complete (Ok done) = (out.complete ≡ complete) × (out.halted ≡ None)
Finished out complete (Err why) = StopsBy out complete why

-- the output is closed, with its last record
pub record Finishes (text : List ℕ) (walk : FormatWalk) (old : RecordSheet) (before after : Held) (result : Result (Unit {0}) Stop) : Type 0 where
  pub lines : List (List ℕ)
  pub stores : Stores lines before after (storing result)
  pub comes : (again rest : List formats.Edit) → Stands text again walk rest → (page : Sheet) → (complete : List (List ℕ)) → StandsOn page complete old →
      Finished (output_closed page rest (shown old complete)) (complete ++ lines) result
