-- What the edits of a format do to the record in the making and to the internal file: the records that they complete are stored
-- (ANSI X3.9-1978, 12.2.5, 12.9.5.2 and 13).
use Rattle.std.specs.Prelude.{◌≡◌, ℕ, List, ◌++◌, Result, Ok, Err}
use Rattle.edit_rules.specs.edit_meaning.EditedRecords.{Sheet, Output}
use Rattle.internal_output.specs.declared.files.RecordRefusal.{RecordRefusal}
use Rattle.formatted_records.specs.declared.sheet.RecordSheet.{RecordSheet}
use Rattle.formatted_records.specs.Sheets.{StandsOn, shown}
use Rattle.formatted_output.specs.Acting.{IsHaltedBy}
use Rattle.internal_formatted.specs.declared.acts.Stop.{Stop}
use Rattle.internal_formatted.specs.declared.acts.Stop.TheVariants as stop
use Rattle.internal_formatted.specs.Storing.{Held, Stores}

-- how the storing of the records went
abbrev pub storing : {T : Type 0} → Result T Stop → Result (Unit {0}) RecordRefusal
storing (Ok done) = Ok tt
storing (Err (stop.Number number)) = Ok tt
storing (Err (stop.Refused refusal)) = Err refusal
storing (Err (stop.Fault fault)) = Ok tt

-- why an output goes no further: its lines are its complete records, and it is halted; or one is not stored, and others may come behind it
abbrev pub StopsBy : Output → List (List ℕ) → Stop → Type 0
StopsBy out complete (stop.Number number) = (out.complete ≡ complete) × IsHaltedBy number out.halted
StopsBy out complete (stop.Refused refusal) = (later : List (List ℕ)) × (out.complete ≡ complete ++ later)
StopsBy out complete (stop.Fault fault) = ⊥

-- an output goes on, with lines behind the complete records before it
abbrev pub Comes : Sheet → Output → List (List ℕ) → RecordSheet → Result (Unit {0}) Stop → Type 0
Comes page out complete new (Ok done) = StandsOn page complete new × (out ≡ shown new complete)
Comes page out complete new (Err why) = StopsBy out complete why

-- an act does this to the output on any sheet, and stores the records that it completes
pub record Does (act : Sheet → Output → Output) (old new : RecordSheet) (before after : Held) (result : Result (Unit {0}) Stop) : Type 0 where
  pub lines : List (List ℕ)
  pub stores : Stores lines before after (storing result)
  pub comes : (page : Sheet) → (complete : List (List ℕ)) → StandsOn page complete old → Comes page (act page (shown old complete)) (complete ++ lines) new result
