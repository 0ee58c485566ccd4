-- What a format gives before the descriptor of the next item (ANSI X3.9-1978, 12.9.5.2 and 13.3).
use Rattle.std.specs.Prelude.{◌≡◌, ℕ, List, [], ◌∷◌, ◌++◌, None, Some, Result, Ok, Err}
use Rattle.c_tree.specs.TransferOutput.{descriptor_in}
use Rattle.edit_rules.specs.edit_meaning.Formats as formats
use Rattle.edit_rules.specs.edit_meaning.Formats.{Item}
use Rattle.edit_rules.specs.edit_meaning.Listed.{ListedValue}
use Rattle.edit_rules.specs.edit_meaning.EditedRecords.{Sheet, Output, output}
use Rattle.edit_rules.specs.edit_meaning.Transfers.{edited, unserved_by, for_next}
use Rattle.edit_rules.specs.declared.format_walk.FormatWalk.{FormatWalk}
use Rattle.edit_rules.specs.Walks.{Stands, StandsIn}
use Rattle.formatted_records.specs.declared.sheet.RecordSheet.{RecordSheet}
use Rattle.formatted_records.specs.declared.fields.Field.{Field}
use Rattle.formatted_records.specs.Sheets.{StandsOn, shown, descriptor_of}
use Rattle.internal_formatted.specs.declared.acts.Stop.{Stop}
use Rattle.internal_formatted.specs.Acting.{storing, StopsBy}
use Rattle.internal_formatted.specs.Storing.{Held, Stores}

-- the output over the edits of the next item, with some items
abbrev pub over_next : Sheet → List formats.Edit → List formats.Edit → List ListedValue → Output → Output
over_next page again rest things out = edited (output page) None (for_next again rest).edits things out

-- and with what an item without a descriptor does
abbrev pub with_next : Sheet → List formats.Edit → List formats.Edit → List ListedValue → Output → Output
with_next page again rest things out =
    unserved_by (output page) (for_next again rest).unserved (over_next page again rest things out).halted (over_next page again rest things out)

-- the descriptor of the next item is come to, and stands alone before what is left
pub record AtField (page : Sheet) (text : List ℕ) (again rest : List formats.Edit) (walk' : FormatWalk) (old : RecordSheet) (complete complete' : List (List ℕ)) (new : RecordSheet) (field : Field) : Type 0 where
  pub left : List formats.Edit
  pub stands : Stands text again walk' left
  pub on : StandsOn page complete' new
  pub served : (for_next again rest).unserved ≡ 0
  pub behind : (for_next again rest).left ≡ left
  pub descriptor : descriptor_in (for_next again rest).edits ≡ Some (descriptor_of field)
  pub edits : (things : List ListedValue) →
      over_next page again rest things (shown old complete) ≡ edited (output page) None (Item (descriptor_of field) ∷ []) things (shown new complete')

abbrev pub Reached : Sheet → List ℕ → List formats.Edit → List formats.Edit → FormatWalk → RecordSheet → List (List ℕ) → List (List ℕ) → RecordSheet → Result Field Stop → Type 0
Reached page text again rest walk' old complete complete' new (Ok field) = AtField page text again rest walk' old complete complete' new field
Reached page text again rest walk' old complete complete' new (Err why) = StopsBy (with_next page again rest [] (shown old complete)) complete' why

-- the edits before the descriptor of the next item are done
pub record Reaches (text : List ℕ) (walk walk' : FormatWalk) (old new : RecordSheet) (before after : Held) (result : Result Field Stop) : Type 0 where
  pub lines : List (List ℕ)
  pub stores : Stores lines before after (storing result)
  pub inside : StandsIn walk' text
  pub comes : (again rest : List formats.Edit) → Stands text again walk rest → (page : Sheet) → (complete : List (List ℕ)) → StandsOn page complete old →
      Reached page text again rest walk' old complete (complete ++ lines) new result
