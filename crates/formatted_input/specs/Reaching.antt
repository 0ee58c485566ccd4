-- What a format gives before the descriptor of the next item, and behind the last one (ANSI X3.9-1978, 12.9.5.1 and 13.3).
use Rattle.std.specs.Prelude.{◌≡◌, ℕ, ℤ, List, [], ◌∷◌, None, Some, Result, Ok, Err}
use Rattle.c_tree.specs.run_state.Units.{Units}
use Rattle.c_tree.specs.TransferOutput.{descriptor_in}
use Rattle.edit_rules.specs.edit_meaning.Formats as formats
use Rattle.edit_rules.specs.edit_meaning.Formats.{Item, closing}
use Rattle.edit_rules.specs.edit_meaning.TakenRecords.{Want, input}
use Rattle.edit_rules.specs.edit_meaning.Transfers.{edited, for_next}
use Rattle.edit_rules.specs.declared.format_walk.FormatWalk.{FormatWalk}
use Rattle.edit_rules.specs.Walks.{Stands, StandsIn}
use Rattle.f2c_outside.specs.Table.{Row}
use Rattle.f2c_outside.specs.Meaning.{Tells, units_of}
use Rattle.formatted_records.specs.declared.fields.Field.{Field}
use Rattle.formatted_records.specs.Sheets.{descriptor_of}
use Rattle.taken_records.specs.declared.record.RecordInput.{RecordInput}
use Rattle.taken_items.specs.Reaching.{over_next, with_next}
use Rattle.formatted_input.specs.declared.acts.Stop.{Stop}
use Rattle.formatted_input.specs.Acting.{input_at, ReadOn, Stops, Comes, ReadsFrom}

-- the descriptor of the next item is come to, and stands alone before what is left
pub record AtField (text : List ℕ) (again rest : List formats.Edit) (walk' : FormatWalk) (unit : ℤ) (old : RecordInput) (before after : Units) (new : RecordInput) (field : Field) : Type 0 where
  pub left : List formats.Edit
  pub stands : Stands text again walk' left
  pub served : (for_next again rest).unserved ≡ 0
  pub behind : (for_next again rest).left ≡ left
  pub descriptor : descriptor_in (for_next again rest).edits ≡ Some (descriptor_of field)
  pub reads : ReadOn unit before after
  pub edits : (wants : List Want) →
      over_next again rest wants (input_at unit old before) ≡ edited input None (Item (descriptor_of field) ∷ []) wants (input_at unit new after)

abbrev pub Reached : List ℕ → List formats.Edit → List formats.Edit → FormatWalk → ℤ → RecordInput → Units → Units → RecordInput → Result Field Stop → Type 0
Reached text again rest walk' unit old before after new (Ok field) = AtField text again rest walk' unit old before after new field
Reached text again rest walk' unit old before after new (Err why) =
    (wants : List Want) → Stops (with_next again rest wants (input_at unit old before)) unit before after why

-- the edits before the descriptor of the next item are done
pub record Reaches (text : List ℕ) (walk walk' : FormatWalk) (unit : ℤ) (old new : RecordInput) (rows rows' : List Row) (result : Result Field Stop) : Type 0 where
  pub inside : StandsIn walk' text
  pub tells : Tells rows → Tells rows'
  pub comes : Tells rows → (again rest : List formats.Edit) → Stands text again walk rest →
      Reached text again rest walk' unit old (units_of rows) (units_of rows') new result
  pub devices : ReadsFrom unit rows rows' result

-- the edits behind the last item are done
pub record Closes (text : List ℕ) (walk : FormatWalk) (unit : ℤ) (old new : RecordInput) (rows rows' : List Row) (result : Result (Unit {0}) Stop) : Type 0 where
  pub tells : Tells rows → Tells rows'
  pub comes : Tells rows → (again rest : List formats.Edit) → Stands text again walk rest →
      Comes (edited input None (closing rest) [] (input_at unit old (units_of rows))) unit (units_of rows) (units_of rows') new result
  pub devices : ReadsFrom unit rows rows' result
