-- What a format gives before the descriptor of the next item, and behind the last one (ANSI X3.9-1978, 12.9.5.1 and 13.3).
use Rattle.std.specs.Prelude.{◌≡◌, ℕ, List, [], ◌∷◌, None, Some, Result, Ok, Err}
use Rattle.c_tree.specs.Objects.{Object}
use Rattle.c_tree.specs.World.{InternalFile}
use Rattle.c_tree.specs.TransferOutput.{descriptor_in}
use Rattle.edit_rules.specs.edit_meaning.Formats as formats
use Rattle.edit_rules.specs.edit_meaning.Formats.{Item, closing}
use Rattle.edit_rules.specs.edit_meaning.TakenRecords.{Want, input}
use Rattle.edit_rules.specs.edit_meaning.Transfers.{edited, for_next}
use Rattle.edit_rules.specs.declared.format_walk.FormatWalk.{FormatWalk}
use Rattle.edit_rules.specs.Walks.{Stands, StandsIn}
use Rattle.formatted_records.specs.declared.fields.Field.{Field}
use Rattle.formatted_records.specs.Sheets.{descriptor_of}
use Rattle.taken_records.specs.declared.record.RecordInput.{RecordInput}
use Rattle.taken_items.specs.Reaching.{over_next, with_next}
use Rattle.internal_formatted_input.specs.declared.acts.Stop.{Stop}
use Rattle.internal_formatted_input.specs.Acting.{input_at, ReadOn, Stops, Comes}

-- the descriptor of the next item is come to, and stands alone before what is left
pub record AtField (objects : List Object) (text : List ℕ) (again rest : List formats.Edit) (walk' : FormatWalk) (old : RecordInput) (before after : InternalFile) (new : RecordInput) (field : Field) : Type 0 where
  pub left : List formats.Edit
  pub stands : Stands text again walk' left
  pub served : (for_next again rest).unserved ≡ 0
  pub behind : (for_next again rest).left ≡ left
  pub descriptor : descriptor_in (for_next again rest).edits ≡ Some (descriptor_of field)
  pub reads : ReadOn objects before after
  pub edits : (wants : List Want) →
      over_next again rest wants (input_at objects before old) ≡ edited input None (Item (descriptor_of field) ∷ []) wants (input_at objects after new)

abbrev pub Reached : List Object → List ℕ → List formats.Edit → List formats.Edit → FormatWalk → RecordInput → InternalFile → InternalFile → RecordInput → Result Field Stop → Type 0
Reached objects text again rest walk' old before after new (Ok field) = AtField objects text again rest walk' old before after new field
Reached objects text again rest walk' old before after new (Err why) =
    (wants : List Want) → Stops objects before (with_next again rest wants (input_at objects before old)) why

-- the edits before the descriptor of the next item are done
pub record Reaches (objects : List Object) (text : List ℕ) (walk walk' : FormatWalk) (old new : RecordInput) (before after : InternalFile) (result : Result Field Stop) : Type 0 where
  pub inside : StandsIn walk' text
  pub comes : (again rest : List formats.Edit) → Stands text again walk rest → Reached objects text again rest walk' old before after new result

-- the edits behind the last item are done
abbrev pub Closes : List Object → List ℕ → FormatWalk → RecordInput → RecordInput → InternalFile → InternalFile → Result (Unit {0}) Stop → Type 0
Closes objects text walk old new before after result =
    (again rest : List formats.Edit) → Stands text again walk rest →
    Comes objects (edited input None (closing rest) [] (input_at objects before old)) before after new result
