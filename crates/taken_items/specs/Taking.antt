-- An item in its field: what it takes of the record, and its value, which is stored (ANSI X3.9-1978, 13.5).
use Rattle.std.specs.Prelude.{◌≡◌, ℕ, List, [], ◌∷◌, Some, Result, Ok, Err}
use Rattle.c_tree.specs.declared.outcome.CValue.{CValue}
use Rattle.c_tree.specs.Faults.{failing}
use Rattle.c_tree.specs.Objects.{Object}
use Rattle.c_tree.specs.TransferInput.{value_taken, wanted_under}
use Rattle.edit_rules.specs.edit_meaning.Formats.{Descriptor}
use Rattle.edit_rules.specs.edit_meaning.ListItems.{Value}
use Rattle.edit_rules.specs.edit_meaning.TakenRecords.{halted_by, with_field}
use Rattle.taken_records.specs.declared.record.RecordInput.{RecordInput}
use Rattle.taken_records.specs.Records.{shown, halt_of}
use Rattle.taken_items.specs.declared.values.ItemHalt.{ItemHalt}
use Rattle.taken_items.specs.declared.values.ItemHalt.TheVariants as item

-- the item takes a value of the record
pub record TakesValue (descriptor : Descriptor) (size : ℕ) (old new : RecordInput) (value : Value) : Type 0 where
  pub takes : (later : List (List ℕ)) → with_field descriptor (wanted_under (Some descriptor) size) (shown old later []) ≡ shown new later (value ∷ [])

-- an item takes its field and is given the value; or it is halted, and everything stays; or its value has a fault
abbrev pub TakesItem : Descriptor → CValue → ℕ → RecordInput → RecordInput → List Object → List Object → Result (Unit {0}) ItemHalt → Type 0
TakesItem descriptor pointer size old new objects objects' (Ok done) =
    (value : Value) × TakesValue descriptor size old new value × (value_taken objects pointer size value ≡ Ok objects')
TakesItem descriptor pointer size old new objects objects' (Err (item.Fault fault)) =
    (value : Value) × TakesValue descriptor size old new value × (value_taken objects pointer size value ≡ failing fault)
TakesItem descriptor pointer size old new objects objects' (Err (item.Halts halt)) =
    (objects' ≡ objects)
    × ((later : List (List ℕ)) → with_field descriptor (wanted_under (Some descriptor) size) (shown old later []) ≡ halted_by (halt_of halt) (shown old later []))
