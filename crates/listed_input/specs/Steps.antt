-- The steps in which an item is read (ANSI X3.9-1978, 13.6.1).
use Rattle.std.specs.Prelude.{◌≡◌, ℕ, ℤ, Bool, true, false, List, ◌++◌, Result, Ok, Err}
use Rattle.c_tree.specs.declared.outcome.CValue.TheVariants as value
use Rattle.c_tree.specs.Faults.{failing}
use Rattle.c_tree.specs.Access.{ToNumber}
use Rattle.c_tree.specs.Objects.{Object, stored}
use Rattle.c_tree.specs.LibraryArguments.{text_stored, fitted}
use Rattle.f2c_outside.specs.Table.{Row}
use Rattle.listed_input.specs.declared.ends.ItemEnd.{ItemEnd}
use Rattle.listed_input.specs.declared.ends.ItemEnd.TheVariants.{Fault, Number, Device, Uncounted}
use Rattle.listed_input.specs.declared.ends.ItemRead.TheVariants.{Given, Slashed}
use Rattle.listed_input.specs.declared.ends.Step.{Step}
use Rattle.listed_input.specs.declared.ends.Step.TheVariants.{Read, GoesOn}
use Rattle.listed_input.specs.declared.kinds.Item.{Item}
use Rattle.listed_input.specs.declared.reading.RecordInReading.{RecordInReading}
use Rattle.listed_input.specs.Texts.{Written, PutsPiece}
use Rattle.listed_input.specs.Reading.{ReadsNext}

-- an item is given a number, or has a fault
abbrev pub StepsNumber : Item → ℤ → List Object → List Object → Result Step ItemEnd → Type 0
StepsNumber item number old new (Ok (Read Given)) = stored old (record { at = item.pointer; access = ToNumber }) (value.Number number) ≡ Ok new
StepsNumber item number old new (Ok (Read Slashed)) = ⊥
StepsNumber item number old new (Ok (GoesOn done)) = ⊥
StepsNumber item number old new (Err (Fault fault)) = stored old (record { at = item.pointer; access = ToNumber }) (value.Number number) ≡ failing fault
StepsNumber item number old new (Err (Number other)) = ⊥
StepsNumber item number old new (Err Device) = ⊥
StepsNumber item number old new (Err Uncounted) = ⊥

-- an item is given a piece of a text that goes on
abbrev pub StepsPiece : Item → ℕ → List ℕ → List Object → List Object → Result Step ItemEnd → Type 0
StepsPiece item done piece old new (Ok (Read read)) = ⊥
StepsPiece item done piece old new (Ok (GoesOn done')) = PutsPiece item.pointer item.size done piece old new (Ok done')
StepsPiece item done piece old new (Err (Fault fault)) = PutsPiece item.pointer item.size done piece old new (Err (Fault fault))
StepsPiece item done piece old new (Err (Number number)) = ⊥
StepsPiece item done piece old new (Err Device) = ⊥
StepsPiece item done piece old new (Err Uncounted) = ⊥

-- an item is given the last piece of a text
abbrev pub StepsLast : Item → ℕ → List ℕ → List Object → List Object → Result Step ItemEnd → Type 0
StepsLast item done piece old new (Ok (Read Given)) =
    (objects : List Object) → (text : List ℕ) → Written objects item.pointer item.size text old done →
    text_stored objects item.pointer (fitted item.size (text ++ piece)) ≡ Ok new
StepsLast item done piece old new (Ok (Read Slashed)) = ⊥
StepsLast item done piece old new (Ok (GoesOn done')) = ⊥
StepsLast item done piece old new (Err (Fault fault)) =
    (objects : List Object) → (text : List ℕ) → Written objects item.pointer item.size text old done →
    text_stored objects item.pointer (fitted item.size (text ++ piece)) ≡ failing fault
StepsLast item done piece old new (Err (Number number)) = ⊥
StepsLast item done piece old new (Err Device) = ⊥
StepsLast item done piece old new (Err Uncounted) = ⊥

abbrev pub StepsText : Bool → Item → ℕ → List ℕ → List Object → List Object → Result Step ItemEnd → Type 0
StepsText true item done piece old new result = StepsPiece item done piece old new result
StepsText false item done piece old new result = StepsLast item done piece old new result

-- an item goes on in the next record, or there is none
abbrev pub StepsRecord : ℤ → ℕ → RecordInReading → RecordInReading → List Row → List Row → Result Step ItemEnd → Type 0
StepsRecord unit done reading reading' old new (Ok (Read read)) = ⊥
StepsRecord unit done reading reading' old new (Ok (GoesOn done')) = (done' ≡ done) × ReadsNext unit reading reading' old new (Ok tt)
StepsRecord unit done reading reading' old new (Err end) = ReadsNext unit reading reading' old new (Err end)
