-- The steps in which an item is read (ANSI X3.9-1978, 13.6.1).
use Rattle.std.specs.Prelude.{◌≡◌, ℕ, ℤ, Bool, true, false, List, ◌++◌, Result, Ok, Err}
use Rattle.c_tree.specs.declared.outcome.CValue.TheVariants as value
use Rattle.c_tree.specs.declared.outcome.CFault.{CFault}
use Rattle.c_tree.specs.Faults.{failing}
use Rattle.c_tree.specs.Access.{ToNumber}
use Rattle.c_tree.specs.Objects.{Object, stored}
use Rattle.c_tree.specs.World.{InternalFile}
use Rattle.c_tree.specs.LibraryArguments.{text_stored, fitted}
use Rattle.listed_input.specs.declared.kinds.Item.{Item}
use Rattle.listed_input.specs.declared.reading.RecordInReading.{RecordInReading}
use Rattle.internal_records.specs.declared.records.RecordEnd.TheVariants as record_ends
use Rattle.internal_input.specs.declared.ends.ItemEnd.{ItemEnd}
use Rattle.internal_input.specs.declared.ends.ItemEnd.TheVariants.{Fault, Number}
use Rattle.internal_input.specs.declared.ends.ItemRead.TheVariants.{Given, Slashed}
use Rattle.internal_input.specs.declared.ends.Step.{Step}
use Rattle.internal_input.specs.declared.ends.Step.TheVariants.{Read, GoesOn}
use Rattle.internal_input.specs.Texts.{Gathered, StoresPart}
use Rattle.internal_input.specs.Fetching.{ReadsNext}

-- an item is given a number, or has a fault
abbrev pub StepsNumber : Item → ℤ → List Object → List Object → Result Step ItemEnd → Type 0
StepsNumber item number old new (Ok (Read Given)) = stored old (record { at = item.pointer; access = ToNumber }) (value.Number number) ≡ Ok new
StepsNumber item number old new (Ok (Read Slashed)) = ⊥
StepsNumber item number old new (Ok (GoesOn done)) = ⊥
StepsNumber item number old new (Err (Fault fault)) = stored old (record { at = item.pointer; access = ToNumber }) (value.Number number) ≡ failing fault
StepsNumber item number old new (Err (Number other)) = ⊥

-- an item is given a piece of a text that goes on
abbrev pub StepsPiece : Item → ℕ → List ℕ → List ℕ → List ℕ → List Object → List Object → Result Step ItemEnd → Type 0
StepsPiece item done piece buffer buffer' old new (Ok (Read read)) = ⊥
StepsPiece item done piece buffer buffer' old new (Ok (GoesOn done')) =
    ((text : List ℕ) → Gathered buffer item.size text done → Gathered buffer' item.size (text ++ piece) done') × (new ≡ old)
StepsPiece item done piece buffer buffer' old new (Err end) = ⊥

-- an item is given the last piece of a text
abbrev pub StepsLast : Item → ℕ → List ℕ → List ℕ → List Object → List Object → Result Step ItemEnd → Type 0
StepsLast item done piece buffer old new (Ok (Read Given)) =
    (text : List ℕ) → Gathered buffer item.size text done → text_stored old item.pointer (fitted item.size (text ++ piece)) ≡ Ok new
StepsLast item done piece buffer old new (Ok (Read Slashed)) = ⊥
StepsLast item done piece buffer old new (Ok (GoesOn done')) = ⊥
StepsLast item done piece buffer old new (Err (Fault fault)) =
    (text : List ℕ) → Gathered buffer item.size text done → text_stored old item.pointer (fitted item.size (text ++ piece)) ≡ failing fault
StepsLast item done piece buffer old new (Err (Number number)) = ⊥

abbrev pub StepsText : Bool → Item → ℕ → List ℕ → List ℕ → List ℕ → List Object → List Object → Result Step ItemEnd → Type 0
StepsText true item done piece buffer buffer' old new result = StepsPiece item done piece buffer buffer' old new result
StepsText false item done piece buffer buffer' old new result = StepsLast item done piece buffer old new result

-- a transfer ends with a number, once the bytes of a text so far are stored
abbrev pub StepsBad : Item → ℕ → ℤ → List ℕ → List Object → List Object → Result Step ItemEnd → Type 0
StepsBad item done number buffer old new (Ok step) = ⊥
StepsBad item done number buffer old new (Err (Number said)) = (said ≡ number) × StoresPart buffer item.pointer done old new (Ok tt)
StepsBad item done number buffer old new (Err (Fault fault)) = StoresPart buffer item.pointer done old new (Err fault)

-- an item goes on in the next record, or there is none
pub data StepsRecord (item : Item) (done : ℕ) (buffer : List ℕ) (reading reading' : RecordInReading) (old new : List Object) (file file' : InternalFile) (result : Result Step ItemEnd) : Type 0 where
  Further : result ≡ Ok (GoesOn done) → new ≡ old → ReadsNext old reading reading' file file' (Ok tt) → StepsRecord item done buffer reading reading' old new file file' result
  NoFurther : (number : ℤ) → ReadsNext old reading reading' file file' (Err (record_ends.Number number)) → StepsBad item done number buffer old new result →
      StepsRecord item done buffer reading reading' old new file file' result
  Faulty : (fault : CFault) → result ≡ Err (Fault fault) → ReadsNext old reading reading' file file' (Err (record_ends.Fault fault)) → StepsRecord item done buffer reading reading' old new file file' result
