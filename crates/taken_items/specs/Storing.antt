-- A value that an item is given, as it is stored where the item stands (ANSI X3.9-1978, 13.5.9 to 13.5.11).
use Rattle.std.specs.Prelude.{◌≡◌, ◌≤◌, ◌<◌, ◌+◌, ◌-◌, ◌^◌, ℕ, List, ◌++◌, length, replicate, Option, Some, None, Result, Ok, Err}
use Rattle.c_tree.specs.declared.outcome.CValue.{CValue}
use Rattle.c_tree.specs.declared.outcome.CValue.TheVariants.{Pointer}
use Rattle.c_tree.specs.declared.outcome.CFault.{CFault}
use Rattle.c_tree.specs.Faults.{Or, failing}
use Rattle.c_tree.specs.Objects.{Object}
use Rattle.c_tree.specs.LibraryArguments.{text_stored}
use Rattle.c_tree.specs.TransferInput.{value_taken}
use Rattle.edit_rules.specs.edit_meaning.ListItems.{Value}
use Rattle.listed_output.specs.Items.{StandsThere}
use Rattle.taken_records.specs.declared.fields.Want.{Want}
use Rattle.taken_records.specs.declared.fields.Want.TheVariants as want
use Rattle.taken_records.specs.declared.fields.Taken.{Taken}
use Rattle.taken_records.specs.declared.fields.Taken.TheVariants as given

-- what is stored comes to these objects, or has a fault
abbrev pub ComesTo : Or (List Object) → List Object → Result (Unit {0}) CFault → Type 0
ComesTo meaning objects (Ok done) = meaning ≡ Ok objects
ComesTo meaning objects (Err fault) = meaning ≡ failing fault

-- 64 bits tell the offset of what stands so many bytes behind a pointer
abbrev pub IsNear : ℕ → CValue → Type 0
IsNear distance (Pointer object offset) = 0 < distance → offset + distance < 2 ^ 64
IsNear distance other = Unit {0}

-- so many bytes stand within their object, or each text of so many has this fault
abbrev pub HasRoom : List Object → CValue → ℕ → Option CFault → Type 0
HasRoom objects pointer size None = IsNear size pointer × StandsThere size objects pointer
HasRoom objects pointer size (Some fault) = (text : List ℕ) → length text ≡ size → text_stored objects pointer text ≡ failing fault

-- blanks are stored behind each text of a length that was stored
abbrev pub PadsBehind : CValue → ℕ → ℕ → List Object → List Object → Result (Unit {0}) CFault → Type 0
PadsBehind pointer done blanks old new result =
    (objects : List Object) → (text : List ℕ) → length text ≡ done → text_stored objects pointer text ≡ Ok old →
    ComesTo (text_stored objects pointer (text ++ replicate blanks 32)) new result

-- a value of an item of so many bytes
abbrev pub IsSized : ℕ → Taken → Type 0
IsSized size (given.Int number) = size ≡ 4
IsSized size (given.Logical truth) = size ≡ 4
IsSized size (given.Text from to blanks) = (from ≤ to) × (to ≤ 1024) × ((to - from) + blanks ≡ size)

-- what an item of so many bytes wants
abbrev pub IsWanted : ℕ → Want → Type 0
IsWanted size want.Int = size ≡ 4
IsWanted size want.Logical = size ≡ 4
IsWanted size (want.Text count) = count ≡ size

-- an item is given a value
abbrev pub GivesValue : Value → CValue → ℕ → List Object → List Object → Result (Unit {0}) CFault → Type 0
GivesValue value pointer size old new result = ComesTo (value_taken old pointer size value) new result
