-- A text that is put together in a buffer, and stored whole (ANSI X3.9-1978, 12.2.5 and 13.6.1).
use Rattle.std.specs.Prelude.{◌≡◌, ◌≤◌, min, ℕ, List, length, take, Option, Some, None, slice_get, Result}
use Rattle.c_tree.specs.declared.outcome.CValue.{CValue}
use Rattle.c_tree.specs.declared.outcome.CValue.TheVariants.{Pointer, Null}
use Rattle.c_tree.specs.declared.outcome.CFault.{CFault}
use Rattle.c_tree.specs.declared.outcome.CFault.TheVariants.{Outside, Kind}
use Rattle.c_tree.specs.Objects.{Object, Bytes, Values}
use Rattle.c_tree.specs.LibraryArguments.{text_stored, fitted}
use Rattle.run_bytes.specs.Answers.{answered}

-- a pointer with the largest offset that 64 bits tell in place of a larger one
abbrev pub saturated : CValue → CValue
saturated (Pointer object offset) = Pointer object (min offset 18446744073709551615)
saturated other = other

-- the fault of a text that no object at a pointer has room for
abbrev pub fault_in : Option Object → CFault
fault_in None = Outside
fault_in (Some (Bytes bytes)) = Outside
fault_in (Some (Values held)) = Kind

abbrev pub past_fault : List Object → CValue → CFault
past_fault all (Pointer object offset) = fault_in (slice_get all object)
past_fault all Null = Outside
past_fault all other = Kind

-- a text has so many bytes, as far as an item of a size holds it, which stand at the front of a buffer where it has room for them
pub record Gathered (buffer : List ℕ) (size : ℕ) (text : List ℕ) (done : ℕ) : Type 0 where
  pub done_is : done ≡ length (take size text)
  pub stands : done ≤ length buffer → take done buffer ≡ take size text

-- the text is stored as far as its item holds it
abbrev pub StoresPart : List ℕ → CValue → ℕ → List Object → List Object → Result (Unit {0}) CFault → Type 0
StoresPart buffer pointer done old new result =
    (size : ℕ) → (text : List ℕ) → Gathered buffer size text done → text_stored old pointer (take size text) ≡ answered (λ stored. new) result

-- the text is stored with blanks behind it, up to the length of its item
abbrev pub StoresWhole : List ℕ → CValue → ℕ → ℕ → List Object → List Object → Result (Unit {0}) CFault → Type 0
StoresWhole buffer pointer size done old new result =
    (text : List ℕ) → Gathered buffer size text done → text_stored old pointer (fitted size text) ≡ answered (λ stored. new) result
