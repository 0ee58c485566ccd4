-- A text that is stored in pieces, one behind the other (ANSI X3.9-1978, 13.6.1).
use Rattle.std.specs.Prelude.{◌≡◌, ◌≤◌, ◌⊎◌, ℕ, List, ◌++◌, length, take, Option, Some, None, Result, Ok, Err, slice_get}
use Rattle.c_tree.specs.declared.outcome.CValue.{CValue}
use Rattle.c_tree.specs.declared.outcome.CValue.TheVariants.{Pointer}
use Rattle.c_tree.specs.Faults.{failing}
use Rattle.c_tree.specs.Objects.{Object, extent}
use Rattle.c_tree.specs.LibraryArguments.{text_stored, fitted, shifted}
use Rattle.listed_input.specs.declared.ends.ItemEnd.{ItemEnd}
use Rattle.listed_input.specs.declared.ends.ItemEnd.TheVariants.{Fault, Number, Device, Uncounted}

-- an offset at the end of an object or behind it, or into no object
abbrev pub IsPast : Option Object → ℕ → Type 0
IsPast None offset = Unit {0}
IsPast (Some object) offset = extent object ≤ offset

-- two pointers that are both at the end of one object or behind it: what is stored through either has the same fault
abbrev pub ArePast : List Object → CValue → CValue → Type 0
ArePast objects (Pointer object offset) (Pointer object' offset') =
    (object ≡ object') × IsPast (slice_get objects object) offset × IsPast (slice_get objects object) offset'
ArePast objects pointer other = ⊥

-- what stands so many bytes behind a pointer, or as much as that where it is behind the end of its object
abbrev pub IsPlaceBehind : List Object → ℕ → CValue → CValue → Type 0
IsPlaceBehind objects distance pointer place = (shifted distance pointer ≡ place) ⊎ ArePast objects (shifted distance pointer) place

-- a text is stored at a pointer as far as an item of so many bytes holds it, which is so many bytes
pub record Written (objects : List Object) (pointer : CValue) (size : ℕ) (text : List ℕ) (now : List Object) (done : ℕ) : Type 0 where
  pub stored : text_stored objects pointer (take size text) ≡ Ok now
  pub done_is : done ≡ length (take size text)

-- a piece is stored behind the text before it, or each text that goes on with it has this fault
abbrev pub PutsPiece : CValue → ℕ → ℕ → List ℕ → List Object → List Object → Result ℕ ItemEnd → Type 0
PutsPiece pointer size done piece old new (Ok done') =
    (objects : List Object) → (text : List ℕ) → Written objects pointer size text old done → Written objects pointer size (text ++ piece) new done'
PutsPiece pointer size done piece old new (Err (Fault fault)) =
    (objects : List Object) → (text more : List ℕ) → Written objects pointer size text old done →
    text_stored objects pointer (take size ((text ++ piece) ++ more)) ≡ failing fault
PutsPiece pointer size done piece old new (Err (Number number)) = ⊥
PutsPiece pointer size done piece old new (Err Device) = ⊥
PutsPiece pointer size done piece old new (Err Uncounted) = ⊥

-- blanks are stored behind a text up to the length of its item, or the whole has this fault
abbrev pub Pads : CValue → ℕ → ℕ → List Object → List Object → Result (Unit {0}) ItemEnd → Type 0
Pads pointer size done old new (Ok behind) =
    (objects : List Object) → (text : List ℕ) → Written objects pointer size text old done → text_stored objects pointer (fitted size text) ≡ Ok new
Pads pointer size done old new (Err (Fault fault)) =
    (objects : List Object) → (text : List ℕ) → Written objects pointer size text old done → text_stored objects pointer (fitted size text) ≡ failing fault
Pads pointer size done old new (Err (Number number)) = ⊥
Pads pointer size done old new (Err Device) = ⊥
Pads pointer size done old new (Err Uncounted) = ⊥
