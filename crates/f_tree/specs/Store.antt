-- Storage: sequences of units, each undefined or defined, and what fetching and defining a place do.
-- ANSI X3.9-1978, sections 2.11, 2.13 (storage), 17.2 and 17.3 (how units become defined and undefined).
-- Sequences are counted in character units. An integer, a logical or a label stands in four of them, from
-- a multiple of four on; only `fetch`, `define` and what they are made of here look at the units.
use Rattle.std.specs.Ordering.{int_eq}
use Rattle.std.specs.Prelude.{ℕ, zero, suc, ◌+◌, ◌-◌, ◌/◌, nat_le, nat_eq, ℤ, Bool, true, false, not, ◌&&◌, bytes_eq, List, [], ◌∷◌, ◌++◌, length, take, drop, replicate, Option, Some, None, slice_get, slice_set, if◌then◌else◌}
use Rattle.f_tree.specs.declared.names.Basic.{Basic}
use Rattle.f_tree.specs.declared.names.Basic.TheVariants.{Integer, Logical, Character}
use Rattle.f_tree.specs.Values.{Bytes, Spot, Datum, IsInt, IsLog, IsText, NoValue, PastExtent, DefinesReadOnly, NoMeaning, Checked, Gives, Fails}

-- what a numeric storage unit holds
pub data Whole : Type 0 where
  Number : ℤ → Whole
  Truth : Bool → Whole
  -- the name of the unit whose label it is, and the label
  Label : Bytes → ℕ → Whole

-- a character unit: undefined, a character, or a part of a value, counted from 0
pub data Cell : Type 0 where
  Undefined : Cell
  Chr : ℕ → Cell
  Part : Whole → ℕ → Cell

pub record Sequence : Type 0 where
  pub cells : List Cell
  -- a constant or the value of an expression that was passed as an argument
  pub read_only : Bool

-- sequences go by their numbers
abbrev pub Store : Type 0
Store = List Sequence

-- a sequence of undefined units
unfoldable pub undefined_units : ℕ → Sequence
undefined_units size = record { cells = replicate size Undefined; read_only = false }

unfoldable pub same_truth : Bool → Bool → Bool
same_truth true b = b
same_truth false b = not b

unfoldable pub same_whole : Whole → Whole → Bool
same_whole (Number a) (Number b) = int_eq a b
same_whole (Truth a) (Truth b) = same_truth a b
same_whole (Label owner a) (Label other b) = bytes_eq owner other && nat_eq a b
same_whole _ _ = false

-- the value whose four parts, and no more, these units are
unfoldable pub whole_of : List Cell → Option Whole
whole_of (Part w zero ∷ Part x (suc zero) ∷ Part y (suc (suc zero)) ∷ Part z (suc (suc (suc zero))) ∷ []) =
    if same_whole w x && (same_whole w y && same_whole w z) then Some w else None
whole_of _ = None

unfoldable pub whole_at : ℕ → List Cell → Option Whole
whole_at first cells = whole_of (take 4 (drop first cells))

-- the value, of the type that is asked for
unfoldable pub value_of_type : Basic → Option Whole → Checked Datum
value_of_type Integer (Some (Number z)) = Gives (IsInt z)
value_of_type Logical (Some (Truth b)) = Gives (IsLog b)
value_of_type _ _ = Fails NoValue

unfoldable pub with_first : ℕ → Checked Bytes → Checked Bytes
with_first c (Gives cs) = Gives (c ∷ cs)
with_first c (Fails act) = Fails act

unfoldable pub characters : List Cell → Checked Bytes
characters [] = Gives []
characters (Chr c ∷ cells) = with_first c (characters cells)
characters (_ ∷ cells) = Fails NoValue

unfoldable pub as_text : Checked Bytes → Checked Datum
as_text (Gives cs) = Gives (IsText cs)
as_text (Fails act) = Fails act

unfoldable pub fetch_as : Basic → Spot → List Cell → Checked Datum
fetch_as Character p cells = as_text (characters (take p.width (drop p.first cells)))
fetch_as basic p cells = value_of_type basic (whole_at p.first cells)

unfoldable pub fetch_from : Spot → List Cell → Checked Datum
fetch_from p cells = fetch_as p.basic p cells

unfoldable pub fetch_in : Spot → Option Sequence → Checked Datum
fetch_in p None = Fails NoMeaning
fetch_in p (Some q) = if nat_le p.width p.extent then fetch_from p q.cells else Fails PastExtent

-- the value of the first element at a place
unfoldable pub fetch : Store → Spot → Checked Datum
fetch s p = fetch_in p (slice_get s p.sequence)

-- the four parts of a value at a place
unfoldable pub with_whole : Whole → ℕ → List Cell → List Cell
with_whole w first cells = take first cells ++ Part w 0 ∷ Part w 1 ∷ Part w 2 ∷ Part w 3 ∷ drop (first + 4) cells

-- a unit that was a part of a value that is gone
unfoldable pub no_part : Cell → Cell
no_part (Part w i) = Undefined
no_part Undefined = Undefined
no_part (Chr c) = Chr c

unfoldable pub no_parts : ℕ → ℕ → List Cell → List Cell
no_parts from zero cells = cells
no_parts zero (suc count) [] = []
no_parts zero (suc count) (c ∷ cells) = no_part c ∷ no_parts zero count cells
no_parts (suc from) (suc count) [] = []
no_parts (suc from) (suc count) (c ∷ cells) = c ∷ no_parts from (suc count) cells

-- the units without the value that a unit is a part of
unfoldable pub without_value_of : Option Cell → ℕ → List Cell → List Cell
without_value_of (Some (Part w i)) at cells = no_parts (at - i) 4 cells
without_value_of _ at cells = cells

unfoldable pub with_character : ℕ → ℕ → List Cell → List Cell
with_character c at cells = slice_set (without_value_of (slice_get cells at) at cells) at (Chr c)

unfoldable pub with_characters : Bytes → ℕ → List Cell → List Cell
with_characters [] at cells = cells
with_characters (c ∷ cs) at cells = with_characters cs (suc at) (with_character c at cells)

-- the text of a length: cut on the right, or filled with blanks (10.4)
unfoldable pub fitted : ℕ → Bytes → Bytes
fitted size text = take size text ++ replicate (size - length text) 32

-- the units with a value at a place of its type
unfoldable pub defined_as : Basic → Spot → Datum → List Cell → Checked (List Cell)
defined_as Integer p (IsInt z) cells = Gives (with_whole (Number z) p.first cells)
defined_as Logical p (IsLog b) cells = Gives (with_whole (Truth b) p.first cells)
defined_as Character p (IsText cs) cells = Gives (with_characters (fitted p.width cs) p.first cells)
defined_as _ p d cells = Fails NoMeaning

unfoldable pub stored_in : Store → ℕ → Checked (List Cell) → Checked Store
stored_in s n (Gives cells) = Gives (slice_set s n (record { cells = cells; read_only = false }))
stored_in s n (Fails act) = Fails act

-- is a place within what was passed, and within its sequence
unfoldable pub has_room : Spot → List Cell → Bool
has_room p cells = nat_le p.width p.extent && nat_le (p.first + p.width) (length cells)

unfoldable pub define_in : Store → Spot → Datum → Option Sequence → Checked Store
define_in s p d None = Fails NoMeaning
define_in s p d (Some q) =
    if q.read_only then Fails DefinesReadOnly
    else if has_room p q.cells then stored_in s p.sequence (defined_as p.basic p d q.cells)
    else Fails PastExtent

-- the label that was assigned to a place (10.3)
unfoldable pub label_of_whole : Option Whole → Checked Whole
label_of_whole (Some (Label owner number)) = Gives (Label owner number)
label_of_whole _ = Fails NoValue

unfoldable pub label_in : Spot → Option Sequence → Checked Whole
label_in p None = Fails NoMeaning
label_in p (Some q) = if nat_le p.width p.extent then label_of_whole (whole_at p.first q.cells) else Fails PastExtent

unfoldable pub label_at : Store → Spot → Checked Whole
label_at s p = label_in p (slice_get s p.sequence)

-- the store with a value at the first element of a place; a text is cut or filled to the place's length
unfoldable pub define : Store → Spot → Datum → Checked Store
define s p d = define_in s p d (slice_get s p.sequence)

unfoldable pub labelled_in : Store → Spot → Bytes → ℕ → Option Sequence → Checked Store
labelled_in s p owner number None = Fails NoMeaning
labelled_in s p owner number (Some q) =
    if q.read_only then Fails DefinesReadOnly
    else if has_room p q.cells then stored_in s p.sequence (Gives (with_whole (Label owner number) p.first q.cells))
    else Fails PastExtent

-- the store with a label at an integer variable, which then is no integer (10.3)
unfoldable pub define_label : Store → Spot → Bytes → ℕ → Checked Store
define_label s p owner number = labelled_in s p owner number (slice_get s p.sequence)

-- the elements of a place, one after the other
unfoldable pub elements_from : ℕ → Spot → List Spot
elements_from zero p = []
elements_from (suc n) p = p ∷ elements_from n (record p { first = p.first + p.width })

unfoldable pub elements : Spot → List Spot
elements p = elements_from (p.extent / p.width) p

unfoldable pub store_opened : Unit {0}
unfolding elements_from elements undefined_units same_truth same_whole whole_of whole_at value_of_type with_first characters as_text fetch_as fetch_from fetch_in fetch with_whole no_part no_parts without_value_of with_character with_characters fitted defined_as stored_in has_room define_in define label_of_whole label_in label_at labelled_in define_label
store_opened = tt
