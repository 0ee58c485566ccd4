-- Where the objects of a run stand: the bytes of each behind those of the one before it, and its values behind the earlier values.
use Rattle.std.specs.Prelude.{◌≡◌, ℕ, zero, suc, ◌+◌, ◌≤◌, Bool, List, [], ◌∷◌, ◌++◌, length, map, take, drop, Option, Some, None, Result, Ok, Err}
use Rattle.c_tree.specs.declared.outcome.CValue.{CValue}
use Rattle.c_tree.specs.declared.outcome.CFault.{CFault}
use Rattle.c_tree.specs.Faults.{Or, failing}
use Rattle.c_tree.specs.Access.{Access}
use Rattle.c_tree.specs.Objects.{Object, Bytes, Values}
use Rattle.c_tree.specs.Declarations.{unset, unset_values}
use Rattle.run_bytes.specs.declared.places.StoredObject.{StoredObject}
use Rattle.run_bytes.specs.declared.places.StoredObject.TheVariants as stored
use Rattle.run_bytes.specs.declared.access.ObjectKind.{ObjectKind}
use Rattle.run_bytes.specs.Accesses.{access_of, object_at_first}
use Rattle.run_bytes.specs.Cells.{marked}

-- so many elements from one on
abbrev pub part : {A : Type 0} → ℕ → ℕ → List A → List A
part start count elements = take count (drop start elements)

abbrev pub object_in : List (Option ℕ) → List (Option CValue) → StoredObject → Object
object_in cells values (stored.Bytes start count) = Bytes (part start count cells)
object_in cells values (stored.Values start count type) = Values (record { type = access_of type; values = part start count values })

-- the objects that stand at some places in all bytes and all values
abbrev pub objects_in : List StoredObject → List (Option ℕ) → List (Option CValue) → List Object
objects_in places cells values = map (object_in cells values) places

-- an object stands within all bytes and all values
abbrev pub IsInside : StoredObject → List ℕ → List (Option CValue) → Type 0
IsInside (stored.Bytes start count) bytes values = start + count ≤ length bytes
IsInside (stored.Values start count type) bytes values = start + count ≤ length values

abbrev pub IsWithinBytes : StoredObject → ℕ → Type 0
IsWithinBytes (stored.Bytes start count) bytes = start + count ≤ bytes
IsWithinBytes (stored.Values start count type) bytes = Unit {0}

abbrev pub IsWithinValues : StoredObject → ℕ → Type 0
IsWithinValues (stored.Bytes start count) values = Unit {0}
IsWithinValues (stored.Values start count type) values = start + count ≤ values

-- of two lists, the elements are the same but for so many from one on
pub record SameAround {A : Type 0} (start count : ℕ) (old new : List A) : Type 0 where
  pub before : take start new ≡ take start old
  pub behind : drop (start + count) new ≡ drop (start + count) old
  pub size : length new ≡ length old

-- all bytes with their marks, and all values, are the same but for those of one object
abbrev pub ChangesOnly : StoredObject → List ℕ → List Bool → List (Option CValue) → List ℕ → List Bool → List (Option CValue) → Type 0
ChangesOnly (stored.Bytes start count) bytes marks values bytes' marks' values' =
    SameAround start count bytes bytes' × SameAround start count marks marks' × (values' ≡ values)
ChangesOnly (stored.Values start count type) bytes marks values bytes' marks' values' =
    (bytes' ≡ bytes) × (marks' ≡ marks) × SameAround start count values values'

-- one object changes as a store says, or everything stays as it was at its fault
abbrev pub Writes : (Object → Or Object) → StoredObject → List ℕ → List Bool → List (Option CValue) → List ℕ → List Bool → List (Option CValue) → Result (Unit {0}) CFault → Type 0
Writes store place bytes marks values bytes' marks' values' (Ok done) =
    (store (object_in (marked bytes marks) values place) ≡ Ok (object_in (marked bytes' marks') values' place)) × ChangesOnly place bytes marks values bytes' marks' values'
Writes store place bytes marks values bytes' marks' values' (Err fault) =
    (store (object_in (marked bytes marks) values place) ≡ failing fault) × (bytes' ≡ bytes) × (marks' ≡ marks) × (values' ≡ values)

-- objects stand one behind the other from a byte and a value on, up to the ends of both
abbrev pub Stand : List StoredObject → ℕ → ℕ → ℕ → ℕ → Type 0
Stand [] byte value bytes values = (byte ≡ bytes) × (value ≡ values)
Stand (stored.Bytes start count ∷ later) byte value bytes values = (start ≡ byte) × Stand later (start + count) value bytes values
Stand (stored.Values start count type ∷ later) byte value bytes values = (start ≡ value) × Stand later byte (start + count) bytes values

-- objects stand in bytes with as many marks and in values
pub record IsLaidOut (places : List StoredObject) (bytes : List ℕ) (marks : List Bool) (values : List (Option CValue)) : Type 0 where
  pub same : length marks ≡ length bytes
  pub stand : Stand places 0 0 (length bytes) (length values)

-- one object more stands behind the others, as it starts
pub record Adds (kind : ObjectKind) (places : List StoredObject) (bytes : List ℕ) (marks : List Bool) (values : List (Option CValue))
    (places' : List StoredObject) (bytes' : List ℕ) (marks' : List Bool) (values' : List (Option CValue)) : Type 0 where
  pub laid : IsLaidOut places' bytes' marks' values'
  pub shown : objects_in places' (marked bytes' marks') values' ≡ objects_in places (marked bytes marks) values ++ object_at_first kind ∷ []

-- objects change as a store says, or stay as they were at its fault
abbrev pub Stores : (List Object → Or (List Object)) → List Object → List Object → Result (Unit {0}) CFault → Type 0
Stores store old new (Ok done) = store old ≡ Ok new
Stores store old new (Err fault) = (store old ≡ failing fault) × (new ≡ old)

-- an object of which nothing is set
abbrev pub unset_object : Object → Object
unset_object (Bytes bytes) = unset (length bytes)
unset_object (Values held) = unset_values held.type (length held.values)

-- the type of what an object of values holds
abbrev pub held_type : Option Object → Option Access
held_type None = None
held_type (Some (Bytes bytes)) = None
held_type (Some (Values held)) = Some held.type

-- the objects once nothing of one of them is set
abbrev pub unset_at : ℕ → List Object → List Object
unset_at number [] = []
unset_at zero (object ∷ later) = unset_object object ∷ later
unset_at (suc number) (object ∷ later) = object ∷ unset_at number later
