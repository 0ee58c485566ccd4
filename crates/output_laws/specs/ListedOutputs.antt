-- A list-directed output on a unit, for which nothing is asked where it fails: FORTRAN's acts and the calls of the C library, side by side. The start,
-- an item and the end each come to the same. ANSI X3.9-1978, sections 12.8, 12.9.5 and 13.6; CSTR 149, on the run time library.
use Rattle.std.specs.Prelude.{◌≡◌, ℕ, ℤ, pos, false, Bool, List, [], ◌∷◌, ◌++◌, Some, None, Ok, slice_get}
use Rattle.faithful.specs.edit_meaning.Formats.{Empty}
use Rattle.faithful.specs.edit_meaning.ListInput.{Between as StandsBetween}
use Rattle.faithful.specs.edit_meaning.Listed.{ListedValue, Int, Logical}
use Rattle.faithful.specs.run_state.Units.{Units, reads_zero_blanks}
use Rattle.faithful.specs.f_tree.Values.{Datum, IsInt, IsLog}
use Rattle.faithful.specs.f_tree.Store.{Truth}
use Rattle.faithful.specs.f_tree.Facts.{Output, Listed, UnitWord, Controls, LabelledFormat}
use Rattle.faithful.specs.f_tree.World as fortran
use Rattle.faithful.specs.f_tree.Courses.{Course, Further, IsDone, StopsWith}
use Rattle.faithful.specs.f_tree.Transfers.{begins, item_done, finished}
use Rattle.faithful.specs.c_tree.declared.outcome.CValue.{CValue}
use Rattle.faithful.specs.c_tree.declared.outcome.CValue.TheVariants.{Number, Pointer, Null}
use Rattle.faithful.specs.c_tree.declared.types.ListType.TheVariants as list_type
use Rattle.faithful.specs.c_tree.Faults.{Or}
use Rattle.faithful.specs.c_tree.Access.{ToList}
use Rattle.faithful.specs.c_tree.Objects.{Object, Values}
use Rattle.faithful.specs.c_tree.World as c
use Rattle.faithful.specs.c_tree.World.{Reply, no_place, no_course}
use Rattle.faithful.specs.c_tree.Builtins.{Builtin, Begin, Finish, do_lio, ByList, OnUnit, transfer_kind}
use Rattle.faithful.specs.c_tree.LibraryArguments.{number_through}
use Rattle.faithful.specs.c_tree.Library.{library}
use Rattle.faithful.specs.StorageImage.{number_for}

-- the transfer, with its values so far and so many of their records written
abbrev pub fortran_listing : ℤ → Controls → Bool → List ListedValue → ℕ → fortran.Transfer
fortran_listing unit controls zeros values written = record {
  direction = Output;
  layout = Listed;
  medium = fortran.External unit;
  controls = controls;
  status = None;
  format = Empty;
  values = values;
  written = written;
  lines = [];
  taken = [];
  place = StandsBetween false [];
  slashed = false;
  wants = [];
  zeros = zeros;
}

abbrev pub c_listing : ℤ → List ListedValue → ℕ → c.Transfer
c_listing unit values written = record {
  direction = c.Output;
  layout = c.Listed;
  medium = c.Unit unit;
  on_error = pos 0;
  on_end = pos 0;
  values = values;
  written = written;
  received = [];
  line = [];
  place = no_place;
  slashed = false;
  course = no_course;
}

-- its control list: no ERR, the unit, no END, no format and no record number
abbrev pub list_object : ℤ → Object
list_object unit =
    Values (record {
      type = ToList list_type.Transfer;
      values = Some (Number (pos 0)) ∷ Some (Number unit) ∷ Some (Number (pos 0)) ∷ Some Null ∷ Some (Number (pos 0)) ∷ [];
    })

abbrev pub unit_alone : Controls
unit_alone = record { words = UnitWord ∷ []; on_error = None; on_end = None }

abbrev pub s_wsle : Builtin
s_wsle = Begin (transfer_kind c.Output ByList OnUnit)

abbrev pub e_wsle : Builtin
e_wsle = Finish (transfer_kind c.Output ByList OnUnit)

-- both runs end with a number, and no transfer is in progress
pub record BothStop (x : fortran.World) (y : c.World) (course : Course) (reply : Or Reply) : Type 0 where
  pub number : ℤ
  pub one : course ≡ StopsWith number (record x { transfer = None })
  pub other : reply ≡ Ok (c.Stops (c.Io number) (record y { transfer = None }))

-- both transfers begin, or go on with further values and other units
pub record BothGoOn (x : fortran.World) (y : c.World) (unit : ℤ) (zeros : Bool) (values : List ListedValue) (course : Course) (reply : Or Reply) : Type 0 where
  pub units : Units
  pub written : ℕ
  pub one : course ≡ Further (record x { units = units; transfer = Some (fortran_listing unit unit_alone zeros values written) })
  pub other : reply ≡ Ok (c.Gives (pos 0) (record y { units = units; transfer = Some (c_listing unit values written) }))

pub record BothEnd (x : fortran.World) (y : c.World) (course : Course) (reply : Or Reply) : Type 0 where
  pub units : Units
  pub one : course ≡ IsDone (record x { units = units; transfer = None })
  pub other : reply ≡ Ok (c.Gives (pos 0) (record y { units = units; transfer = None }))

pub data GoOnOrStop (x : fortran.World) (y : c.World) (unit : ℤ) (zeros : Bool) (values : List ListedValue) (course : Course) (reply : Or Reply) : Type 0 where
  go_on : BothGoOn x y unit zeros values course reply → GoOnOrStop x y unit zeros values course reply
  stop : BothStop x y course reply → GoOnOrStop x y unit zeros values course reply

pub data EndOrStop (x : fortran.World) (y : c.World) (course : Course) (reply : Or Reply) : Type 0 where
  end' : BothEnd x y course reply → EndOrStop x y course reply
  stopped : BothStop x y course reply → EndOrStop x y course reply

-- LAWS
-- the start, given the control list
abbrev pub StartsAreAlike : Type 0
StartsAreAlike = (formats : List LabelledFormat) (x : fortran.World) (y : c.World) (unit : ℤ) (n : ℕ) → x.transfer ≡ None → y.transfer ≡ None → x.units ≡ y.units → slice_get y.objects n ≡ Some (list_object unit) →
    GoOnOrStop x y unit (reads_zero_blanks unit x.units) [] (begins formats x Output Listed unit_alone (IsInt unit ∷ []) x.transfer) (library s_wsle y (Pointer n 0 ∷ []))

-- one transfer of the two kinds is in progress in both
pub record IsInProgress (x : fortran.World) (y : c.World) (unit : ℤ) (zeros : Bool) (values : List ListedValue) (written : ℕ) : Type 0 where
  pub one : x.transfer ≡ Some (fortran_listing unit unit_alone zeros values written)
  pub other : y.transfer ≡ Some (c_listing unit values written)
  pub units : x.units ≡ y.units

-- the kind of an item for the library, its value in the list, and the number that stands for it
pub data IsItem : Datum → ℤ → ListedValue → ℤ → Type 0 where
  an_integer : (z : ℤ) → IsItem (IsInt z) (pos 3) (Int z) z
  a_truth : (b : Bool) → IsItem (IsLog b) (pos 8) (Logical b) (number_for (Truth b))

-- an item that is a number or a truth value, given the kind, the count and the item by their addresses
abbrev pub ItemsAreAlike : Type 0
ItemsAreAlike = (x : fortran.World) (y : c.World) (unit : ℤ) (zeros : Bool) (values : List ListedValue) (written : ℕ) (d : Datum) (kind number : ℤ) (value : ListedValue) (kind_at count_at item_at : CValue) →
    IsInProgress x y unit zeros values written → IsItem d kind value number → number_through y.objects kind_at ≡ Ok kind → number_through y.objects count_at ≡ Ok (pos 1) → number_through y.objects item_at ≡ Ok number →
    GoOnOrStop x y unit zeros (values ++ value ∷ []) (item_done x d x.transfer) (library do_lio y (kind_at ∷ count_at ∷ item_at ∷ Number (pos 4) ∷ []))

abbrev pub EndsAreAlike : Type 0
EndsAreAlike = (x : fortran.World) (y : c.World) (unit : ℤ) (zeros : Bool) (values : List ListedValue) (written : ℕ) → IsInProgress x y unit zeros values written →
    EndOrStop x y (finished x x.transfer) (library e_wsle y [])
