-- How the programs over a unit table end.
use Rattle.std.specs.Prelude.{◌≡◌, ℕ, ℤ, Bool, true, false, List, [], ◌∷◌, Option, Some, pos}
use Rattle.std.specs.declared.alloc.Global.{Global}
use Rattle.std.specs.declared.dyn_box.DynBox.{DynBox}
use Rattle.f2c_outside.specs.Table.{Row}
use Rattle.f2c_outside.specs.declared.unit_table.NotPlaced.{NotPlaced}
use Rattle.f2c_outside.specs.declared.unit_table.NotPlaced.TheVariants as refusal
use Rattle.f2c_outside.specs.Meaning.{Tells, units_of}
use Rattle.run_state.specs.Units.{UnitState, Offered}

-- every device of the rows tells its records, and this is the state of the unit
pub record Has (rows : List Row) (unit : ℤ) (state : Option UnitState) : Type 0 where
  pub tells : Tells rows
  pub is : (units_of rows).connected unit ≡ state

-- the unit of the programs
abbrev pub the_unit : ℤ
the_unit = pos 3

-- a unit that ignores blanks
abbrev pub at_record : List (List ℕ) → ℕ → Bool → Option UnitState
at_record records position end_mark =
    Some (record { records = records; position = position; end_mark = end_mark; zero_blanks = false })

-- the records `A` and `BC`
abbrev pub two_records : List (List ℕ)
two_records = (65 ∷ []) ∷ (66 ∷ 67 ∷ []) ∷ []

-- two files of the name `D`: the first has the record `A`, the second none
abbrev pub two_files : List Offered
two_files =
    record { name = 68 ∷ []; records = (65 ∷ []) ∷ []; position = 0 }
    ∷ record { name = 68 ∷ []; records = []; position = 0 }
    ∷ []

-- the first of them, open, with blanks that are zeros
abbrev pub first_file : Option UnitState
first_file = Some (record { records = (65 ∷ []) ∷ []; position = 0; end_mark = false; zero_blanks = true })

-- the second of them
abbrev pub second_file : List Offered
second_file = record { name = 68 ∷ []; records = []; position = 0 } ∷ []

-- every device of the rows tells its records, this is the state of unit 3, and these files stand in the drawer
pub record HasDrawer (rows : List Row) (state : Option UnitState) (files : List Offered) : Type 0 where
  pub tells : Tells rows
  pub is : (units_of rows).connected the_unit ≡ state
  pub drawer : (units_of rows).drawer ≡ files

-- a device came back because there was no memory
abbrev pub IsUnplaced : {V : Type 0} {H : V → Type 0} → DynBox V Global H → NotPlaced V H → Type 0
IsUnplaced device (refusal.NoMemory back) = back ≡ device
IsUnplaced device (refusal.Taken back) = ⊥

-- a device came back because the unit is connected
abbrev pub IsTaken : {V : Type 0} {H : V → Type 0} → DynBox V Global H → NotPlaced V H → Type 0
IsTaken device (refusal.Taken back) = back ≡ device
IsTaken device (refusal.NoMemory back) = ⊥
