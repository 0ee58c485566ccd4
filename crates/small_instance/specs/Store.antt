-- What the source and the middle language share: numbered cells, each undefined or a number. The
-- first cells are the block; the others were made for values that calls passed.
use Rattle.std.specs.Prelude.{ℕ, ◌+◌, ◌-◌, Bool, nat_eq, nat_lt, if◌then◌else◌, Option, Some, None}
use Rattle.small_instance.specs.declared.source.Place.{Place}
use Rattle.small_instance.specs.declared.source.Place.TheVariants.{Common, First, Second}

-- how a run ends: the main unit has answered, or a STOP has been met
pub data Ending : Type 0 where
  Plain Stopped : Ending

-- what the source leaves undefined
pub data Fault : Type 0 where
  Undefined OutOfBlock NoStatement NoUnit IsActive : Fault

-- how many cells the block has
abbrev pub block : ℕ
block = 4

pub record Store : Type 0 where
  pub cells : ℕ → Option ℕ
  -- the cells below it are there
  pub height : ℕ

-- the cells that the two dummies of an active unit are bound to
pub record Bound : Type 0 where
  pub first : ℕ
  pub second : ℕ

-- a unit, and which of its two names it is called by
pub record Called : Type 0 where
  pub unit : ℕ
  pub by_second : Bool

-- a number, or what is wrong
pub data Value : Type 0 where
  Is : ℕ → Value
  Bad : Fault → Value

-- the cell that an argument is bound to, with the value of the fresh cell that is made for it
pub data Tied : Type 0 where
  Ties : ℕ → Option ℕ → Tied
  Untied : Fault → Tied

abbrev pub set_cell : ℕ → ℕ → Store → Store
set_cell c x s = record s { cells = λ d. if nat_eq d c then Some x else s.cells d }

abbrev pub cell_of : Bound → Place → Option ℕ
cell_of b (Common k) = if nat_lt k block then Some k else None
cell_of b First = Some b.first
cell_of b Second = Some b.second

abbrev pub defined : Option ℕ → Value
defined (Some x) = Is x
defined None = Bad Undefined

abbrev pub fetch_cell : Store → Option ℕ → Value
fetch_cell s (Some c) = defined (s.cells c)
fetch_cell s None = Bad OutOfBlock

abbrev pub fetch : Bound → Store → Place → Value
fetch b s p = fetch_cell s (cell_of b p)

-- an argument by reference; the fresh cell stays undefined
abbrev pub tie_cell : Option ℕ → Tied
tie_cell (Some c) = Ties c None
tie_cell None = Untied OutOfBlock

-- an argument by value, in fresh cell c
abbrev pub tie_value : ℕ → Value → Tied
tie_value c (Is x) = Ties c (Some x)
tie_value c (Bad f) = Untied f

-- a call makes two fresh cells
abbrev pub with_fresh : Option ℕ → Option ℕ → Store → Store
with_fresh x y s = record {
  cells = λ d. if nat_eq d s.height then x else (if nat_eq d (s.height + 1) then y else s.cells d);
  height = s.height + 2;
}

-- they are gone where the caller goes on
abbrev pub without_fresh : Store → Store
without_fresh s = record s { height = s.height - 2 }
