-- What the external units are when a run begins: characters are bytes, unit numbers have 32 bits, and a file stands at one of its
-- records or behind the last. ANSI X3.9-1978, section 12.2.
use Rattle.std.specs.Prelude.{◌≡◌, ℕ, ◌<◌, ◌≤◌, ℤ, List, length, Some, true}
use Rattle.c_tree.specs.run_state.Units.{Units, UnitState, Offered}
use Rattle.f_tree.specs.Values.{in_range}
use Rattle.f_tree.specs.Setting.{IsIn}

abbrev pub AreBytes : List ℕ → Type 0
AreBytes bytes = (byte : ℕ) → IsIn byte bytes → byte < 256

-- the records of a file, and its position
pub record IsFile (records : List (List ℕ)) (position : ℕ) : Type 0 where
  pub bytes : (line : List ℕ) → IsIn line records → AreBytes line
  pub placed : position ≤ length records

pub record IsUnits (units : Units) : Type 0 where
  pub connected : (number : ℤ) (unit : UnitState) → units.connected number ≡ Some unit → (in_range number ≡ true) × IsFile unit.records unit.position
  pub drawer : (offered : Offered) → IsIn offered units.drawer → AreBytes offered.name × IsFile offered.records offered.position
