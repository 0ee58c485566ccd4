-- A device in memory.
use Rattle.std.specs.Prelude.{◌≡◌, ℕ, ◌+◌, ◌<◌, ◌≤◌, ◌↔◌, Bool, false, List, [], ◌++◌, length, drop, Some, IsTrue}
use Rattle.f2c_outside.specs.Shelf.{Rose}
use Rattle.f2c_outside.specs.Device.{DeviceState}
use Rattle.f2c_outside.specs.Plan.{Plan, next_fails, after_call}
use Rattle.f2c_outside.specs.declared.devices.Got.{Got}
use Rattle.f2c_outside.specs.declared.devices.Got.TheVariants.{Line, End, Long, Failed}

-- the records, how many of them stand before the position, whether `finish` has succeeded since one was
-- written or cut off, the calls that are to fail, and how often a call failed for want of memory
pub record Tape : Type 0 where
  pub records : List (List ℕ)
  pub position : ℕ
  pub finished : Bool
  pub plan : Plan
  pub starved : ℕ

-- a device in memory tells its records, and its faults are those that were planned and those of want of memory
abbrev pub tape_state : Tape → DeviceState
tape_state tape =
    record {
      told = Some tape.records;
      position = tape.position;
      finished = tape.finished;
      calls = tape.plan.calls;
      faults = tape.plan.planned + tape.starved;
    }

-- a device in memory without records
abbrev pub empty_tape : Tape
empty_tape =
    record {
      records = [];
      position = 0;
      finished = false;
      plan = record { fails = []; calls = 0; planned = 0 };
      starved = 0;
    }

-- a record is handed out: its bytes in front of the slice where it fits, and its length alone where it does not
abbrev pub Gives : Got → (bytes old new : List ℕ) → Type 0
Gives (Line n) bytes old new = (n ≡ length bytes) × (n ≤ length old) × (new ≡ bytes ++ drop n old)
Gives (Long n) bytes old new = (n ≡ length bytes) × (length old < n) × (new ≡ old)
Gives End bytes old new = ⊥
Gives Failed bytes old new = ⊥

-- a call that takes no memory: it fails exactly where its number is among those that are to fail, and where
-- it fails the records and the position are as before
pub record TapeCounted (b a : Tape) (fails : Type 0) : Type 0 where
  pub plan : a.plan ≡ after_call b.plan
  pub starved : a.starved ≡ b.starved
  pub failed : fails ↔ IsTrue (next_fails b.plan)
  pub records : fails → a.records ≡ b.records
  pub position : fails → a.position ≡ b.position

-- a call that may want memory: it fails where its number is among those that are to fail, and where memory
-- was refused, and nowhere else; where it fails the records and the position are as before
pub record TapeGrowth (b a : Tape) (fails : Type 0) : Type 0 where
  pub plan : a.plan ≡ after_call b.plan
  pub later : b.starved ≤ a.starved
  pub planned : IsTrue (next_fails b.plan) → fails
  pub starved : b.starved < a.starved → fails
  pub only : fails → ¬ IsTrue (next_fails b.plan) → Rose b.starved a.starved
  pub records : fails → a.records ≡ b.records
  pub position : fails → a.position ≡ b.position
