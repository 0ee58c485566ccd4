-- Why a formatted transfer goes no further.
use Rattle.std.specs.Prelude.{ℕ}

-- an error by the number that IOSTAT= gives; the end of the records, which is number -1; or a descriptor for another type than the
-- item's, which has no meaning
pub data Halt : Type 0 where
  Number : ℕ → Halt
  EndOfRecords : Halt
  OtherType : Halt
