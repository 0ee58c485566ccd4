-- How a run ends, for both machines: the FORTRAN meaning never ends by `Range`, since a place outside its declared
-- bounds is undefined there.
use Rattle.std.specs.Prelude.{ℕ, ℤ, List}

-- a place outside its declared bounds: the name of the variable, the subscript or place that is out of them, the name
-- of the unit, and the card of the statement
pub record Report : Type 0 where
  pub variable : List ℕ
  pub number : ℤ
  pub unit : List ℕ
  pub card : ℤ

-- at the end of the main program or by STOP without a text, by STOP with a text, by the number of an input or output
-- statement that does not ask for it, or at a place outside its declared bounds
pub data Ending : Type 0 where
  Plain : Ending
  Stop : List ℕ → Ending
  Io : ℤ → Ending
  Range : Report → Ending
