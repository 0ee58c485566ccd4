-- LAW: the C function of a unit simulates its lowered text. ANSI X3.9-1978, sections 14 and 15; C89, 3.3.2.2 and 3.6.6.4.
use Rattle.std.specs.Prelude.{ℕ, List}
use Rattle.procedure_emission.specs.simulation.LocalSimulation.{Local}
use Rattle.procedure_emission.specs.l_core.Steps.{Text}
use Rattle.procedure_emission.specs.emitted_texts.SecondLayer.{Surroundings, Emission}
use Rattle.procedure_emission.specs.CallLayer.{entered_couple}
use Rattle.procedure_emission.specs.EmittedUnits.{IsEmittedUnit, IsCosted}

-- The function of a main program, a subroutine or a function of numbers simulates its lowered text, where each step is emitted, and the bounds of its dummy
-- arrays are kept before the first, which may cost more by as much.
abbrev pub UnitsAreSimulated : Type 0
UnitsAreSimulated = (s : Surroundings) (number : ℕ) (u : Text) (costs later : List ℕ) (e : Emission) (is : IsEmittedUnit s number u costs e) → IsCosted u costs later is.entry is.savings →
    Local (entered_couple s number u costs later e)
