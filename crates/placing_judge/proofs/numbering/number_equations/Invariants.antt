use Rattle.std.proofs.Common.{map, take}
use Rattle.unit_equations.specs.BlocksTold.{equation_in}
use Rattle.unit_equations.specs.NumbersTold.{AreNumbers, Keeps}
use Rattle.placing_judge.specs.Numbering.{AreSaid}
use Rattle.placing_judge.proofs.numbering.number_equations.Given as goal

abbrev pub invariant-loop-equation : goal.invariant-loop-equation
invariant-loop-equation l = record {
  said : AreSaid l.numbers l.numbered.items (map equation_in (take l.equation-index l.equations));
  keeps : Keeps l.initial.numbers l.numbers;
  numbers : AreNumbers l.numbers;
}
