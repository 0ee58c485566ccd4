use Rattle.std.proofs.Common.{take}
use Rattle.name_table.specs.Named.{texts}
use Rattle.unit_equations.specs.NumbersTold.{AreNumbers, Keeps}
use Rattle.placing_judge.specs.Numbering.{AreNamed}
use Rattle.placing_judge.proofs.numbering.number_names.Given as goal

abbrev pub invariant-loop-name : goal.invariant-loop-name
invariant-loop-name l = record {
  said : AreNamed l.numbers l.numbered.items (texts (take l.name-index l.names));
  keeps : Keeps l.initial.numbers l.numbers;
  numbers : AreNumbers l.numbers;
}
