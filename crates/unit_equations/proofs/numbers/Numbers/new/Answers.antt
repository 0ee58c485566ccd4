use Rattle.std.proofs.Common.{ap}
use Rattle.name_table.specs.Named.{texts}
use Rattle.unit_equations.proofs.NumberForms.{no_numbers}
use Rattle.unit_equations.proofs.numbers.Numbers.new.Goals as goal

pub returns-clause-numbers : goal.returns-clause-numbers
returns-clause-numbers c = no_numbers _ c.new-2.ensures (ap texts c.new.ensures.items)
