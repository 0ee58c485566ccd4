use Rattle.std.proofs.Common.{sym, ◌∙◌}
use Rattle.unit_equations.proofs.NumberForms.{keeps_itself}
use Rattle.unit_equations.proofs.numbers.Numbers.number.Goals as goal

pub returns-in-Some-clause-number : goal.returns-in-Some-clause-number
returns-in-Some-clause-number c = c.requires.given c.args.name.now c.in-Some.number (sym c.get.ensures ∙ c.in-Some.is)

pub returns-in-Some-clause-keeps : goal.returns-in-Some-clause-keeps
returns-in-Some-clause-keeps c = keeps_itself c.args.self.now
