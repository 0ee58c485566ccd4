use Rattle.std.proofs.Common.{rules, SFits, w64}
use Rattle.std.proofs.lemmas.Int.{to_z-of_z}
use Rattle.unit_equations.specs.BlocksTold.{equation_in}
use Rattle.placing_judge.proofs.NumberingLaws.{said_one, keeps_along}
use Rattle.placing_judge.proofs.numbering.number_equation.Goals as goal

pub returns-clause-said : goal.returns-clause-said
returns-clause-said c =
    let fits : SFits w64 c.args.equation.now.by = search rules in
    said_one c.number.new.self c.number-2.new.self c.in_ok-other.ensures.keeps (equation_in c.args.equation.now) _ c.in_ok-one.ensures.number c.in_ok-other.ensures.number
    (to_z-of_z w64 c.args.equation.now.by fits)

pub returns-clause-keeps : goal.returns-clause-keeps
returns-clause-keeps c = keeps_along c.args.numbers.now c.number.new.self c.number-2.new.self c.in_ok-one.ensures.keeps c.in_ok-other.ensures.keeps
