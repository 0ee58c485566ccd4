use Rattle.std.proofs.Common.{map, get_or, arith, refl, subst}
use Rattle.std.proofs.lemmas.List.{take_all}
use Rattle.unit_equations.specs.BlocksTold.{equation_in}
use Rattle.placing_judge.specs.Numbering.{AreSaid}
use Rattle.placing_judge.proofs.NumberingLaws.{keeps_itself, keeps_along}
use Rattle.placing_judge.proofs.FrontLaws.{no_equation, said_start, said_next}
use Rattle.placing_judge.proofs.numbering.number_equations.Goals as goal

pub loop-equation-init : goal.loop-equation-init
loop-equation-init c = record {
  said = said_start c.args.numbers.now _ c.args.equations.now c.new-numbered.ensures.items;
  keeps = keeps_itself c.args.numbers.now;
  numbers = c.requires;
}

pub loop-equation-preserved : goal.loop-equation-preserved
loop-equation-preserved c = record {
  said = said_next c.loop-equation.numbers c.number_equation.new.numbers c.loop-equation.numbered.items _ _ c.args.equations.now c.loop-equation.equation-index
      (get_or c.args.equations.now c.loop-equation.equation-index no_equation) c.in_ok-number_equation.ensures.keeps c.loop-equation-test.true refl c.loop-equation.invariant.said
      c.in_ok-number_equation.ensures.said c.in_ok-push.ensures.items;
  keeps = keeps_along _ c.loop-equation.numbers c.number_equation.new.numbers c.loop-equation.invariant.keeps c.in_ok-number_equation.ensures.keeps;
  numbers = c.in_ok-number_equation.ensures.numbers;
}

pub returns-clause-said : goal.returns-clause-said
returns-clause-said c =
    subst (λ xs. AreSaid c.loop-equation.numbers c.loop-equation.numbered.items (map equation_in xs))
    (take_all c.loop-equation.equation-index c.args.equations.now (omega arith)) c.loop-equation.invariant.said
