use Rattle.std.proofs.Common.{get_or, arith, refl, subst}
use Rattle.std.proofs.lemmas.List.{take_all}
use Rattle.name_table.specs.Named.{texts}
use Rattle.placing_judge.specs.Numbering.{AreNamed}
use Rattle.placing_judge.proofs.NumberingLaws.{keeps_itself, keeps_along}
use Rattle.placing_judge.proofs.FrontLaws.{no_name, named_start, named_next}
use Rattle.placing_judge.proofs.numbering.number_names.Goals as goal

pub loop-name-init : goal.loop-name-init
loop-name-init c = record {
  said = named_start c.args.numbers.now _ c.args.names.now c.new-numbered.ensures.items;
  keeps = keeps_itself c.args.numbers.now;
  numbers = c.requires;
}

pub loop-name-preserved : goal.loop-name-preserved
loop-name-preserved c = record {
  said = named_next c.loop-name.numbers c.number.new.self c.loop-name.numbered.items _ _ c.args.names.now c.loop-name.name-index
      (get_or c.args.names.now c.loop-name.name-index no_name) c.in_ok-number.ensures.keeps c.loop-name-test.true refl c.loop-name.invariant.said
      c.in_ok-number.ensures.number c.in_ok-push.ensures.items;
  keeps = keeps_along _ c.loop-name.numbers c.number.new.self c.loop-name.invariant.keeps c.in_ok-number.ensures.keeps;
  numbers = c.in_ok-number.ensures.numbers;
}

pub returns-clause-said : goal.returns-clause-said
returns-clause-said c =
    subst (λ xs. AreNamed c.loop-name.numbers c.loop-name.numbered.items (texts xs)) (take_all c.loop-name.name-index c.args.names.now (omega arith)) c.loop-name.invariant.said
