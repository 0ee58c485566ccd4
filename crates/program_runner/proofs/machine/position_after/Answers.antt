use Rattle.program_runner.proofs.StepLaws.{step-short}
use Rattle.program_runner.proofs.machine.position_after.Goals as goal

pub returns-in-Some-clause-meaning : goal.returns-in-Some-clause-meaning
returns-in-Some-clause-meaning c =
    step-short c.args.function.now c.in-Some.item.now c.args.position c.args.run.now c.next_position.new.run c.next_position.result c.in-Some.ensures.value c.next_position.ensures.meaning
