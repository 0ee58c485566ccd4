use Rattle.std.proofs.Common.{[], ap, ◌∙◌}
use Rattle.c_tree.specs.simulation.Machine as machine
use Rattle.c_tree.specs.Steps.{language}
use Rattle.item_deeds.specs.Deeds.{world_of}
use Rattle.program_runner.proofs.RunLaws.{alone-running, none-refused}
use Rattle.program_runner.proofs.runs.begin_by.Goals as goal

pub returns-in-Ok-clause-meaning : goal.returns-in-Ok-clause-meaning
returns-in-Ok-clause-meaning c = λ own units transfer.
    ap (λ entry. machine.opening language entry c.args.number []) (c.in-Ok.ensures.meaning own c.args.number units transfer)
    ∙ alone-running c.new.result c.args.number c.in-Ok.view (world_of c.start.new.run units transfer) c.new.ensures.top c.new.ensures.alone

pub returns-in-Err-clause-meaning : goal.returns-in-Err-clause-meaning
returns-in-Err-clause-meaning c = λ own units transfer.
    ap (λ entry. machine.opening language entry c.args.number []) (c.in-Err.ensures.meaning own c.args.number units transfer) ∙ none-refused c.in-Err.fault c.args.number
