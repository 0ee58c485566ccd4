use Rattle.std.proofs.Common.{true, set, ◌∙◌, ap}
use Rattle.program_runner.proofs.stack.put_caller.Goals as goal

pub returns-clause-flags : goal.returns-clause-flags
returns-clause-flags c = c.note.ensures.flags ∙ ap (λ all. set all c.args.called true) c.put.ensures.flags
