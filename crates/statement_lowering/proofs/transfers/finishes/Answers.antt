use Rattle.statement_lowering.proofs.TransferLaws.{finished}
use Rattle.statement_lowering.proofs.transfers.finishes.Goals as goal

pub returns : goal.returns
returns c = finished c.new-steps.result.items c.push.new.self.items c.finish-step.result c.new-steps.ensures.items c.in_ok-push.ensures.items c.finish-step.ensures
