use Rattle.program_runner.proofs.CallsMade.{next-call-made}
use Rattle.program_runner.proofs.laws.next_calls_are_made.Goals as goal

pub returns : goal.returns
returns c = next-call-made
