use Rattle.acceptance_laws.proofs.Whole.{refused_first}
use Rattle.acceptance_laws.proofs.laws.earlier_refusals_are_first.Goals as goal

pub returns : goal.returns
returns c = refused_first
