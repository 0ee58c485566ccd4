use Rattle.lowering_laws.proofs.LayoutLemmas.{laid_out}
use Rattle.lowering_laws.proofs.LocalLemmas.{simulates}
use Rattle.lowering_laws.proofs.statements.units_simulate.Goals as goal

pub returns : goal.returns
returns state number c u costs e direct end fits positive = simulates number u costs (laid_out c u e direct end fits) positive
