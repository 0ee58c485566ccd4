use Rattle.lowering_laws.proofs.LayoutLemmas.{laid_out}
use Rattle.lowering_laws.proofs.statements.texts_are_laid_out.Goals as goal

pub returns : goal.returns
returns state c u e direct end fits = laid_out c u e direct end fits
