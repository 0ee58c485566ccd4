-- The reader's answer is the verdict.
use Rattle.prototype_laws.proofs.VerdictLemmas.{verdict}
use Rattle.prototype_laws.proofs.laws.texts_have_a_verdict.Goals as goal

pub returns : goal.returns
returns c = verdict
