use Rattle.declaration_laws.proofs.VerdictLemmas.{verdicts}
use Rattle.declaration_laws.proofs.laws.each_set_has_a_verdict.Goals as goal

pub returns : goal.returns
returns c = verdicts
