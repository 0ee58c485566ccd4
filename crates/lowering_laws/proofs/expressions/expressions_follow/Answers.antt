use Rattle.lowering_laws.proofs.ExpressionLemmas.{progress, progress_all}
use Rattle.lowering_laws.proofs.expressions.expressions_follow.Goals as goal

pub returns : goal.returns
unfolding Rattle.lowering_laws.proofs.ExpressionLemmas.TermMet Rattle.lowering_laws.proofs.ExpressionLemmas.TermsMet
returns c = record {
  each = λ u f h w env es purpose k t r p q m argued mid. progress u f h w mid argued;
  operands = λ u f h w env es purpose k ts rs p q m argued mid. progress_all u f h w mid argued;
}
