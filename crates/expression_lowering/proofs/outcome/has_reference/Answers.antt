use Rattle.std.proofs.Common.{◌∙◌}
use Rattle.expression_lowering.proofs.Agreement.{reference-agrees}
use Rattle.expression_lowering.proofs.outcome.has_reference.Goals as goal

pub returns : goal.returns
returns c = λ names told. c.refers.ensures ∙ reference-agrees names c.args.table.now told c.args.e.now c.requires
