use Rattle.std.proofs.Common.{◌∙◌}
use Rattle.c_expression_reader.proofs.SignLemmas.{same-sign}
use Rattle.c_expression_reader.proofs.wanted.is_same.Goals as goal

pub returns : goal.returns
returns c = c.eq.ensures ∙ same-sign c.args.sign c.args.wanted
