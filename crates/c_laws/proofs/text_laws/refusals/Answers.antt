-- A text that spells a tree is not refused, and one that is refused is so at one line.
use Rattle.c_laws.proofs.RefusalLaws.{not_both, one_refused_line}
use Rattle.c_laws.proofs.text_laws.refusals.Goals as goal

pub returns-clause-not_both : goal.returns-clause-not_both
returns-clause-not_both c = not_both

pub returns-clause-one_line : goal.returns-clause-one_line
returns-clause-one_line c = one_refused_line
