use Rattle.c_declaration_reader.proofs.NumberSteps.{fits-plain, fits-turned, kept-turned}
use Rattle.c_declaration_reader.proofs.values.negative.Goals as goal

pub overflow_cast-result : goal.overflow_cast-result
overflow_cast-result c = fits-plain c.args.value c.requires

pub overflow_sub-result : goal.overflow_sub-result
overflow_sub-result c = fits-turned c.args.value c.requires

pub returns : goal.returns
returns c = kept-turned c.args.value c.requires
