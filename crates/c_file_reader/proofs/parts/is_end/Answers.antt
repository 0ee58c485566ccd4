use Rattle.c_file_reader.proofs.PartSteps.{some_left}
use Rattle.c_file_reader.proofs.parts.is_end.Goals as goal

pub returns-in-len1-up : goal.returns-in-len1-up
returns-in-len1-up c = some_left c.args.tokens.now c.in-len1-up.len_at_least
