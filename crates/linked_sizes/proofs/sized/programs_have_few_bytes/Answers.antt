use Rattle.linked_sizes.proofs.Programs.{each_program_is_sized}
use Rattle.linked_sizes.proofs.sized.programs_have_few_bytes.Goals as goal

pub returns : goal.returns
returns c = each_program_is_sized
