use Rattle.c_loops.proofs.Kept.{each_structure_is_kept}
use Rattle.c_loops.proofs.built.structured_statements_keep_loops.Goals as goal

pub returns : goal.returns
returns c = each_structure_is_kept
