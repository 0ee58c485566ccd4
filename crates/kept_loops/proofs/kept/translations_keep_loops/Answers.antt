use Rattle.kept_loops.proofs.Files.{translations_keep}
use Rattle.kept_loops.proofs.kept.translations_keep_loops.Goals as goal

pub returns : goal.returns
returns c = translations_keep c.structured_statements_keep_loops.ensures c.lowered_units_mark_loops.ensures.loops c.lowered_units_mark_loops.ensures.labels c.units_stand_behind.ensures
