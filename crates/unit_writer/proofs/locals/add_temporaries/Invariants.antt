use Rattle.std.proofs.Common.{◌≡◌, ◌+◌, ◌-◌, ◌++◌}
use Rattle.main_translation.specs.main_file.MainFile.{temporaries_from}
use Rattle.unit_writer.proofs.locals.add_temporaries.Given as goal

abbrev pub invariant-loop-before : goal.invariant-loop-before
invariant-loop-before l = l.initial.locals.items ++ temporaries_from 1 l.count ≡ l.locals.items ++ temporaries_from (l.before + 1) (l.count - l.before)
