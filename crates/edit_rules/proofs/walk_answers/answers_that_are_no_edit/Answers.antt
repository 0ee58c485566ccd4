use Rattle.std.proofs.Common.{refl}
use Rattle.edit_rules.specs.PartPlaces.{edit_in}
use Rattle.edit_rules.proofs.WalkEnds.{done_where, none_never, none_where, none_unserved, done_never}
use Rattle.edit_rules.proofs.walk_answers.answers_that_are_no_edit.Goals as goal

pub returns-clause-done : goal.returns-clause-done
returns-clause-done c text again rest walk given g = done_where text again rest walk given (edit_in text given) refl g

pub returns-clause-never_none : goal.returns-clause-never_none
returns-clause-never_none c text again rest walk given g h = none_never text again rest walk given (edit_in text given) refl g h

pub returns-clause-none : goal.returns-clause-none
returns-clause-none c text again rest walk given g = none_where text again rest walk given (edit_in text given) refl g

pub returns-clause-unserved : goal.returns-clause-unserved
returns-clause-unserved c text again rest walk given g h = none_unserved text again rest walk given (edit_in text given) refl g h

pub returns-clause-never_done : goal.returns-clause-never_done
returns-clause-never_done c text again rest walk given g h = done_never text again rest walk given (edit_in text given) refl g h
