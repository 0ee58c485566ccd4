use Rattle.std.proofs.Common.{[], ◌∷◌, refl}
use Rattle.unit_table_rows.specs.Ends.{the_unit}
use Rattle.unit_table_rows.proofs.Steps.{write-past, end-past, went-back}
use Rattle.unit_table_rows.proofs.programs.behind_the_end.Goals as goal

pub returns-clause-written : goal.returns-clause-written
returns-clause-written g c =
    (write-past the_unit (68 ∷ []) _ _ _ c.write_to-written.result c.write_to-written.ensures.did c.requires refl).0

pub returns-clause-ended : goal.returns-clause-ended
returns-clause-ended g c =
    let one = write-past the_unit (68 ∷ []) _ _ _ c.write_to-written.result c.write_to-written.ensures.did c.requires refl
    in (end-past the_unit _ _ _ c.end_unit-ended.result c.end_unit-ended.ensures.did one.1 refl).0

pub returns-clause-has : goal.returns-clause-has
returns-clause-has g c =
    let one = write-past the_unit (68 ∷ []) _ _ _ c.write_to-written.result c.write_to-written.ensures.did c.requires refl
    in let two = end-past the_unit _ _ _ c.end_unit-ended.result c.end_unit-ended.ensures.did one.1 refl
    in went-back _ the_unit _ _ _ c.in_ok-back_unit.ensures.means two.1
