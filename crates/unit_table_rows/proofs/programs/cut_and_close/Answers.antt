use Rattle.std.proofs.Common.{refl}
use Rattle.unit_table_rows.specs.Ends.{the_unit}
use Rattle.unit_table_rows.proofs.Steps.{went-back, ended, closed}
use Rattle.unit_table_rows.proofs.programs.cut_and_close.Goals as goal

pub returns-clause-count : goal.returns-clause-count
returns-clause-count g c =
    (closed c.in_ok-closed.closed the_unit _ _ _ c.in_ok-closed.ensures.means
    (ended _ the_unit _ _ _ c.in_ok-end_unit.ensures.means
    (went-back _ the_unit _ _ _ c.in_ok-back_unit.ensures.means c.requires) refl)).count

pub returns-clause-has : goal.returns-clause-has
returns-clause-has g c =
    (closed c.in_ok-closed.closed the_unit _ _ _ c.in_ok-closed.ensures.means
    (ended _ the_unit _ _ _ c.in_ok-end_unit.ensures.means
    (went-back _ the_unit _ _ _ c.in_ok-back_unit.ensures.means c.requires) refl)).none
