use Rattle.unit_table_rows.specs.Ends.{the_unit}
use Rattle.unit_table_rows.proofs.Steps.{went-back, rewound}
use Rattle.unit_table_rows.proofs.programs.rewind_and_back.Goals as goal

pub returns : goal.returns
returns g c =
    went-back _ the_unit _ _ _ c.in_ok-back_unit.ensures.means (rewound _ the_unit _ _ _ c.in_ok-rewind_unit.ensures.means c.requires)
