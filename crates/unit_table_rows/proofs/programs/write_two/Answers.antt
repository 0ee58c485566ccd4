use Rattle.std.proofs.Common.{[], ◌∷◌, refl}
use Rattle.unit_table_rows.specs.Ends.{the_unit}
use Rattle.unit_table_rows.proofs.Steps.{written, rewound}
use Rattle.unit_table_rows.proofs.programs.write_two.Goals as goal

pub returns : goal.returns
returns g c =
    rewound _ the_unit _ _ _ c.in_ok-rewind_unit.ensures.means
    (written _ the_unit (66 ∷ 67 ∷ []) _ _ _ c.in_ok-write_to-2.ensures.means
    (written _ the_unit (65 ∷ []) _ _ _ c.in_ok-write_to.ensures.means c.requires refl) refl)
