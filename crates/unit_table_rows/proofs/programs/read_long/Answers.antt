use Rattle.std.proofs.Common.{[], ◌∷◌, refl, arith}
use Rattle.unit_table_rows.specs.Ends.{the_unit}
use Rattle.unit_table_rows.proofs.Steps.{found-long}
use Rattle.unit_table_rows.proofs.programs.read_long.Goals as goal

pub returns-clause-long : goal.returns-clause-long
returns-clause-long g c =
    (found-long c.in_ok-got.got (66 ∷ 67 ∷ []) the_unit _ _ _ _ _ c.in_ok-got.ensures.means c.in_ok-got.ensures.did c.requires.has refl
    (let room = c.requires.room in omega arith)).is

pub returns-clause-slice : goal.returns-clause-slice
returns-clause-slice g c =
    (found-long c.in_ok-got.got (66 ∷ 67 ∷ []) the_unit _ _ _ _ _ c.in_ok-got.ensures.means c.in_ok-got.ensures.did c.requires.has refl
    (let room = c.requires.room in omega arith)).slice

pub returns-clause-has : goal.returns-clause-has
returns-clause-has g c =
    (found-long c.in_ok-got.got (66 ∷ 67 ∷ []) the_unit _ _ _ _ _ c.in_ok-got.ensures.means c.in_ok-got.ensures.did c.requires.has refl
    (let room = c.requires.room in omega arith)).has
