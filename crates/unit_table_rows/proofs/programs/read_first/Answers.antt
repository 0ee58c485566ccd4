use Rattle.std.proofs.Common.{[], ◌∷◌, refl, arith}
use Rattle.unit_table_rows.specs.Ends.{the_unit}
use Rattle.unit_table_rows.proofs.Steps.{found-line}
use Rattle.unit_table_rows.proofs.programs.read_first.Goals as goal

pub returns-clause-line : goal.returns-clause-line
returns-clause-line g c =
    (found-line c.in_ok-line.line (65 ∷ []) the_unit _ _ _ _ _ c.in_ok-line.ensures.means c.in_ok-line.ensures.did c.requires.has refl
    (let room = c.requires.room in omega arith)).is

pub returns-clause-bytes : goal.returns-clause-bytes
returns-clause-bytes g c =
    (found-line c.in_ok-line.line (65 ∷ []) the_unit _ _ _ _ _ c.in_ok-line.ensures.means c.in_ok-line.ensures.did c.requires.has refl
    (let room = c.requires.room in omega arith)).bytes

pub returns-clause-has : goal.returns-clause-has
returns-clause-has g c =
    (found-line c.in_ok-line.line (65 ∷ []) the_unit _ _ _ _ _ c.in_ok-line.ensures.means c.in_ok-line.ensures.did c.requires.has refl
    (let room = c.requires.room in omega arith)).has
