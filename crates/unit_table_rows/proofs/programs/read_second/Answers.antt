use Rattle.std.proofs.Common.{◌≡◌, ℕ, List, [], ◌∷◌, ◌++◌, drop, length, refl, ap, ◌∙◌, arith}
use Rattle.unit_table_rows.specs.Ends.{the_unit}
use Rattle.unit_table_rows.proofs.Steps.{found-line}
use Rattle.unit_table_rows.proofs.programs.read_second.Goals as goal

pub returns : goal.returns
returns g c =
    let long : length c.args.into.now ≡ 3 = ap length c.requires.stands
    in (found-line c.in_ok-line.line (66 ∷ 67 ∷ []) the_unit _ _ _ _ _ c.in_ok-line.ensures.means c.in_ok-line.ensures.did c.requires.has refl
    (omega (arith, long))).bytes
    ∙ ap (λ (l : List ℕ). (66 ∷ 67 ∷ []) ++ drop 2 l) c.requires.stands
