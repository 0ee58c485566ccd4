use Rattle.std.proofs.Common.{◌≡◌, [], ◌∷◌, length, drop, suc, ap, refl, arith, length-drop}
use Rattle.unit_table_rows.specs.Ends.{the_unit}
use Rattle.unit_table_rows.proofs.Steps.{found-line, found-end}
use Rattle.unit_table_rows.proofs.programs.read_both.Goals as goal

pub returns-clause-first : goal.returns-clause-first
returns-clause-first g c =
    (found-line c.in_ok-first.first (65 ∷ []) the_unit _ _ _ _ _ c.in_ok-first.ensures.means c.in_ok-first.ensures.did c.requires.has
    refl (let room = c.requires.room in omega arith)).is

pub returns-clause-second : goal.returns-clause-second
returns-clause-second g c =
    let one = found-line c.in_ok-first.first (65 ∷ []) the_unit _ _ _ _ _ c.in_ok-first.ensures.means c.in_ok-first.ensures.did c.requires.has
    refl (let room = c.requires.room in omega arith)
    in let long : length c.read_from.new.into ≡ suc (length (drop 1 c.args.into.now)) = ap length one.bytes
    in (found-line c.in_ok-second.second (66 ∷ 67 ∷ []) the_unit _ _ _ _ _ c.in_ok-second.ensures.means
    c.in_ok-second.ensures.did one.has refl
    (let room = c.requires.room in omega (arith, long, length-drop 1 c.args.into.now))).is

pub returns-clause-last : goal.returns-clause-last
returns-clause-last g c =
    let one = found-line c.in_ok-first.first (65 ∷ []) the_unit _ _ _ _ _ c.in_ok-first.ensures.means c.in_ok-first.ensures.did c.requires.has
    refl (let room = c.requires.room in omega arith)
    in let long : length c.read_from.new.into ≡ suc (length (drop 1 c.args.into.now)) = ap length one.bytes
    in let two =
    found-line c.in_ok-second.second (66 ∷ 67 ∷ []) the_unit _ _ _ _ _ c.in_ok-second.ensures.means
    c.in_ok-second.ensures.did one.has refl
    (let room = c.requires.room in omega (arith, long, length-drop 1 c.args.into.now))
    in (found-end c.in_ok-last.last the_unit _ _ _ _ _ c.in_ok-last.ensures.means c.in_ok-last.ensures.did two.has refl).is

pub returns-clause-has : goal.returns-clause-has
returns-clause-has g c =
    let one = found-line c.in_ok-first.first (65 ∷ []) the_unit _ _ _ _ _ c.in_ok-first.ensures.means c.in_ok-first.ensures.did c.requires.has
    refl (let room = c.requires.room in omega arith)
    in let long : length c.read_from.new.into ≡ suc (length (drop 1 c.args.into.now)) = ap length one.bytes
    in let two =
    found-line c.in_ok-second.second (66 ∷ 67 ∷ []) the_unit _ _ _ _ _ c.in_ok-second.ensures.means
    c.in_ok-second.ensures.did one.has refl
    (let room = c.requires.room in omega (arith, long, length-drop 1 c.args.into.now))
    in (found-end c.in_ok-last.last the_unit _ _ _ _ _ c.in_ok-last.ensures.means c.in_ok-last.ensures.did two.has refl).has
