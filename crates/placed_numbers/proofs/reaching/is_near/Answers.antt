use Rattle.std.proofs.Common.{◌≡◌, ◌≤◌, pos, length, arith, refl}
use Rattle.placed_numbers.proofs.Lists.{near_start, reach_left, reach_none}
use Rattle.placed_numbers.proofs.reaching.is_near.Goals as goal

pub loop-equation-init : goal.loop-equation-init
loop-equation-init c = near_start c.args.equations.now _ refl

pub loop-equation-preserved : goal.loop-equation-preserved
loop-equation-preserved c =
    let k = reach_left c.args.equations.now c.loop-equation.equation-index _ (record { one = 0; other = 0; by = pos 0 }) c.loop-equation-test.true refl in
    omega arith

pub returns : goal.returns
returns c = let k = reach_none c.args.equations.now c.loop-equation.equation-index (omega arith) in omega arith
