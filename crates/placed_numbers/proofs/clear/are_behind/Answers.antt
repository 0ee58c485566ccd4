use Rattle.std.proofs.Common.{◌<◌, length, arith, sym, subst, ◌∙◌}
use Rattle.placed_numbers.specs.Owned.{root_at}
use Rattle.placed_numbers.proofs.Clearing.{behind_more}
use Rattle.placed_numbers.proofs.clear.are_behind.Goals as goal

pub loop-place-init : goal.loop-place-init
loop-place-init c = λ y h. absurd (let k : y < 0 = h in omega arith)

pub is_before-requires-clause-root : goal.is_before-requires-clause-root
is_before-requires-clause-root c =
    subst (λ n. root_at c.args.places.now c.loop-place.place-index < n) (sym c.requires.each) (c.requires.rooted.each c.loop-place.place-index c.loop-place-test.true)

pub loop-place-preserved : goal.loop-place-preserved
loop-place-preserved c =
    behind_more c.args.places.now c.args.owners.now c.loop-place.place-index c.loop-place.invariant (sym c.is_before.ensures ∙ c.if-is_before.false)

pub returns-then-is_before-clause-before : goal.returns-then-is_before-clause-before
returns-then-is_before-clause-before c =
    record { number = c.loop-place.place-index; within = c.loop-place-test.true; before = sym c.is_before.ensures ∙ c.if-is_before.true }

pub returns-clause-behind : goal.returns-clause-behind
returns-clause-behind c = λ y h. c.loop-place.invariant y (let k : y < length c.args.places.now = h in omega arith)
