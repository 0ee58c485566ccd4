use Rattle.std.proofs.Common.{◌≡◌, ◌+◌, suc, nat_eq, subst, arith}
use Rattle.main_translation.specs.Outlined.{stands_at}
use Rattle.unit_contents.proofs.TargetLaws.{from_begin, from_more, from_end}
use Rattle.unit_contents.proofs.targets.note_each.Goals as goal

pub loop-passed-init : goal.loop-passed-init
loop-passed-init c = from_begin (suc (suc c.args.position)) c.args.count c.args.table.now

pub loop-passed-preserved : goal.loop-passed-preserved
loop-passed-preserved c =
    let first = suc (suc c.args.position) in
    let i = c.loop-passed.passed in
    let before = c.loop-passed.table in
    from_more first c.args.count i c.behind.result c.args.table.now before c.note_if.new.table c.loop-passed-test.true (omega arith)
    (λ n h. subst (λ m. stands_at c.behind.result n ≡ nat_eq n m) (let same : suc c.args.position + (i + 1) ≡ first + i = omega arith in same) (c.behind.ensures n h))
    (omega arith) c.note_if.ensures c.loop-passed.invariant

pub returns : goal.returns
returns c = from_end (suc (suc c.args.position)) c.args.count c.loop-passed.passed c.args.table.now c.loop-passed.table (omega arith) c.loop-passed.invariant
