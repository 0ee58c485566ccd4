use Rattle.std.proofs.Common.{rules}
use Rattle.flat_linker.proofs.CaseLaws.{places-more, case-as}
use Rattle.flat_linker.proofs.cases.listed_at.Goals as goal

pub loop-case-preserved : goal.loop-case-preserved
loop-case-preserved c =
    places-more c.args.cases.now c.loop-case.case-index c.case-item.result _ c.loop-case.made _ _ c.loop-case.position _ c.loop-case-test.true c.case-item.is c.loop-case.invariant c.in_ok-push.ensures.ok
    (case-as c.case-item.result.number c.loop-case.position (search rules)) c.in_ok-position.ensures
