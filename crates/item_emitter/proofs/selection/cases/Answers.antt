use Rattle.std.proofs.Common.{suc, ◌+◌, ◌++◌, ap, sym, ◌∙◌, arith}
use Rattle.item_emission.specs.NamedEmission.{cases_from}
use Rattle.item_emitter.proofs.SelectionWalks.{cases_behind, cases-more, cases-end}
use Rattle.item_emitter.proofs.selection.cases.Goals as goal

pub loop-passed-preserved : goal.loop-passed-preserved
loop-passed-preserved c =
    cases-more c.args.position c.args.count c.loop-passed.passed c.in_ok-number.number c.in_ok-place.place c.in_ok-next.next (cases_from 1 (suc c.args.position) c.args.count) c.loop-passed.row.items
    c.loop-passed-test.true c.in_ok-number.ensures c.in_ok-place.ensures c.in_ok-next.ensures c.loop-passed.invariant
    ∙ ap (λ row. row ++ cases_behind c.args.position c.args.count (c.loop-passed.passed + 1)) (sym c.in_ok-push.ensures.items)

pub returns : goal.returns
returns c = cases-end c.args.position c.args.count c.loop-passed.passed (cases_from 1 (suc c.args.position) c.args.count) c.loop-passed.row.items (omega arith) c.loop-passed.invariant
