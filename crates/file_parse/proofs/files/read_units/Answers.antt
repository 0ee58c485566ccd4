use Rattle.std.proofs.Common.{sym, subst}
use Rattle.file_parse.proofs.UnitLemmas.{GoingUnits, cut_where, some_left, none_left, units_go_on, units_end, units_stop}
use Rattle.file_parse.proofs.files.read_units.Goals as goal

pub returns-in-Err : goal.returns-in-Err
returns-in-Err c =
    let rest = c.loop-rest.rest.now in
    let front = c.split_at.result.0.now in
    let behind = c.split_at.result.1.now in
    units_stop c.args.sources.now rest front behind c.loop-rest.units c.in-Err.fail
    (cut_where rest front behind c.unit_length.result c.unit_length.ensures.value c.split_at.ensures.front c.split_at.ensures.back)
    c.loop-rest.invariant c.in-Err.ensures

pub loop-rest-preserved : goal.loop-rest-preserved
loop-rest-preserved c =
    let rest = c.loop-rest.rest.now in
    let front = c.split_at.result.0.now in
    let behind = c.split_at.result.1.now in
    subst (λ units. GoingUnits c.args.sources.now behind units) (sym c.in_ok-push-in-Ok.ensures.ok)
    (units_go_on c.args.sources.now rest front behind c.loop-rest.units c.in-Ok.unit
    (cut_where rest front behind c.unit_length.result c.unit_length.ensures.value c.split_at.ensures.front c.split_at.ensures.back)
    (some_left rest c.is_empty.result c.is_empty.ensures c.loop-rest-test.true)
    c.loop-rest.invariant c.in-Ok.ensures)

pub returns : goal.returns
returns c =
    units_end c.args.sources.now c.loop-rest.rest.now c.loop-rest.units c.loop-rest.invariant
    (none_left c.loop-rest.rest.now c.is_empty.result c.is_empty.ensures c.loop-rest-test.false)
