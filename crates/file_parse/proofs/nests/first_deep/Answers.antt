use Rattle.std.proofs.Common.{◌+◌, drop, subst, sym, arith}
use Rattle.std.proofs.lemmas.List.{drop_all}
use Rattle.file_parse.specs.FirstRefusals.{IsFirstAmong}
use Rattle.file_parse.proofs.NestLemmas.{deep_goes_on, deep_ends, deep_at_place, unit_rows}
use Rattle.file_parse.proofs.nests.first_deep.Goals as goal

pub loop-statement-preserved : goal.loop-statement-preserved
loop-statement-preserved c =
    let statements = c.as_slice-statement-items.result.now in
    let i = c.loop-statement.statement-index in
    let statement = c.statement-item.result in
    deep_goes_on statements (drop (i + 1) statements) statement i c.loop-statement.blocks c.pass.new.self c.loop-statement.found c.noted-found.result c.in_ok-deep.deep
    (deep_at_place statements i statement c.loop-statement.blocks c.loop-statement.found c.loop-statement-test.true c.statement-item.is c.loop-statement.invariant)
    (omega arith) c.in_ok-deep.ensures c.noted-found.ensures

pub returns : goal.returns
returns c =
    let statements = c.as_slice-statement-items.result.now in
    let i = c.loop-statement.statement-index in
    subst (λ rows. IsFirstAmong rows c.loop-statement.found) (sym (unit_rows c.args.unit.now statements c.as_slice-statement-items.ensures))
    (deep_ends statements (drop i statements) i c.loop-statement.blocks c.loop-statement.found c.loop-statement.invariant (drop_all i statements (omega arith)))
