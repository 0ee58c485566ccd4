use Rattle.std.proofs.Common.{false, ◌+◌, sym, subst, drop, arith}
use Rattle.std.proofs.lemmas.List.{drop_all}
use Rattle.file_parse.proofs.StatementLemmas.{Going, going_on, going_ends, going_stops, going_at}
use Rattle.file_parse.proofs.statements.read_statements.Goals as goal

pub returns-in-Err : goal.returns-in-Err
returns-in-Err c =
    let i = c.loop-source.source-index in
    let sources = c.args.sources.now in
    let source = c.source-item.result in
    going_stops c.args.first c.loop-source.begins sources (drop (i + 1) sources) c.loop-source.trees source c.in-Err.fail
    (going_at c.args.first c.loop-source.begins sources c.loop-source.trees i source c.loop-source-test.true c.source-item.is c.loop-source.invariant)
    c.in-Err.ensures

pub loop-source-preserved : goal.loop-source-preserved
loop-source-preserved c =
    let i = c.loop-source.source-index in
    let sources = c.args.sources.now in
    let source = c.source-item.result in
    subst (λ trees. Going c.args.first false sources (drop (i + 1) sources) trees) (sym c.in_ok-push-in-Ok.ensures.ok)
    (going_on c.args.first c.loop-source.begins sources (drop (i + 1) sources) c.loop-source.trees source c.in-Ok.tree
    (going_at c.args.first c.loop-source.begins sources c.loop-source.trees i source c.loop-source-test.true c.source-item.is c.loop-source.invariant)
    c.in-Ok.ensures.0 c.in-Ok.ensures.1)

pub returns : goal.returns
returns c =
    going_ends c.args.first c.loop-source.begins c.args.sources.now (drop c.loop-source.source-index c.args.sources.now) c.loop-source.trees c.loop-source.invariant
    (drop_all c.loop-source.source-index c.args.sources.now (omega arith))
