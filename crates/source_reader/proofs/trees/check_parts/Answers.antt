use Rattle.std.proofs.Common.{Ok, subst, arith}
use Rattle.file_parse.specs.FileTrees.{IsPartTree}
use Rattle.source_reader.proofs.TreeLemmas.{parts_start, parts_go_on, parts_stop}
use Rattle.source_reader.proofs.trees.check_parts.Goals as goal

pub loop-place-init : goal.loop-place-init
loop-place-init c = parts_start c.args.names.now c.args.parts.now

pub returns-in-Err : goal.returns-in-Err
returns-in-Err c =
    parts_stop (Unit {0}) c.args.names.now c.args.parts.now c.loop-place.place c.as_slice.result.now c.index-parts-place.result c.in-Err.fail
    c.loop-place-test.true c.index-parts-place.is c.loop-place.invariant c.in-Err.ensures

pub loop-place-preserved : goal.loop-place-preserved
loop-place-preserved c =
    parts_go_on c.args.names.now c.args.parts.now c.loop-place.place c.index-names-place.result c.index-parts-place.result c.in-Ok.field-0 (omega arith)
    c.loop-place-test.true c.index-names-place.is c.index-parts-place.is c.loop-place.invariant
    (subst (λ n. IsPartTree n c.index-parts-place.result.statements (Ok c.in-Ok.field-0)) c.as_slice.ensures c.in-Ok.ensures)
