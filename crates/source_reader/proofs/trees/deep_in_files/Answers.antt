use Rattle.source_reader.proofs.TreeLemmas.{deep_start, deep_go_on}
use Rattle.source_reader.proofs.trees.deep_in_files.Goals as goal

pub loop-file-init : goal.loop-file-init
loop-file-init c = deep_start c.args.files.now

pub loop-file-preserved : goal.loop-file-preserved
loop-file-preserved c =
    deep_go_on c.args.files.now c.loop-file.file-index c.file-item.result c.as_slice.result.now c.loop-file.found c.first_of-found.result
    c.in_ok-deep_in_units.field-0 c.loop-file-test.true c.file-item.is c.as_slice.ensures c.loop-file.invariant c.in_ok-deep_in_units.ensures c.first_of-found.ensures
