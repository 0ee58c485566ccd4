use Rattle.std.proofs.Common.{sym, ◌∙◌}
use Rattle.source_reader.specs.Limits.{count_in}
use Rattle.source_reader.proofs.LimitLemmas.{files_go_on, files_stop, files_end}
use Rattle.source_reader.proofs.counts.first_passing.Goals as goal

pub returns-then-is_some : goal.returns-then-is_some
returns-then-is_some c =
    files_stop (count_in c.args.counts.now) c.args.files.now c.loop-file.file c.index-files-file.result c.in_ok-found.found c.loop-file-test.true
    c.index-files-file.is c.loop-file.invariant c.in_ok-found.ensures (sym c.is_some.ensures ∙ c.if-is_some.true)

pub loop-file-preserved : goal.loop-file-preserved
loop-file-preserved c =
    files_go_on (count_in c.args.counts.now) c.args.files.now c.loop-file.file c.index-files-file.result c.in_ok-found.found c.loop-file-test.true
    c.index-files-file.is c.loop-file.invariant c.in_ok-found.ensures (sym c.is_some.ensures ∙ c.if-is_some.false)

pub returns : goal.returns
returns c = files_end (count_in c.args.counts.now) c.args.files.now c.loop-file.file c.loop-file-test.false c.loop-file.invariant
