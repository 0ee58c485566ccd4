use Rattle.name_table.specs.Named.{names_in}
use Rattle.translator.proofs.FileLemmas.{no_file_yet, file_added, files_end}
use Rattle.translator.proofs.unit.plain_units.Goals as goal

pub loop-file-init : goal.loop-file-init
loop-file-init c = no_file_yet c.args.options (names_in c.args.procedures.now) c.args.files.now c.new-found.result.items c.new-found.ensures.items

pub loop-file-preserved : goal.loop-file-preserved
loop-file-preserved c =
    file_added c.args.options (names_in c.args.procedures.now) c.args.files.now c.loop-file.file-index c.file-item.result _ c.as_slice.result.now c.loop-file.found.items _ c.loop-file.refusal c.in_ok-first.first
    c.earlier_of-refusal.result c.loop-file-test.true c.file-item.is c.as_slice.ensures c.loop-file.invariant c.in_ok-first.ensures c.earlier_of-refusal.ensures

pub returns : goal.returns
returns c =
    files_end c.args.options (names_in c.args.procedures.now) c.args.files.now c.loop-file.file-index c.loop-file.found c.loop-file.refusal c.unless_refused.result c.loop-file-test.false
    c.loop-file.invariant c.unless_refused.ensures.kept c.unless_refused.ensures.refused
