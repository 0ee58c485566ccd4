use Rattle.translator.proofs.RowLemmas.{no_file_yet, file_behind, files_at_end}
use Rattle.translator.proofs.rows.without_units.Goals as goal

pub loop-number-init : goal.loop-number-init
loop-number-init c = no_file_yet _

pub loop-number-preserved : goal.loop-number-preserved
loop-number-preserved c =
    file_behind c.args.files.now c.loop-number.number c.index-files-number.result _ c.loop-number.refusal c.row_of_none.result c.earlier_of-refusal.result _ c.loop-number-test.true
    c.index-files-number.is c.row_of_none.ensures c.earlier_of-refusal.ensures c.loop-number.invariant

pub returns : goal.returns
returns c = files_at_end c.args.files.now c.loop-number.number c.loop-number.refusal _ c.loop-number-test.false c.loop-number.invariant
