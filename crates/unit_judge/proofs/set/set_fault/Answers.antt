use Rattle.std.proofs.Common.{List, ap, ◌∙◌, arith}
use Rattle.f_tree.specs.declared.units.Unit.{Unit as WrittenUnit}
use Rattle.name_facts.specs.declaration_rows.SetRows.{units_rows}
use Rattle.name_facts.specs.declaration_rows.Verdicts.{first_of}
use Rattle.unit_judge.proofs.SetLemmas.{first_begin, files_more, files_end}
use Rattle.unit_judge.proofs.set.set_fault.Goals as goal

pub loop-file-init : goal.loop-file-init
loop-file-init c = first_begin _

pub loop-file-preserved : goal.loop-file-preserved
loop-file-preserved c =
    let f = c.file-item.result in
    files_more c.args.options c.args.files.now c.loop-file.file-index f f c.loop-file.first c.in_ok-found.found c.earlier_of-first.result _ c.loop-file-test.true c.file-item.is
    c.loop-file.invariant (c.in_ok-found.ensures ∙ ap (λ (us : List WrittenUnit). first_of (units_rows c.args.options us)) c.as_slice.ensures) c.earlier_of-first.ensures

pub returns : goal.returns
returns c = files_end c.args.options c.args.files.now c.loop-file.file-index c.loop-file.first _ (omega arith) c.loop-file.invariant
