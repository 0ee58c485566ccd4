use Rattle.std.proofs.Common.{sym, ◌∙◌, arith}
use Rattle.f_tree.specs.declared.statements.Control.{Control}
use Rattle.declaration_rows.specs.LengthRows.{files_alone, is_file_alone}
use Rattle.length_judge.specs.KnownNames.{naming_in, constants_in}
use Rattle.length_judge.proofs.AnyWalks.{any_here, any_more, any_end}
use Rattle.length_judge.proofs.FaultForms.{files_step, files_end}
use Rattle.length_judge.proofs.statements.files_alone.Goals as goal

pub returns-then-alone : goal.returns-then-alone
returns-then-alone c =
    let names = c.args.names.now in
    any_here (files_alone (naming_in names) (constants_in names)) (λ (d : Control). is_file_alone (naming_in names) (constants_in names) d.word d.value) (files_step names)
    c.args.controls.now c.loop-control.control-index c.control-item.result _ _ c.loop-control-test.true c.control-item.is c.loop-control.invariant
    (sym c.in_ok-alone.ensures ∙ c.if-alone.true)

pub loop-control-preserved : goal.loop-control-preserved
loop-control-preserved c =
    let names = c.args.names.now in
    any_more (files_alone (naming_in names) (constants_in names)) (λ (d : Control). is_file_alone (naming_in names) (constants_in names) d.word d.value) (files_step names)
    c.args.controls.now c.loop-control.control-index c.control-item.result _ _ c.loop-control-test.true c.control-item.is c.loop-control.invariant
    (sym c.in_ok-alone.ensures ∙ c.if-alone.false)

pub returns : goal.returns
returns c =
    let names = c.args.names.now in
    any_end (files_alone (naming_in names) (constants_in names)) (λ (d : Control). is_file_alone (naming_in names) (constants_in names) d.word d.value) (files_step names)
    (files_end names) c.args.controls.now c.loop-control.control-index _ (omega arith) c.loop-control.invariant
