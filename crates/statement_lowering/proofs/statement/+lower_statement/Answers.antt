use Rattle.std.specs.Prelude.{◌&&◌, true, None, [], List}
use Rattle.std.proofs.Common.{ap, sym, subst, ◌∙◌, inl, inr}
use Rattle.f_tree.specs.declared.statements.Body.{Body}
use Rattle.f_tree.specs.declared.statements.Body as body
use Rattle.lowered_tree.specs.declared.steps.Step.{Step}
use Rattle.expression_lowering.specs.TableNames.{is_lowered_value}
use Rattle.statement_lowering.specs.declared.around.Around.{Around}
use Rattle.statement_lowering.specs.StatementForms as form
use Rattle.statement_lowering.specs.TransferForms.{transferring, acting_on, calling}
use Rattle.statement_lowering.specs.LoweredTransfers.{controls_lower, transfer_lowers, call_lowers}
use Rattle.statement_lowering.specs.LoweredStatements.{assignment_lowers, control_lowers, optional_lowers, is_lowered_statement}
use Rattle.statement_lowering.specs.StatementOutcomes.{IsOutcome}
use Rattle.statement_lowering.proofs.StatementCodes.{code-while}
use Rattle.statement_lowering.proofs.StatementRules as rule
use Rattle.statement_lowering.proofs.BodyLaws.{by-body, by-steps, either-body, either-passes, passes}
use Rattle.statement_lowering.proofs.LoopLaws.{code-label}
use Rattle.statement_lowering.proofs.statement.+lower_statement.Goals as goal

pub returns-in-Assign : goal.returns-in-Assign
returns-in-Assign t c =
    let T = c.args.table.now in
    by-body T c.args.assigned.now c.args.around c.args.body.now (body.Assign c.in-Assign.target c.in-Assign.e) (assignment_lowers T c.in-Assign.target c.in-Assign.e) (form.assigning c.in-Assign.target c.in-Assign.e) c.args.steps.now.items c.lower_assignment.new.steps.items c.lower_assignment.result
    c.in-Assign.is (rule.lowers-Assign T c.in-Assign.target c.in-Assign.e) (rule.does-Assign c.args.assigned.now c.in-Assign.target c.in-Assign.e) c.lower_assignment.ensures

pub returns-in-AssignLabel : goal.returns-in-AssignLabel
returns-in-AssignLabel t c =
    let T = c.args.table.now in
    by-body T c.args.assigned.now c.args.around c.args.body.now (body.AssignLabel c.in-AssignLabel.label c.in-AssignLabel.name) true (form.assigning_label c.in-AssignLabel.label c.as_slice-variable.result.now) c.args.steps.now.items c.lower_label_assignment.new.steps.items c.lower_label_assignment.result
    c.in-AssignLabel.is (rule.lowers-AssignLabel T c.in-AssignLabel.label c.in-AssignLabel.name) (rule.does-AssignLabel c.args.assigned.now c.in-AssignLabel.label c.in-AssignLabel.name ∙ ap (form.assigning_label c.in-AssignLabel.label) (sym c.as_slice-variable.ensures)) c.lower_label_assignment.ensures

pub returns-in-Goto : goal.returns-in-Goto
returns-in-Goto t c =
    let T = c.args.table.now in
    by-body T c.args.assigned.now c.args.around c.args.body.now (body.Goto c.in-Goto.label) true (form.going c.in-Goto.label) c.args.steps.now.items c.lower_go.new.steps.items c.lower_go.result
    c.in-Goto.is (rule.lowers-Goto T c.in-Goto.label) (rule.does-Goto c.args.assigned.now c.in-Goto.label) c.lower_go.ensures

pub returns-in-GotoList : goal.returns-in-GotoList
returns-in-GotoList t c =
    let T = c.args.table.now in
    by-body T c.args.assigned.now c.args.around c.args.body.now (body.GotoList c.in-GotoList.labels c.in-GotoList.e) (is_lowered_value T c.in-GotoList.e) (form.picking c.as_slice-picked.result.now c.in-GotoList.e) c.args.steps.now.items c.lower_pick.new.steps.items c.lower_pick.result
    c.in-GotoList.is (rule.lowers-GotoList T c.in-GotoList.labels c.in-GotoList.e) (rule.does-GotoList c.args.assigned.now c.in-GotoList.labels c.in-GotoList.e ∙ ap (λ ls. form.picking ls c.in-GotoList.e) (sym c.as_slice-picked.ensures)) c.lower_pick.ensures

pub returns-in-GotoName : goal.returns-in-GotoName
returns-in-GotoName t c =
    let T = c.args.table.now in
    let assigned = c.args.assigned.now in
    let x = c.in-GotoName.name in
    let labels = c.in-GotoName.labels in
    by-body T assigned c.args.around c.args.body.now (body.GotoName x labels) true (form.going_assigned c.as_slice-holder.result.now c.labels_to_go-allowed.result.now) c.args.steps.now.items c.lower_assigned_go.new.steps.items c.lower_assigned_go.result
    c.in-GotoName.is (rule.lowers-GotoName T x labels)
    (rule.does-GotoName assigned x labels ∙ ap (λ y. form.going_assigned y (form.written_or labels assigned)) (sym c.as_slice-holder.ensures)
    ∙ ap (λ ls. form.going_assigned c.as_slice-holder.result.now (form.written_or ls assigned)) (sym c.as_slice-written.ensures)
    ∙ ap (form.going_assigned c.as_slice-holder.result.now) (sym c.labels_to_go-allowed.ensures))
    c.lower_assigned_go.ensures

pub returns-in-IfSign : goal.returns-in-IfSign
returns-in-IfSign t c =
    let T = c.args.table.now in
    by-body T c.args.assigned.now c.args.around c.args.body.now (body.IfSign c.in-IfSign.e c.in-IfSign.below c.in-IfSign.at c.in-IfSign.above) (is_lowered_value T c.in-IfSign.e) (form.going_by_sign c.in-IfSign.e c.in-IfSign.below c.in-IfSign.at c.in-IfSign.above) c.args.steps.now.items c.lower_sign.new.steps.items c.lower_sign.result
    c.in-IfSign.is (rule.lowers-IfSign T c.in-IfSign.e c.in-IfSign.below c.in-IfSign.at c.in-IfSign.above) (rule.does-IfSign c.args.assigned.now c.in-IfSign.e c.in-IfSign.below c.in-IfSign.at c.in-IfSign.above) c.lower_sign.ensures

pub returns-in-Return : goal.returns-in-Return
returns-in-Return t c =
    let T = c.args.table.now in
    by-body T c.args.assigned.now c.args.around c.args.body.now (body.Return c.in-Return.e) (optional_lowers T c.in-Return.e) (form.returning c.in-Return.e) c.args.steps.now.items c.lower_return.new.steps.items c.lower_return.result
    c.in-Return.is (rule.lowers-Return T c.in-Return.e) (rule.does-Return c.args.assigned.now c.in-Return.e) c.lower_return.ensures

pub returns-in-Stop : goal.returns-in-Stop
returns-in-Stop t c =
    let T = c.args.table.now in
    by-body T c.args.assigned.now c.args.around c.args.body.now (body.Stop c.in-Stop.text) true (form.stopping c.as_slice-text.result.now) c.args.steps.now.items c.lower_stop.new.steps.items c.lower_stop.result
    c.in-Stop.is (rule.lowers-Stop T c.in-Stop.text) (rule.does-Stop c.args.assigned.now c.in-Stop.text ∙ ap form.stopping (sym c.as_slice-text.ensures)) c.lower_stop.ensures

pub returns-in-End : goal.returns-in-End
returns-in-End t c =
    let T = c.args.table.now in
    by-body T c.args.assigned.now c.args.around c.args.body.now body.End true form.ending c.args.steps.now.items c.lower_end.new.steps.items c.lower_end.result
    c.in-End.is (rule.lowers-End T) (rule.does-End c.args.assigned.now) c.lower_end.ensures

pub returns-in-IfThen : goal.returns-in-IfThen
returns-in-IfThen t c =
    let T = c.args.table.now in
    let e = c.in-IfThen.e in
    either-body T c.args.assigned.now c.args.around c.args.body.now (body.IfThen e) (body.ElseIf e) (is_lowered_value T e) (form.entering e) c.args.steps.now.items c.lower_arm.new.steps.items c.lower_arm.result
    c.in-IfThen.is (rule.lowers-IfThen T e) (rule.lowers-ElseIf T e) (rule.does-IfThen c.args.assigned.now e) (rule.does-ElseIf c.args.assigned.now e) c.lower_arm.ensures

pub returns-in-DoWhile : goal.returns-in-DoWhile
returns-in-DoWhile t c =
    let T = c.args.table.now in
    let around = c.args.around in
    let e = c.in-DoWhile.e in
    by-steps T c.args.assigned.now around c.args.body.now _ (is_lowered_value T e) (form.testing None e) (form.testing _ e) c.args.steps.now.items c.lower_while.new.steps.items c.lower_while.result
    c.in-DoWhile.is (rule.lowers-DoWhile T _ e) (rule.does-DoWhile c.args.assigned.now _ e) (λ names. code-while around.once around.free around.room _ e names ∙ sym (code-while around.once around.free around.room None e names)) c.lower_while.ensures

pub returns-in-IfOne : goal.returns-in-IfOne
returns-in-IfOne t c =
    let T = c.args.table.now in
    let e = c.in-IfOne.e in
    let b = c.in-IfOne.statement in
    let inner = c.get-inner.result.now in
    let under = c.lower_statement-lowered.new.steps.items in
    by-body T c.args.assigned.now c.args.around c.args.body.now (body.IfOne e b) (is_lowered_statement T inner && is_lowered_value T e) (form.guarding e (form.forms_of c.args.assigned.now inner))
    c.args.steps.now.items c.lower_guard.new.steps.items c.lower_guard.result c.in-IfOne.is
    (rule.lowers-IfOne T e b ∙ ap (λ (b : Body). is_lowered_statement T b && is_lowered_value T e) (sym c.get-inner.ensures))
    (rule.does-IfOne c.args.assigned.now e b ∙ ap (λ (b : Body). form.guarding e (form.forms_of c.args.assigned.now b)) (sym c.get-inner.ensures))
    (c.lower_guard.ensures (is_lowered_statement T inner) (form.forms_of c.args.assigned.now inner)
    (subst (λ (around : Around). IsOutcome T around (is_lowered_statement T inner) (form.forms_of c.args.assigned.now inner) [] under c.lower_statement-lowered.result) c.within-around_inner.ensures
    (subst (λ (ss : List Step). IsOutcome T c.within-around_inner.result (is_lowered_statement T inner) (form.forms_of c.args.assigned.now inner) ss under c.lower_statement-lowered.result) c.new-under.ensures.items
    c.lower_statement-lowered.ensures)))

pub returns-in-Include : goal.returns-in-Include
returns-in-Include t c =
    by-body c.args.table.now c.args.assigned.now c.args.around c.args.body.now _ true form.passing c.args.steps.now.items _ c.pass.result c.in-Include.is (rule.lowers-Include c.args.table.now _) (rule.does-Include c.args.assigned.now _) c.pass.ensures

pub returns-in-EndDo : goal.returns-in-EndDo
returns-in-EndDo t c =
    either-passes c.args.table.now c.args.assigned.now c.args.around c.args.body.now _ _ c.args.steps.now.items _ c.pass-in-EndDo.result c.in-EndDo.is (rule.lowers-EndDo c.args.table.now) (rule.lowers-Continue c.args.table.now)
    (rule.does-EndDo c.args.assigned.now) (rule.does-Continue c.args.assigned.now) c.pass-in-EndDo.ensures

pub returns-in-Else : goal.returns-in-Else
returns-in-Else t c =
    either-passes c.args.table.now c.args.assigned.now c.args.around c.args.body.now _ _ c.args.steps.now.items _ c.pass-in-Else.result c.in-Else.is (rule.lowers-Else c.args.table.now) (rule.lowers-EndIf c.args.table.now)
    (rule.does-Else c.args.assigned.now) (rule.does-EndIf c.args.assigned.now) c.pass-in-Else.ensures

pub returns-in-Format : goal.returns-in-Format
returns-in-Format t c =
    let T = c.args.table.now in
    let so = passes T c.args.assigned.now c.args.around c.args.body.now c.args.steps.now.items _ c.pass-in-Format.result c.pass-in-Format.ensures in
    elim c.in-Format.is [ inl one ↦ so (body.Format one.0) one.1 (rule.lowers-Format T one.0) (rule.does-Format c.args.assigned.now one.0) | inr other ↦ so (body.Entry other.0 other.1) other.2 (rule.lowers-Entry T other.0 other.1) (rule.does-Entry c.args.assigned.now other.0 other.1) ]

pub returns-in-Save : goal.returns-in-Save
returns-in-Save t c =
    let T = c.args.table.now in
    let so = passes T c.args.assigned.now c.args.around c.args.body.now c.args.steps.now.items _ c.pass-in-Save.result c.pass-in-Save.ensures in
    elim c.in-Save.is [ inl one ↦ so (body.Save one.0) one.1 (rule.lowers-Save T one.0) (rule.does-Save c.args.assigned.now one.0) | inr other ↦ so (body.Init other.0) other.1 (rule.lowers-Init T other.0) (rule.does-Init c.args.assigned.now other.0) ]

pub returns-in-External : goal.returns-in-External
returns-in-External t c =
    let T = c.args.table.now in
    let so = passes T c.args.assigned.now c.args.around c.args.body.now c.args.steps.now.items _ c.pass-in-External.result c.pass-in-External.ensures in
    elim c.in-External.is [ inl one ↦ so (body.External one.0) one.1 (rule.lowers-External T one.0) (rule.does-External c.args.assigned.now one.0) | inr other ↦ so (body.Intrinsic other.0) other.1 (rule.lowers-Intrinsic T other.0) (rule.does-Intrinsic c.args.assigned.now other.0) ]

pub returns-in-ImplicitNone : goal.returns-in-ImplicitNone
returns-in-ImplicitNone t c =
    let T = c.args.table.now in
    let so = passes T c.args.assigned.now c.args.around c.args.body.now c.args.steps.now.items _ c.pass-in-ImplicitNone.result c.pass-in-ImplicitNone.ensures in
    elim c.in-ImplicitNone.is [ inl one ↦ so body.ImplicitNone one (rule.lowers-ImplicitNone T) (rule.does-ImplicitNone c.args.assigned.now) | inr other ↦ so (body.Parameter other.0) other.1 (rule.lowers-Parameter T other.0) (rule.does-Parameter c.args.assigned.now other.0) ]

pub returns-in-Equivalence : goal.returns-in-Equivalence
returns-in-Equivalence t c =
    let T = c.args.table.now in
    let so = passes T c.args.assigned.now c.args.around c.args.body.now c.args.steps.now.items _ c.pass-in-Equivalence.result c.pass-in-Equivalence.ensures in
    elim c.in-Equivalence.is [ inl one ↦ so (body.Equivalence one.0) one.1 (rule.lowers-Equivalence T one.0) (rule.does-Equivalence c.args.assigned.now one.0) | inr other ↦ so (body.Implicit other.0) other.1 (rule.lowers-Implicit T other.0) (rule.does-Implicit c.args.assigned.now other.0) ]

pub returns-in-Dimension : goal.returns-in-Dimension
returns-in-Dimension t c =
    let T = c.args.table.now in
    let so = passes T c.args.assigned.now c.args.around c.args.body.now c.args.steps.now.items _ c.pass-in-Dimension.result c.pass-in-Dimension.ensures in
    elim c.in-Dimension.is [ inl one ↦ so (body.Dimension one.0) one.1 (rule.lowers-Dimension T one.0) (rule.does-Dimension c.args.assigned.now one.0) | inr other ↦ so (body.Common other.0) other.1 (rule.lowers-Common T other.0) (rule.does-Common c.args.assigned.now other.0) ]

pub returns-in-Header : goal.returns-in-Header
returns-in-Header t c =
    let T = c.args.table.now in
    let so = passes T c.args.assigned.now c.args.around c.args.body.now c.args.steps.now.items _ c.pass-in-Header.result c.pass-in-Header.ensures in
    elim c.in-Header.is [ inl one ↦ so (body.Header one.0 one.1 one.2) one.3 (rule.lowers-Header T one.0 one.1 one.2) (rule.does-Header c.args.assigned.now one.0 one.1 one.2) | inr other ↦ so (body.Declare other.0 other.1) other.2 (rule.lowers-Declare T other.0 other.1) (rule.does-Declare c.args.assigned.now other.0 other.1) ]

pub returns-in-Transfer : goal.returns-in-Transfer
returns-in-Transfer t c =
    let T = c.args.table.now in
    let way = c.in-Transfer.way in
    let controls = c.in-Transfer.controls in
    let items = c.in-Transfer.items in
    by-body T c.args.assigned.now c.args.around c.args.body.now (body.Transfer way controls items) (transfer_lowers T way c.as_slice-words.result.now c.as_slice-list.result.now) (transferring way c.as_slice-words.result.now c.as_slice-list.result.now) c.args.steps.now.items c.lower_transfer.new.steps.items c.lower_transfer.result
    c.in-Transfer.is
    (rule.lowers-Transfer T way controls items ∙ ap (λ cs. transfer_lowers T way cs items) (sym c.as_slice-words.ensures) ∙ ap (transfer_lowers T way c.as_slice-words.result.now) (sym c.as_slice-list.ensures))
    (rule.does-Transfer c.args.assigned.now way controls items ∙ ap (λ cs. transferring way cs items) (sym c.as_slice-words.ensures) ∙ ap (transferring way c.as_slice-words.result.now) (sym c.as_slice-list.ensures))
    c.lower_transfer.ensures

pub returns-in-Auxiliary : goal.returns-in-Auxiliary
returns-in-Auxiliary t c =
    let T = c.args.table.now in
    let which = c.in-Auxiliary.which in
    let controls = c.in-Auxiliary.controls in
    by-body T c.args.assigned.now c.args.around c.args.body.now (body.Auxiliary which controls) (controls_lower T c.as_slice-words-in-Auxiliary.result.now) (acting_on which c.as_slice-words-in-Auxiliary.result.now) c.args.steps.now.items c.lower_auxiliary.new.steps.items c.lower_auxiliary.result
    c.in-Auxiliary.is
    (rule.lowers-Auxiliary T which controls ∙ ap (controls_lower T) (sym c.as_slice-words-in-Auxiliary.ensures))
    (rule.does-Auxiliary c.args.assigned.now which controls ∙ ap (acting_on which) (sym c.as_slice-words-in-Auxiliary.ensures))
    c.lower_auxiliary.ensures

pub returns-in-Call : goal.returns-in-Call
returns-in-Call t c =
    let T = c.args.table.now in
    let x = c.in-Call.name in
    let es = c.in-Call.es in
    by-body T c.args.assigned.now c.args.around c.args.body.now (body.Call x es) (call_lowers T c.as_slice-arguments.result.now) (calling c.as_slice-called.result.now c.as_slice-arguments.result.now) c.args.steps.now.items c.lower_call.new.steps.items c.lower_call.result
    c.in-Call.is
    (rule.lowers-Call T x es ∙ ap (call_lowers T) (sym c.as_slice-arguments.ensures))
    (rule.does-Call c.args.assigned.now x es ∙ ap (λ y. calling y es) (sym c.as_slice-called.ensures) ∙ ap (calling c.as_slice-called.result.now) (sym c.as_slice-arguments.ensures))
    c.lower_call.ensures

pub returns-in-Do : goal.returns-in-Do
returns-in-Do t c =
    let T = c.args.table.now in
    let around = c.args.around in
    let control = c.in-Do.control in
    by-steps T c.args.assigned.now around c.args.body.now _ (control_lowers T control) (form.looping None control) (form.looping _ control) c.args.steps.now.items c.lower_loop.new.steps.items c.lower_loop.result
    c.in-Do.is (rule.lowers-Do T _ control) (rule.does-Do c.args.assigned.now _ control) (code-label around.once around.free around.room _ control) c.lower_loop.ensures
