use Rattle.statement_parts.proofs.found_rows.Walks.{put_two, put_as}
use Rattle.call_shapes.specs.declaration_rows.ReferenceRows.{parts_of}
use Rattle.call_shapes.specs.CallsMade.{calls_within, calls_among}
use Rattle.call_check.specs.CallsSeen.{seen_function, seen_subroutine, seen_calls}
use Rattle.call_check.proofs.CallForms.{whole_call, whole_if, calls_other}
use Rattle.call_check.proofs.statements.+statement.Goals as goal

pub returns-in_ok-add_subroutine_call-in-Call : goal.returns-in_ok-add_subroutine_call-in-Call
unfolding seen_calls
returns-in_ok-add_subroutine_call-in-Call t c =
    let called = seen_subroutine c.args.names.now in
    let applied = seen_function c.args.names.now in
    put_two c.add_list.result _ _ _ (called c.as_slice.result.now c.as_slice-in-Call.result.now) (calls_among applied c.as_slice-in-Call-2.result.now) _
    c.in_ok-add_subroutine_call-in-Call.ensures c.add_list.ensures
    (whole_call called applied c.in-Call.name c.as_slice.result.now c.in-Call.es c.as_slice-in-Call.result.now c.as_slice-in-Call-2.result.now c.args.body.now c.as_slice.ensures
    c.as_slice-in-Call.ensures c.as_slice-in-Call-2.ensures c.in-Call.is)

pub returns-in_ok-add_calls-in-IfOne : goal.returns-in_ok-add_calls-in-IfOne
unfolding seen_calls
returns-in_ok-add_calls-in-IfOne t c =
    let called = seen_subroutine c.args.names.now in
    let applied = seen_function c.args.names.now in
    put_two c.add_known.result _ _ _ (calls_within applied c.in-IfOne.e) (seen_calls c.args.names.now c.get.result.now) _
    c.in_ok-add_calls-in-IfOne.ensures c.add_known.ensures
    (whole_if called applied c.in-IfOne.e c.in-IfOne.body c.get.result.now c.args.body.now c.get.ensures c.in-IfOne.is)

pub returns-in_default : goal.returns-in_default
unfolding seen_calls
returns-in_default t c =
    let called = seen_subroutine c.args.names.now in
    let applied = seen_function c.args.names.now in
    put_as c.add_parts.result _ _ (calls_among applied (parts_of c.args.body.now).expressions) _
    (calls_other called applied c.args.body.now c.in_default.not-Call c.in_default.not-IfOne) c.add_parts.ensures
