use Rattle.std.proofs.Common.{arith}
use Rattle.statement_parts.proofs.found_rows.Walks.{each_more, each_end, put_two, put_three}
use Rattle.call_shapes.specs.CallsMade.{calls_within, calls_among}
use Rattle.call_check.specs.CallsSeen.{seen_function, calls_in_option}
use Rattle.call_check.proofs.CallForms.{list_step, list_end, whole_apply, whole_part, whole_binary}
use Rattle.call_check.proofs.expressions.+calls.Goals as goal

pub add_list-loop-e-preserved : goal.add_list-loop-e-preserved
add_list-loop-e-preserved t c =
    let applied = seen_function c.args.names.now in
    each_more (calls_among applied) (calls_within applied) (list_step applied) c.args.es.now c.loop-e.e-index c.e-item.result
    _ _ _ _ c.loop-e-test.true c.e-item.is c.loop-e.invariant c.in_ok-add_calls.ensures

pub add_list-returns : goal.add_list-returns
add_list-returns t c =
    let applied = seen_function c.args.names.now in
    each_end (calls_among applied) (calls_within applied) (list_end applied) c.args.es.now c.loop-e.e-index _ _ (omega arith) c.loop-e.invariant

pub add_calls-returns-in_ok-add_function_call-in-Apply : goal.add_calls-returns-in_ok-add_function_call-in-Apply
add_calls-returns-in_ok-add_function_call-in-Apply t c =
    let applied = seen_function c.args.names.now in
    put_two c.add_list.result _ _ _ (applied c.as_slice.result.now c.as_slice-in-Apply.result.now) (calls_among applied c.as_slice-in-Apply-2.result.now) _
    c.in_ok-add_function_call-in-Apply.ensures c.add_list.ensures
    (whole_apply applied c.in-Apply.name c.as_slice.result.now c.in-Apply.es c.as_slice-in-Apply.result.now c.as_slice-in-Apply-2.result.now c.args.e.now c.as_slice.ensures
    c.as_slice-in-Apply.ensures c.as_slice-in-Apply-2.ensures c.in-Apply.is)

pub add_calls-returns-in_ok-add_place-in-Part : goal.add_calls-returns-in_ok-add_place-in-Part
add_calls-returns-in_ok-add_place-in-Part t c =
    let applied = seen_function c.args.names.now in
    put_three c.add_place-in-Part.result _ _ _ _ (calls_within applied c.get.result.now) (calls_in_option applied c.in-Part.from) (calls_in_option applied c.in-Part.to) _
    c.in_ok-add_calls-in-Part.ensures c.in_ok-add_place-in-Part.ensures c.add_place-in-Part.ensures
    (whole_part applied c.in-Part.base c.get.result.now c.in-Part.from c.in-Part.to c.args.e.now c.get.ensures c.in-Part.is)

pub add_calls-returns-in_ok-add_calls-in-Binary : goal.add_calls-returns-in_ok-add_calls-in-Binary
add_calls-returns-in_ok-add_calls-in-Binary t c =
    let applied = seen_function c.args.names.now in
    put_two c.add_calls-in-Binary-2.result _ _ _ (calls_within applied c.get-in-Binary.result.now) (calls_within applied c.get-in-Binary-2.result.now) _
    c.in_ok-add_calls-in-Binary.ensures c.add_calls-in-Binary-2.ensures
    (whole_binary applied _ c.in-Binary.left c.in-Binary.right c.get-in-Binary.result.now c.get-in-Binary-2.result.now c.args.e.now c.get-in-Binary.ensures c.get-in-Binary-2.ensures c.in-Binary.is)
