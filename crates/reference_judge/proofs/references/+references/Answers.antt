use Rattle.std.proofs.Common.{List, map, option_map, arith}
use Rattle.found_rows.proofs.Walks.{each_more, each_end, put_two, put_three}
use Rattle.f_tree.specs.declared.expressions.Expr.{Expr}
use Rattle.reference_judge.specs.ArgumentsSeen.{all_references, option_references, called_references, sight_by}
use Rattle.reference_judge.specs.ReferencesSeen.{at}
use Rattle.reference_judge.proofs.SightForms.{list_step, list_end, whole_apply, whole_part, whole_binary}
use Rattle.reference_judge.proofs.references.+references.Goals as goal

pub add_list-loop-e-preserved : goal.add_list-loop-e-preserved
add_list-loop-e-preserved t c =
    let s = c.args.statement.now in
    let sight = sight_by c.args.names.now in
    each_more (λ (es : List Expr). at s (all_references (map sight es))) (λ (e : Expr). at s (sight e).references) (list_step c.args.names.now s) c.args.es.now c.loop-e.e-index c.e-item.result
    _ _ _ _ c.loop-e-test.true c.e-item.is c.loop-e.invariant c.in_ok-add_references.ensures

pub add_list-returns : goal.add_list-returns
add_list-returns t c =
    let s = c.args.statement.now in
    let sight = sight_by c.args.names.now in
    each_end (λ (es : List Expr). at s (all_references (map sight es))) (λ (e : Expr). at s (sight e).references) (list_end c.args.names.now s) c.args.es.now c.loop-e.e-index _ _ (omega arith)
    c.loop-e.invariant

pub add_references-returns-in_ok-add_list-in-Apply : goal.add_references-returns-in_ok-add_list-in-Apply
add_references-returns-in_ok-add_list-in-Apply t c =
    let s = c.args.statement.now in
    let names = c.args.names.now in
    put_two c.add_called.result _ _ _ (at s (all_references (map (sight_by names) c.as_slice.result.now)))
    (at s (called_references names c.as_slice-in-Apply.result.now (map (sight_by names) c.as_slice-in-Apply-2.result.now))) _ c.in_ok-add_list-in-Apply.ensures c.add_called.ensures
    (whole_apply names s c.in-Apply.name c.as_slice-in-Apply.result.now c.in-Apply.es c.as_slice.result.now c.as_slice-in-Apply-2.result.now c.args.e.now c.as_slice-in-Apply.ensures c.as_slice.ensures
    c.as_slice-in-Apply-2.ensures c.in-Apply.is)

pub add_references-returns-in_ok-add_place-in-Part : goal.add_references-returns-in_ok-add_place-in-Part
add_references-returns-in_ok-add_place-in-Part t c =
    let s = c.args.statement.now in
    let sight = sight_by c.args.names.now in
    put_three c.add_place-in-Part.result _ _ _ _ (at s (sight c.get.result.now).references) (at s (option_references (option_map sight c.in-Part.from)))
    (at s (option_references (option_map sight c.in-Part.to))) _ c.in_ok-add_references-in-Part.ensures c.in_ok-add_place-in-Part.ensures c.add_place-in-Part.ensures
    (whole_part c.args.names.now s c.in-Part.base c.get.result.now c.in-Part.from c.in-Part.to c.args.e.now c.get.ensures c.in-Part.is)

pub add_references-returns-in_ok-add_references-in-Binary : goal.add_references-returns-in_ok-add_references-in-Binary
add_references-returns-in_ok-add_references-in-Binary t c =
    let s = c.args.statement.now in
    let sight = sight_by c.args.names.now in
    put_two c.add_references-in-Binary-2.result _ _ _ (at s (sight c.get-in-Binary.result.now).references) (at s (sight c.get-in-Binary-2.result.now).references) _
    c.in_ok-add_references-in-Binary.ensures c.add_references-in-Binary-2.ensures
    (whole_binary c.args.names.now s _ c.in-Binary.left c.in-Binary.right c.get-in-Binary.result.now c.get-in-Binary-2.result.now c.args.e.now c.get-in-Binary.ensures c.get-in-Binary-2.ensures c.in-Binary.is)
