use Rattle.std.proofs.Common.{◌++◌, sym, ap, ◌∙◌, arith, option_map}
use Rattle.found_rows.proofs.Walks.{put_two, put_three}
use Rattle.f_tree.specs.Uses.{uses_of, all_of, optional_uses}
use Rattle.name_uses.proofs.UseForms.{uses-Part, uses-Binary, uses-Bind}
use Rattle.name_uses.proofs.UseWalks.{all_more, all_end}
use Rattle.name_uses.proofs.expressions.+uses.Goals as goal

pub add_list_uses-loop-e-preserved : goal.add_list_uses-loop-e-preserved
add_list_uses-loop-e-preserved t c =
    all_more uses_of c.args.es.now c.loop-e.e-index c.e-item.result _ _ _ _ c.loop-e-test.true c.e-item.is c.loop-e.invariant c.in_ok-add_uses_of.ensures

pub add_list_uses-returns : goal.add_list_uses-returns
add_list_uses-returns t c = all_end uses_of c.args.es.now c.loop-e.e-index _ _ (omega arith) c.loop-e.invariant

pub add_uses_of-returns-in_ok-add_place-in-Part : goal.add_uses_of-returns-in_ok-add_place-in-Part
add_uses_of-returns-in_ok-add_place-in-Part t c =
    put_three c.add_place-in-Part.result _ _ _ _ (uses_of c.get.result.now) (optional_uses (option_map uses_of c.in-Part.from))
    (optional_uses (option_map uses_of c.in-Part.to)) _ c.in_ok-add_uses_of-in-Part.ensures c.in_ok-add_place-in-Part.ensures c.add_place-in-Part.ensures
    (ap (λ e. uses_of e ++ optional_uses (option_map uses_of c.in-Part.from) ++ optional_uses (option_map uses_of c.in-Part.to)) c.get.ensures
    ∙ sym (uses-Part c.in-Part.base c.in-Part.from c.in-Part.to) ∙ ap uses_of (sym c.in-Part.is))

pub add_uses_of-returns-in_ok-add_uses_of-in-Binary : goal.add_uses_of-returns-in_ok-add_uses_of-in-Binary
add_uses_of-returns-in_ok-add_uses_of-in-Binary t c =
    put_two c.add_uses_of-in-Binary-2.result _ _ _ (uses_of c.get-in-Binary.result.now) (uses_of c.get-in-Binary-2.result.now) _ c.in_ok-add_uses_of-in-Binary.ensures
    c.add_uses_of-in-Binary-2.ensures
    (ap (λ e. uses_of e ++ uses_of c.get-in-Binary-2.result.now) c.get-in-Binary.ensures ∙ ap (λ e. uses_of c.in-Binary.left ++ uses_of e) c.get-in-Binary-2.ensures
    ∙ sym (uses-Binary c.in-Binary.field-0 c.in-Binary.left c.in-Binary.right) ∙ ap uses_of (sym c.in-Binary.is))

pub add_uses_of-returns-in_ok-add_list_uses-in-Bind : goal.add_uses_of-returns-in_ok-add_list_uses-in-Bind
add_uses_of-returns-in_ok-add_list_uses-in-Bind t c =
    put_two c.add_uses_of-in-Bind.result _ _ _ (all_of uses_of c.as_slice-in-Bind.result.now) (uses_of c.get-in-Bind.result.now) _ c.in_ok-add_list_uses-in-Bind.ensures
    c.add_uses_of-in-Bind.ensures
    (ap (λ es. all_of uses_of es ++ uses_of c.get-in-Bind.result.now) c.as_slice-in-Bind.ensures ∙ ap (λ e. all_of uses_of c.in-Bind.es ++ uses_of e) c.get-in-Bind.ensures
    ∙ sym (uses-Bind c.in-Bind.es c.in-Bind.body) ∙ ap uses_of (sym c.in-Bind.is))
