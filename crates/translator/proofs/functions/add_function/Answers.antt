use Rattle.std.specs.HashMap.{get_by}
use Rattle.std.proofs.Common.{bytes_eq}
use Rattle.translator.proofs.ListLemmas.{function_put, function_refused}
use Rattle.translator.proofs.functions.add_function.Goals as goal

pub returns-in_ok-push-in-Some : goal.returns-in_ok-push-in-Some
returns-in_ok-push-in-Some c =
    function_put c.args.unit.now (λ x. get_by (λ k. bytes_eq x k.now) c.args.procedures.now) c.args.constants.now c.args.found.now.items _ c.in_ok-function.field-0 _ c.as_slice-names.ensures.value c.in_ok-function.ensures
    c.in-Some.function c.in-Some.is c.in_ok-push-in-Some.ensures.items

pub returns-in-None : goal.returns-in-None
returns-in-None c =
    function_refused c.args.unit.now (λ x. get_by (λ k. bytes_eq x k.now) c.args.procedures.now) c.args.constants.now c.args.found.now.items _ c.in_ok-function.field-0 _ c.as_slice-names.ensures.value c.in_ok-function.ensures
    c.form_row.result c.in-None.is c.form_row.ensures
