use Rattle.std.proofs.Common.{◌≡◌, Err, bytes_eq, rules}
use Rattle.std.specs.HashMap.{get_by}
use Rattle.f_tree.specs.declared.refusals.Fail.TheVariants as fail
use Rattle.translator.proofs.ListLemmas.{none_made, function_added, functions_end, no_functions}
use Rattle.translator.proofs.functions.functions_of.Goals as goal

pub loop-unit-init : goal.loop-unit-init
loop-unit-init c all us told tells = none_made c.args.constants.now all us c.args.units.now c.new-found.result.items c.new-found.ensures.items

pub loop-unit-preserved : goal.loop-unit-preserved
loop-unit-preserved c all us told tells =
    function_added c.args.constants.now all us c.args.units.now c.loop-unit.unit-index c.unit-item.result _ told c.loop-unit-test.true c.unit-item.is (λ x. get_by (λ k. bytes_eq x k.now) c.args.procedures.now)
    c.loop-unit.found.items _ c.in_ok-row.row c.loop-unit.refusal c.earlier_of-refusal.result tells c.in_ok-row.ensures c.earlier_of-refusal.ensures (c.loop-unit.invariant all us told tells)

pub returns : goal.returns
returns c =
    functions_end c.args.units.now (λ x. get_by (λ k. bytes_eq x k.now) c.args.procedures.now) c.args.constants.now c.loop-unit.unit-index c.loop-unit-test.false c.loop-unit.found
    c.loop-unit.refusal c.unless_refused.result c.loop-unit.invariant c.unless_refused.ensures.kept c.unless_refused.ensures.refused

pub returns-in_err-row : goal.returns-in_err-row
returns-in_err-row c =
    no_functions c.args.units.now (λ x. get_by (λ k. bytes_eq x k.now) c.args.procedures.now) c.args.constants.now c.from_residual.result
    (let e : c.from_residual.result ≡ Err fail.NoMemory = search rules in e)
