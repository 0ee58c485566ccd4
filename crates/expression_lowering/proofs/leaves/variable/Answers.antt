use Rattle.std.proofs.Common.{refl, ap, sym, Ok}
use Rattle.lowered_tree.specs.l_core.Pures as core
use Rattle.lowering.specs.Expressions as low
use Rattle.lowered_tree.specs.Shapes.{pure_of}
use Rattle.expression_lowering.specs.declared.purpose.Aspect.TheVariants.{Value, Actual}
use Rattle.expression_lowering.specs.Purposes.{purpose_of}
use Rattle.expression_lowering.specs.LoweredForms.{variable_form}
use Rattle.expression_lowering.proofs.Closings.{plain-lowered, one-lowered, as-lowered}
use Rattle.expression_lowering.proofs.leaves.variable.Goals as goal

pub returns-in-Value : goal.returns-in-Value
unfolding variable_form
returns-in-Value c =
    let q = purpose_of c.args.purpose in
    let k = c.args.free in
    let x = c.args.name.now in
    let before = c.args.steps.now.items in
    let place = c.in_ok-place.place in
    as-lowered (variable_form Value q k x) (variable_form c.args.aspect q k x) before c.load.new.steps.items c.load.result
    (ap (λ a. variable_form a q k x) (sym c.in-Value.is))
    (one-lowered low.AsFetch q k place.free (pure_of place.value) (low.plain (core.Name x) k) before before c.load.new.steps.items place c.load.result
    (plain-lowered (core.Name x) k before (Ok place) c.in_ok-place.ensures) refl refl c.load.ensures)

pub returns-in-Actual : goal.returns-in-Actual
unfolding variable_form
returns-in-Actual c =
    let q = purpose_of c.args.purpose in
    let k = c.args.free in
    let x = c.args.name.now in
    let before = c.args.steps.now.items in
    as-lowered (variable_form Actual q k x) (variable_form c.args.aspect q k x) before before (Ok c.in_ok-place.place)
    (ap (λ a. variable_form a q k x) (sym c.in-Actual.is))
    (plain-lowered (core.Name x) k before (Ok c.in_ok-place.place) c.in_ok-place.ensures)
