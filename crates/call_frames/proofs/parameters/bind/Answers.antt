use Rattle.std.proofs.Common.{◌+◌, ◌<◌, length, drop, pos, slice_get, slice_set, slice_index_or, ap, ◌∙◌, arith}
use Rattle.std.proofs.lemmas.List.{take_all}
use Rattle.std.proofs.lemmas.Option.{slice_get-get_or}
use Rattle.c_tree.specs.declared.outcome.CValue.TheVariants.{Number}
use Rattle.c_tree.specs.declared.types.ParameterType.TheVariants.{Integers}
use Rattle.c_tree.specs.Declarations.{parameter_object}
use Rattle.c_tree.specs.Steps as steps
use Rattle.call_frames.proofs.BindingLaws.{as-many, each-fits, parameter-anew}
use Rattle.call_frames.proofs.FrameLists.{bound_from, one-bound, not-bound, forms-after}
use Rattle.call_frames.proofs.parameters.bind.Goals as goal

pub offset_bounds-values-number : goal.offset_bounds-values-number
offset_bounds-values-number c = omega (arith, as-many c.args.parameters.now c.args.values.now c.requires.fit)

pub bounds-values-number : goal.bounds-values-number
bounds-values-number c = omega (arith, as-many c.args.parameters.now c.args.values.now c.requires.fit)

pub bind_one-requires-clause-fits : goal.bind_one-requires-clause-fits
bind_one-requires-clause-fits c =
    let within : c.loop-number.number < length c.args.values.now = omega (arith, as-many c.args.parameters.now c.args.values.now c.requires.fit) in
    each-fits c.args.parameters.now c.args.values.now c.loop-number.number (slice_index_or c.args.parameters.now c.loop-number.number Integers) (slice_index_or c.args.values.now c.loop-number.number (Number (pos 0))) c.requires.fit
    (slice_get-get_or c.args.parameters.now c.loop-number.number Integers (omega arith)) (slice_get-get_or c.args.values.now c.loop-number.number (Number (pos 0)) within)

pub bind_one-requires-clause-anew : goal.bind_one-requires-clause-anew
bind_one-requires-clause-anew c =
    ap (λ run. slice_get run (c.args.frame + c.loop-number.number)) c.loop-number.invariant.bound
    ∙ not-bound c.args.frame c.loop-number.number c.args.values.now c.args.run.now c.requires.within
    ∙ parameter-anew c.args.parameters.now (drop c.args.frame c.args.run.now) c.loop-number.number (slice_index_or c.args.parameters.now c.loop-number.number Integers) c.requires.anew
    (slice_get-get_or c.args.parameters.now c.loop-number.number Integers (omega arith))

pub loop-number-preserved : goal.loop-number-preserved
loop-number-preserved c =
    let within : c.loop-number.number < length c.args.values.now = omega (arith, as-many c.args.parameters.now c.args.values.now c.requires.fit) in
    let type = slice_index_or c.args.parameters.now c.loop-number.number Integers in
    let value = slice_index_or c.args.values.now c.loop-number.number (Number (pos 0)) in
    record {
      bound = c.bind_one.ensures.bound
          ∙ ap (λ run. slice_set run (c.args.frame + c.loop-number.number) (steps.bound value (parameter_object type))) c.loop-number.invariant.bound
          ∙ one-bound c.args.frame c.loop-number.number c.args.values.now c.args.run.now value (parameter_object type) c.requires.within
          (slice_get-get_or c.args.values.now c.loop-number.number (Number (pos 0)) within)
          (parameter-anew c.args.parameters.now (drop c.args.frame c.args.run.now) c.loop-number.number type c.requires.anew
          (slice_get-get_or c.args.parameters.now c.loop-number.number Integers (omega arith)));
      kept = forms-after c.args.run.now c.loop-number.run c.bind_one.new.run c.loop-number.invariant.kept c.bind_one.ensures.forms;
    }

pub returns-clause-bound : goal.returns-clause-bound
returns-clause-bound c =
    c.loop-number.invariant.bound
    ∙ ap (λ given. bound_from c.args.frame given c.args.run.now)
    (take_all c.loop-number.number c.args.values.now (omega (arith, as-many c.args.parameters.now c.args.values.now c.requires.fit)))
