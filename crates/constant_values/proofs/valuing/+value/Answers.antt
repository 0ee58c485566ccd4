use Rattle.std.proofs.Common.{option_map, drop, ◌+◌, sym, ap, ◌∙◌, arith}
use Rattle.name_table.specs.Named.{names_in}
use Rattle.name_facts.specs.GivenFacts.{datum_of}
use Rattle.constant_values.specs.Folded.{all_some}
use Rattle.constant_values.specs.KnownConstants.{known_by}
use Rattle.constant_values.specs.Operands.{data_of, each_folded}
use Rattle.constant_values.proofs.FoldedForms.{argument-value}
use Rattle.constant_values.proofs.LengthLemmas.{length-none-listed, length-more-listed}
use Rattle.constant_values.proofs.ListLemmas.{behind, each-start, each-more, each-none, each-end}
use Rattle.constant_values.proofs.valuing.+value.Goals as goal

pub length_of-returns-in-empty : goal.length_of-returns-in-empty
length_of-returns-in-empty t c = length-none-listed (known_by c.args.constants.now (names_in c.args.functions.now)) c.args.es.now (data_of c.args.arguments.now) (omega arith)

pub length_of-returns-in-len2-up : goal.length_of-returns-in-len2-up
length_of-returns-in-len2-up t c = length-more-listed (known_by c.args.constants.now (names_in c.args.functions.now)) c.args.es.now (data_of c.args.arguments.now) (omega arith)

pub value_in-returns-in-Bound : goal.value_in-returns-in-Bound
value_in-returns-in-Bound t c =
    argument-value c.copied_if-in-Bound.result (known_by c.args.constants.now (names_in c.args.functions.now)) c.args.e.now c.args.arguments.now c.in-Bound.place c.argument.result
    c.in-Bound.is c.argument.ensures c.copied_if-in-Bound.ensures

pub values_in-loop-e-init : goal.values_in-loop-e-init
values_in-loop-e-init t c =
    let known = known_by c.args.constants.now (names_in c.args.functions.now) in
    let env = data_of c.args.arguments.now in
    each-start known env c.args.es.now ∙ ap (λ vs. behind (data_of vs) (all_some (each_folded known c.args.es.now env))) (sym c.new-values.ensures)

pub values_in-returns-in-None : goal.values_in-returns-in-None
values_in-returns-in-None t c =
    each-none (known_by c.args.constants.now (names_in c.args.functions.now)) (data_of c.args.arguments.now) c.args.es.now c.loop-e.e-index c.e-item.result _ _ c.loop-e.values
    c.loop-e-test.true c.e-item.is c.loop-e.invariant (sym (ap (option_map datum_of) c.in-None.is) ∙ c.in_ok-value.ensures)

pub values_in-loop-e-preserved : goal.values_in-loop-e-preserved
values_in-loop-e-preserved t c =
    let known = known_by c.args.constants.now (names_in c.args.functions.now) in
    let env = data_of c.args.arguments.now in
    each-more known env c.args.es.now c.loop-e.e-index c.e-item.result _ _ c.loop-e.values c.in-Some.value
    c.loop-e-test.true c.e-item.is c.loop-e.invariant (sym (ap (option_map datum_of) c.in-Some.is) ∙ c.in_ok-value.ensures)
    ∙ ap (λ vs. behind (data_of vs) (all_some (each_folded known (drop (c.loop-e.e-index + 1) c.args.es.now) env))) (sym c.in_ok-push-in-Some.ensures.ok)

pub values_in-returns : goal.values_in-returns
values_in-returns t c =
    each-end (known_by c.args.constants.now (names_in c.args.functions.now)) (data_of c.args.arguments.now) c.args.es.now c.loop-e.e-index _ c.loop-e.values (omega arith) c.loop-e.invariant
