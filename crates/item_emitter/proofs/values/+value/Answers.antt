use Rattle.std.proofs.Common.{drop, ◌+◌, sym, ap, ◌∙◌, arith}
use Rattle.lowered_tree.specs.Shapes.{pure_of, pures_of}
use Rattle.item_emitter.specs.Knowing.{known_of}
use Rattle.item_emission.specs.NamedEmission.{value_expr, value_exprs}
use Rattle.item_emitter.proofs.ValueForms.{values-none, values-more}
use Rattle.item_emitter.proofs.ValueWalks.{behind, each-start, each-more, each-none, each-end}
use Rattle.item_emitter.proofs.values.+value.Goals as goal

pub values-loop-source-init : goal.values-loop-source-init
values-loop-source-init t c =
    let known = known_of c.args.known.now in
    each-start (λ p. value_expr known (pure_of p)) (λ ps. value_exprs known (pures_of ps)) (values-none known) (values-more known) c.args.sources.now
    ∙ ap (λ es. behind es (value_exprs known (pures_of c.args.sources.now))) (sym c.new-exprs.ensures.items)

pub values-returns-in-None : goal.values-returns-in-None
values-returns-in-None t c =
    let known = known_of c.args.known.now in
    each-none (λ p. value_expr known (pure_of p)) (λ ps. value_exprs known (pures_of ps)) (values-none known) (values-more known) c.args.sources.now c.loop-source.source-index c.source-item.result _ _ c.loop-source.exprs.items
    c.loop-source-test.true c.source-item.is c.loop-source.invariant (sym c.in-None.is ∙ c.in_ok-e.ensures)

pub values-loop-source-preserved : goal.values-loop-source-preserved
values-loop-source-preserved t c =
    let known = known_of c.args.known.now in
    each-more (λ p. value_expr known (pure_of p)) (λ ps. value_exprs known (pures_of ps)) (values-none known) (values-more known) c.args.sources.now c.loop-source.source-index c.source-item.result _ _ c.loop-source.exprs.items c.in-Some.e
    c.loop-source-test.true c.source-item.is c.loop-source.invariant (sym c.in-Some.is ∙ c.in_ok-e.ensures)
    ∙ ap (λ es. behind es (value_exprs known (pures_of (drop (c.loop-source.source-index + 1) c.args.sources.now)))) (sym c.in_ok-push-in-Some.ensures.items)

pub values-returns : goal.values-returns
values-returns t c =
    let known = known_of c.args.known.now in
    each-end (λ p. value_expr known (pure_of p)) (λ ps. value_exprs known (pures_of ps)) (values-none known) (values-more known) c.args.sources.now c.loop-source.source-index _ c.loop-source.exprs.items (omega arith) c.loop-source.invariant
