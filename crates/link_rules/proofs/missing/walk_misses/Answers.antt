use Rattle.std.proofs.Common.{sym, ap, ◌∙◌, is_some, arith}
use Rattle.expression_linker.specs.Mentions.{has}
use Rattle.first_names.specs.FirstNames.{first_of}
use Rattle.link_rules.specs.Mentioned.{in_fields}
use Rattle.link_rules.proofs.MissingLaws.{same_start}
use Rattle.link_rules.proofs.MissingSteps.{misses-found, misses-next, misses-last}
use Rattle.link_rules.proofs.missing.walk_misses.Goals as goal

pub loop-local-init : goal.loop-local-init
loop-local-init c =
    same_start (first_of c.args.numbers.now) (has c.new-lacking.result) c.args.locals.now c.args.body.now (λ q. ap (λ z. is_some z) (c.new-lacking.ensures q))

pub loop-local-preserved : goal.loop-local-preserved
loop-local-preserved c =
    c.loop-local.invariant
    ∙ misses-next (first_of c.args.numbers.now) c.loop-local.lacking (has c.add_declared.new.names) c.args.locals.now c.args.body.now c.loop-local.local-index c.local-item.result c.loop-local-test.true
    c.local-item.is (ap (in_fields c.loop-local.lacking) (sym c.list_fields.ensures) ∙ sym c.in_fields.ensures ∙ c.if-in_fields.false) c.in_ok-add_declared.ensures

pub returns-then-in_fields : goal.returns-then-in_fields
returns-then-in_fields c =
    sym
    (c.loop-local.invariant
    ∙ misses-found (first_of c.args.numbers.now) c.loop-local.lacking c.args.locals.now c.args.body.now c.loop-local.local-index c.local-item.result c.loop-local-test.true c.local-item.is
    (ap (in_fields c.loop-local.lacking) (sym c.list_fields.ensures) ∙ sym c.in_fields.ensures ∙ c.if-in_fields.true))

pub returns : goal.returns
returns c =
    c.mentions_one.ensures
    ∙ sym
    (c.loop-local.invariant ∙ misses-last (first_of c.args.numbers.now) (has c.loop-local.lacking) c.args.locals.now c.args.body.now c.loop-local.local-index (omega arith))
