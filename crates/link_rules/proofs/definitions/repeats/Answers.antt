use Rattle.std.proofs.Common.{sym, ap, ◌∙◌, is_some, arith}
use Rattle.expression_linker.specs.Mentions.{has}
use Rattle.expression_linker.specs.StringsSeen.{texts}
use Rattle.link_rules.proofs.RuleLaws.{repeats-all}
use Rattle.link_rules.proofs.NameSteps.{repeats-found, repeats-next, repeats-last}
use Rattle.link_rules.proofs.definitions.repeats.Goals as goal

pub loop-name-init : goal.loop-name-init
loop-name-init c = repeats-all (has c.new-seen.result) (texts c.args.names.now) (λ q. ap (λ z. is_some z) (c.new-seen.ensures q))

pub loop-name-preserved : goal.loop-name-preserved
loop-name-preserved c =
    c.loop-name.invariant
    ∙ repeats-next (has c.loop-name.seen) (has c.add_seen.new.names) c.args.names.now c.loop-name.name-index c.loop-name-test.true (sym c.is_one.ensures ∙ c.if-is_one.false) c.in_ok-add_seen.ensures

pub returns-then-is_one : goal.returns-then-is_one
returns-then-is_one c =
    sym (c.loop-name.invariant ∙ repeats-found (has c.loop-name.seen) c.args.names.now c.loop-name.name-index c.loop-name-test.true (sym c.is_one.ensures ∙ c.if-is_one.true))

pub returns : goal.returns
returns c = sym (c.loop-name.invariant ∙ repeats-last (has c.loop-name.seen) c.args.names.now c.loop-name.name-index (omega arith))
