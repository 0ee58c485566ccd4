use Rattle.std.proofs.Common.{sym, ◌∙◌}
use Rattle.first_names.specs.FirstNames.{first_of}
use Rattle.expression_linker.specs.StringsSeen.{texts}
use Rattle.function_numbers.proofs.NumberLaws.{given-all, given-step, given-last}
use Rattle.function_numbers.proofs.numbers.give_numbers.Goals as goal

pub loop-number-init : goal.loop-number-init
loop-number-init c = λ q. given-all (first_of c.new-numbers.result q) (texts c.args.names.now) q (c.new-numbers.ensures q)

pub loop-number-preserved : goal.loop-number-preserved
loop-number-preserved c = λ q.
    c.loop-number.invariant q
    ∙ given-step (first_of c.loop-number.numbers q) (first_of c.give.new.self q) c.loop-number.number _ c.args.names.now q c.loop-number-test.true (c.in_ok-give.ensures q)

pub returns : goal.returns
returns c = λ q.
    sym (c.loop-number.invariant q ∙ given-last (first_of c.loop-number.numbers q) c.loop-number.number c.args.names.now q c.loop-number-test.false)
