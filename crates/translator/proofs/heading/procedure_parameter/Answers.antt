use Rattle.std.proofs.Common.{sym, ◌∙◌}
use Rattle.translator.proofs.HeadingLemmas.{is_called, is_referenced, is_passed}
use Rattle.translator.proofs.heading.procedure_parameter.Goals as goal

pub returns-then-has : goal.returns-then-has
returns-then-has c u known = is_called u c.args.signs.now c.args.basic c.args.name.now known (sym c.has.ensures ∙ c.if-has.true)

pub returns-then-has-2 : goal.returns-then-has-2
returns-then-has-2 c u known =
    is_referenced u c.args.signs.now c.args.basic c.args.name.now known c.function_parameter.result (sym c.has.ensures ∙ c.if-has.false) (sym c.has-else-has.ensures ∙ c.if-has-2.true)
    c.function_parameter.ensures

pub returns-else-has-2 : goal.returns-else-has-2
returns-else-has-2 c u known =
    is_passed u c.args.signs.now c.args.basic c.args.name.now known (sym c.has.ensures ∙ c.if-has.false) (sym c.has-else-has.ensures ∙ c.if-has-2.false)
