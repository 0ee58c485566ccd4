use Rattle.std.proofs.Common.{ap, ◌∙◌}
use Rattle.edit_rules.specs.FormatParts.{int_by, int_point, int_part}
use Rattle.edit_rules.specs.PartPlaces.{number_in, sign_in}
use Rattle.edit_rules.proofs.PartSteps.{point_least, point_none}
use Rattle.edit_rules.proofs.format_parts.int.Goals as goal

pub returns-then-point-eq46-clause-value : goal.returns-then-point-eq46-clause-value
unfolding int_part
returns-then-point-eq46-clause-value c =
    let text = c.args.text.now in
    point_least c.args.times (number_in text c.number_at-counted.result) (number_in text c.number_at-least.result) (sign_in text c.sign_at-point.result) c.if-point-eq46.true c.number_at-least.ensures.value
    ∙ ap (int_point c.args.times (number_in text c.number_at-counted.result)) c.sign_at-point.ensures.value
    ∙ ap (int_by c.args.times) c.number_at-counted.ensures.value

pub returns-clause-value : goal.returns-clause-value
unfolding int_part
returns-clause-value c =
    let text = c.args.text.now in
    point_none c.args.times (number_in text c.number_at-counted.result) (sign_in text c.sign_at-point.result) c.if-point-eq46.false
    ∙ ap (int_point c.args.times (number_in text c.number_at-counted.result)) c.sign_at-point.ensures.value
    ∙ ap (int_by c.args.times) c.number_at-counted.ensures.value
