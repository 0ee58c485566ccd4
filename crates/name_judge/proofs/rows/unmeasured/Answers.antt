use Rattle.std.proofs.Common.{◌∙◌}
use Rattle.name_judge.proofs.KindLemmas.{row_star, row_other, star_typed}
use Rattle.name_judge.proofs.rows.unmeasured.Goals as goal

pub returns-then-is_star : goal.returns-then-is_star
returns-then-is_star c =
    row_star c.args.unit.now c.args.name.now c.is_star.result (c.is_star.ensures ∙ star_typed c.args.unit.now c.args.name.now c.typed_name.result c.typed_name.ensures) c.if-is_star.true

pub returns : goal.returns
returns c =
    row_other c.args.unit.now c.args.name.now c.is_star.result (c.is_star.ensures ∙ star_typed c.args.unit.now c.args.name.now c.typed_name.result c.typed_name.ensures) c.if-is_star.false
