use Rattle.std.proofs.Common.{◌∙◌}
use Rattle.unit_writer.proofs.LocalLaws.{arguments_alike}
use Rattle.unit_writer.proofs.locals.number_arguments.Goals as goal

pub returns : goal.returns
returns c = c.from_vec.ensures ∙ c.in_ok-row.ensures.items_if_clones_equal (λ y h. h) ∙ arguments_alike c.args.count
