use Rattle.step_bounds.proofs.Bounds.{each_translation_is_bounded}
use Rattle.step_bounds.proofs.bounded.translations_are_bounded.Goals as goal

pub returns : goal.returns
returns c = each_translation_is_bounded c.structured_statements_have_a_size.ensures c.lowered_steps_are_bounded.ensures c.units_are_read_within.ensures
