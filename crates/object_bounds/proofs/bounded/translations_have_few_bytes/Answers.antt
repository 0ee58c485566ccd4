use Rattle.object_bounds.proofs.FileBytes.{each_translation_has_few_bytes}
use Rattle.object_bounds.proofs.bounded.translations_have_few_bytes.Goals as goal

pub returns : goal.returns
returns c =
    each_translation_has_few_bytes c.plain_units_are_told.ensures c.units_are_read_within.ensures c.lowered_texts_need_few_objects.ensures c.structured_statements_have_their_strings.ensures c.items_have_the_strings_of_their_steps.ensures
    c.programs_have_few_bytes.ensures
