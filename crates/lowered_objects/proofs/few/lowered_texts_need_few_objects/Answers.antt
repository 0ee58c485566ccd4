use Rattle.lowered_objects.proofs.UnitObjects.{each_text_needs_few}
use Rattle.lowered_objects.proofs.few.lowered_texts_need_few_objects.Goals as goal

pub returns : goal.returns
returns c = each_text_needs_few
