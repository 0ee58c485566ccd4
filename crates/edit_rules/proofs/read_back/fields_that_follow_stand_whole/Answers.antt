use Rattle.edit_rules.proofs.FieldsFollow.{follow_whole}
use Rattle.edit_rules.proofs.read_back.fields_that_follow_stand_whole.Goals as goal

pub returns : goal.returns
returns c sheet format values h = follow_whole sheet format values h
