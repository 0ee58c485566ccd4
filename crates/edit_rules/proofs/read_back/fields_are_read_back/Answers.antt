use Rattle.edit_rules.proofs.FieldsBack.{int_back, logical_back, text_back, text_wider, text_narrower, text_cut}
use Rattle.edit_rules.proofs.read_back.fields_are_read_back.Goals as goal

pub returns-clause-integers : goal.returns-clause-integers
returns-clause-integers c number width least plus zeros h l = int_back number width least plus zeros h l

pub returns-clause-logicals : goal.returns-clause-logicals
returns-clause-logicals c truth width h = logical_back truth width h

pub returns-clause-texts : goal.returns-clause-texts
returns-clause-texts c text width h = text_back text width h

pub returns-clause-wider : goal.returns-clause-wider
returns-clause-wider c text width h = text_wider text width h

pub returns-clause-narrower : goal.returns-clause-narrower
returns-clause-narrower c text width h = text_narrower text width h

pub returns-clause-cut : goal.returns-clause-cut
returns-clause-cut c text width h = text_cut text width h
