use Rattle.c_laws.proofs.PlainText as plain
use Rattle.c_laws.proofs.text_laws.one_text_one_tree.Goals as goal

pub returns : goal.returns
returns c = record { one_tree = plain.one_tree }
