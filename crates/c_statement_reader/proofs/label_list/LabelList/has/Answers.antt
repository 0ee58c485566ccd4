use Rattle.std.proofs.Common.{ap, ◌∙◌, is_some}
use Rattle.c_statement_reader.specs.LabelCounts.{texts}
use Rattle.c_statement_reader.specs.LabelLists.{labels_in}
use Rattle.c_statement_reader.proofs.LabelTimes.{among-told}
use Rattle.c_statement_reader.proofs.label_list.LabelList.has.Goals as goal

pub returns : goal.returns
unfolding labels_in
returns c =
    c.contains_key.ensures ∙ (ap is_some (c.args.self.now.told c.args.label.now) ∙ among-told c.args.label.now (texts c.args.self.now.labels.items))
