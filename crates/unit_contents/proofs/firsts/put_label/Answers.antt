use Rattle.std.proofs.Common.{None, get_or, ◌∙◌}
use Rattle.unit_contents.proofs.FirstLaws.{label_put, label_kept}
use Rattle.unit_contents.proofs.firsts.put_label.Goals as goal

pub returns-in-Some : goal.returns-in-Some
returns-in-Some c = λ n h. c.put_first.ensures n h ∙ label_put (get_or c.args.table.now n None) c.in-Some.place c.args.label n c.args.place c.in-Some.is

pub returns-in_default : goal.returns-in_default
returns-in_default c = λ n h. label_kept (get_or c.args.table.now n None) c.args.label n c.args.place c.in_default.is
