use Rattle.std.proofs.Common.{Some, bytes_eq}
use Rattle.std.proofs.lemmas.Map.Text.{hash_map_updates_str}
use Rattle.loop_entries.specs.PassedLabels.{labels_at}
use Rattle.loop_entries.proofs.LabelForms.{labels_put}
use Rattle.loop_entries.proofs.labels.FunctionLabels.put.Goals as goal

pub returns-in-Ok : goal.returns-in-Ok
unfolding labels_at
returns-in-Ok c = λ x. labels_put (bytes_eq c.args.name.now x) c.args.labels _ _ (hash_map_updates_str c.args.name.now c.args.self.now.labels c.insert.new.self (Some c.args.labels) c.in-Ok.ensures.updates x)
