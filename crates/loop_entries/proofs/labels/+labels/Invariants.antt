use Rattle.std.proofs.Common.{◌≡◌, ◌++◌, drop, map}
use Rattle.loop_entries.specs.PassedLabels.{told_by, joined, labels_of}
use Rattle.loop_entries.proofs.labels.+labels.Given as goal

abbrev pub invariant-add_each-loop-e : goal.invariant-add_each-loop-e
invariant-add_each-loop-e l =
    l.initial.labels.items ++ joined (map (labels_of (told_by l.scope)) l.es) ≡ l.labels.items ++ joined (map (labels_of (told_by l.scope)) (drop l.e-index l.es))
