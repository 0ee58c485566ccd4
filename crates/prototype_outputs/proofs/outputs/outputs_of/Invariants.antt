use Rattle.std.proofs.Common.{◌≡◌, take}
use Rattle.std.specs.List.{flat_map}
use Rattle.prototype_outputs.specs.Outputs.{tree_outputs}
use Rattle.prototype_outputs.proofs.outputs.outputs_of.Given as goal

-- those of the trees up to here
abbrev pub invariant-loop-file : goal.invariant-loop-file
invariant-loop-file l = l.texts ≡ flat_map (tree_outputs l.prototypes) (take l.file-index l.files)
