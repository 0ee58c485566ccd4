use Rattle.std.proofs.Common.{◌≡◌, map, take}
use Rattle.proto_file.specs.prototypes.TreePrototypes.{tree_prototypes}
use Rattle.prototype_outputs.proofs.outputs.lists_of.Given as goal

-- those of the trees up to here
abbrev pub invariant-loop-file : goal.invariant-loop-file
invariant-loop-file l = l.lists ≡ map tree_prototypes (take l.file-index l.files)
