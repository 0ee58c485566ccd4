use Rattle.std.proofs.Common.{◌≡◌, ◌++◌, length, map, drop}
use Rattle.linked_programs.specs.LinkedPrograms.{object_of}
use Rattle.c_linker.specs.LinkedParts.{constant_object}
use Rattle.c_linker.proofs.HidingSteps.{HidesUntil, constants_from}
use Rattle.c_linker.proofs.names.link_constants.Given as goal

abbrev pub invariant-loop-constant : goal.invariant-loop-constant
invariant-loop-constant l = record {
  names : HidesUntil l.initial.names l.names (constants_from (length l.initial.objects) l.constants) (constants_from (length l.objects) (drop l.constant-index l.constants));
  objects : map object_of l.initial.objects ++ map constant_object l.constants ≡ map object_of l.objects ++ map constant_object (drop l.constant-index l.constants);
}
