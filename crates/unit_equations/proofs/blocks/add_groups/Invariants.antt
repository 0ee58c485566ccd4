use Rattle.std.proofs.Common.{◌≡◌, drop, map}
use Rattle.f_tree.specs.Lines.{blocks_from}
use Rattle.unit_equations.specs.BlocksTold.{naming_by, block_in}
use Rattle.unit_equations.proofs.blocks.add_groups.Given as goal

abbrev pub invariant-loop-group : goal.invariant-loop-group
invariant-loop-group l =
    blocks_from (naming_by l.facts) (map block_in l.initial.blocks.items) l.groups
    ≡ blocks_from (naming_by l.facts) (map block_in l.blocks.items) (drop l.group-index l.groups)
