use Rattle.std.proofs.Common.{◌≡◌, ◌++◌, drop, map}
use Rattle.f_tree.specs.Lines.{member_of}
use Rattle.unit_equations.specs.BlocksTold.{naming_by, member_in}
use Rattle.unit_equations.proofs.blocks.members.Given as goal

abbrev pub invariant-loop-item : goal.invariant-loop-item
invariant-loop-item l =
    map (member_of (naming_by l.facts)) l.items ≡ map member_in l.members.items ++ map (member_of (naming_by l.facts)) (drop l.item-index l.items)
