use Rattle.std.proofs.Common.{◌≡◌, [], drop, map}
use Rattle.f_tree.specs.Attributes.{from_all}
use Rattle.f_tree.specs.Lines.{blocks_from, common_in}
use Rattle.unit_equations.specs.BlocksTold.{naming_by, block_in}
use Rattle.unit_equations.proofs.blocks.blocks_among.Given as goal

abbrev pub invariant-loop-statement : goal.invariant-loop-statement
invariant-loop-statement l =
    blocks_from (naming_by l.facts) [] (from_all common_in l.statements)
    ≡ blocks_from (naming_by l.facts) (map block_in l.blocks.items) (from_all common_in (drop l.statement-index l.statements))
