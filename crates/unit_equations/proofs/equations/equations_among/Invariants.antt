use Rattle.std.proofs.Common.{◌≡◌, ◌++◌, drop, map}
use Rattle.declaration_rows.specs.PlacingRows.{block_equations}
use Rattle.unit_equations.specs.BlocksTold.{block_in, equation_in}
use Rattle.unit_equations.proofs.equations.equations_among.Given as goal

abbrev pub invariant-loop-block : goal.invariant-loop-block
invariant-loop-block l =
    block_equations (map block_in l.blocks) ≡ map equation_in l.equations.items ++ block_equations (map block_in (drop l.block-index l.blocks))
