use Rattle.std.proofs.Common.{◌≡◌, ◌++◌, drop, map}
use Rattle.declaration_rows.specs.PlacingRows.{first_items}
use Rattle.name_table.specs.Named.{texts}
use Rattle.unit_equations.specs.BlocksTold.{block_in}
use Rattle.unit_equations.proofs.equations.first_names.Given as goal

abbrev pub invariant-loop-block : goal.invariant-loop-block
invariant-loop-block l = first_items (map block_in l.blocks) ≡ texts l.names.items ++ first_items (map block_in (drop l.block-index l.blocks))
