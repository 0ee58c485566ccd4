-- What is counted in the example.
use Rattle.std.proofs.Common.{refl}
use Rattle.tree_nodes.specs.f_tree.Attributes.{attributes_opened}
use Rattle.tree_nodes.specs.f_tree.Folds.{folds_opened}
use Rattle.tree_nodes.specs.f_tree.Uses.{uses_opened}
use Rattle.tree_nodes.specs.declaration_rows.ExpansionRows.{expansion_rows_opened}
use Rattle.tree_nodes.specs.declaration_rows.NameRows.{name_rows_opened}
use Rattle.tree_nodes.specs.TreeNodes.{tree_nodes_opened}
use Rattle.tree_node_rows.specs.Examples.{ExampleIsCounted, examples_opened}

pub example_is_counted : ExampleIsCounted
unfolding folds_opened attributes_opened uses_opened expansion_rows_opened name_rows_opened tree_nodes_opened examples_opened
example_is_counted = record { function = refl; defined = refl; chosen = refl; within = refl; whole = refl; greatest = refl }
