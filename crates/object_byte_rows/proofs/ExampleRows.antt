-- What is counted in the example.
use Rattle.std.proofs.Common.{refl}
use Rattle.object_bytes.specs.f_tree.Attributes.{attributes_opened}
use Rattle.object_bytes.specs.f_tree.Folds.{folds_opened}
use Rattle.object_bytes.specs.f_tree.Lines.{lines_opened}
use Rattle.object_bytes.specs.f_tree.Reading.{reading_opened}
use Rattle.object_bytes.specs.f_tree.Runs.{runs_opened}
use Rattle.object_bytes.specs.f_tree.Terms.{terms_opened}
use Rattle.object_bytes.specs.f_tree.Uses.{uses_opened}
use Rattle.object_bytes.specs.f_tree.Values.{values_opened}
use Rattle.object_bytes.specs.f_tree.Valuing.{valuing_opened}
use Rattle.object_bytes.specs.declaration_rows.ExpansionRows.{expansion_rows_opened}
use Rattle.object_bytes.specs.declaration_rows.GlobalRows.{global_rows_opened}
use Rattle.object_bytes.specs.declaration_rows.NameRows.{name_rows_opened}
use Rattle.object_bytes.specs.tree_nodes.TreeNodes.{tree_nodes_opened}
use Rattle.object_bytes.specs.ObjectBytes.{object_bytes_opened}
use Rattle.object_byte_rows.specs.Examples.{ExampleIsCounted, examples_opened}

pub example_is_counted : ExampleIsCounted
unfolding attributes_opened folds_opened lines_opened reading_opened runs_opened terms_opened uses_opened values_opened valuing_opened expansion_rows_opened global_rows_opened name_rows_opened tree_nodes_opened object_bytes_opened examples_opened
example_is_counted = record { stored = λ options. refl; nodes = refl; stops = refl }
