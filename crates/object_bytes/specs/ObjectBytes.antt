-- What bounds the bytes of the objects of the C files of some FORTRAN files: the bytes of the sequences of their units, the nodes of their trees, and the lengths
-- of the texts of their STOP statements. ANSI X3.9-1978, sections 3.5, 11.12 and 17.1.
use Rattle.std.specs.Prelude.{ℕ, List, length, map}
use Rattle.tree_nodes.specs.f_tree.declared.names.Options.{Options}
use Rattle.tree_nodes.specs.f_tree.declared.statements.Body.{Body}
use Rattle.tree_nodes.specs.f_tree.declared.statements.Body.TheOpen as body
use Rattle.tree_nodes.specs.f_tree.declared.statements.Stmt.{Stmt}
use Rattle.tree_nodes.specs.f_tree.declared.units.Unit.{Unit as GivenUnit}
use Rattle.tree_nodes.specs.f_tree.declared.units.File.{File}
use Rattle.tree_nodes.specs.f_tree.Folds.{fold_body}
use Rattle.tree_nodes.specs.f_tree.Lines.{unit_read}
use Rattle.tree_nodes.specs.f_tree.Runs.{all_sizes}
use Rattle.tree_nodes.specs.declaration_rows.GlobalRows.{all_units}
use Rattle.tree_nodes.specs.TreeNodes.{total_by, unit_nodes}

-- the bytes of the sequences of units without COMMON and EQUIVALENCE, each of whose stored names has one of its own (17.1): four for a numeric storage unit
unfoldable pub stored_in : Options → List GivenUnit → ℕ
stored_in options us = total_by (λ size. size) (all_sizes (map (unit_read options) us))

unfoldable pub stored_bytes : Options → List File → ℕ
stored_bytes options files = stored_in options (all_units files)

-- the nodes of the trees of all units
unfoldable pub all_nodes : List File → ℕ
all_nodes files = total_by unit_nodes (all_units files)

-- one layer of a statement, given the length of the text of the statement of a logical IF (11.12)
unfoldable pub layer_stop : body.Body-F ℕ → ℕ
layer_stop (body.Stop text) = length text
layer_stop (body.IfOne e n) = n
layer_stop other = 0

unfoldable pub stop_length : Body → ℕ
stop_length b = fold_body layer_stop b

-- the lengths of the texts of the STOP statements of a unit, and of all units
unfoldable pub unit_stops : GivenUnit → ℕ
unit_stops u = total_by (λ (s : Stmt). stop_length s.body) u.statements

unfoldable pub all_stops : List File → ℕ
all_stops files = total_by unit_stops (all_units files)

unfoldable pub object_bytes_opened : Unit {0}
unfolding stored_in stored_bytes all_nodes layer_stop stop_length unit_stops all_stops
object_bytes_opened = tt
