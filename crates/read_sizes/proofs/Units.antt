-- What is read of a unit has a line for each statement, and few nodes.
use Rattle.std.specs.Prelude.{◌≡◌, ℕ, ◌*◌, ◌≤◌, true, List, [], ◌∷◌, map, length}
use Rattle.std.proofs.Common.{refl, sym, ap, ◌∙◌, subst, arith}
use Rattle.std.proofs.lemmas.Bool.{and_parts}
use Rattle.std.proofs.lemmas.List.{length-map}
use Rattle.tree_nodes.specs.f_tree.declared.names.Options.{Options}
use Rattle.tree_nodes.specs.f_tree.declared.statements.Stmt.{Stmt}
use Rattle.tree_nodes.specs.f_tree.declared.units.Unit.{Unit as GivenUnit}
use Rattle.tree_nodes.specs.f_tree.Facts.{Line}
use Rattle.tree_nodes.specs.f_tree.Lines.{Naming, line_of, program_of, with_ties, unit_read}
use Rattle.tree_nodes.specs.declaration_rows.ExpansionRows.{Sized, functions_of}
use Rattle.tree_nodes.specs.declaration_rows.NameRows.{given_names}
use Rattle.tree_nodes.specs.TreeNodes.{total_by, statements_nodes}
use Rattle.lowered_sizes.specs.ReadNodes.{lines_nodes}
use Rattle.read_sizes.specs.ReadUnits.{statement_lacks, statements_lack, EachUnitIsReadWithin}
use Rattle.read_sizes.proofs.Statements.{body_fits}

lines_fit : (names : Naming) (functions : List Sized) (labels : List ℕ) (ss : List Stmt) → statements_lack names ss ≡ true → lines_nodes (map (line_of names labels) ss) ≤ 4 * statements_nodes functions ss
unfolding line_of lines_nodes statements_lack statements_nodes total_by
lines_fit names functions labels [] h = omega arith
lines_fit names functions labels (s ∷ ss) h =
    let parts = and_parts (statement_lacks names s.body) (statements_lack names ss) h in
    let one = body_fits names functions s.body parts.0 in
    let more = lines_fit names functions labels ss parts.1 in
    omega (arith, one, more)

lines_read : (options : Options) (u : GivenUnit) → (labels : List ℕ) × ((unit_read options u).lines ≡ map (line_of (given_names u) labels) u.statements)
unfolding unit_read with_ties program_of given_names
lines_read options u = (_, refl)

pub each_unit_is_read_within : EachUnitIsReadWithin
each_unit_is_read_within options u h =
    let read = lines_read options u in
    record {
      lines = ap length read.1 ∙ length-map u.statements (line_of (given_names u) read.0);
      nodes = subst (λ (lines : List Line). lines_nodes lines ≤ 4 * statements_nodes (functions_of u) u.statements) (sym read.1) (lines_fit (given_names u) (functions_of u) read.0 u.statements h);
    }
