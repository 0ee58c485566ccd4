-- The rows of EQUIVALENCE places alone: of those that are not constant, or out of their bounds. ANSI X3.9-1978, section 8.2.4.
use Rattle.std.specs.Prelude.{List, [], ◌∷◌, ◌++◌}
use Rattle.placing_laws.specs.f_tree.declared.refusals.Kind.TheVariants.{EquivalenceContradiction}
use Rattle.placing_laws.specs.f_tree.declared.refusals.Refusal.{Refusal}
use Rattle.placing_laws.specs.f_tree.declared.statements.Stmt.{Stmt}
use Rattle.placing_laws.specs.f_tree.Facts.{Facts}
use Rattle.placing_laws.specs.f_tree.Lines.{Naming, equivalence_in}
use Rattle.placing_laws.specs.declaration_rows.Judgement.{unless}
use Rattle.placing_laws.specs.declaration_rows.NameRows.{stood}
use Rattle.placing_laws.specs.declaration_rows.PlacingRows.{groups_settled}

unfoldable pub place_rows : Facts → Naming → List Stmt → List Refusal
place_rows c names [] = []
place_rows c names (s ∷ ss) = stood s (unless (groups_settled c names (equivalence_in s.body)) EquivalenceContradiction) ++ place_rows c names ss
