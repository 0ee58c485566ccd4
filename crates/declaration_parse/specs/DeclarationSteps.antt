-- The steps in which lists are read and put together.
use Rattle.std.specs.Prelude.{ℕ, List, [], ◌∷◌, ◌++◌, Some, None, if◌then◌else◌}
use Rattle.f_tree.specs.declared.statements.CommonGroup.{CommonGroup}
use Rattle.fortran_grammar.specs.DeclarationForms.{Placed}
use Rattle.fortran_grammar.specs.Forms.{sort, behind, Comma}
use Rattle.grammar_laws.specs.Exactness.{Reader}
use Rattle.grammar_laws.specs.FormReading.{same, items}

-- Further items behind a comma; else the list ends.
unfoldable pub further : {A : Type 0} → ℕ → Reader A → List A → Reader (List A)
further fuel read found pieces = if same Comma (sort pieces) then items fuel read found (behind pieces) else Some (found, pieces)

-- The groups of a COMMON statement with one name more: those before the last, and the last.
unfoldable pub next_group : List CommonGroup × CommonGroup → Placed → List CommonGroup × CommonGroup
next_group found (None, name) = (found.0, record { block = found.1.block; items = found.1.items ++ name ∷ [] })
next_group found (Some other, name) = (found.0 ++ found.1 ∷ [], record { block = other; items = name ∷ [] })

unfoldable pub groups_from : List CommonGroup × CommonGroup → List Placed → List CommonGroup × CommonGroup
groups_from found [] = found
groups_from found (placed ∷ more) = groups_from (next_group found placed) more
