-- What goes on behind an item of a list, in statements that assign, branch and call.
use Rattle.std.specs.Prelude.{ℕ, List, Some, if◌then◌else◌}
use Rattle.fortran_grammar.specs.Forms.{sort, behind, Comma}
use Rattle.grammar_laws.specs.Exactness.{Reader}
use Rattle.grammar_laws.specs.FormReading.{same, items}

-- Further items behind a comma, and else those that are found.
unfoldable pub items_onward : {A : Type 0} → ℕ → Reader A → List A → Reader (List A)
items_onward fuel read found pieces = if same Comma (sort pieces) then items fuel read found (behind pieces) else Some (found, pieces)
