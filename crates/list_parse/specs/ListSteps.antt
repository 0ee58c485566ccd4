-- What stands behind a piece that was taken or was not, in lists and controls.
use Rattle.std.specs.Prelude.{ℕ, List, [], ◌∷◌, ◌++◌, Option, Some, None, if◌then◌else◌}
use Rattle.fortran_lexemes.specs.Lexemes.{Lexemes}
use Rattle.fortran_grammar.specs.Forms.{Comma}
use Rattle.grammar_laws.specs.FormReading.{is_keyed}
use Rattle.grammar_laws.specs.Exactness.{Reader}
use Rattle.grammar_laws.specs.FormReading.{going_on, up_to, items, looped_items, ended_by}
use Rattle.expression_parse.specs.WantedPieces.{taken}

-- The form behind a piece that was taken.
unfoldable pub behind_taken : {A : Type 0} → Reader A → Option Lexemes → Option (A × Lexemes)
behind_taken read None = None
behind_taken read (Some rest) = read rest

-- What was read, with a piece taken behind it.
unfoldable pub closed : {A : Type 0} → A → Option Lexemes → Option (A × Lexemes)
closed x None = None
closed x (Some rest) = Some (x, rest)

-- More items where a comma was taken.
unfoldable pub items_by : {A : Type 0} → ℕ → Reader A → List A → Lexemes → Option Lexemes → Option (List A × Lexemes)
items_by fuel read found pieces None = Some (found, pieces)
items_by fuel read found pieces (Some rest) = items fuel read found rest

unfoldable pub items_on : {A : Type 0} → ℕ → Reader A → List A → Lexemes → Option (List A × Lexemes)
items_on fuel read found pieces = items_by fuel read found pieces (taken Comma pieces)

-- One more item with a comma behind it.
unfoldable pub looped_step : {A : Type 0} → Reader A → List A → Reader (List A)
looped_step first found pieces = going_on (up_to first Comma pieces) (λ x rest. Some (found ++ x ∷ [], rest))

-- The loop where it stands there, and else more items.
unfoldable pub looped_on : {A B : Type 0} → ℕ → Reader A → Reader B → List A → Reader (List A × B)
looped_on fuel first second found pieces = if is_keyed pieces then ended_by found (second pieces) else looped_items fuel first second found pieces
