-- A reader for each form that is put together: what stands first, and the pieces that are left.
use Rattle.std.specs.Prelude.{ℕ, zero, suc, ◌+◌, Bool, true, false, List, [], ◌∷◌, ◌++◌, length, Option, Some, None, if◌then◌else◌}
use Rattle.fortran_grammar.specs.fortran_lexemes.Lexemes.{Lexeme, Lexemes, Name, Mark}
use Rattle.fortran_grammar.specs.fortran_lexemes.declared.signs.Sign.TheVariants as sign
use Rattle.fortran_grammar.specs.Forms.{Sort, sort_discrete, sort, behind, says_first, name_of, label_of, number_of, quoted_of, Open, Close, Comma}
use Rattle.grammar_laws.specs.Exactness.{Reader}

abbrev pub same : Sort → Sort → Bool
same k j = elim (sort_discrete k j) [ yes equal ↦ true | no other ↦ false ]

-- What was read is gone on with.
unfoldable pub going_on : {A B : Type 0} → Option (A × Lexemes) → (A → Lexemes → Option B) → Option B
going_on None next = None
going_on (Some read) next = next read.0 read.1

unfoldable pub otherwise : {A : Type 0} → Option A → Option A → Option A
otherwise None other = other
otherwise (Some x) other = Some x

unfoldable pub said : {A : Type 0} → A → Reader A
said x pieces = Some (x, pieces)

unfoldable pub with_rest : {A : Type 0} → Lexemes → Option A → Option (A × Lexemes)
with_rest rest None = None
with_rest rest (Some x) = Some (x, rest)

unfoldable pub piece : {A : Type 0} → (Lexeme → Option A) → Reader A
piece says pieces = with_rest (behind pieces) (says_first says pieces)

unfoldable pub after : {A : Type 0} → Sort → Reader A → Reader A
after k read pieces = if same k (sort pieces) then read (behind pieces) else None

unfoldable pub up_to_piece : {A : Type 0} → Sort → A → Lexemes → Option (A × Lexemes)
up_to_piece k x pieces = if same k (sort pieces) then Some (x, behind pieces) else None

unfoldable pub up_to : {A : Type 0} → Reader A → Sort → Reader A
up_to read k pieces = going_on (read pieces) (up_to_piece k)

unfoldable pub paired : {A B : Type 0} → A → Option (B × Lexemes) → Option ((A × B) × Lexemes)
paired x None = None
paired x (Some read) = Some ((x, read.0), read.1)

unfoldable pub both : {A B : Type 0} → Reader A → Reader B → Reader (A × B)
both first second pieces = going_on (first pieces) (λ x rest. paired x (second rest))

unfoldable pub led : {A B : Type 0} → Reader A → (A → Reader B) → Reader (A × B)
led first second pieces = going_on (first pieces) (λ x rest. paired x (second x rest))

unfoldable pub either : {A : Type 0} → Reader A → Reader A → Reader A
either one other pieces = otherwise (one pieces) (other pieces)

unfoldable pub maybe_read : {A : Type 0} → Lexemes → Option (A × Lexemes) → Option (Option A × Lexemes)
maybe_read pieces None = Some (None, pieces)
maybe_read pieces (Some read) = Some (Some read.0, read.1)

unfoldable pub maybe : {A : Type 0} → Reader A → Reader (Option A)
maybe read pieces = maybe_read pieces (read pieces)

unfoldable pub meant : {A B : Type 0} → (A → B) → Reader A → Reader B
meant mean read pieces = going_on (read pieces) (λ x rest. Some (mean x, rest))

unfoldable pub where_passes : {A : Type 0} → (A → Bool) → A → Lexemes → Option (A × Lexemes)
where_passes test x rest = if test x then Some (x, rest) else None

unfoldable pub where' : {A : Type 0} → (A → Bool) → Reader A → Reader A
where' test read pieces = going_on (read pieces) (where_passes test)

-- As many items as fuel allows, with what is found already, while commas stand between them.
unfoldable pub items : {A : Type 0} → ℕ → Reader A → List A → Reader (List A)
items zero read found pieces = None
items (suc fuel) read found pieces =
    going_on (read pieces) (λ x rest. if same Comma (sort rest) then items fuel read (found ++ x ∷ []) (behind rest) else Some
    (found ++ x ∷ [], rest))

unfoldable pub separated : {A : Type 0} → Reader A → Reader (List A)
separated read pieces = items (length pieces + 1) read [] pieces

-- A name and `=` stand there.
unfoldable pub is_keyed : Lexemes → Bool
is_keyed (Name text ∷ Mark sign.Equals ∷ more) = true
is_keyed pieces = false

-- Items up to a comma with a name and `=` behind it, and what stands there.
unfoldable pub ended_by : {A B : Type 0} → List A → Option (B × Lexemes) → Option ((List A × B) × Lexemes)
ended_by found None = None
ended_by found (Some read) = Some ((found, read.0), read.1)

unfoldable pub looped_items : {A B : Type 0} → ℕ → Reader A → Reader B → List A → Reader (List A × B)
looped_items zero first second found pieces = None
looped_items (suc fuel) first second found pieces =
    going_on (first pieces) (λ x rest.
    if same Comma (sort rest)
    then (if is_keyed (behind rest) then ended_by (found ++ x ∷ []) (second (behind rest)) else looped_items fuel first second
    (found ++ x ∷ []) (behind rest))
    else None)

unfoldable pub looped : {A B : Type 0} → Reader A → Reader B → Reader (List A × B)
looped first second pieces = looped_items (length pieces + 1) first second [] pieces

unfoldable pub choice : {A : Type 0} → (Lexemes → Bool) → Reader A → Reader A → Reader A
choice test one other pieces = if test pieces then one pieces else other pieces

unfoldable pub rounds_on : {A : Type 0} → List A → Lexemes → (A → Lexemes → Option (List A × Lexemes)) → Option (A × Lexemes)
    → Option (List A × Lexemes)
rounds_on found pieces next None = Some (found, pieces)
rounds_on found pieces next (Some read) = next read.0 read.1

-- Forms one behind the other while they can be read.
unfoldable pub rounds : {A : Type 0} → ℕ → Reader A → List A → Reader (List A)
rounds zero read found pieces = None
rounds (suc fuel) read found pieces = rounds_on found pieces (λ x rest. rounds fuel read (found ++ x ∷ []) rest) (read pieces)

unfoldable pub many : {A : Type 0} → Reader A → Reader (List A)
many read pieces = rounds (length pieces + 1) read [] pieces

unfoldable pub enclosed : {A : Type 0} → Reader A → Reader A
enclosed read = after Open (up_to read Close)

unfoldable pub with_comma : {A : Type 0} → Reader A → Reader A
with_comma read = either (after Comma read) read

abbrev pub a_name : Reader (List ℕ)
a_name = piece name_of

abbrev pub a_label : Reader ℕ
a_label = piece label_of

abbrev pub a_number : Reader ℕ
a_number = piece number_of

abbrev pub a_quoted : Reader (List ℕ)
a_quoted = piece quoted_of
