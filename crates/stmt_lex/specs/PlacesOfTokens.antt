-- Where the tokens of a statement stand in its text as it is written. ANSI X3.9-1978, sections 3.1 and 3.3: blanks outside constants mean
-- nothing, and a token may stand across them.
use Rattle.std.specs.Prelude.{◌≡◌, ◌<◌, ◌≤◌, ◌+◌, ◌-◌, ◌||◌, ◌&&◌, ◌==◌, ◌⊎◌, ℕ, zero, suc, nat_eq, nat_le, nat_lt, Bool, true, false, List, [], ◌∷◌, ◌++◌, length, map, codes, get_or, None, is_some}
use Rattle.std.specs.List.{list_any}
use Rattle.std.specs.Char.{to_ascii_lowercase}
use Rattle.fortran_text.specs.declared.characters.Character.{Character}
use Rattle.fortran_text.specs.declared.characters.Standing.{Standing}
use Rattle.fortran_text.specs.declared.characters.Standing.TheVariants.{Outside}
use Rattle.fortran_text.specs.CharactersOfText.{after, shown, has_counted, characters}
use Rattle.fortran_lexemes.specs.PiecesOfStatements.{step_past_blank, pieces}
use Rattle.fortran_lexemes.specs.declared.kinds.StmtKind.{StmtKind}
use Rattle.fortran_lexemes.specs.declared.modes.Mode.{Mode}
use Rattle.fortran_lexemes.specs.declared.modes.Mode.TheVariants.{Begins}
use Rattle.stmt_lex.specs.declared.places.Place.{Place}
use Rattle.stmt_lex.specs.declared.token.Span.{Span}

-- Where the characters of a text stand in it. The blank that stays between two constants is the one before the apostrophe.
unfoldable pub placed : ℕ → List Character → List ℕ
placed at [] = []
placed at (c ∷ []) = at ∷ []
placed at (blank ∷ c ∷ more) = (at - 1) ∷ at ∷ []

unfoldable pub places_from : Bool → Standing → ℕ → List ℕ → List ℕ
places_from counts standing at [] = []
places_from counts standing at (c ∷ rest) = placed at (shown standing c) ++ places_from counts (after counts standing c) (suc at) rest

unfoldable pub character_places : Bool → List ℕ → List ℕ
character_places labelled text = places_from (has_counted labelled text) (Outside None) 0 text

-- Which characters a token takes.
unfoldable pub extent : Bool → ℕ → ℕ → List Span
extent true from len = record { from = from; len = len } ∷ []
extent false from len = []

-- Those of the tokens from a place on; the first number is not less than that of the characters.
unfoldable pub extents_from : ℕ → Mode → ℕ → List Character → List Span
extents_from zero m at text = []
extents_from (suc fuel) m at [] = []
extents_from (suc fuel) m at (c ∷ rest) =
    let s = step_past_blank m c rest in
    let len = suc (length rest) - length s.rest in
    extent (is_some s.piece) at len ++ extents_from fuel s.next (at + len) s.rest

unfoldable pub extents : StmtKind → List Character → List Span
extents k text = extents_from (length text) (Begins k) 0 text

-- A token stands from the place of its first character to that of its last one.
unfoldable pub place_of : List ℕ → Span → Place
place_of places e =
    let first = get_or places e.from 0 in
    record { from = first; len = suc (get_or places (e.from + e.len - 1) 0) - first }

unfoldable pub token_places : StmtKind → Bool → List ℕ → List Place
token_places k labelled text = map (place_of (character_places labelled text)) (extents k (characters labelled text))

-- Places in order, from a byte to another one: each has a byte, and none begins before the one before it ends.
pub data IsInOrder : ℕ → List Place → ℕ → Type 0 where
  none_left : (start stop : ℕ) → start ≤ stop → IsInOrder start [] stop
  one_first : (start stop : ℕ) (p : Place) (ps : List Place) → start ≤ p.from → 0 < p.len → IsInOrder (p.from + p.len) ps stop → IsInOrder start (p ∷ ps) stop

unfoldable pub is_placed : ℕ → List Place → Bool
is_placed at ps = list_any (λ (p : Place). nat_le p.from at && nat_lt at (p.from + p.len)) ps

-- What stands between tokens: blanks, and the word WHILE, which no token is: the one of DO stands for it too.
unfoldable pub is_skipped : ℕ → Bool
is_skipped c = c == 32 || list_any (nat_eq c) (codes "while")

unfoldable pub is_between : ℕ → Bool
is_between c = is_skipped (to_ascii_lowercase c)

-- The places of the tokens of a text: one for each, in order, and what stands in none of them means nothing or is WHILE.
pub record ArePlaces (k : StmtKind) (labelled : Bool) (text : List ℕ) (places : List Place) : Type 0 where
  pub one_each : length places ≡ length (pieces k (characters labelled text))
  pub in_order : IsInOrder 0 places (length text)
  pub else_between : (at : ℕ) → at < length text → (is_placed at places ≡ true) ⊎ (is_between (get_or text at 0) ≡ true)

-- The sums and places that the code takes are within its numbers.
pub data AreWithin (places : List ℕ) : List Span → Type 0 where
  none_within : AreWithin places []
  one_within : (e : Span) (es : List Span) → e.from + e.len < 18446744073709551616 → get_or places (e.from + e.len - 1) 0 < 18446744073709551615 →
      AreWithin places es → AreWithin places (e ∷ es)
