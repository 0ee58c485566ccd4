-- The pieces of a text where no word of a statement stands: the longest one at a place. ANSI X3.9-1978, section 2.2: names; 3.1: signs; 4.3,
-- 4.7 and 4.8: constants; 6: operators.
use Rattle.std.specs.Prelude.{ℕ, zero, suc, ◌+◌, Bool, true, false, not, ◌||◌, ◌&&◌, ◌==◌, nat_lt, List, [], ◌∷◌, ◌++◌, length, take, drop, map, codes, Option, Some, None, if◌then◌else◌}
use Rattle.std.specs.Char.{is_ascii_digit, is_ascii_lowercase}
use Rattle.std.specs.List.{prefix_len}
use Rattle.std.specs.Str.Parse.{digits_value}
use Rattle.fortran_text.specs.f_tree.declared.expressions.BinaryOp.TheVariants as op
use Rattle.fortran_text.specs.declared.characters.Character.{Character}
use Rattle.fortran_lexemes.specs.Lexemes.{Lexeme, Name, LongName, Number, TooLarge, Quoted, BadQuote, Infix, Negation, Truth, Mark, Other}
use Rattle.fortran_lexemes.specs.declared.signs.Sign.TheVariants as sign

-- A character outside constants, by its code; a letter, a digit, and what a name has after its first letter.
abbrev pub is_mark : ℕ → Character → Bool
is_mark code c = not c.quoted && c.code == code

abbrev pub is_letter : Character → Bool
is_letter c = not c.quoted && is_ascii_lowercase c.code

abbrev pub is_digit : Character → Bool
is_digit c = not c.quoted && is_ascii_digit c.code

abbrev pub is_in_name : Character → Bool
is_in_name c = not c.quoted && (is_ascii_lowercase c.code || is_ascii_digit c.code || c.code == 95)

abbrev pub codes_of : List Character → List ℕ
codes_of text = map (λ (c : Character). c.code) text

-- A word stands at the beginning of a text.
unfoldable pub begins : List ℕ → List Character → Bool
begins [] text = true
begins (code ∷ word) [] = false
begins (code ∷ word) (c ∷ text) = is_mark code c && begins word text

-- A piece, and what is left behind it.
pub record Cut : Type 0 where
  pub piece : Lexeme
  pub rest : List Character

-- Letters, digits and underscores are a name of at most 31 characters.
unfoldable pub named : List ℕ → Lexeme
named text = if nat_lt 31 (length text) then LongName else Name text

-- Digits are an integer constant of at most 2147483647.
unfoldable pub numbered : List ℕ → Lexeme
numbered digits = let value = digits_value 10 digits in if nat_lt 2147483647 value then TooLarge else Number digits value

-- The characters that pass a test, as far as they go, are one piece.
unfoldable pub run_of : (Character → Bool) → (List ℕ → Lexeme) → List Character → Cut
run_of test made text =
    let n = prefix_len test text in record { piece = made (codes_of (take n text)); rest = drop n text }

-- How many characters stand before the apostrophe that closes a constant, of which so many are passed; none where it is not closed. Two
-- apostrophes side by side close nothing.
unfoldable pub constant_end : ℕ → List Character → Option ℕ
constant_end passed [] = None
constant_end passed (c ∷ []) = if is_mark 39 c then Some passed else None
constant_end passed (c ∷ d ∷ rest) =
    let past_both = constant_end (passed + 2) rest in
    let past_one = constant_end (passed + 1) (d ∷ rest) in
    if is_mark 39 c then (if is_mark 39 d then past_both else Some passed) else past_one

-- The text of a constant: two apostrophes side by side are one.
unfoldable pub undoubled : List Character → List ℕ
undoubled [] = []
undoubled (c ∷ []) = c.code ∷ []
undoubled (c ∷ d ∷ rest) =
    let behind_both = undoubled rest in
    let behind_one = undoubled (d ∷ rest) in
    if is_mark 39 c && is_mark 39 d then 39 ∷ behind_both else c.code ∷ behind_one

-- A constant of so many characters before its closing apostrophe, by the text behind the opening one.
unfoldable pub quoted_to : Option ℕ → List Character → Cut
quoted_to None text = record { piece = BadQuote; rest = [] }
quoted_to (Some zero) text = record { piece = BadQuote; rest = drop 1 text }
quoted_to (Some (suc n)) text = record { piece = Quoted (undoubled (take (suc n) text)); rest = drop (suc (suc n)) text }

-- The operators and logical constants between points, by what stands behind the first point. None begins another.
pub record Dotted : Type 0 where
  pub word : List ℕ
  pub piece : Lexeme

abbrev pub dotted : List ℕ → Lexeme → Dotted
dotted word piece = record { word = word; piece = piece }

unfoldable pub order_words : List Dotted
order_words =
    dotted (codes "lt.") (Infix op.Less) ∷ dotted (codes "le.") (Infix op.LessOrEqual) ∷ dotted (codes "gt.") (Infix op.Greater)
    ∷ dotted (codes "ge.") (Infix op.GreaterOrEqual) ∷ []

unfoldable pub equality_words : List Dotted
equality_words =
    dotted (codes "eq.") (Infix op.Equal) ∷ dotted (codes "ne.") (Infix op.NotEqual) ∷ dotted (codes "eqv.") (Infix op.Equivalent)
    ∷ dotted (codes "neqv.") (Infix op.NotEquivalent) ∷ []

unfoldable pub logical_words : List Dotted
logical_words =
    dotted (codes "and.") (Infix op.And) ∷ dotted (codes "or.") (Infix op.Or) ∷ dotted (codes "not.") Negation
    ∷ dotted (codes "true.") (Truth true) ∷ dotted (codes "false.") (Truth false) ∷ []

-- The first of these words that begins a text.
unfoldable pub dotted_at : List Dotted → List Character → Option Cut
dotted_at [] text = None
dotted_at (d ∷ more) text =
    let other = dotted_at more text in
    if begins d.word text then Some (record { piece = d.piece; rest = drop (length d.word) text }) else other

-- What stands at a point: one of the words, or else the point alone.
unfoldable pub pointed : Option Cut → List Character → Cut
pointed None rest = record { piece = Mark sign.Point; rest = rest }
pointed (Some cut) rest = cut

-- One sign, or the same one twice.
unfoldable pub once_or_twice : ℕ → Lexeme → Lexeme → List Character → Cut
once_or_twice code once twice [] = record { piece = once; rest = [] }
once_or_twice code once twice (c ∷ rest) =
    if is_mark code c then record { piece = twice; rest = rest } else record { piece = once; rest = c ∷ rest }

-- A character that is neither of those.
unfoldable pub sign_of : Character → Lexeme
sign_of c =
    if is_mark 40 c then Mark sign.Open
    else if is_mark 41 c then Mark sign.Close
    else if is_mark 44 c then Mark sign.Comma
    else if is_mark 61 c then Mark sign.Equals
    else if is_mark 58 c then Mark sign.Colon
    else if is_mark 43 c then Infix op.Plus
    else if is_mark 45 c then Infix op.Minus
    else Other c.code

-- The piece at the beginning of a text, of which the first character is given apart.
unfoldable pub cut_at : Character → List Character → Cut
cut_at c rest =
    if is_letter c then run_of is_in_name named (c ∷ rest)
    else if is_digit c then run_of is_digit numbered (c ∷ rest)
    else if is_mark 39 c then quoted_to (constant_end 0 rest) rest
    else if is_mark 46 c then pointed (dotted_at (order_words ++ equality_words ++ logical_words) rest) rest
    else if is_mark 42 c then once_or_twice 42 (Infix op.Times) (Infix op.Power) rest
    else if is_mark 47 c then once_or_twice 47 (Infix op.Divide) (Infix op.Concatenate) rest
    else record { piece = sign_of c; rest = rest }
