-- Forms put together. A form says what stands between two places in the pieces of a statement, each place told by the pieces that are left
-- there: `f x before after`, that the pieces from `before` up to `after` say `x`. ANSI X3.9-1978, section 1.5: the
-- notation for forms of statements.
use Rattle.std.specs.Prelude.{◌≡◌, ℕ, Bool, true, false, ◌&&◌, nat_le, nat_lt, List, [], ◌∷◌, length, Option, Some, None, ◌⊎◌, if◌then◌else◌}
use Rattle.fortran_lexemes.specs.f_tree.declared.expressions.BinaryOp.TheVariants as operator
use Rattle.fortran_lexemes.specs.Lexemes.{Lexeme, Lexemes, Name, Number, Quoted, Infix, Negation, Truth, Mark, Word, To, Then, FormatText}
use Rattle.fortran_lexemes.specs.declared.signs.Sign.TheVariants as sign

abbrev pub Form : Type 0 → Type 1
Form A = A → Lexemes → Lexemes → Type 0

-- What a piece is, whatever its text; `NoPiece` behind the last one.
pub data Sort : Type 0 where
  NoPiece NamePiece NumberPiece QuotedPiece TruthPiece NegationPiece Star Slash TwoSlashes Plus Minus OtherOperator : Sort
  Open Close Comma Equals Colon WordPiece ToWord ThenWord FormatPiece NoForm : Sort
  deriving Discrete as sort_discrete

unfoldable pub sort : Lexemes → Sort
sort [] = NoPiece
sort (Name text ∷ more) = NamePiece
sort (Number digits value ∷ more) = NumberPiece
sort (Quoted text ∷ more) = QuotedPiece
sort (Truth value ∷ more) = TruthPiece
sort (Negation ∷ more) = NegationPiece
sort (Infix operator.Times ∷ more) = Star
sort (Infix operator.Divide ∷ more) = Slash
sort (Infix operator.Concatenate ∷ more) = TwoSlashes
sort (Infix operator.Plus ∷ more) = Plus
sort (Infix operator.Minus ∷ more) = Minus
sort (Infix other ∷ more) = OtherOperator
sort (Mark sign.Open ∷ more) = Open
sort (Mark sign.Close ∷ more) = Close
sort (Mark sign.Comma ∷ more) = Comma
sort (Mark sign.Equals ∷ more) = Equals
sort (Mark sign.Colon ∷ more) = Colon
sort (Word kind ∷ more) = WordPiece
sort (To ∷ more) = ToWord
sort (Then ∷ more) = ThenWord
sort (FormatText text ∷ more) = FormatPiece
sort (piece ∷ more) = NoForm

-- The pieces behind the first.
unfoldable pub behind : Lexemes → Lexemes
behind [] = []
behind (piece ∷ more) = more

-- Nothing is written, and it says one thing.
unfoldable pub Said : {A : Type 0} → A → Form A
Said y x before after = (x ≡ y) × (before ≡ after)

-- One piece, by what it says.
unfoldable pub says_first : {A : Type 0} → (Lexeme → Option A) → Lexemes → Option A
says_first says [] = None
says_first says (piece ∷ more) = says piece

unfoldable pub Piece : {A : Type 0} → (Lexeme → Option A) → Form A
Piece says x before after = (says_first says before ≡ Some x) × (after ≡ behind before)

-- A piece of a sort, and the form behind it.
unfoldable pub After : {A : Type 0} → Sort → Form A → Form A
After k f x before after = (sort before ≡ k) × f x (behind before) after

-- The form, and a piece of a sort behind it.
unfoldable pub UpTo : {A : Type 0} → Form A → Sort → Form A
UpTo f k x before after = (middle : Lexemes) × f x before middle × (sort middle ≡ k) × (after ≡ behind middle)

-- Two forms, one behind the other.
unfoldable pub Both : {A B : Type 0} → Form A → Form B → Form (A × B)
Both f g x before after = (middle : Lexemes) × f x.0 before middle × g x.1 middle after

-- Two forms, of which the second goes by what the first says.
unfoldable pub Led : {A B : Type 0} → Form A → (A → Form B) → Form (A × B)
Led f g x before after = (middle : Lexemes) × f x.0 before middle × g x.0 x.1 middle after

-- One form or the other.
unfoldable pub Either : {A : Type 0} → Form A → Form A → Form A
Either f g x before after = f x before after ⊎ g x before after

-- The form, or nothing.
unfoldable pub Maybe : {A : Type 0} → Form A → Form (Option A)
Maybe f None before after = before ≡ after
Maybe f (Some x) before after = f x before after

-- What a form says, put in other words.
unfoldable pub Meant : {A B : Type 0} → (A → B) → Form A → Form B
Meant {A} h f y before after = (x : A) × (y ≡ h x) × f x before after

-- The form where what it says passes a test.
unfoldable pub Where : {A : Type 0} → (A → Bool) → Form A → Form A
Where test f x before after = (test x ≡ true) × f x before after

-- One form or more, with commas between them.
pub data Separated {A : Type 0} (f : A → Lexemes → Lexemes → Type 0) : List A → Lexemes → Lexemes → Type 0 where
  alone : (x : A) (before after : Lexemes) → f x before after → Separated f (x ∷ []) before after
  with_more : (x : A) (xs : List A) (before middle after : Lexemes) → f x before middle → sort middle ≡ Comma
      → Separated f xs (behind middle) after → Separated f (x ∷ xs) before after

-- Any number of forms, one behind the other.
pub data Many {A : Type 0} (f : A → Lexemes → Lexemes → Type 0) : List A → Lexemes → Lexemes → Type 0 where
  none : (after : Lexemes) → Many f [] after after
  another : (x : A) (xs : List A) (before middle after : Lexemes) → f x before middle → Many f xs middle after
      → Many f (x ∷ xs) before after

-- One form where a test of the pieces passes, and else the other: where both could be read there.
unfoldable pub Choice : {A : Type 0} → (Lexemes → Bool) → Form A → Form A → Form A
Choice test f g x before after = (test before ≡ true) × f x before after ⊎ (test before ≡ false) × g x before after

-- In parentheses.
unfoldable pub Enclosed : {A : Type 0} → Form A → Form A
Enclosed f = After Open (UpTo f Close)

-- With a comma before it, or without one.
unfoldable pub WithComma : {A : Type 0} → Form A → Form A
WithComma f = Either (After Comma f) f

-- What a list that may be left out says.
unfoldable pub listed : {A : Type 0} → Option (List A) → List A
listed None = []
listed (Some xs) = xs

-- A name. Section 2.2.
unfoldable pub name_of : Lexeme → Option (List ℕ)
name_of (Name text) = Some text
name_of piece = None

abbrev pub AName : Form (List ℕ)
AName = Piece name_of

-- A statement label: one to five digits, not all zero. Section 3.4.
unfoldable pub label_of : Lexeme → Option ℕ
label_of (Number digits value) = if nat_le (length digits) 5 && nat_lt 0 value then Some value else None
label_of piece = None

abbrev pub ALabel : Form ℕ
ALabel = Piece label_of

-- An unsigned integer constant, up to the greatest integer. Section 4.3.
unfoldable pub number_of : Lexeme → Option ℕ
number_of (Number digits value) = if nat_le value 2147483647 then Some value else None
number_of piece = None

abbrev pub ANumber : Form ℕ
ANumber = Piece number_of

-- A character constant, by its characters. Section 4.8.
unfoldable pub quoted_of : Lexeme → Option (List ℕ)
quoted_of (Quoted text) = Some text
quoted_of piece = None

abbrev pub AQuoted : Form (List ℕ)
AQuoted = Piece quoted_of
