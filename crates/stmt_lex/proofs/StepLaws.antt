-- Each step of the pieces of a statement goes on, and what it takes without a piece is a blank or WHILE.
use Rattle.std.proofs.Common.{◌≡◌, ℕ, zero, suc, ◌+◌, ◌-◌, ◌<◌, ◌≤◌, Bool, true, false, List, [], ◌∷◌, ◌++◌, length, drop, get_or, refl, sym, ap, ◌∙◌, Option, Some, None, inl, inr, arith}
use Rattle.std.specs.Prelude.{◌==◌, ◌&&◌, ◌||◌, ◌⊎◌, not, codes, if◌then◌else◌}
use Rattle.std.specs.List.{prefix_len}
use Rattle.std.specs.Char.{is_ascii_digit, is_ascii_lowercase}
use Rattle.std.proofs.lemmas.Bool.{cases_lt, eqb-true}
use Rattle.std.proofs.lemmas.List.{drop_all, length-drop}
use Rattle.fortran_text.specs.declared.characters.Character.{Character}
use Rattle.fortran_lexemes.specs.Lexemes.{Lexeme, Word, To, Then, Other}
use Rattle.fortran_lexemes.specs.KindsOfStatements.{word_of, types, kind_of_characters}
use Rattle.fortran_lexemes.specs.PiecesOfText as text_pieces
use Rattle.fortran_lexemes.specs.PiecesOfText.{is_mark, is_letter, is_digit, is_in_name, codes_of, begins, named, numbered, run_of, constant_end, undoubled, quoted_to, Dotted, dotted_at, order_words, equality_words, logical_words, pointed, once_or_twice, sign_of, cut_at}
use Rattle.fortran_lexemes.specs.PiecesOfStatements.{Step, word_step, plain_step, behind_word, type_at, typed_step, statement_step, function_step, begin_step, inner_step, is_then, opened_step, awaiting_step, type_step, behind_type_step, then_step, behind_if_step, expected_step, to_step, while_step, part_step, is_format, format_step, label_step, condition_step, within_step, step, step_past_blank}
use Rattle.fortran_lexemes.specs.declared.kinds.StmtKind.{StmtKind}
use Rattle.fortran_lexemes.specs.declared.kinds.StmtKind.TheVariants as kind
use Rattle.fortran_lexemes.specs.declared.modes.Mode.{Mode}
use Rattle.fortran_lexemes.specs.declared.modes.Mode.TheVariants as mode
use Rattle.fortran_lexemes.specs.declared.modes.Expected.{Expected}
use Rattle.fortran_lexemes.specs.declared.modes.Expected.TheVariants as expected
use Rattle.stmt_lex.specs.PlacesOfTokens.{is_skipped}

-- a choice has what both sides have
either : {A : Type 0} (P : A → Type 0) (b : Bool) (x y : A) → (b ≡ true → P x) → (b ≡ false → P y) → P (if b then x else y)
either P true x y p q = p refl
either P false x y p q = q refl

-- what is left is left behind so many of the characters
record Left (rest left : List Character) : Type 0 where
  count : ℕ
  is : left ≡ drop count rest

behind_all : (rest : List Character) → Left rest []
behind_all rest = record { count = length rest; is = sym (drop_all (length rest) rest (omega arith)) }

-- CUTS
abbrev CutGoes : List Character → text_pieces.Cut → Type 0
CutGoes rest cut = Left rest cut.rest

run_goes : (test : Character → Bool) (made : List ℕ → Lexeme) (c : Character) (rest : List Character) → test c ≡ true → CutGoes rest (run_of test made (c ∷ rest))
unfolding run_of
run_goes test made c rest h =
    let one : prefix_len test (c ∷ rest) ≡ 1 + prefix_len test rest = rw h refl in
    let next : 1 + prefix_len test rest ≡ suc (prefix_len test rest) = omega arith in
    record { count = prefix_len test rest; is = ap (λ n. drop n (c ∷ rest)) (one ∙ next) }

quoted_goes : (end : Option ℕ) (rest : List Character) → CutGoes rest (quoted_to end rest)
unfolding quoted_to
quoted_goes None rest = behind_all rest
quoted_goes (Some zero) rest = record { count = 1; is = refl }
quoted_goes (Some (suc n)) rest = record { count = suc (suc n); is = refl }

abbrev CutsGo : List Character → Option text_pieces.Cut → Type 0
CutsGo rest None = Unit {0}
CutsGo rest (Some cut) = CutGoes rest cut

dotted_goes : (ds : List Dotted) (rest : List Character) → CutsGo rest (dotted_at ds rest)
unfolding dotted_at
dotted_goes [] rest = tt
dotted_goes (d ∷ more) rest =
    either (CutsGo rest) (begins d.word rest) _ _ (λ h. record { count = length d.word; is = refl }) (λ h. dotted_goes more rest)

pointed_goes : (found : Option text_pieces.Cut) (rest : List Character) → CutsGo rest found → CutGoes rest (pointed found rest)
unfolding pointed
pointed_goes None rest go = record { count = 0; is = refl }
pointed_goes (Some cut) rest go = go

twice_goes : (code : ℕ) (once twice : Lexeme) (rest : List Character) → CutGoes rest (once_or_twice code once twice rest)
unfolding once_or_twice
twice_goes code once twice [] = record { count = 0; is = refl }
twice_goes code once twice (c ∷ rest) =
    either (CutGoes (c ∷ rest)) (is_mark code c) _ _ (λ h. record { count = 1; is = refl }) (λ h. record { count = 0; is = refl })

letter_in_name : (q a b d : Bool) → (not q && a) ≡ true → (not q && (a || b || d)) ≡ true
letter_in_name false true b d h = refl
letter_in_name false false b d h = absurd (cc)
letter_in_name true a b d h = absurd (cc)

cut_goes : (c : Character) (rest : List Character) → CutGoes rest (cut_at c rest)
unfolding cut_at
cut_goes c rest =
    either (CutGoes rest) (is_letter c) _ _ (λ h. run_goes is_in_name named c rest (letter_in_name c.quoted (is_ascii_lowercase c.code) (is_ascii_digit c.code) (c.code == 95) h))
    (λ _. either (CutGoes rest) (is_digit c) _ _ (λ h. run_goes is_digit numbered c rest h)
    (λ _. either (CutGoes rest) (is_mark 39 c) _ _ (λ h. quoted_goes (constant_end 0 rest) rest)
    (λ _. either (CutGoes rest) (is_mark 46 c) _ _ (λ h. pointed_goes (dotted_at (order_words ++ equality_words ++ logical_words) rest) rest (dotted_goes (order_words ++ equality_words ++ logical_words) rest))
    (λ _. either (CutGoes rest) (is_mark 42 c) _ _ (λ h. twice_goes 42 _ _ rest)
    (λ _. either (CutGoes rest) (is_mark 47 c) _ _ (λ h. twice_goes 47 _ _ rest) (λ _. record { count = 0; is = refl }))))))

-- STEPS
pub no_character : Character
no_character = record { code = 0; quoted = true }

-- a character outside constants that no token has
pub record IsSkipped (c : Character) : Type 0 where
  pub plain : c.quoted ≡ false
  pub skipped : is_skipped c.code ≡ true

record Goes (c : Character) (rest : List Character) (s : Step) : Type 0 where
  left : Left rest s.rest
  skips : s.piece ≡ None → (j : ℕ) → j ≤ left.count → IsSkipped (get_or (c ∷ rest) j no_character)

-- a step with a piece
with_piece : (c : Character) (rest left : List Character) (piece : Lexeme) (next : Mode) → Left rest left → Goes c rest (record { piece = Some piece; rest = left; next = next })
with_piece c rest left piece next goes = record { left = goes; skips = λ h. absurd (cc) }

word_goes : (word : Lexeme) (n : ℕ) (c : Character) (rest : List Character) (next : Mode) → 1 ≤ n → Goes c rest (word_step word n (c ∷ rest) next)
word_goes word zero c rest next h = absurd (omega arith)
word_goes word (suc n) c rest next h = with_piece c rest (drop n rest) word next (record { count = n; is = refl })

plain_goes : (next : Mode) (c : Character) (rest : List Character) → Goes c rest (plain_step next c rest)
plain_goes next c rest = with_piece c rest (cut_at c rest).rest (cut_at c rest).piece next (cut_goes c rest)

-- each statement but an assignment has a word
word_or_none : (k : StmtKind) → (k ≡ kind.Assignment) ⊎ (1 ≤ length (word_of k))
unfolding word_of
word_or_none kind.Assignment = inl refl
word_or_none kind.Do = inr (omega arith)
word_or_none kind.DoWhile = inr (omega arith)
word_or_none kind.Assign = inr (omega arith)
word_or_none kind.Backspace = inr (omega arith)
word_or_none kind.BlockData = inr (omega arith)
word_or_none kind.Call = inr (omega arith)
word_or_none kind.Character = inr (omega arith)
word_or_none kind.Close = inr (omega arith)
word_or_none kind.Common = inr (omega arith)
word_or_none kind.Complex = inr (omega arith)
word_or_none kind.Continue = inr (omega arith)
word_or_none kind.Init = inr (omega arith)
word_or_none kind.Dimension = inr (omega arith)
word_or_none kind.DoublePrecision = inr (omega arith)
word_or_none kind.Else = inr (omega arith)
word_or_none kind.ElseIf = inr (omega arith)
word_or_none kind.End = inr (omega arith)
word_or_none kind.EndDo = inr (omega arith)
word_or_none kind.EndFile = inr (omega arith)
word_or_none kind.EndIf = inr (omega arith)
word_or_none kind.Entry = inr (omega arith)
word_or_none kind.Equivalence = inr (omega arith)
word_or_none kind.External = inr (omega arith)
word_or_none kind.Format = inr (omega arith)
word_or_none kind.Function = inr (omega arith)
word_or_none kind.Goto = inr (omega arith)
word_or_none kind.If = inr (omega arith)
word_or_none kind.Implicit = inr (omega arith)
word_or_none kind.Include = inr (omega arith)
word_or_none kind.Inquire = inr (omega arith)
word_or_none kind.Integer = inr (omega arith)
word_or_none kind.Intrinsic = inr (omega arith)
word_or_none kind.Logical = inr (omega arith)
word_or_none kind.Namelist = inr (omega arith)
word_or_none kind.OpenUnit = inr (omega arith)
word_or_none kind.Parameter = inr (omega arith)
word_or_none kind.Pause = inr (omega arith)
word_or_none kind.Print = inr (omega arith)
word_or_none kind.Program = inr (omega arith)
word_or_none kind.Read = inr (omega arith)
word_or_none kind.Real = inr (omega arith)
word_or_none kind.Return = inr (omega arith)
word_or_none kind.Rewind = inr (omega arith)
word_or_none kind.Save = inr (omega arith)
word_or_none kind.Stop = inr (omega arith)
word_or_none kind.Subroutine = inr (omega arith)
word_or_none kind.Write = inr (omega arith)

statement_goes : (k : StmtKind) (c : Character) (rest : List Character) → 1 ≤ length (word_of k) → Goes c rest (statement_step k c rest)
unfolding statement_step
statement_goes k c rest h =
    either (Goes c rest) (begins (word_of k) (c ∷ rest)) _ _ (λ _. word_goes (Word k) (length (word_of k)) c rest (behind_word k) h) (λ _. plain_goes mode.Plain c rest)

-- a type that begins a text has a word
abbrev AllHaveWords : List StmtKind → Type 0
AllHaveWords [] = Unit {0}
AllHaveWords (k ∷ ks) = (1 ≤ length (word_of k)) × AllHaveWords ks

abbrev HasWord : Option StmtKind → Type 0
HasWord None = Unit {0}
HasWord (Some k) = 1 ≤ length (word_of k)

type_has_word : (ks : List StmtKind) (text : List Character) → AllHaveWords ks → HasWord (type_at ks text)
unfolding type_at
type_has_word [] text have = tt
type_has_word (k ∷ ks) text have = either HasWord (begins (word_of k) text) _ _ (λ _. have.0) (λ _. type_has_word ks text have.1)

types_have_words : AllHaveWords types
unfolding types word_of
types_have_words = (omega arith, (omega arith, (omega arith, (omega arith, (omega arith, (omega arith, tt))))))

typed_goes : (k : Option StmtKind) (c : Character) (rest : List Character) → HasWord k → Goes c rest (typed_step k c rest)
unfolding typed_step
typed_goes None c rest h = plain_goes mode.Plain c rest
typed_goes (Some k) c rest h = word_goes (Word k) (length (word_of k)) c rest (mode.Awaits expected.Function) h

function_has_word : 1 ≤ length (word_of kind.Function)
unfolding word_of
function_has_word = omega arith

function_goes : (c : Character) (rest : List Character) → Goes c rest (function_step c rest)
unfolding function_step
function_goes c rest =
    either (Goes c rest) (begins (word_of kind.Function) (c ∷ rest)) _ _ (λ _. statement_goes kind.Function c rest function_has_word)
    (λ _. typed_goes (type_at types (c ∷ rest)) c rest (type_has_word types (c ∷ rest) types_have_words))

begin_goes : (k : StmtKind) (c : Character) (rest : List Character) → Goes c rest (begin_step k c rest)
unfolding begin_step word_of
begin_goes kind.Assignment c rest = plain_goes mode.Plain c rest
begin_goes kind.Do c rest = statement_goes kind.Do c rest (omega arith)
begin_goes kind.DoWhile c rest = statement_goes kind.DoWhile c rest (omega arith)
begin_goes kind.Assign c rest = statement_goes kind.Assign c rest (omega arith)
begin_goes kind.Backspace c rest = statement_goes kind.Backspace c rest (omega arith)
begin_goes kind.BlockData c rest = statement_goes kind.BlockData c rest (omega arith)
begin_goes kind.Call c rest = statement_goes kind.Call c rest (omega arith)
begin_goes kind.Character c rest = statement_goes kind.Character c rest (omega arith)
begin_goes kind.Close c rest = statement_goes kind.Close c rest (omega arith)
begin_goes kind.Common c rest = statement_goes kind.Common c rest (omega arith)
begin_goes kind.Complex c rest = statement_goes kind.Complex c rest (omega arith)
begin_goes kind.Continue c rest = statement_goes kind.Continue c rest (omega arith)
begin_goes kind.Init c rest = statement_goes kind.Init c rest (omega arith)
begin_goes kind.Dimension c rest = statement_goes kind.Dimension c rest (omega arith)
begin_goes kind.DoublePrecision c rest = statement_goes kind.DoublePrecision c rest (omega arith)
begin_goes kind.Else c rest = statement_goes kind.Else c rest (omega arith)
begin_goes kind.ElseIf c rest = statement_goes kind.ElseIf c rest (omega arith)
begin_goes kind.End c rest = statement_goes kind.End c rest (omega arith)
begin_goes kind.EndDo c rest = statement_goes kind.EndDo c rest (omega arith)
begin_goes kind.EndFile c rest = statement_goes kind.EndFile c rest (omega arith)
begin_goes kind.EndIf c rest = statement_goes kind.EndIf c rest (omega arith)
begin_goes kind.Entry c rest = statement_goes kind.Entry c rest (omega arith)
begin_goes kind.Equivalence c rest = statement_goes kind.Equivalence c rest (omega arith)
begin_goes kind.External c rest = statement_goes kind.External c rest (omega arith)
begin_goes kind.Format c rest = statement_goes kind.Format c rest (omega arith)
begin_goes kind.Function c rest = function_goes c rest
begin_goes kind.Goto c rest = statement_goes kind.Goto c rest (omega arith)
begin_goes kind.If c rest = statement_goes kind.If c rest (omega arith)
begin_goes kind.Implicit c rest = statement_goes kind.Implicit c rest (omega arith)
begin_goes kind.Include c rest = statement_goes kind.Include c rest (omega arith)
begin_goes kind.Inquire c rest = statement_goes kind.Inquire c rest (omega arith)
begin_goes kind.Integer c rest = statement_goes kind.Integer c rest (omega arith)
begin_goes kind.Intrinsic c rest = statement_goes kind.Intrinsic c rest (omega arith)
begin_goes kind.Logical c rest = statement_goes kind.Logical c rest (omega arith)
begin_goes kind.Namelist c rest = statement_goes kind.Namelist c rest (omega arith)
begin_goes kind.OpenUnit c rest = statement_goes kind.OpenUnit c rest (omega arith)
begin_goes kind.Parameter c rest = statement_goes kind.Parameter c rest (omega arith)
begin_goes kind.Pause c rest = statement_goes kind.Pause c rest (omega arith)
begin_goes kind.Print c rest = statement_goes kind.Print c rest (omega arith)
begin_goes kind.Program c rest = statement_goes kind.Program c rest (omega arith)
begin_goes kind.Read c rest = statement_goes kind.Read c rest (omega arith)
begin_goes kind.Real c rest = statement_goes kind.Real c rest (omega arith)
begin_goes kind.Return c rest = statement_goes kind.Return c rest (omega arith)
begin_goes kind.Rewind c rest = statement_goes kind.Rewind c rest (omega arith)
begin_goes kind.Save c rest = statement_goes kind.Save c rest (omega arith)
begin_goes kind.Stop c rest = statement_goes kind.Stop c rest (omega arith)
begin_goes kind.Subroutine c rest = statement_goes kind.Subroutine c rest (omega arith)
begin_goes kind.Write c rest = statement_goes kind.Write c rest (omega arith)

inner_goes : (k : Option StmtKind) (c : Character) (rest : List Character) → Goes c rest (inner_step k c rest)
unfolding inner_step
inner_goes None c rest = plain_goes mode.Plain c rest
inner_goes (Some k) c rest = begin_goes k c rest

opened_goes : (wanted : Expected) (c : Character) (rest : List Character) → Goes c rest (opened_step wanted rest)
unfolding opened_step
opened_goes wanted c rest = with_piece c rest rest _ _ (record { count = 0; is = refl })

awaiting_goes : (wanted : Expected) (c : Character) (rest : List Character) → Goes c rest (awaiting_step wanted c rest)
unfolding awaiting_step
awaiting_goes wanted c rest = either (Goes c rest) (is_mark 40 c) _ _ (λ _. opened_goes wanted c rest) (λ _. plain_goes (mode.Awaits wanted) c rest)

type_goes : (k : Option StmtKind) (c : Character) (rest : List Character) → HasWord k → Goes c rest (type_step k c rest)
unfolding type_step
type_goes None c rest h = awaiting_goes expected.Type c rest
type_goes (Some k) c rest h = word_goes (Word k) (length (word_of k)) c rest (mode.Awaits expected.Type) h

behind_type_goes : (c : Character) (rest : List Character) → Goes c rest (behind_type_step c rest)
unfolding behind_type_step
behind_type_goes c rest =
    either (Goes c rest) (begins (word_of kind.Function) (c ∷ rest)) _ _ (λ _. statement_goes kind.Function c rest function_has_word)
    (λ _. awaiting_goes expected.Function c rest)

then_goes : (c : Character) (rest : List Character) → Goes c rest (then_step c rest)
unfolding then_step
then_goes c rest = either (Goes c rest) (is_then (c ∷ rest)) _ _ (λ _. word_goes Then 4 c rest mode.Plain (omega arith)) (λ _. plain_goes mode.Plain c rest)

behind_if_goes : (c : Character) (rest : List Character) → Goes c rest (behind_if_step c rest)
unfolding behind_if_step
behind_if_goes c rest =
    either (Goes c rest) (is_then (c ∷ rest)) _ _ (λ _. word_goes Then 4 c rest mode.Plain (omega arith))
    (λ _. inner_goes (kind_of_characters false (c ∷ rest)) c rest)

expected_goes : (wanted : Expected) (c : Character) (rest : List Character) → Goes c rest (expected_step wanted c rest)
unfolding expected_step
expected_goes expected.Then c rest = then_goes c rest
expected_goes expected.ThenOrStatement c rest = behind_if_goes c rest
expected_goes expected.Type c rest = type_goes (type_at types (c ∷ rest)) c rest (type_has_word types (c ∷ rest) types_have_words)
expected_goes expected.Function c rest = behind_type_goes c rest

to_goes : (c : Character) (rest : List Character) → Goes c rest (to_step c rest)
unfolding to_step
to_goes c rest = either (Goes c rest) (begins (codes "to") (c ∷ rest)) _ _ (λ _. word_goes To 2 c rest mode.Plain (omega arith)) (λ _. plain_goes mode.Plain c rest)

-- a word that begins a text, letter by letter
letter_of : (word : List ℕ) (text : List Character) (j : ℕ) → begins word text ≡ true → j < length word → is_mark (get_or word j 0) (get_or text j no_character) ≡ true
unfolding begins
letter_of [] text j h k = absurd (omega arith)
letter_of (code ∷ word) [] j h k = absurd (cc)
letter_of (code ∷ word) (c ∷ text) zero h k = both_left (is_mark code c) (begins word text) h
  where
    both_left : (a b : Bool) → (a && b) ≡ true → a ≡ true
    both_left true b h = refl
    both_left false b h = absurd (cc)
letter_of (code ∷ word) (c ∷ text) (suc j) h k = letter_of word text j (both_right (is_mark code c) (begins word text) h) (omega arith)
  where
    both_right : (a b : Bool) → (a && b) ≡ true → b ≡ true
    both_right true b h = h
    both_right false b h = absurd (cc)

marked : (code : ℕ) (c : Character) → is_mark code c ≡ true → is_skipped code ≡ true → IsSkipped c
marked code c h skipped =
    let both = plain_code c.quoted (c.code == code) h in
    record { plain = both.0; skipped = ap is_skipped (eqb-true c.code code both.1) ∙ skipped }
  where
    plain_code : (q b : Bool) → (not q && b) ≡ true → (q ≡ false) × (b ≡ true)
    plain_code false true h = (refl, refl)
    plain_code false false h = absurd (cc)
    plain_code true b h = absurd (cc)

while_skipped : (j : ℕ) → j < 5 → is_skipped (get_or (codes "while") j 0) ≡ true
unfolding is_skipped
while_skipped zero h = refl
while_skipped (suc zero) h = refl
while_skipped (suc (suc zero)) h = refl
while_skipped (suc (suc (suc zero))) h = refl
while_skipped (suc (suc (suc (suc zero)))) h = refl
while_skipped (suc (suc (suc (suc (suc j))))) h = absurd (omega arith)

while_goes : (c : Character) (rest : List Character) → Goes c rest (while_step c rest)
unfolding while_step
while_goes c rest =
    either (Goes c rest) (begins (codes "while") (c ∷ rest)) _ _
    (λ h. record {
      left = record { count = 4; is = refl };
      skips = λ _ j low.
          marked (get_or (codes "while") j 0) (get_or (c ∷ rest) j no_character) (letter_of (codes "while") (c ∷ rest) j h (omega arith)) (while_skipped j (omega arith));
    })
    (λ _. plain_goes mode.While c rest)

part_goes : (c : Character) (rest : List Character) → Goes c rest (part_step c rest)
unfolding part_step
part_goes c rest =
    either (Goes c rest) (is_mark 39 c || is_mark 40 c || is_mark 41 c) _ _ (λ _. plain_goes mode.FormatParts c rest)
    (λ _. with_piece c rest rest (Other c.code) mode.FormatParts (record { count = 0; is = refl }))

format_goes : (c : Character) (rest : List Character) → Goes c rest (format_step c rest)
unfolding format_step
format_goes c rest =
    either (Goes c rest) (is_mark 40 c && is_format (suc (length rest)) 1 (Some rest)) _ _ (λ _. with_piece c rest [] _ mode.Plain (behind_all rest)) (λ _. part_goes c rest)

label_goes : (c : Character) (rest : List Character) → Goes c rest (label_step c rest)
unfolding label_step
label_goes c rest = either (Goes c rest) (is_digit c) _ _ (λ _. plain_goes mode.To c rest) (λ _. plain_goes mode.Plain c rest)

condition_goes : (wanted : Expected) (c : Character) (rest : List Character) → Goes c rest (condition_step wanted c rest)
unfolding condition_step
condition_goes wanted c rest = either (Goes c rest) (is_mark 40 c) _ _ (λ _. opened_goes wanted c rest) (λ _. plain_goes mode.Plain c rest)

within_goes : (wanted : Expected) (left : ℕ) (c : Character) (rest : List Character) → Goes c rest (within_step wanted left c rest)
unfolding within_step
within_goes wanted left c rest = either (Goes c rest) (length rest + 1 == left) _ _ (λ _. expected_goes wanted c rest) (λ _. plain_goes (mode.Within wanted left) c rest)

step_goes : (m : Mode) (c : Character) (rest : List Character) → Goes c rest (step m c rest)
unfolding step
step_goes (mode.Begins k) c rest = begin_goes k c rest
step_goes mode.Plain c rest = plain_goes mode.Plain c rest
step_goes mode.Label c rest = label_goes c rest
step_goes mode.To c rest = to_goes c rest
step_goes mode.While c rest = while_goes c rest
step_goes (mode.Condition wanted) c rest = condition_goes wanted c rest
step_goes (mode.Awaits wanted) c rest = expected_goes wanted c rest
step_goes (mode.Within wanted left) c rest = within_goes wanted left c rest
step_goes mode.Format c rest = format_goes c rest
step_goes mode.FormatParts c rest = part_goes c rest

first_skipped : (c : Character) (rest : List Character) (j : ℕ) → j ≤ 0 → IsSkipped c → IsSkipped (get_or (c ∷ rest) j no_character)
first_skipped c rest zero h is = is
first_skipped c rest (suc j) h is = absurd (omega arith)

blank_skipped : is_skipped 32 ≡ true
unfolding is_skipped
blank_skipped = refl

goes : (m : Mode) (c : Character) (rest : List Character) → Goes c rest (step_past_blank m c rest)
unfolding step_past_blank
goes m c rest =
    either (Goes c rest) (is_mark 32 c) _ _
    (λ h. record { left = record { count = 0; is = refl }; skips = λ _ j low. first_skipped c rest j low (marked 32 c h blank_skipped) }) (λ _. step_goes m c rest)

-- so many characters are taken by a step: at least one, and what is left follows them
pub record IsTaken (c : Character) (rest : List Character) (s : Step) (n : ℕ) : Type 0 where
  pub some : 1 ≤ n
  pub fits : n ≤ suc (length rest)
  pub left : s.rest ≡ drop n (c ∷ rest)
  pub skips : s.piece ≡ None → (j : ℕ) → j < n → IsSkipped (get_or (c ∷ rest) j no_character)

taken_by : (c : Character) (rest : List Character) (s : Step) → (g : Goes c rest s) → (g.left.count < length rest) ⊎ (length rest ≤ g.left.count)
    → IsTaken c rest s (suc (length rest) - length s.rest)
taken_by c rest s g (inl low) =
    let count : length s.rest ≡ length rest - g.left.count = ap length g.left.is ∙ length-drop g.left.count rest in
    let n : suc (length rest) - length s.rest ≡ suc g.left.count = omega (arith, count, low) in
    record {
      some = omega (arith, n);
      fits = omega (arith, n);
      left = g.left.is ∙ sym (ap (λ m. drop m (c ∷ rest)) n);
      skips = λ h j below. g.skips h j (omega (arith, n, below));
    }
taken_by c rest s g (inr past) =
    let none : s.rest ≡ [] = g.left.is ∙ drop_all g.left.count rest past in
    let zero_left : length s.rest ≡ 0 = ap length none in
    let n : suc (length rest) - length s.rest ≡ suc (length rest) = omega (arith, zero_left) in
    record {
      some = omega (arith, n);
      fits = omega (arith, n);
      left = none ∙ sym (ap (λ m. drop m (c ∷ rest)) n ∙ drop_all (length rest) rest (omega arith));
      skips = λ h j below. g.skips h j (omega (arith, n, below, past));
    }

pub taken : (m : Mode) (c : Character) (rest : List Character) → IsTaken c rest (step_past_blank m c rest) (suc (length rest) - length (step_past_blank m c rest).rest)
taken m c rest = let g = goes m c rest in taken_by c rest (step_past_blank m c rest) g (cases_lt g.left.count (length rest))
