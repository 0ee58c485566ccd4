-- What a first piece is does not go by those behind it; no piece is none that is wanted.
use Rattle.std.specs.Prelude.{◌≡◌, ◌<◌, Bool, true, false, List, [], ◌∷◌, length, Some, None, if◌then◌else◌}
use Rattle.std.proofs.Common.{refl, sym, ap, ◌∙◌, arith}
use Rattle.fortran_lexemes.specs.Lexemes.{Lexeme, Lexemes, Name, LongName, Number, TooLarge, Quoted, BadQuote, Infix, Negation, Truth, Mark, Word, To, Then, FormatText, Other}
use Rattle.fortran_lexemes.specs.declared.signs.Sign.{Sign}
use Rattle.fortran_lexemes.specs.declared.signs.Sign.TheVariants as sign
use Rattle.f_tree.specs.declared.expressions.BinaryOp.{BinaryOp}
use Rattle.f_tree.specs.declared.expressions.BinaryOp.TheVariants as op
use Rattle.fortran_grammar.specs.Forms.{Sort, sort, behind}
use Rattle.grammar_laws.specs.Exactness.{Reader}
use Rattle.grammar_laws.specs.FormReading.{same, after}
use Rattle.stmt_lex.specs.SeenTokens.{seen, lexeme_of}
use Rattle.expression_parse.specs.WantedPieces.{sort_of, is_of_sort, taken}
use Rattle.stmt_lex.specs.declared.token.Token.{Token}
use Rattle.fortran_text.specs.declared.characters.Character.{Character}
use Rattle.expression_parse.specs.declared.forms.Wanted.{Wanted}
use Rattle.expression_parse.specs.declared.forms.Wanted.TheVariants as wanted

infix_sort : (o : BinaryOp) (more : Lexemes) → sort (Infix o ∷ more) ≡ sort (Infix o ∷ [])
unfolding sort
infix_sort op.Times more = refl
infix_sort op.Divide more = refl
infix_sort op.Concatenate more = refl
infix_sort op.Plus more = refl
infix_sort op.Minus more = refl
infix_sort op.Power more = refl
infix_sort op.Less more = refl
infix_sort op.LessOrEqual more = refl
infix_sort op.Equal more = refl
infix_sort op.NotEqual more = refl
infix_sort op.Greater more = refl
infix_sort op.GreaterOrEqual more = refl
infix_sort op.And more = refl
infix_sort op.Or more = refl
infix_sort op.Equivalent more = refl
infix_sort op.NotEquivalent more = refl

mark_sort : (s : Sign) (more : Lexemes) → sort (Mark s ∷ more) ≡ sort (Mark s ∷ [])
unfolding sort
mark_sort sign.Open more = refl
mark_sort sign.Close more = refl
mark_sort sign.Comma more = refl
mark_sort sign.Equals more = refl
mark_sort sign.Colon more = refl
mark_sort sign.Point more = refl

first_sort : (x : Lexeme) (more : Lexemes) → sort (x ∷ more) ≡ sort (x ∷ [])
unfolding sort
first_sort (Name text) more = refl
first_sort LongName more = refl
first_sort (Number digits value) more = refl
first_sort TooLarge more = refl
first_sort (Quoted text) more = refl
first_sort BadQuote more = refl
first_sort (Infix o) more = infix_sort o more
first_sort Negation more = refl
first_sort (Truth value) more = refl
first_sort (Mark s) more = mark_sort s more
first_sort (Word kind) more = refl
first_sort To more = refl
first_sort Then more = refl
first_sort (FormatText text) more = refl
first_sort (Other code) more = refl

pub taken-some : (text : List Character) (w : Wanted) (t : Token) (rest : List Token) → is_of_sort (sort_of w) (lexeme_of text t) ≡ true →
    taken (sort_of w) (seen text (t ∷ rest)) ≡ Some (seen text rest)
unfolding taken is_of_sort seen behind
taken-some text w t rest is =
    let q : same (sort_of w) (sort (lexeme_of text t ∷ seen text rest)) ≡ true =
    ap (λ k. same (sort_of w) k) (first_sort (lexeme_of text t) (seen text rest)) ∙ is in
    rw q refl

pub taken-other : (text : List Character) (w : Wanted) (t : Token) (rest : List Token) → is_of_sort (sort_of w) (lexeme_of text t) ≡ false →
    taken (sort_of w) (seen text (t ∷ rest)) ≡ None
unfolding taken is_of_sort seen behind
taken-other text w t rest is =
    let q : same (sort_of w) (sort (lexeme_of text t ∷ seen text rest)) ≡ false =
    ap (λ k. same (sort_of w) k) (first_sort (lexeme_of text t) (seen text rest)) ∙ is in
    rw q refl

pub taken-none : (text : List Character) (w : Wanted) → taken (sort_of w) (seen text []) ≡ None
unfolding taken seen sort sort_of
taken-none text wanted.Open = refl
taken-none text wanted.Close = refl
taken-none text wanted.Comma = refl
taken-none text wanted.Equals = refl
taken-none text wanted.Colon = refl
taken-none text wanted.Star = refl
taken-none text wanted.Slash = refl
taken-none text wanted.TwoSlashes = refl
taken-none text wanted.Plus = refl
taken-none text wanted.Minus = refl
taken-none text wanted.To = refl
taken-none text wanted.Then = refl

pub taken-empty : (text : List Character) (w : Wanted) (tokens : List Token) → length tokens < 1 → None ≡ taken (sort_of w) (seen text tokens)
taken-empty text w [] less = sym (taken-none text w)
taken-empty text w (t ∷ tokens) less = absurd (omega arith)

pub ruleset taken_pieces = (taken-some, taken-other, taken-none, taken-empty)

after-by : {A : Type 0} (b : Bool) (read : Reader A) (pieces rest : Lexemes) → (if b then Some (behind pieces) else None) ≡ Some rest →
    (if b then read (behind pieces) else None) ≡ read rest
after-by true read pieces rest is = let e : behind pieces ≡ rest = cc in ap read e
after-by false read pieces rest is = absurd (cc)

none-by : {A : Type 0} (b : Bool) (read : Reader A) (pieces : Lexemes) → (if b then Some (behind pieces) else None) ≡ None →
    (if b then read (behind pieces) else None) ≡ None
none-by true read pieces is = absurd (cc)
none-by false read pieces is = refl

-- What is read behind a piece of a sort.
pub after-some : {A : Type 0} (k : Sort) (read : Reader A) (pieces rest : Lexemes) → taken k pieces ≡ Some rest → after k read pieces ≡ read rest
unfolding taken after
after-some k read pieces rest is = after-by (same k (sort pieces)) read pieces rest is

pub after-none : {A : Type 0} (k : Sort) (read : Reader A) (pieces : Lexemes) → taken k pieces ≡ None → after k read pieces ≡ None
unfolding taken after
after-none k read pieces is = none-by (same k (sort pieces)) read pieces is

pub ruleset required_pieces = (after-some, after-none)
