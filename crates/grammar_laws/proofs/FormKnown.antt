-- What is known of a reader for a form: that it is exact, with the tests of what may follow and of what stands first.
use Rattle.std.proofs.Common.{◌≡◌, ℕ, suc, ◌≤◌, Bool, true, false, List, [], ◌∷◌, length, Option, Some, None, refl}
use Rattle.fortran_grammar.specs.f_tree.declared.expressions.BinaryOp.TheVariants as operator
use Rattle.fortran_grammar.specs.f_tree.declared.expressions.Expr.{Expr}
use Rattle.fortran_grammar.specs.fortran_lexemes.Lexemes.{Lexeme, Lexemes, Name, Number, Quoted, Infix, Negation, Truth, Mark}
use Rattle.fortran_grammar.specs.fortran_lexemes.declared.signs.Sign.TheVariants as sign
use Rattle.fortran_grammar.specs.ExpressionSpelling as spell
use Rattle.fortran_grammar.specs.ExpressionSpelling.{SpellsExpression, SpellsPlace}
use Rattle.fortran_grammar.specs.Forms.{Sort, sort, Said, Piece, After, UpTo, Both, Led, Either, Maybe, Meant, Where, Separated, Many, Choice, Enclosed, WithComma, AName, ALabel, ANumber, AQuoted, name_of, label_of, number_of, quoted_of, NamePiece, NumberPiece, QuotedPiece, TruthPiece, NegationPiece, Star, Slash, TwoSlashes, Plus, Minus, OtherOperator, Open, Close, Comma}
use Rattle.grammar_laws.specs.Exactness.{Reader, stops}
use Rattle.grammar_laws.specs.ExpressionReading.{read_expression, read_place, not_applied}
use Rattle.grammar_laws.specs.ExpressionScans.{begins_expression}
use Rattle.grammar_laws.specs.FormReading.{said, piece, after, up_to, both, led, either, maybe, meant, where', separated, choice, many, enclosed, with_comma, a_name, a_label, a_number, a_quoted}
use Rattle.grammar_laws.proofs.ExpressionExact.{expression_exact, place_exact_before_operators}
use Rattle.grammar_laws.proofs.ExpressionFollows.{expression_begins_so}
use Rattle.grammar_laws.proofs.FormTests.{Test, all, also, or_else, but, is, covers, apart}
use Rattle.grammar_laws.proofs.FormExact.{Told, told_piece, told_both, told_led, told_after, told_up_to, told_enclosed, told_either, told_either_first, told_with_comma, told_maybe, told_maybe_before, told_meant, told_where, told_said, told_separated, told_choice, told_widened, told_many, told_decided}

pub record Known {A : Type 0} (read : Reader A) (Spelled : A → Lexemes → Lexemes → Type 0) : Type 0 where
  pub follows : Test
  pub starts : Test
  pub leads : Test
  pub told : Told read Spelled follows starts leads

module _ {A : Type 0} {read : Reader A} {f : A → Lexemes → Lexemes → Type 0} (a : Known read f) where
  abbrev pub known_after : (k : Sort) → Known (after k read) (After k f)
  known_after k = record { follows = a.follows; starts = is k; leads = is k; told = told_after k a.told }

  abbrev pub known_up_to : (k : Sort) → a.follows k ≡ true → Known (up_to read k) (UpTo f k)
  known_up_to k fits = record { follows = all; starts = a.starts; leads = a.leads; told = told_up_to a.told k fits }

  abbrev pub known_enclosed : a.follows Close ≡ true → Known (enclosed read) (Enclosed f)
  known_enclosed fits = record { follows = all; starts = is Open; leads = is Open; told = told_enclosed a.told fits }

  abbrev pub known_with_comma : apart (is Comma) a.starts ≡ true → Known (with_comma read) (WithComma f)
  known_with_comma told_apart = record {
    follows = also a.follows a.follows;
    starts = or_else (is Comma) a.starts;
    leads = or_else (is Comma) a.leads;
    told = told_with_comma a.told told_apart;
  }

  abbrev pub known_maybe : Known (maybe read) (Maybe f)
  known_maybe = record {
    follows = but a.follows a.starts;
    starts = all;
    leads = or_else a.leads (but a.follows a.starts);
    told =
        told_maybe a.told;
  }

  abbrev pub known_maybe_before : (G : Test) → covers G (but a.follows a.starts) ≡ true → Known (maybe read) (Maybe f)
  known_maybe_before G fewer = record { follows = G; starts = all; leads = or_else a.leads G; told = told_maybe_before a.told G fewer }

  abbrev pub known_where : (test : A → Bool) → Known (where' test read) (Where test f)
  known_where test = record { follows = a.follows; starts = a.starts; leads = a.leads; told = told_where test a.told }

  abbrev pub known_separated : a.follows Comma ≡ true → Known (separated read) (Separated f)
  known_separated fits = record {
    follows = but a.follows (is Comma);
    starts = a.starts;
    leads = a.leads;
    told = told_separated a.told
        fits;
  }

  abbrev pub known_many : ((x : A) (before end : Lexemes) → f x before end → suc (length end) ≤ length before)
      → covers a.leads a.follows ≡ true
      → Known (many read) (Many f)
  known_many shortens fits = record {
    follows = but a.follows a.starts;
    starts = all;
    leads = or_else a.leads (but a.follows a.starts);
    told = told_many a.told shortens fits;
  }

module _ {A B : Type 0} {read : Reader A} {f : A → Lexemes → Lexemes → Type 0} (mean : A → B) (a : Known read f) where
  abbrev pub known_meant : Known (meant mean read) (Meant mean f)
  known_meant = record { follows = a.follows; starts = a.starts; leads = a.leads; told = told_meant mean a.told }

module _ {A B : Type 0} {first : Reader A} {f : A → Lexemes → Lexemes → Type 0} {second : Reader B} {g : B → Lexemes → Lexemes → Type 0}
    (a : Known first f) (b : Known second g) where
  abbrev pub known_both : covers b.leads a.follows ≡ true → Known (both first second) (Both f g)
  known_both fits = record { follows = b.follows; starts = a.starts; leads = a.leads; told = told_both a.told b.told fits }

module _ {A : Type 0} {one other : Reader A} {f g : A → Lexemes → Lexemes → Type 0} (a : Known one f) (b : Known other g) where
  abbrev pub known_either : apart a.starts b.starts ≡ true → Known (either one other) (Either f g)
  known_either told_apart = record {
    follows = also a.follows b.follows;
    starts = or_else a.starts b.starts;
    leads = or_else a.leads b.leads;
    told = told_either a.told b.told told_apart;
  }

  abbrev pub known_either_first : ((x : A) (before end : Lexemes) → g x before end → b.follows (sort end) ≡ true → one before ≡ None)
      → Known (either one other) (Either f g)
  known_either_first refuses = record {
    follows = also a.follows b.follows;
    starts = or_else a.starts b.starts;
    leads = or_else a.leads b.leads;
    told = told_either_first a.told b.told refuses;
  }

  abbrev pub known_decided : (test : Lexemes → Bool)
      → ((x : A) (before end : Lexemes) → f x before end → a.follows (sort end) ≡ true → test before ≡ true)
      → ((x : A) (before end : Lexemes) → g x before end → b.follows (sort end) ≡ true → test before ≡ false)
      → Known (choice test one other) (Either f g)
  known_decided test passes fails = record {
    follows = also a.follows b.follows;
    starts = or_else a.starts b.starts;
    leads = or_else a.leads b.leads;
    told = told_decided test a.told b.told passes fails;
  }

  abbrev pub known_choice : (test : Lexemes → Bool) → Known (choice test one other) (Choice test f g)
  known_choice test = record {
    follows = also a.follows b.follows;
    starts = or_else a.starts b.starts;
    leads = or_else a.leads b.leads;
    told = told_choice test a.told b.told;
  }

abbrev pub known_said : {A : Type 0} (x : A) → Known (said x) (Said x)
known_said x = record { follows = all; starts = all; leads = all; told = told_said x }

abbrev pub known_piece : {A : Type 0} (says : Lexeme → Option A) (starts : Test)
    → ((p : Lexeme) (more : Lexemes) (x : A) → says p ≡ Some x → starts (sort (p ∷ more)) ≡ true) → Known (piece says) (Piece says)
known_piece says starts first = record { follows = all; starts = starts; leads = starts; told = told_piece says starts first }

-- a form whose second part goes by what the first says, with the same tests for each
abbrev pub known_led : {A B : Type 0} {first : Reader A} {f : A → Lexemes → Lexemes → Type 0} {second : A → Reader B}
    {g : A → B → Lexemes → Lexemes → Type 0} {G T M : Test} (a : Known first f) → ((x : A) → Told (second x) (g x) G T M)
    → covers M a.follows ≡ true → Known (led first second) (Led f g)
known_led {G} a b fits = record { follows = G; starts = a.starts; leads = a.leads; told = told_led a.told b fits }

-- the same form with fewer pieces that may follow and more that may stand first
pub known_widened : {A : Type 0} {read : Reader A} {f : A → Lexemes → Lexemes → Type 0} (G T M : Test) (a : Known read f)
    → covers G a.follows ≡ true → covers a.starts T ≡ true → covers a.leads M ≡ true → Told read f G T M
known_widened G T M a fewer more most = told_widened G T M a.told fewer more most

-- one piece
pub name_first : (p : Lexeme) (more : Lexemes) (x : List ℕ) → name_of p ≡ Some x → is NamePiece (sort (p ∷ more)) ≡ true
unfolding name_of sort
name_first (Name text) more x h = refl
name_first other more x h = absurd (cc)

abbrev pub known_name : Known a_name AName
known_name = known_piece name_of (is NamePiece) name_first

pub label_first : (p : Lexeme) (more : Lexemes) (x : ℕ) → label_of p ≡ Some x → is NumberPiece (sort (p ∷ more)) ≡ true
unfolding label_of sort
label_first (Number digits value) more x h = refl
label_first other more x h = absurd (cc)

abbrev pub known_label : Known a_label ALabel
known_label = known_piece label_of (is NumberPiece) label_first

pub number_first : (p : Lexeme) (more : Lexemes) (x : ℕ) → number_of p ≡ Some x → is NumberPiece (sort (p ∷ more)) ≡ true
unfolding number_of sort
number_first (Number digits value) more x h = refl
number_first other more x h = absurd (cc)

abbrev pub known_number : Known a_number ANumber
known_number = known_piece number_of (is NumberPiece) number_first

pub quoted_first : (p : Lexeme) (more : Lexemes) (x : List ℕ) → quoted_of p ≡ Some x → is QuotedPiece (sort (p ∷ more)) ≡ true
unfolding quoted_of sort
quoted_first (Quoted text) more x h = refl
quoted_first other more x h = absurd (cc)

abbrev pub known_quoted : Known a_quoted AQuoted
known_quoted = known_piece quoted_of (is QuotedPiece) quoted_first

-- expressions and places
abbrev pub stopping : Test
stopping Star = false
stopping Slash = false
stopping TwoSlashes = false
stopping Plus = false
stopping Minus = false
stopping OtherOperator = false
stopping Open = false
stopping other = true

abbrev pub beginning : Test
beginning NamePiece = true
beginning NumberPiece = true
beginning QuotedPiece = true
beginning TruthPiece = true
beginning NegationPiece = true
beginning Plus = true
beginning Minus = true
beginning Open = true
beginning other = false

stops_there : (pieces : Lexemes) → stopping (sort pieces) ≡ true → stops pieces ≡ true
unfolding sort stops
stops_there [] h = refl
stops_there (Infix operator.Power ∷ more) h = h
stops_there (Infix operator.Times ∷ more) h = h
stops_there (Infix operator.Divide ∷ more) h = h
stops_there (Infix operator.Plus ∷ more) h = h
stops_there (Infix operator.Minus ∷ more) h = h
stops_there (Infix operator.Concatenate ∷ more) h = h
stops_there (Infix other ∷ more) h = h
stops_there (Mark sign.Open ∷ more) h = h
stops_there (piece ∷ more) h = refl

begins_there : (pieces : Lexemes) → begins_expression pieces ≡ true → beginning (sort pieces) ≡ true
unfolding sort begins_expression
begins_there [] h = h
begins_there (Infix operator.Plus ∷ more) h = refl
begins_there (Infix operator.Minus ∷ more) h = refl
begins_there (Infix other ∷ more) h = absurd (cc)
begins_there (Name x ∷ more) h = refl
begins_there (Number digits value ∷ more) h = refl
begins_there (Quoted text ∷ more) h = refl
begins_there (Truth b ∷ more) h = refl
begins_there (Negation ∷ more) h = refl
begins_there (Mark sign.Open ∷ more) h = refl
begins_there (Mark other ∷ more) h = absurd (cc)
begins_there (piece ∷ more) h = absurd (cc)

pub expression_told : Told read_expression SpellsExpression stopping beginning beginning
expression_told = record {
  exact = record {
    sound = expression_exact.sound;
    complete = λ e before after h ok. expression_exact.complete e before after h (stops_there after ok);
    no_longer = expression_exact.no_longer;
  };
  begins = λ e before after h. begins_there before (expression_begins_so 1 e before after h);
  leads_on = λ e before after h ok. begins_there before (expression_begins_so 1 e before after h);
}

abbrev pub known_expression : Known read_expression SpellsExpression
known_expression = record { follows = stopping; starts = beginning; leads = beginning; told = expression_told }

abbrev pub not_open : Test
not_open Open = false
not_open other = true

not_applied_there : (pieces : Lexemes) → not_open (sort pieces) ≡ true → not_applied pieces ≡ true
unfolding sort not_applied
not_applied_there [] h = refl
not_applied_there (Mark sign.Open ∷ more) h = h
not_applied_there (piece ∷ more) h = refl

place_begins : (e : Expr) (before after : Lexemes) → SpellsPlace e before after → is NamePiece (sort before) ≡ true
unfolding sort
place_begins _ _ _ (spell.name x after) = refl
place_begins _ _ _ (spell.element x es inner after s) = refl
place_begins _ _ _ (spell.part_of_variable x f l inner after s) = refl
place_begins _ _ _ (spell.part_of_element x es f l inner behind after s t) = refl

pub place_told : Told read_place SpellsPlace not_open (is NamePiece) (is NamePiece)
place_told = record {
  exact = record {
    sound = place_exact_before_operators.sound;
    complete = λ e before after h ok. place_exact_before_operators.complete e before after h (not_applied_there after ok);
    no_longer = place_exact_before_operators.no_longer;
  };
  begins = place_begins;
  leads_on = λ e before after h ok. place_begins e before after h;
}

abbrev pub known_place : Known read_place SpellsPlace
known_place = record { follows = not_open; starts = is NamePiece; leads = is NamePiece; told = place_told }
