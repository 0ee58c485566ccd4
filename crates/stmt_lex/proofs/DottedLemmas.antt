-- Words between points, by their groups.
use Rattle.std.proofs.Common.{◌≡◌, Bool, true, false, List, [], ◌∷◌, ◌++◌, refl, sym, ap, ◌∙◌, Option, Some, None}
use Rattle.std.specs.Prelude.{option_map, is_some, if◌then◌else◌}
use Rattle.fortran_text.specs.declared.characters.Character.{Character}
use Rattle.fortran_lexemes.specs.declared.signs.Sign.TheVariants as sign
use Rattle.stmt_lex.specs.SeenTokens.{lexeme_of, seen_cut}
use Rattle.stmt_lex.specs.declared.token.Token.TheVariants as token
use Rattle.fortran_lexemes.specs.PiecesOfText.{Cut, Dotted, begins, pointed, order_words, equality_words, logical_words, dotted_at}

or_else : Option Cut → Option Cut → Option Cut
or_else None other = other
or_else (Some cut) other = Some cut

step_of : Bool → Option Cut → Option Cut → Option Cut
step_of b here other = if b then here else other

dotted-append : (a b : List Dotted) (text : List Character) → dotted_at (a ++ b) text ≡ or_else (dotted_at a text) (dotted_at b text)
unfolding dotted_at or_else
dotted-append [] b text = refl
dotted-append (d ∷ a) b text = joined (begins d.word text) _ _ _ (dotted-append a b text)
  where
    joined : (t : Bool) (here : Cut) (more other : Option Cut) {all : Option Cut} → all ≡ or_else more other → (if t then Some here else all) ≡ or_else (if t then Some here else more) other
    joined true here more other h = refl
    joined false here more other h = h

all-words : (text : List Character) → dotted_at (order_words ++ equality_words ++ logical_words) text
    ≡ or_else (or_else (dotted_at order_words text) (dotted_at equality_words text)) (dotted_at logical_words text)
all-words text =
    dotted-append (order_words ++ equality_words) logical_words text
    ∙ ap (λ o. or_else o (dotted_at logical_words text)) (dotted-append order_words equality_words text)

found_first : (a b c : Option Cut) (x : Cut) → Some x ≡ a → Some x ≡ or_else (or_else a b) c
unfolding or_else
found_first a b c x h = ap (λ o. or_else (or_else o b) c) h

found_second : (a b c : Option Cut) (x : Cut) → None ≡ a → Some x ≡ b → Some x ≡ or_else (or_else a b) c
unfolding or_else
found_second a b c x h k = ap (λ o. or_else o c) k ∙ ap (λ o. or_else (or_else o b) c) h

found_third : (a b c : Option Cut) → None ≡ a → None ≡ b → c ≡ or_else (or_else a b) c
unfolding or_else
found_third a b c h k = ap (λ o. or_else o c) k ∙ ap (λ o. or_else (or_else o b) c) h

pub first_found : {A : Type 0} (f : A → Cut) (text : List Character) (o : Option A) → option_map f o ≡ dotted_at order_words text → is_some o ≡ true
    → option_map f o ≡ dotted_at (order_words ++ equality_words ++ logical_words) text
first_found f text None h some = absurd (cc)
first_found f text (Some x) h some = found_first _ _ _ (f x) h ∙ sym (all-words text)

pub second_found : {A : Type 0} (f : A → Cut) (text : List Character) (p o : Option A) → option_map f p ≡ dotted_at order_words text → is_some p ≡ false
    → option_map f o ≡ dotted_at equality_words text → is_some o ≡ true → option_map f o ≡ dotted_at (order_words ++ equality_words ++ logical_words) text
second_found f text (Some y) o h none k some = absurd (cc)
second_found f text None None h none k some = absurd (cc)
second_found f text None (Some x) h none k some = found_second _ _ _ (f x) h k ∙ sym (all-words text)

pub third_found : {A : Type 0} (f : A → Cut) (text : List Character) (p q o : Option A) → option_map f p ≡ dotted_at order_words text → is_some p ≡ false
    → option_map f q ≡ dotted_at equality_words text → is_some q ≡ false → option_map f o ≡ dotted_at logical_words text
    → option_map f o ≡ dotted_at (order_words ++ equality_words ++ logical_words) text
third_found f text (Some y) q o h none k none' is = absurd (cc)
third_found f text None (Some y) o h none k none' is = absurd (cc)
third_found f text None None o h none k none' is = is ∙ found_third _ _ _ h k ∙ sym (all-words text)

pub pointed_some : {A : Type 0} (f : A → Cut) (rest : List Character) (d : Option Cut) (o : Option A) (x : A) → o ≡ Some x → option_map f o ≡ d → f x ≡ pointed d rest
unfolding pointed
pointed_some f rest d o x is h = ap (λ e. pointed e rest) (sym (ap (λ p. option_map f p) is) ∙ h)

pub pointed_none : {A : Type 0} (f : A → Cut) (rest : List Character) (d : Option Cut) (o : Option A) → o ≡ None → option_map f o ≡ d → pointed None rest ≡ pointed d rest
pointed_none f rest d o is h = ap (λ e. pointed e rest) (sym (ap (λ p. option_map f p) is) ∙ h)

pub point_alone : (c : Character) (rest : List Character) → seen_cut (c ∷ rest) (record { token = token.Mark sign.Point; len = 1 }) ≡ pointed None rest
unfolding seen_cut lexeme_of pointed
point_alone c rest = refl
