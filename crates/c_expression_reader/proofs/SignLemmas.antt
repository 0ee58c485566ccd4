-- A sign is the one that is wanted where their bytes are the same.
use Rattle.std.proofs.Common.{◌≡◌, refl, sym, ap, ◌∙◌, ℕ, Bool, true, false, List, [], ◌∷◌, codes, bytes_eq, Some}
use Rattle.std.proofs.lemmas.Slice.Eq.{bytes_eq-Decides}
use denote.Enum.Bare.{sameb, same_true, true_same}
use Rattle.c_lexer.specs.contracts.token.CSign.{the_type}
use Rattle.c_lexer.specs.declared.token.CSign.{CSign}
use Rattle.c_lexer.specs.declared.token.CSign.TheVariants as sign
use Rattle.c_lexer.specs.SeenTokens.{sign_codes}
use Rattle.c_readers.specs.Readers.{lookup}

abbrev all_signs : List (List ℕ × CSign)
all_signs =
    (codes "(", sign.OpenParenthesis) ∷ (codes ")", sign.CloseParenthesis) ∷ (codes "[", sign.OpenBracket) ∷ (codes "]", sign.CloseBracket) ∷
    (codes "{", sign.OpenBrace) ∷ (codes "}", sign.CloseBrace) ∷ (codes ",", sign.Comma) ∷ (codes ";", sign.Semicolon) ∷ (codes ":", sign.Colon) ∷
    (codes "?", sign.Question) ∷ (codes ".", sign.Period) ∷ (codes "=", sign.Assign) ∷ (codes "+=", sign.AddAssign) ∷ (codes "++", sign.Increment) ∷
    (codes "--", sign.Decrement) ∷ (codes "+", sign.Plus) ∷ (codes "-", sign.Minus) ∷ (codes "*", sign.Star) ∷ (codes "/", sign.Slash) ∷
    (codes "%", sign.Percent) ∷ (codes "&", sign.Ampersand) ∷ (codes "!", sign.Exclamation) ∷ (codes "||", sign.Or) ∷ (codes "&&", sign.And) ∷
    (codes "==", sign.Equal) ∷ (codes "!=", sign.Unequal) ∷ (codes "<", sign.Less) ∷ (codes "<=", sign.LessOrEqual) ∷ (codes ">", sign.Greater) ∷
    (codes ">=", sign.GreaterOrEqual) ∷ []

decoded : (s : CSign) → lookup (sign_codes s) all_signs ≡ Some s
unfolding sign_codes
decoded sign.OpenParenthesis = refl
decoded sign.CloseParenthesis = refl
decoded sign.OpenBracket = refl
decoded sign.CloseBracket = refl
decoded sign.OpenBrace = refl
decoded sign.CloseBrace = refl
decoded sign.Comma = refl
decoded sign.Semicolon = refl
decoded sign.Colon = refl
decoded sign.Question = refl
decoded sign.Period = refl
decoded sign.Assign = refl
decoded sign.AddAssign = refl
decoded sign.Increment = refl
decoded sign.Decrement = refl
decoded sign.Plus = refl
decoded sign.Minus = refl
decoded sign.Star = refl
decoded sign.Slash = refl
decoded sign.Percent = refl
decoded sign.Ampersand = refl
decoded sign.Exclamation = refl
decoded sign.Or = refl
decoded sign.And = refl
decoded sign.Equal = refl
decoded sign.Unequal = refl
decoded sign.Less = refl
decoded sign.LessOrEqual = refl
decoded sign.Greater = refl
decoded sign.GreaterOrEqual = refl

same-signs : (s w : CSign) → sign_codes s ≡ sign_codes w → s ≡ w
same-signs s w h = let e : Some s ≡ Some w = sym (decoded s) ∙ (ap (λ z. lookup z all_signs) h ∙ decoded w) in cc

same-tests : (a b : Bool) → (a ≡ true → b ≡ true) → (b ≡ true → a ≡ true) → a ≡ b
same-tests true b one other = sym (one refl)
same-tests false true one other = other refl
same-tests false false one other = refl

pub same-sign : (s w : CSign) → sameb the_type s w ≡ bytes_eq (sign_codes s) (sign_codes w)
same-sign s w =
    same-tests (sameb the_type s w) (bytes_eq (sign_codes s) (sign_codes w))
    (λ h. (bytes_eq-Decides (sign_codes s) (sign_codes w)).1 (ap sign_codes (same_true the_type tt s w h)))
    (λ h. true_same the_type s w (same-signs s w ((bytes_eq-Decides (sign_codes s) (sign_codes w)).0 h)))
