-- Signs of one byte and of two.
use Rattle.std.proofs.Common.{◌≡◌, ℕ, Bool, true, false, List, [], ◌∷◌, refl, sym, ap, ◌∙◌, inl, inr}
use Rattle.std.specs.Prelude.{◌⊎◌, ◌≢◌, ◌&&◌, ◌||◌, nat_eq, bytes_eq}
use Rattle.std.specs.List.{list_any}
use Rattle.std.proofs.lemmas.Bool.{cases_Bool, eqb-true, ne_eqb}
use Rattle.c_tree.specs.Tokens.{is_sign, signs}
use Rattle.c_lexer.specs.Parts.{Spells}
use Rattle.c_lexer.specs.SeenTokens.{sign_codes}
use Rattle.c_lexer.specs.declared.token.CSign.{CSign}
use Rattle.c_lexer.specs.declared.token.CSign.TheVariants as sign

is_one : (s : CSign) → is_sign (sign_codes s) ≡ true
unfolding sign_codes
is_one sign.OpenParenthesis = refl
is_one sign.CloseParenthesis = refl
is_one sign.OpenBracket = refl
is_one sign.CloseBracket = refl
is_one sign.OpenBrace = refl
is_one sign.CloseBrace = refl
is_one sign.Comma = refl
is_one sign.Semicolon = refl
is_one sign.Colon = refl
is_one sign.Question = refl
is_one sign.Period = refl
is_one sign.Assign = refl
is_one sign.AddAssign = refl
is_one sign.Increment = refl
is_one sign.Decrement = refl
is_one sign.Plus = refl
is_one sign.Minus = refl
is_one sign.Star = refl
is_one sign.Slash = refl
is_one sign.Percent = refl
is_one sign.Ampersand = refl
is_one sign.Exclamation = refl
is_one sign.Or = refl
is_one sign.And = refl
is_one sign.Equal = refl
is_one sign.Unequal = refl
is_one sign.Less = refl
is_one sign.LessOrEqual = refl
is_one sign.Greater = refl
is_one sign.GreaterOrEqual = refl

-- bytes that are those of a sign spell it
pub spelled : (s : CSign) (text : List ℕ) → sign_codes s ≡ text → Spells text s
spelled s text is = record { spelling = is; known = ap is_sign (sym is) ∙ is_one s }

-- one byte
pub one_byte : (s : CSign) (code byte : ℕ) → sign_codes s ≡ code ∷ [] → byte ≡ code → Spells (byte ∷ []) s
one_byte s code byte codes_are is = spelled s (byte ∷ []) (codes_are ∙ ap (λ b. b ∷ []) (sym is))

-- a byte twice
pub twice : (s : CSign) (code byte : ℕ) → sign_codes s ≡ code ∷ code ∷ [] → byte ≡ code → Spells (byte ∷ byte ∷ []) s
twice s code byte codes_are is = spelled s (byte ∷ byte ∷ []) (codes_are ∙ ap (λ b. b ∷ b ∷ []) (sym is))

-- a byte and an equals sign
pub before_equals : (s : CSign) (code byte : ℕ) → sign_codes s ≡ code ∷ 61 ∷ [] → byte ≡ code → Spells (byte ∷ 61 ∷ []) s
before_equals s code byte codes_are is = spelled s (byte ∷ 61 ∷ []) (codes_are ∙ ap (λ b. b ∷ 61 ∷ []) (sym is))

-- ## Bytes that spell no sign

data DifferFrom (text : List ℕ) : List (List ℕ) → Type 0 where
  none_left : DifferFrom text []
  differs : (one : List ℕ) (others : List (List ℕ)) → bytes_eq text one ≡ false → DifferFrom text others → DifferFrom text (one ∷ others)

none_of : (text : List ℕ) (known : List (List ℕ)) → DifferFrom text known → list_any (bytes_eq text) known ≡ false
none_of text [] none_left = refl
none_of text (one ∷ others) (differs one1 others1 h more) = ap (λ z. z || list_any (bytes_eq text) others) h ∙ none_of text others more

first_other : (a b : ℕ) (text other : List ℕ) → nat_eq a b ≡ false → bytes_eq (a ∷ text) (b ∷ other) ≡ false
first_other a b text other h = ap (λ z. z && bytes_eq text other) h

never : (z : Bool) → (z && false) ≡ false
never true = refl
never false = refl

shorter_one : (a b code : ℕ) → bytes_eq (a ∷ b ∷ []) (code ∷ []) ≡ false
shorter_one a b code = never (nat_eq a code)

longer_one : (a code other : ℕ) → bytes_eq (a ∷ []) (code ∷ other ∷ []) ≡ false
longer_one a code other = never (nat_eq a code)

second_other : (a b code other : ℕ) → nat_eq b other ≡ false → bytes_eq (a ∷ b ∷ []) (code ∷ other ∷ []) ≡ false
second_other a b code other h = ap (λ z. nat_eq a code && (z && true)) h ∙ never (nat_eq a code)

not_doubled : (a b code : ℕ) → a ≢ b → bytes_eq (a ∷ b ∷ []) (code ∷ code ∷ []) ≡ false
not_doubled a b code other = by (cases_Bool (nat_eq a code)) (cases_Bool (nat_eq b code))
  where
    by : (nat_eq a code ≡ true) ⊎ (nat_eq a code ≡ false) → (nat_eq b code ≡ true) ⊎ (nat_eq b code ≡ false) → bytes_eq (a ∷ b ∷ []) (code ∷ code ∷ []) ≡ false
    by (inr is_not) second = first_other a code (b ∷ []) (code ∷ []) is_not
    by (inl is_so) (inr is_not) = second_other a b code code is_not
    by (inl is_so) (inl same) = absurd (other (eqb-true a code is_so ∙ sym (eqb-true b code same)))

-- one byte that is no sign
pub not_one : (byte : ℕ) → byte ≢ 40 → byte ≢ 41 → byte ≢ 91 → byte ≢ 93 → byte ≢ 123 → byte ≢ 125 → byte ≢ 44 → byte ≢ 59 → byte ≢ 58 → byte ≢ 63 → byte ≢ 46 → byte ≢ 61 → byte ≢ 43 → byte ≢ 45 → byte ≢ 42 → byte ≢ 47 → byte ≢ 37 → byte ≢ 38 → byte ≢ 33 → byte ≢ 60 → byte ≢ 62 → is_sign (byte ∷ []) ≡ false
not_one byte open_p close_p open_b close_b open_c close_c comma semi colon ask point equals plus minus star slash rest both bang less greater =
    none_of (byte ∷ []) signs
    (differs _ _ (first_other byte 40 [] [] (ne_eqb byte 40 open_p))
    (differs _ _ (first_other byte 41 [] [] (ne_eqb byte 41 close_p))
    (differs _ _ (first_other byte 91 [] [] (ne_eqb byte 91 open_b))
    (differs _ _ (first_other byte 93 [] [] (ne_eqb byte 93 close_b))
    (differs _ _ (first_other byte 123 [] [] (ne_eqb byte 123 open_c))
    (differs _ _ (first_other byte 125 [] [] (ne_eqb byte 125 close_c))
    (differs _ _ (first_other byte 44 [] [] (ne_eqb byte 44 comma))
    (differs _ _ (first_other byte 59 [] [] (ne_eqb byte 59 semi))
    (differs _ _ (first_other byte 58 [] [] (ne_eqb byte 58 colon))
    (differs _ _ (first_other byte 63 [] [] (ne_eqb byte 63 ask))
    (differs _ _ (first_other byte 46 [] [] (ne_eqb byte 46 point))
    (differs _ _ (first_other byte 61 [] [] (ne_eqb byte 61 equals))
    (differs _ _ (longer_one byte 43 61)
    (differs _ _ (longer_one byte 43 43)
    (differs _ _ (longer_one byte 45 45)
    (differs _ _ (first_other byte 43 [] [] (ne_eqb byte 43 plus))
    (differs _ _ (first_other byte 45 [] [] (ne_eqb byte 45 minus))
    (differs _ _ (first_other byte 42 [] [] (ne_eqb byte 42 star))
    (differs _ _ (first_other byte 47 [] [] (ne_eqb byte 47 slash))
    (differs _ _ (first_other byte 37 [] [] (ne_eqb byte 37 rest))
    (differs _ _ (first_other byte 38 [] [] (ne_eqb byte 38 both))
    (differs _ _ (first_other byte 33 [] [] (ne_eqb byte 33 bang))
    (differs _ _ (longer_one byte 124 124)
    (differs _ _ (longer_one byte 38 38)
    (differs _ _ (longer_one byte 61 61)
    (differs _ _ (longer_one byte 33 61)
    (differs _ _ (first_other byte 60 [] [] (ne_eqb byte 60 less))
    (differs _ _ (longer_one byte 60 61)
    (differs _ _ (first_other byte 62 [] [] (ne_eqb byte 62 greater))
    (differs _ _ (longer_one byte 62 61) none_left))))))))))))))))))))))))))))))

-- a byte that is no sign when it stands twice
pub not_twice : (byte : ℕ) → byte ≢ 43 → byte ≢ 45 → byte ≢ 124 → byte ≢ 38 → byte ≢ 61 → is_sign (byte ∷ byte ∷ []) ≡ false
not_twice byte plus minus bar both equals =
    none_of (byte ∷ byte ∷ []) signs
    (differs _ _ (shorter_one byte byte 40)
    (differs _ _ (shorter_one byte byte 41)
    (differs _ _ (shorter_one byte byte 91)
    (differs _ _ (shorter_one byte byte 93)
    (differs _ _ (shorter_one byte byte 123)
    (differs _ _ (shorter_one byte byte 125)
    (differs _ _ (shorter_one byte byte 44)
    (differs _ _ (shorter_one byte byte 59)
    (differs _ _ (shorter_one byte byte 58)
    (differs _ _ (shorter_one byte byte 63)
    (differs _ _ (shorter_one byte byte 46)
    (differs _ _ (shorter_one byte byte 61)
    (differs _ _ (first_other byte 43 (byte ∷ []) (61 ∷ []) (ne_eqb byte 43 plus))
    (differs _ _ (first_other byte 43 (byte ∷ []) (43 ∷ []) (ne_eqb byte 43 plus))
    (differs _ _ (first_other byte 45 (byte ∷ []) (45 ∷ []) (ne_eqb byte 45 minus))
    (differs _ _ (shorter_one byte byte 43)
    (differs _ _ (shorter_one byte byte 45)
    (differs _ _ (shorter_one byte byte 42)
    (differs _ _ (shorter_one byte byte 47)
    (differs _ _ (shorter_one byte byte 37)
    (differs _ _ (shorter_one byte byte 38)
    (differs _ _ (shorter_one byte byte 33)
    (differs _ _ (first_other byte 124 (byte ∷ []) (124 ∷ []) (ne_eqb byte 124 bar))
    (differs _ _ (first_other byte 38 (byte ∷ []) (38 ∷ []) (ne_eqb byte 38 both))
    (differs _ _ (first_other byte 61 (byte ∷ []) (61 ∷ []) (ne_eqb byte 61 equals))
    (differs _ _ (second_other byte byte 33 61 (ne_eqb byte 61 equals))
    (differs _ _ (shorter_one byte byte 60)
    (differs _ _ (second_other byte byte 60 61 (ne_eqb byte 61 equals))
    (differs _ _ (shorter_one byte byte 62)
    (differs _ _ (second_other byte byte 62 61 (ne_eqb byte 61 equals)) none_left))))))))))))))))))))))))))))))

-- a byte that is no sign before an equals sign
pub not_before_equals : (byte : ℕ) → byte ≢ 43 → byte ≢ 33 → byte ≢ 60 → byte ≢ 62 → byte ≢ 61 → is_sign (byte ∷ 61 ∷ []) ≡ false
not_before_equals byte plus bang less greater equals =
    none_of (byte ∷ 61 ∷ []) signs
    (differs _ _ (shorter_one byte 61 40)
    (differs _ _ (shorter_one byte 61 41)
    (differs _ _ (shorter_one byte 61 91)
    (differs _ _ (shorter_one byte 61 93)
    (differs _ _ (shorter_one byte 61 123)
    (differs _ _ (shorter_one byte 61 125)
    (differs _ _ (shorter_one byte 61 44)
    (differs _ _ (shorter_one byte 61 59)
    (differs _ _ (shorter_one byte 61 58)
    (differs _ _ (shorter_one byte 61 63)
    (differs _ _ (shorter_one byte 61 46)
    (differs _ _ (shorter_one byte 61 61)
    (differs _ _ (first_other byte 43 (61 ∷ []) (61 ∷ []) (ne_eqb byte 43 plus))
    (differs _ _ (first_other byte 43 (61 ∷ []) (43 ∷ []) (ne_eqb byte 43 plus))
    (differs _ _ (second_other byte 61 45 45 refl)
    (differs _ _ (shorter_one byte 61 43)
    (differs _ _ (shorter_one byte 61 45)
    (differs _ _ (shorter_one byte 61 42)
    (differs _ _ (shorter_one byte 61 47)
    (differs _ _ (shorter_one byte 61 37)
    (differs _ _ (shorter_one byte 61 38)
    (differs _ _ (shorter_one byte 61 33)
    (differs _ _ (second_other byte 61 124 124 refl)
    (differs _ _ (second_other byte 61 38 38 refl)
    (differs _ _ (first_other byte 61 (61 ∷ []) (61 ∷ []) (ne_eqb byte 61 equals))
    (differs _ _ (first_other byte 33 (61 ∷ []) (61 ∷ []) (ne_eqb byte 33 bang))
    (differs _ _ (shorter_one byte 61 60)
    (differs _ _ (first_other byte 60 (61 ∷ []) (61 ∷ []) (ne_eqb byte 60 less))
    (differs _ _ (shorter_one byte 61 62)
    (differs _ _ (first_other byte 62 (61 ∷ []) (61 ∷ []) (ne_eqb byte 62 greater)) none_left))))))))))))))))))))))))))))))

-- two other bytes are no sign
pub not_two : (first second : ℕ) → first ≢ second → second ≢ 61 → is_sign (first ∷ second ∷ []) ≡ false
not_two first second other equals =
    none_of (first ∷ second ∷ []) signs
    (differs _ _ (shorter_one first second 40)
    (differs _ _ (shorter_one first second 41)
    (differs _ _ (shorter_one first second 91)
    (differs _ _ (shorter_one first second 93)
    (differs _ _ (shorter_one first second 123)
    (differs _ _ (shorter_one first second 125)
    (differs _ _ (shorter_one first second 44)
    (differs _ _ (shorter_one first second 59)
    (differs _ _ (shorter_one first second 58)
    (differs _ _ (shorter_one first second 63)
    (differs _ _ (shorter_one first second 46)
    (differs _ _ (shorter_one first second 61)
    (differs _ _ (second_other first second 43 61 (ne_eqb second 61 equals))
    (differs _ _ (not_doubled first second 43 other)
    (differs _ _ (not_doubled first second 45 other)
    (differs _ _ (shorter_one first second 43)
    (differs _ _ (shorter_one first second 45)
    (differs _ _ (shorter_one first second 42)
    (differs _ _ (shorter_one first second 47)
    (differs _ _ (shorter_one first second 37)
    (differs _ _ (shorter_one first second 38)
    (differs _ _ (shorter_one first second 33)
    (differs _ _ (not_doubled first second 124 other)
    (differs _ _ (not_doubled first second 38 other)
    (differs _ _ (second_other first second 61 61 (ne_eqb second 61 equals))
    (differs _ _ (second_other first second 33 61 (ne_eqb second 61 equals))
    (differs _ _ (shorter_one first second 60)
    (differs _ _ (second_other first second 60 61 (ne_eqb second 61 equals))
    (differs _ _ (shorter_one first second 62)
    (differs _ _ (second_other first second 62 61 (ne_eqb second 61 equals)) none_left))))))))))))))))))))))))))))))
