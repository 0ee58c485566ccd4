-- Steps of the reader of formats.
use Rattle.std.proofs.Common.{◌≡◌, ℕ, suc, ◌-◌, ◌<◌, ◌==◌, Bool, true, false, ◌||◌, if◌then◌else◌, Some, IsTrue, List, [], ◌∷◌, length, refl, ap, ◌∙◌, arith}
use Rattle.std.proofs.lemmas.Bool.Decides.{nat_tests}
use Rattle.std.specs.Char.{is_ascii_digit, to_ascii_uppercase}
use Rattle.edit_meaning.specs.FormatGrammar.{seen, Behind}
use Rattle.edit_meaning.specs.FormatTexts.{Sign, LeftParen, RightParen, Comma, Slash, Period, Colons, Quote, PlusMinus, Digit, LetterA, LetterB, LetterH, LetterI, LetterL, LetterN, LetterP, LetterR, LetterS, LetterT, LetterX, LetterZ, Unknown, letter_of, mark_of, upper_sign, Place, Outside, Made, To, same, behind, between, outside, State, Going, Frame, state_by, Nothing, from_state, found}

next_by : (blank : Bool) (u : ℕ) (bs : List ℕ) (place : Place) (made : Made) (outer : List Frame) (c : ℕ) (middle : List ℕ)
    → (seen bs ≡ c ∷ middle → found bs (Going (Outside place) made outer)
    ≡ from_state (state_by (outside (suc (length outer)) place (upper_sign c)) made outer) (λ state. found middle state))
    → (if blank then seen bs else u ∷ bs) ≡ c ∷ middle
    → from_state (state_by (if blank then To (Outside place) same else outside (suc (length outer)) place (upper_sign u)) made outer) (λ state. found bs state)
    ≡ from_state (state_by (outside (suc (length outer)) place (upper_sign c)) made outer) (λ state. found middle state)
next_by true u bs place made outer c middle ih h = ih h
next_by false u bs place made outer c middle ih h =
    let e : u ≡ c = cc in
    let f : bs ≡ middle = cc in
    ap (λ z. from_state (state_by (outside (suc (length outer)) place (upper_sign z)) made outer) (λ state. found bs state)) e
    ∙ ap (λ z. from_state (state_by (outside (suc (length outer)) place (upper_sign c)) made outer) (λ state. found z state)) f

-- outside texts the next character that is no blank is read
pub at_next : (before : List ℕ) (place : Place) (made : Made) (outer : List Frame) (c : ℕ) (middle : List ℕ) → seen before ≡ c ∷ middle
    → found before (Going (Outside place) made outer)
    ≡ from_state (state_by (outside (suc (length outer)) place (upper_sign c)) made outer) (λ state. found middle state)
at_next [] place made outer c middle h = absurd (cc)
at_next (b ∷ bs) place made outer c middle h =
    next_by (b == 32) (to_ascii_uppercase b) bs place made outer c middle (at_next bs place made outer c middle) h

none_by : (blank : Bool) (u : ℕ) (bs : List ℕ) (place : Place) (made : Made) (outer : List Frame)
    → (seen bs ≡ [] → found bs (Going (Outside place) made outer) ≡ Nothing) → (if blank then seen bs else u ∷ bs) ≡ []
    → from_state (state_by (if blank then To (Outside place) same else outside (suc (length outer)) place (upper_sign u)) made outer) (λ state. found bs state) ≡ Nothing
none_by true u bs place made outer ih h = ih h
none_by false u bs place made outer ih h = absurd (cc)

-- outside texts nothing is found where there are only blanks
pub at_none : (before : List ℕ) (place : Place) (made : Made) (outer : List Frame) → seen before ≡ [] → found before (Going (Outside place) made outer) ≡ Nothing
at_none [] place made outer h = refl
at_none (b ∷ bs) place made outer h = none_by (b == 32) (to_ascii_uppercase b) bs place made outer (at_none bs place made outer) h

-- a step whose sign and whose state are known
pub step_to : (before : List ℕ) (place : Place) (made : Made) (outer : List Frame) (c : ℕ) (middle : List ℕ) (sign : Sign) (state : State) → seen before ≡ c ∷ middle
    → upper_sign c ≡ sign → state_by (outside (suc (length outer)) place sign) made outer ≡ Some state
    → found before (Going (Outside place) made outer) ≡ found middle state
step_to before place made outer c middle sign state h e s =
    at_next before place made outer c middle h
    ∙ ap (λ z. from_state (state_by (outside (suc (length outer)) place z) made outer) (λ state. found middle state)) e
    ∙ ap (λ z. from_state z (λ state. found middle state)) s

-- the code of a sign
pub data CodeOf : Sign → ℕ → Type 0 where
  left_paren : {c : ℕ} → c ≡ 40 → CodeOf LeftParen c
  right_paren : {c : ℕ} → c ≡ 41 → CodeOf RightParen c
  a_comma : {c : ℕ} → c ≡ 44 → CodeOf Comma c
  a_slash : {c : ℕ} → c ≡ 47 → CodeOf Slash c
  a_period : {c : ℕ} → c ≡ 46 → CodeOf Period c
  a_colon : {c : ℕ} → c ≡ 58 → CodeOf Colons c
  a_quote : {c : ℕ} → c ≡ 39 → CodeOf Quote c
  plus_minus : {c : ℕ} → IsTrue (c == 43 || c == 45) → CodeOf PlusMinus c
  a_digit : {c : ℕ} → IsTrue (is_ascii_digit c) → CodeOf (Digit (c - 48)) c
  letter_a : {c : ℕ} → c ≡ 65 → CodeOf LetterA c
  letter_b : {c : ℕ} → c ≡ 66 → CodeOf LetterB c
  letter_h : {c : ℕ} → c ≡ 72 → CodeOf LetterH c
  letter_i : {c : ℕ} → c ≡ 73 → CodeOf LetterI c
  letter_l : {c : ℕ} → c ≡ 76 → CodeOf LetterL c
  letter_n : {c : ℕ} → c ≡ 78 → CodeOf LetterN c
  letter_p : {c : ℕ} → c ≡ 80 → CodeOf LetterP c
  letter_r : {c : ℕ} → c ≡ 82 → CodeOf LetterR c
  letter_s : {c : ℕ} → c ≡ 83 → CodeOf LetterS c
  letter_t : {c : ℕ} → c ≡ 84 → CodeOf LetterT c
  letter_x : {c : ℕ} → c ≡ 88 → CodeOf LetterX c
  letter_z : {c : ℕ} → c ≡ 90 → CodeOf LetterZ c
  unknown : {c : ℕ} → CodeOf Unknown c

code_if : (b : Bool) (s t : Sign) (c : ℕ) → (b ≡ true → CodeOf s c) → CodeOf t c → CodeOf (if b then s else t) c
code_if true s t c h k = h refl
code_if false s t c h k = k

is : (c n : ℕ) → (c == n) ≡ true → c ≡ n
is c n h = grind (arith, nat_tests)

first_sign : (c n m : ℕ) → (c == n) ≡ true → IsTrue (c == n || c == m)
first_sign c n m h = ap (λ z. z || c == m) h

second_by : (a b : Bool) → b ≡ true → IsTrue (a || b)
second_by true b h = refl
second_by false b h = h

code_of_letter : (c : ℕ) → CodeOf (letter_of c) c
code_of_letter c =
    code_if (c == 65) _ _ c (λ e. letter_a (is c 65 e)) (code_if (c == 66) _ _ c (λ e. letter_b (is c 66 e))
    (code_if (c == 72) _ _ c (λ e. letter_h (is c 72 e)) (code_if (c == 73) _ _ c (λ e. letter_i (is c 73 e))
    (code_if (c == 76) _ _ c (λ e. letter_l (is c 76 e)) (code_if (c == 78) _ _ c (λ e. letter_n (is c 78 e))
    (code_if (c == 80) _ _ c (λ e. letter_p (is c 80 e)) (code_if (c == 82) _ _ c (λ e. letter_r (is c 82 e))
    (code_if (c == 83) _ _ c (λ e. letter_s (is c 83 e)) (code_if (c == 84) _ _ c (λ e. letter_t (is c 84 e))
    (code_if (c == 88) _ _ c (λ e. letter_x (is c 88 e)) (code_if (c == 90) _ _ c (λ e. letter_z (is c 90 e)) unknown)))))))))))

code_of_mark : (c : ℕ) → CodeOf (mark_of c) c
code_of_mark c =
    code_if (c == 40) _ _ c (λ e. left_paren (is c 40 e)) (code_if (c == 41) _ _ c (λ e. right_paren (is c 41 e))
    (code_if (c == 44) _ _ c (λ e. a_comma (is c 44 e)) (code_if (c == 47) _ _ c (λ e. a_slash (is c 47 e))
    (code_if (c == 46) _ _ c (λ e. a_period (is c 46 e)) (code_if (c == 58) _ _ c (λ e. a_colon (is c 58 e))
    (code_if (c == 39) _ _ c (λ e. a_quote (is c 39 e)) (code_if (c == 43) _ _ c (λ e. plus_minus (first_sign c 43 45 e))
    (code_if (c == 45) _ _ c (λ e. plus_minus (second_by (c == 43) (c == 45) e)) (code_of_letter c)))))))))

pub code_of : (c : ℕ) → CodeOf (upper_sign c) c
code_of c = code_if (is_ascii_digit c) _ _ c (λ e. a_digit e) (code_of_mark c)

pub digit_sign : (c : ℕ) → IsTrue (is_ascii_digit c) → upper_sign c ≡ Digit (c - 48)
digit_sign c h = ap (λ b. if b then Digit (c - 48) else mark_of c) h

-- what stands next in a text
pub data Next : List ℕ → Type 0 where
  none : {text : List ℕ} → seen text ≡ [] → Next text
  some : {text : List ℕ} (c : ℕ) (middle : List ℕ) → seen text ≡ c ∷ middle → length middle < length text → Next text

next_if : (blank : Bool) (u b : ℕ) (bs : List ℕ) → (b == 32) ≡ blank → to_ascii_uppercase b ≡ u → Next bs → Next (b ∷ bs)
next_if true u b bs e f (none h) = none (ap (λ z. if z then seen bs else to_ascii_uppercase b ∷ bs) e ∙ h)
next_if true u b bs e f (some c middle h l) = some c middle (ap (λ z. if z then seen bs else to_ascii_uppercase b ∷ bs) e ∙ h) (omega arith)
next_if false u b bs e f n = some (to_ascii_uppercase b) bs (ap (λ z. if z then seen bs else to_ascii_uppercase b ∷ bs) e) (omega arith)

pub next_of : (text : List ℕ) → Next text
next_of [] = none refl
next_of (b ∷ bs) = next_if (b == 32) (to_ascii_uppercase b) b bs refl refl (next_of bs)

-- a change that comes before a character behind an item
pub behind_change : (depth : ℕ) (change : Made → Made) (made : Made) (outer : List Frame) (sign : Sign)
    → state_by (behind change (between depth Behind sign)) made outer ≡ state_by (between depth Behind sign) (change made) outer
behind_change depth change made outer RightParen = refl
behind_change depth change made outer Comma = refl
behind_change depth change made outer Slash = refl
behind_change depth change made outer Colons = refl
behind_change depth change made outer _ = refl
