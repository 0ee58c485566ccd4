-- Pieces at the beginning of a text.
use Rattle.std.proofs.Common.{◌≡◌, ℕ, zero, suc, ◌+◌, ◌-◌, ◌*◌, ◌<◌, ◌≤◌, Bool, true, false, List, [], ◌∷◌, length, take, drop, refl, sym, ap, ◌∙◌, Some, None, arith, add-one, inl, inr, get_or}
use Rattle.std.specs.Prelude.{◌⊎◌, min, not}
use Rattle.std.specs.Char.{is_ascii_digit, digit_value}
use Rattle.std.specs.List.{prefix_len}
use Rattle.std.specs.Str.Parse.{digits_value, digits_value_after}
use Rattle.std.proofs.lemmas.Bool.{cases_Bool, and_parts, lt-ltb, le-ltb, leb-true}
use Rattle.std.proofs.lemmas.List.{length-take, length-map, drop_all}
use Rattle.fortran_text.specs.declared.characters.Character.{Character}
use Rattle.fortran_lexemes.specs.Lexemes.{Lexeme, Name, LongName, Number, TooLarge, Quoted, BadQuote}
use Rattle.fortran_lexemes.specs.PiecesOfText.{Cut, is_mark, is_in_name, is_digit, codes_of, named, numbered, run_of, constant_end, undoubled, quoted_to}
use Rattle.stmt_lex.specs.DigitValues.{digits_capped}
use Rattle.stmt_lex.specs.SeenTokens.{lexeme_of, seen_cut}
use Rattle.stmt_lex.specs.declared.token.Token.TheVariants as token

-- a run of characters, of which the first passes
run-is : (test : Character → Bool) (made : List ℕ → Lexeme) (c : Character) (rest : List Character) (n : ℕ) → test c ≡ true → n ≡ prefix_len test rest
    → run_of test made (c ∷ rest) ≡ record { piece = made (codes_of (take (n + 1) (c ∷ rest))); rest = drop (n + 1) (c ∷ rest) }
unfolding run_of
run-is test made c rest n h is =
    let same : prefix_len test (c ∷ rest) ≡ n + 1 = rw h (omega arith) in
    ap {B = Cut} (λ k. record { piece = made (codes_of (take k (c ∷ rest))); rest = drop k (c ∷ rest) }) same

length-taken : (n : ℕ) (text : List Character) → n ≤ length text → length (codes_of (take n text)) ≡ n
length-taken n text h = length-map (take n text) (λ (c : Character). c.code) ∙ length-take n text ∙ omega arith

named-long : (text : List ℕ) → 31 < length text → named text ≡ LongName
unfolding named
named-long text h = rw (lt-ltb 31 (length text) h) refl

named-short : (text : List ℕ) → length text ≤ 31 → named text ≡ Name text
unfolding named
named-short text h = rw (le-ltb 31 (length text) h) refl

pub long_name : (c : Character) (rest : List Character) (n : ℕ) → is_in_name c ≡ true → n ≡ prefix_len is_in_name rest → n ≤ length rest → 31 < n + 1
    → seen_cut (c ∷ rest) (record { token = token.LongName; len = n + 1 }) ≡ run_of is_in_name named (c ∷ rest)
unfolding seen_cut lexeme_of
long_name c rest n h is fits long =
    let taken = codes_of (take (n + 1) (c ∷ rest)) in
    let size : length taken ≡ n + 1 = length-taken (n + 1) (c ∷ rest) (omega arith) in
    sym (run-is is_in_name named c rest n h is ∙ ap {B = Cut} (λ p. record { piece = p; rest = drop (n + 1) (c ∷ rest) }) (named-long taken (omega arith)))

pub short_name : (c : Character) (rest : List Character) (n : ℕ) → is_in_name c ≡ true → n ≡ prefix_len is_in_name rest → n ≤ length rest → n + 1 ≤ 31
    → seen_cut (c ∷ rest) (record { token = token.Name (record { from = 0; len = n + 1 }); len = n + 1 }) ≡ run_of is_in_name named (c ∷ rest)
unfolding seen_cut lexeme_of
short_name c rest n h is fits short =
    let taken = codes_of (take (n + 1) (c ∷ rest)) in
    let size : length taken ≡ n + 1 = length-taken (n + 1) (c ∷ rest) (omega arith) in
    sym (run-is is_in_name named c rest n h is ∙ ap {B = Cut} (λ p. record { piece = p; rest = drop (n + 1) (c ∷ rest) }) (named-short taken (omega arith)))

-- digits of a value that is cut off
cap_after : (x most : ℕ) (cs : List ℕ) → min (digits_value_after 10 (min x most) cs) most ≡ min (digits_value_after 10 x cs) most
cap_after x most [] = omega arith
cap_after x most (c ∷ cs) =
    let y = min x most * 10 + digit_value c in
    let z = x * 10 + digit_value c in
    let same : min y most ≡ min z most = omega arith in
    sym (cap_after y most cs) ∙ ap (λ k. min (digits_value_after 10 k cs) most) same ∙ cap_after z most cs

-- the digits that a text begins with
leading : List Character → List ℕ
leading text = codes_of (take (prefix_len is_digit text) text)

leading-digit : (c : Character) (rest : List Character) → is_digit c ≡ true → leading (c ∷ rest) ≡ c.code ∷ leading rest
unfolding leading
leading-digit c rest h =
    let same : prefix_len is_digit (c ∷ rest) ≡ suc (prefix_len is_digit rest) = rw h (omega arith) in
    ap (λ k. codes_of (take k (c ∷ rest))) same

leading-other : (c : Character) (rest : List Character) → is_digit c ≡ false → leading (c ∷ rest) ≡ []
unfolding leading
leading-other c rest h =
    let same : prefix_len is_digit (c ∷ rest) ≡ 0 = rw h refl in
    ap (λ k. codes_of (take k (c ∷ rest))) same

capped_digits : (v : ℕ) (text : List Character) → v ≤ 2147483648 → digits_capped v text ≡ min (digits_value_after 10 v (leading text)) 2147483648
unfolding leading
capped_digits v [] h = omega arith
capped_digits v (c ∷ rest) h =
    either (cases_Bool (is_digit c)) (λ w small. capped_digits w rest small)
  where
    either : (is_digit c ≡ true) ⊎ (is_digit c ≡ false)
        → ((w : ℕ) → w ≤ 2147483648 → digits_capped w rest ≡ min (digits_value_after 10 w (leading rest)) 2147483648)
        → digits_capped v (c ∷ rest) ≡ min (digits_value_after 10 v (leading (c ∷ rest))) 2147483648
    either (inl digit) more =
        let next = v * 10 + digit_value c.code in
        let on : digits_capped v (c ∷ rest) ≡ digits_capped (min next 2147483648) rest = rw digit refl in
        on ∙ more (min next 2147483648) (omega arith) ∙ cap_after next 2147483648 (leading rest)
        ∙ ap (λ l. min (digits_value_after 10 v l) 2147483648) (sym (leading-digit c rest digit))
    either (inr other) more =
        let ends : digits_capped v (c ∷ rest) ≡ v = rw other refl in
        let same : v ≡ min v 2147483648 = omega arith in
        ends ∙ same ∙ ap (λ l. min (digits_value_after 10 v l) 2147483648) (sym (leading-other c rest other))

digit_of : (c : Character) → is_digit c ≡ true → digit_value c.code ≡ c.code - 48
digit_of c h =
    let parts = and_parts (not c.quoted) (is_ascii_digit c.code) h in
    let range = and_parts _ _ parts.1 in
    rw (le-ltb c.code 48 (leb-true 48 c.code range.0)) (rw (lt-ltb c.code 58 (omega (arith, leb-true c.code 57 range.1))) refl)

-- the value of a run of digits
value-is : (c : Character) (rest : List Character) (n v first : ℕ) → is_digit c ≡ true → n ≡ prefix_len is_digit rest → first ≡ c.code - 48 → first ≤ 2147483648
    → v ≡ digits_capped first rest → v ≡ min (digits_value 10 (codes_of (take (n + 1) (c ∷ rest)))) 2147483648
unfolding leading
value-is c rest n v first h is begun small given =
    let value : first ≡ 0 * 10 + digit_value c.code = omega (arith, digit_of c h, begun) in
    let all : codes_of (take (n + 1) (c ∷ rest)) ≡ c.code ∷ leading rest = ap (λ k. codes_of (take k (c ∷ rest))) (add-one n) ∙ ap (λ k. c.code ∷ codes_of (take k rest)) is in
    given ∙ capped_digits first rest small ∙ ap (λ k. min (digits_value_after 10 k (leading rest)) 2147483648) value
    ∙ ap (λ l. min (digits_value 10 l) 2147483648) (sym all)

numbered-large : (digits : List ℕ) → 2147483647 < digits_value 10 digits → numbered digits ≡ TooLarge
unfolding numbered
numbered-large digits h = rw (lt-ltb 2147483647 (digits_value 10 digits) h) refl

numbered-small : (digits : List ℕ) → digits_value 10 digits ≤ 2147483647 → numbered digits ≡ Number digits (digits_value 10 digits)
unfolding numbered
numbered-small digits h = rw (le-ltb 2147483647 (digits_value 10 digits) h) refl

pub large_number : (c : Character) (rest : List Character) (n v first : ℕ) → is_digit c ≡ true → n ≡ prefix_len is_digit rest → first ≡ c.code - 48 → first ≤ 2147483648
    → v ≡ digits_capped first rest → 2147483648 ≤ v → seen_cut (c ∷ rest) (record { token = token.TooLarge; len = n + 1 }) ≡ run_of is_digit numbered (c ∷ rest)
unfolding seen_cut lexeme_of
large_number c rest n v first h is begun small given large =
    let taken = codes_of (take (n + 1) (c ∷ rest)) in
    let value : v ≡ min (digits_value 10 taken) 2147483648 = value-is c rest n v first h is begun small given in
    sym (run-is is_digit numbered c rest n h is ∙ ap {B = Cut} (λ p. record { piece = p; rest = drop (n + 1) (c ∷ rest) }) (numbered-large taken (omega arith)))

pub small_number : (c : Character) (rest : List Character) (n v first : ℕ) → is_digit c ≡ true → n ≡ prefix_len is_digit rest → first ≡ c.code - 48 → first ≤ 2147483648
    → v ≡ digits_capped first rest → v < 2147483648 → seen_cut (c ∷ rest) (record { token = token.Number (record { from = 0; len = n + 1 }) v; len = n + 1 }) ≡ run_of is_digit numbered (c ∷ rest)
unfolding seen_cut lexeme_of
small_number c rest n v first h is begun small given less =
    let taken = codes_of (take (n + 1) (c ∷ rest)) in
    let value : v ≡ min (digits_value 10 taken) 2147483648 = value-is c rest n v first h is begun small given in
    let same : digits_value 10 taken ≡ v = omega arith in
    sym (run-is is_digit numbered c rest n h is
    ∙ ap {B = Cut} (λ p. record { piece = p; rest = drop (n + 1) (c ∷ rest) }) (numbered-small taken (omega arith) ∙ ap (λ k. Number taken k) same))

-- a constant
pub open_constant : (c : Character) (rest : List Character) → None ≡ constant_end 0 rest → seen_cut (c ∷ rest) (record { token = token.BadQuote; len = length rest + 1 }) ≡ quoted_to (constant_end 0 rest) rest
unfolding seen_cut lexeme_of quoted_to
open_constant c rest h =
    ap {B = Cut} (λ l. record { piece = BadQuote; rest = l }) (drop_all (length rest + 1) (c ∷ rest) (omega arith)) ∙ ap (λ o. quoted_to o rest) h

pub empty_constant : (c : Character) (rest : List Character) → Some 0 ≡ constant_end 0 rest → seen_cut (c ∷ rest) (record { token = token.BadQuote; len = 2 }) ≡ quoted_to (constant_end 0 rest) rest
unfolding seen_cut lexeme_of quoted_to
empty_constant c rest h = ap (λ o. quoted_to o rest) h

full_at : (c : Character) (rest : List Character) (n : ℕ) → 0 < n → seen_cut (c ∷ rest) (record { token = token.Quoted (record { from = 1; len = n }); len = n + 2 }) ≡ quoted_to (Some n) rest
unfolding seen_cut lexeme_of quoted_to
full_at c rest zero some = absurd (omega arith)
full_at c rest (suc n) some =
    let same : suc n + 2 ≡ suc (suc (suc n)) = omega arith in
    ap {B = Cut} (λ k. record { piece = Quoted (undoubled (take (suc n) rest)); rest = drop k (c ∷ rest) }) same

pub full_constant : (c : Character) (rest : List Character) (n : ℕ) → 0 < n → Some n ≡ constant_end 0 rest
    → seen_cut (c ∷ rest) (record { token = token.Quoted (record { from = 1; len = n }); len = n + 2 }) ≡ quoted_to (constant_end 0 rest) rest
full_constant c rest n some h = full_at c rest n some ∙ ap (λ o. quoted_to o rest) h

-- the end of a constant, one character or two apostrophes further
plain_at : (passed : ℕ) (c : Character) (rest : List Character) → is_mark 39 c ≡ false → constant_end passed (c ∷ rest) ≡ constant_end (passed + 1) rest
unfolding constant_end
plain_at passed c [] h = rw h refl
plain_at passed c (d ∷ rest) h = rw h refl

both_at : (passed : ℕ) (c d : Character) (rest : List Character) → is_mark 39 c ≡ true → is_mark 39 d ≡ true → constant_end passed (c ∷ d ∷ rest) ≡ constant_end (passed + 2) rest
unfolding constant_end
both_at passed c d rest h k = rw (h, k) refl

pub plain_on : (passed : ℕ) (e : Character) (text : List Character) → 1 ≤ length text → is_mark 39 (get_or text 0 e) ≡ false → constant_end passed text ≡ constant_end (passed + 1) (drop 1 text)
plain_on passed e [] some h = absurd (omega arith)
plain_on passed e (c ∷ rest) some h = plain_at passed c rest h

pub both_on : (passed : ℕ) (e : Character) (text behind : List Character) → behind ≡ drop 1 text → 1 ≤ length text → 1 ≤ length behind
    → is_mark 39 (get_or text 0 e) ≡ true → is_mark 39 (get_or behind 0 e) ≡ true → constant_end passed text ≡ constant_end (passed + 2) (drop 1 behind)
both_on passed e [] behind is some more h k = absurd (omega arith)
both_on passed e (c ∷ rest) [] is some more h k = absurd (omega arith)
both_on passed e (c ∷ rest) (d ∷ behind) is some more h k =
    ap (λ l. constant_end passed (c ∷ l)) (sym is) ∙ both_at passed c d behind h k
