-- Blanks behind the last column in a field of a number.
use Rattle.std.proofs.Common.{◌≡◌, ℕ, zero, suc, ℤ, pos, neg_ℤ, ◌+◌, ◌-◌, ◌*◌, ◌^◌, ◌<◌, ◌≤◌, ◌==◌, Bool, true, false, ◌&&◌, List, [], ◌∷◌, ◌++◌, replicate, Option, None, Some, refl, ap, sym, ◌∙◌, arith}
use Rattle.std.specs.Prelude.{Result, Ok, Err, if◌then◌else◌}
use Rattle.std.specs.Str.{all_ascii_digits}
use Rattle.std.specs.Char.{is_ascii_digit, digit_value}
use Rattle.std.specs.Str.Parse.{digits_value, digits_value_after}
use Rattle.std.proofs.lemmas.Bool.{lt-leb, le-ltb}
use Rattle.edit_rules.specs.edit_meaning.TakenFields.{behind_blanks, with_blanks_as, is_number, signed_int, int_of, int_behind_blanks, int_in, behind_point, truth_of, logical_in}

-- the number of the error, if there is one
abbrev pub failing_of : Result ℤ ℕ → Option ℕ
failing_of (Ok number) = None
failing_of (Err error) = Some error

all-blank : (k : ℕ) → behind_blanks (replicate k 32) ≡ []
all-blank zero = refl
all-blank (suc k) = all-blank k

-- ## Blanks that are left out

none-left : (k : ℕ) → with_blanks_as false (replicate k 32) ≡ []
none-left zero = refl
none-left (suc k) = none-left k

left-out : (xs : List ℕ) (k : ℕ) → with_blanks_as false (xs ++ replicate k 32) ≡ with_blanks_as false xs
left-out [] k = none-left k
left-out (c ∷ cs) k = ap (λ (rest : List ℕ). if c == 32 then rest else c ∷ rest) (left-out cs k)

-- ## Blanks that are zeros

zeros-alone : (k : ℕ) → with_blanks_as true (replicate k 32) ≡ replicate k 48
zeros-alone zero = refl
zeros-alone (suc k) = ap (λ (rest : List ℕ). 48 ∷ rest) (zeros-alone k)

as-zeros : (xs : List ℕ) (k : ℕ) → with_blanks_as true (xs ++ replicate k 32) ≡ with_blanks_as true xs ++ replicate k 48
as-zeros [] k = zeros-alone k
as-zeros (c ∷ cs) k = ap (λ (rest : List ℕ). (if c == 32 then 48 else c) ∷ rest) (as-zeros cs k)

zeros-digits : (k : ℕ) → all_ascii_digits (replicate k 48) ≡ true
zeros-digits zero = refl
zeros-digits (suc k) = zeros-digits k

digits-before : (ds : List ℕ) (k : ℕ) → all_ascii_digits (ds ++ replicate k 48) ≡ all_ascii_digits ds
digits-before [] k = zeros-digits k
digits-before (c ∷ cs) k = ap (λ (rest : Bool). is_ascii_digit c && rest) (digits-before cs k)

number-before : (ds : List ℕ) (k : ℕ) → is_number (ds ++ replicate (suc k) 48) ≡ all_ascii_digits (ds ++ replicate (suc k) 48)
number-before [] k = refl
number-before (c ∷ cs) k = refl

value-behind : (xs ys : List ℕ) (n : ℕ) → digits_value_after 10 n (xs ++ ys) ≡ digits_value_after 10 (digits_value_after 10 n xs) ys
value-behind [] ys n = refl
value-behind (c ∷ cs) ys n = value-behind cs ys (n * 10 + digit_value c)

-- zeros behind nothing
zeros-none : (k : ℕ) → digits_value_after 10 0 (replicate k 48) ≡ 0
zeros-none zero = refl
zeros-none (suc k) = zeros-none k

zeros-grow : (k n : ℕ) → n ≤ digits_value_after 10 n (replicate k 48)
zeros-grow zero n = omega arith
zeros-grow (suc k) n = let more : n * 10 + 0 ≤ digits_value_after 10 (n * 10 + 0) (replicate k 48) = zeros-grow k (n * 10 + 0) in omega arith

zeros-past : (limit n k : ℕ) → limit < n → limit < digits_value_after 10 n (replicate k 48)
zeros-past limit n k past = let more : n ≤ digits_value_after 10 n (replicate k 48) = zeros-grow k n in omega arith

-- ten zeros behind a number
ten-zeros : (n k : ℕ) → 1 ≤ n → 2 ^ 31 < digits_value_after 10 n (replicate (suc (suc (suc (suc (suc (suc (suc (suc (suc (suc k)))))))))) 48)
ten-zeros n k some =
    zeros-past (2 ^ 31) ((((((((((n * 10 + 0) * 10 + 0) * 10 + 0) * 10 + 0) * 10 + 0) * 10 + 0) * 10 + 0) * 10 + 0) * 10 + 0) * 10 + 0) k (omega arith)

abbrev ten_more : ℕ → ℕ
ten_more k = suc (suc (suc (suc (suc (suc (suc (suc (suc (suc k)))))))))

too-large : (negative : Bool) (limit size : ℕ) → limit < size → limit ≡ 2 ^ 31 → failing_of (signed_int negative size) ≡ Some 3
too-large true limit size past is =
    let large : 2 ^ 31 < size = omega arith in
    ap (λ (fits : Bool). failing_of (if fits then Ok (neg_ℤ (pos size)) else Err 3)) (lt-leb size (2 ^ 31) large)
too-large false limit size past is =
    let large : 2 ^ 31 ≤ size = omega arith in
    ap (λ (fits : Bool). failing_of (if fits then Ok (pos size) else Err 3)) (le-ltb size (2 ^ 31) large)

-- what a number comes to with zeros behind it
abbrev failing_as : Bool → Bool → ℕ → Option ℕ
failing_as negative numeral size = failing_of (if numeral then signed_int negative size else Err 1)

sized-same : (negative numeral : Bool) (n j k : ℕ) →
    failing_as negative numeral (digits_value_after 10 n (replicate (ten_more j) 48)) ≡ failing_as negative numeral (digits_value_after 10 n (replicate (ten_more k) 48))
sized-same negative false n j k = refl
sized-same negative true zero j k = ap (λ (size : ℕ). failing_of (signed_int negative size)) (zeros-none (ten_more j) ∙ sym (zeros-none (ten_more k)))
sized-same negative true (suc n) j k =
    too-large negative (2 ^ 31) (digits_value_after 10 (suc n) (replicate (ten_more j) 48)) (ten-zeros (suc n) j (omega arith)) refl
    ∙ sym (too-large negative (2 ^ 31) (digits_value_after 10 (suc n) (replicate (ten_more k) 48)) (ten-zeros (suc n) k (omega arith)) refl)

with-zeros : (negative : Bool) (ds : List ℕ) (k : ℕ) →
    failing_of (int_of negative (ds ++ replicate (ten_more k) 48))
    ≡ failing_as negative (all_ascii_digits ds) (digits_value_after 10 (digits_value 10 ds) (replicate (ten_more k) 48))
with-zeros negative ds k =
    ap (λ (numeral : Bool). failing_as negative numeral (digits_value 10 (ds ++ replicate (ten_more k) 48)))
    (number-before ds (suc (suc (suc (suc (suc (suc (suc (suc (suc k))))))))) ∙ digits-before ds (ten_more k))
    ∙ ap (failing_as negative (all_ascii_digits ds)) (value-behind ds (replicate (ten_more k) 48) 0)

zeros-same : (negative : Bool) (ds : List ℕ) (j k : ℕ) →
    failing_of (int_of negative (ds ++ replicate (ten_more j) 48)) ≡ failing_of (int_of negative (ds ++ replicate (ten_more k) 48))
zeros-same negative ds j k =
    with-zeros negative ds j ∙ sized-same negative (all_ascii_digits ds) (digits_value 10 ds) j k ∙ sym (with-zeros negative ds k)

-- ## A field with blanks behind it

digits-same : (negative zeros : Bool) (xs : List ℕ) (j k : ℕ) →
    failing_of (int_of negative (with_blanks_as zeros (xs ++ replicate (ten_more j) 32))) ≡ failing_of (int_of negative (with_blanks_as zeros (xs ++ replicate (ten_more k) 32)))
digits-same negative false xs j k =
    ap (λ (digits : List ℕ). failing_of (int_of negative digits)) (left-out xs (ten_more j) ∙ sym (left-out xs (ten_more k)))
digits-same negative true xs j k =
    ap (λ (digits : List ℕ). failing_of (int_of negative digits)) (as-zeros xs (ten_more j)) ∙ zeros-same negative (with_blanks_as true xs) j k
    ∙ ap (λ (digits : List ℕ). failing_of (int_of negative digits)) (sym (as-zeros xs (ten_more k)))

signed-same : (zeros minus plus : Bool) (c : ℕ) (cs : List ℕ) (j k : ℕ) →
    failing_of
    (if minus then int_of true (with_blanks_as zeros (cs ++ replicate (ten_more j) 32))
    else (if plus then int_of false (with_blanks_as zeros (cs ++ replicate (ten_more j) 32)) else int_of false (with_blanks_as zeros (c ∷ (cs ++ replicate (ten_more j) 32)))))
    ≡ failing_of
    (if minus then int_of true (with_blanks_as zeros (cs ++ replicate (ten_more k) 32))
    else (if plus then int_of false (with_blanks_as zeros (cs ++ replicate (ten_more k) 32)) else int_of false (with_blanks_as zeros (c ∷ (cs ++ replicate (ten_more k) 32)))))
signed-same zeros true plus c cs j k = digits-same true zeros cs j k
signed-same zeros false true c cs j k = digits-same false zeros cs j k
signed-same zeros false false c cs j k = digits-same false zeros (c ∷ cs) j k

abbrev failing_in : Bool → List ℕ → Option ℕ
failing_in zeros field = failing_of (int_behind_blanks zeros (behind_blanks field))

blank-by : (zeros blank : Bool) (c : ℕ) (cs : List ℕ) (j k : ℕ) → failing_in zeros (cs ++ replicate (ten_more j) 32) ≡ failing_in zeros (cs ++ replicate (ten_more k) 32) →
    failing_of (int_behind_blanks zeros (if blank then behind_blanks (cs ++ replicate (ten_more j) 32) else c ∷ (cs ++ replicate (ten_more j) 32)))
    ≡ failing_of (int_behind_blanks zeros (if blank then behind_blanks (cs ++ replicate (ten_more k) 32) else c ∷ (cs ++ replicate (ten_more k) 32)))
blank-by zeros true c cs j k before = before
blank-by zeros false c cs j k before = signed-same zeros (c == 45) (c == 43) c cs j k

field-same : (zeros : Bool) (xs : List ℕ) (j k : ℕ) → failing_in zeros (xs ++ replicate (ten_more j) 32) ≡ failing_in zeros (xs ++ replicate (ten_more k) 32)
field-same zeros [] j k = ap (λ (rest : List ℕ). failing_of (int_behind_blanks zeros rest)) (all-blank (ten_more j) ∙ sym (all-blank (ten_more k)))
field-same zeros (c ∷ cs) j k = blank-by zeros (c == 32) c cs j k (field-same zeros cs j k)

ten-at-least : (n : ℕ) → 10 ≤ n → n ≡ ten_more (n - 10)
ten-at-least n some = omega arith

-- ten blanks or more behind a field: the error is the same
pub int-failing : (zeros : Bool) (xs : List ℕ) (j k : ℕ) → 10 ≤ j → 10 ≤ k → failing_of (int_in (xs ++ replicate j 32) zeros) ≡ failing_of (int_in (xs ++ replicate k 32) zeros)
unfolding int_in
int-failing zeros xs j k a b =
    ap (λ (n : ℕ). failing_in zeros (xs ++ replicate n 32)) (ten-at-least j a) ∙ field-same zeros xs (j - 10) (k - 10)
    ∙ ap (λ (n : ℕ). failing_in zeros (xs ++ replicate n 32)) (sym (ten-at-least k b))

-- ## Logicals

truth-before : (cs : List ℕ) (k : ℕ) → truth_of (cs ++ replicate k 32) ≡ truth_of cs
truth-before [] zero = refl
truth-before [] (suc k) = refl
truth-before (c ∷ cs) k = refl

point-by : (point : Bool) (c : ℕ) (cs : List ℕ) (k : ℕ) →
    truth_of (if point then cs ++ replicate k 32 else c ∷ (cs ++ replicate k 32)) ≡ truth_of (if point then cs else c ∷ cs)
point-by true c cs k = truth-before cs k
point-by false c cs k = refl

letter-by : (blank : Bool) (c : ℕ) (cs : List ℕ) (k : ℕ) →
    truth_of (behind_point (behind_blanks (cs ++ replicate k 32))) ≡ truth_of (behind_point (behind_blanks cs)) →
    truth_of (behind_point (if blank then behind_blanks (cs ++ replicate k 32) else c ∷ (cs ++ replicate k 32)))
    ≡ truth_of (behind_point (if blank then behind_blanks cs else c ∷ cs))
letter-by true c cs k before = before
letter-by false c cs k before = point-by (c == 46) c cs k

letter-before : (xs : List ℕ) (k : ℕ) → truth_of (behind_point (behind_blanks (xs ++ replicate k 32))) ≡ truth_of (behind_point (behind_blanks xs))
letter-before [] k = ap (λ (rest : List ℕ). truth_of (behind_point rest)) (all-blank k)
letter-before (c ∷ cs) k = letter-by (c == 32) c cs k (letter-before cs k)

-- blanks behind a field do not matter
pub logical-before : (xs : List ℕ) (k : ℕ) → logical_in (xs ++ replicate k 32) ≡ logical_in xs
unfolding logical_in
logical-before xs k = letter-before xs k
