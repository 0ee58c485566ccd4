-- Integers and logicals that were listed are read back by list-directed input.
use Rattle.std.proofs.Common.{◌≡◌, ◌⊎◌, inl, inr, ℕ, ℤ, pos, negsuc, neg_ℤ, suc, ◌+◌, ◌%◌, ◌^◌, ◌<◌, ◌≤◌, ◌==◌, nat_lt, nat_le, Bool, true, false, not, ◌&&◌, ◌||◌, if◌then◌else◌, None, Ok, Err, List, [], ◌∷◌, ◌++◌, length, take, drop, refl, sym, ap, ◌∙◌, subst, arith, one-add, append_assoc, append-nil, map}
use Rattle.std.specs.Bool.{⊤}
use Rattle.std.specs.Str.Parse.{digits_value}
use Rattle.std.proofs.lemmas.Bool.{and_parts, and_from, lt-ltb, le-leb, cases_lt}
use Rattle.std.proofs.lemmas.Bool.Decides.{nat_tests}
use Rattle.std.proofs.lemmas.Fmt.{length-decimal-le, decimal_by_steps, decimal_is_IsNumeral}
use Rattle.edit_meaning.specs.ListItems.{Value, IntValue, LogicalValue, TextValue, Items, Filled, items_from, items, led_by, Follows}
use Rattle.edit_rules.proofs.ItemSteps.{given-follows}
use Rattle.edit_meaning.specs.TakenFields.{signed_int}
use Rattle.std.specs.Fmt.{decimal}
use Rattle.std.specs.Char.{is_ascii_digit}
use Rattle.std.specs.Str.{all_ascii_digits}
use Rattle.std.specs.List.{list_all}
use Rattle.edit_meaning.specs.Listed.{ListedValue, Int, Logical, Text, shown, Listing, begun, followed_by, listing_from, listing, listed}
use Rattle.edit_rules.specs.Writer.{only, behind}
use Rattle.edit_rules.proofs.ListedSteps.{in_place, in_next_record, followed_by-after}
use Rattle.edit_meaning.specs.ListInput.{Kind, IntItem, LogicalItem, TextItem, Place, Between, Given, Number, Truth, Piece, is_separator, Sought, sought, counted_as, AtValue, digit_count, count_before, begins_with, word_length, int_word, logical_word, constant_as, given_behind, given, given_number, given_truth, count_of}

-- characters that end a word: none, or a blank first
EndsWord : List ℕ → Type 0
EndsWord [] = ⊤
EndsWord (c ∷ cs) = c ≡ 32

-- characters that no separator is among
abbrev in_word : List ℕ → Bool
in_word word = list_all (λ c. not (is_separator c)) word

word_end_by : (b : Bool) (n m : ℕ) → not b ≡ true → n ≡ m → (if not b then 1 + n else 0) ≡ suc m
word_end_by true n m f h = absurd (cc)
word_end_by false n m f h = rw (one-add, h) refl

word_end : (word tail : List ℕ) → in_word word ≡ true → EndsWord tail → word_length (word ++ tail) ≡ length word
unfolding EndsWord
word_end [] [] h t = refl
word_end [] (c ∷ cs) h t = rw t refl
word_end (c ∷ word) tail h t = let parts = and_parts _ _ h in word_end_by (is_separator c) _ (length word) parts.0 (word_end word tail parts.1 t)

digit_end : (digits tail : List ℕ) → all_ascii_digits digits ≡ true → EndsWord tail → digit_count (digits ++ tail) ≡ length digits
unfolding EndsWord
digit_end [] [] h t = refl
digit_end [] (c ∷ cs) h t = rw t refl
digit_end (c ∷ digits) tail h t = let parts = and_parts _ _ h in digit_end_by (is_ascii_digit c) _ (length digits) parts.0 (digit_end digits tail parts.1 t)
  where
    digit_end_by : (b : Bool) (n m : ℕ) → b ≡ true → n ≡ m → (if not (not b) then 1 + n else 0) ≡ suc m
    digit_end_by true n m f h = rw (one-add, h) refl
    digit_end_by false n m f h = absurd (cc)

no_star : (tail : List ℕ) → EndsWord tail → begins_with 42 tail ≡ false
unfolding EndsWord
no_star [] t = refl
no_star (c ∷ cs) t = rw t refl

digit_in_word : (c : ℕ) → is_ascii_digit c ≡ true → not (is_separator c) ≡ true
digit_in_word c h = grind (arith, nat_tests)

digits_in_word : (digits : List ℕ) → all_ascii_digits digits ≡ true → in_word digits ≡ true
digits_in_word [] h = refl
digits_in_word (c ∷ cs) h = let parts = and_parts _ _ h in and_from _ _ (digit_in_word c parts.0) (digits_in_word cs parts.1)

take_word : (word tail : List ℕ) → take (length word) (word ++ tail) ≡ word
take_word [] tail = refl
take_word (c ∷ word) tail = ap (λ z. c ∷ z) (take_word word tail)

drop_word : (word tail : List ℕ) → drop (length word) (word ++ tail) ≡ tail
drop_word [] tail = refl
drop_word (c ∷ word) tail = drop_word word tail

-- a constant that is a word in front of its end
int_constant : (word tail : List ℕ) (z : ℤ) → in_word word ≡ true → EndsWord tail → int_word word ≡ Ok z
    → constant_as IntItem 0 (word ++ tail) ≡ Number z (Between true tail)
int_constant word tail z h t e =
    let w : word_length (word ++ tail) ≡ length word = word_end word tail h t in
    ap (λ n. given_number (int_word (take n (word ++ tail))) (Between true (drop n (word ++ tail)))) w
    ∙ ap (λ x. given_number (int_word x) (Between true (drop (length word) (word ++ tail)))) (take_word word tail)
    ∙ ap (λ x. given_number (int_word word) (Between true x)) (drop_word word tail)
    ∙ ap (λ r. given_number r (Between true tail)) e

truth_constant : (word tail : List ℕ) (b : Bool) → in_word word ≡ true → EndsWord tail → logical_word word ≡ Ok b
    → constant_as LogicalItem 0 (word ++ tail) ≡ Truth b (Between true tail)
truth_constant word tail b h t e =
    let w : word_length (word ++ tail) ≡ length word = word_end word tail h t in
    ap (λ n. given_truth (logical_word (take n (word ++ tail))) (Between true (drop n (word ++ tail)))) w
    ∙ ap (λ x. given_truth (logical_word x) (Between true (drop (length word) (word ++ tail)))) (take_word word tail)
    ∙ ap (λ x. given_truth (logical_word word) (Between true x)) (drop_word word tail)
    ∙ ap (λ r. given_truth r (Between true tail)) e

-- digits before an end are no repeat count
no_count : (digits tail : List ℕ) → all_ascii_digits digits ≡ true → EndsWord tail → count_before (digits ++ tail) ≡ None
no_count digits tail h t =
    ap (λ b. if b then count_of (digits_value 10 (take (digit_count (digits ++ tail)) (digits ++ tail))) else None)
    (ap (λ n. begins_with 42 (drop n (digits ++ tail))) (digit_end digits tail h t) ∙ ap (begins_with 42) (drop_word digits tail) ∙ no_star tail t)

-- the digits of a number are read as the number
digits_read : (c : ℕ) (cs : List ℕ) (n : ℕ) → all_ascii_digits (c ∷ cs) ≡ true → digits_value 10 (c ∷ cs) ≡ n → n < 2 ^ 31 → int_word (c ∷ cs) ≡ Ok (pos n)
digits_read c cs n h v small =
    let parts = and_parts _ _ h in
    let minus : (c == 45) ≡ false = not_sign c 45 parts.0 (omega arith) in
    let plus : (c == 43) ≡ false = not_sign c 43 parts.0 (omega arith) in
    rw (minus, plus) (by_number (all_ascii_digits (c ∷ cs)) (digits_value 10 (c ∷ cs)) n h v small)
  where
    not_sign : (c s : ℕ) → is_ascii_digit c ≡ true → s < 48 → (c == s) ≡ false
    not_sign c s h l = grind (arith, nat_tests)

    by_number : (b : Bool) (v n : ℕ) → b ≡ true → v ≡ n → n < 2 ^ 31 → (if b then signed_int false v else Err 1) ≡ Ok (pos n)
    by_number true v n h e l = let t : nat_lt n (2 ^ 31) ≡ true = lt-ltb n (2 ^ 31) l in rw (e, t) refl
    by_number false v n h e l = absurd (cc)

all_digits-push : (ds : List ℕ) (c : ℕ) → all_ascii_digits ds ≡ true → is_ascii_digit c ≡ true → all_ascii_digits (ds ++ c ∷ []) ≡ true
all_digits-push [] c h d = rw d refl
all_digits-push (x ∷ ds) c h d = let parts = and_parts _ _ h in and_from _ _ parts.0 (all_digits-push ds c parts.1 d)

last_digit : (n : ℕ) → is_ascii_digit (48 + n % 10) ≡ true
last_digit n = let r : n % 10 < 10 = omega arith in grind (arith, nat_tests)

decimal_digits : (n : ℕ) → n < 2 ^ 64 → all_ascii_digits (decimal n) ≡ true
decimal_digits n h = decimal_by_steps (λ n ds. all_ascii_digits ds ≡ true) (λ n h. one n h) (λ n ds _ e. all_digits-push ds _ e (last_digit n)) n h
  where
    one : (n : ℕ) → n < 10 → all_ascii_digits ((48 + n) ∷ []) ≡ true
    one n h = grind (arith, nat_tests)

int_read : (ds : List ℕ) (n : ℕ) → all_ascii_digits ds ≡ true → 0 < length ds → digits_value 10 ds ≡ n → n < 2 ^ 31 → int_word ds ≡ Ok (pos n)
int_read [] n h l v s = absurd (omega arith)
int_read (c ∷ cs) n h l v s = digits_read c cs n h v s

negative_read : (ds : List ℕ) (n : ℕ) → all_ascii_digits ds ≡ true → 0 < length ds → digits_value 10 ds ≡ n → n ≤ 2 ^ 31 → int_word (45 ∷ ds) ≡ Ok (neg_ℤ (pos n))
negative_read [] n h l v s = absurd (omega arith)
negative_read (c ∷ cs) n h l v s = let t : nat_le n (2 ^ 31) ≡ true = le-leb n (2 ^ 31) s in rw (h, v, t) refl

seek_by : (a b d valued : Bool) (x y z w : Sought) → not (a || (b || d)) ≡ true
    → (if a || (b && valued) then x else (if b then y else (if d then z else w))) ≡ w
seek_by true b d valued x y z w h = absurd (cc)
seek_by false true d valued x y z w h = absurd (cc)
seek_by false false true valued x y z w h = absurd (cc)
seek_by false false false valued x y z w h = refl

seek_word : (valued : Bool) (c : ℕ) (cs : List ℕ) → not (is_separator c) ≡ true → sought valued (c ∷ cs) ≡ AtValue (c ∷ cs)
seek_word valued c cs h = seek_by (c == 32) (c == 44) (c == 47) valued _ _ _ _ h

seek_behind_blank : (valued : Bool) (word tail : List ℕ) → 0 < length word → in_word word ≡ true → sought valued (32 ∷ (word ++ tail)) ≡ AtValue (word ++ tail)
seek_behind_blank valued [] tail l h = absurd (omega arith)
seek_behind_blank valued (c ∷ word) tail l h = seek_word (valued && true) c (word ++ tail) (and_parts _ _ h).0

-- the integers of 32 bits and the logicals
abbrev pub IsPlain : ListedValue → Type 0
IsPlain (Int (pos n)) = n < 2 ^ 31
IsPlain (Int (negsuc n)) = n < 2 ^ 31
IsPlain (Logical truth) = ⊤
IsPlain (Text bytes) = ⊥

abbrev pub kind_for : ListedValue → Kind
kind_for (Int z) = IntItem
kind_for (Logical truth) = LogicalItem
kind_for (Text bytes) = TextItem

abbrev pub taken_for : ListedValue → Value
taken_for (Int z) = IntValue z
taken_for (Logical truth) = LogicalValue truth
taken_for (Text bytes) = TextValue bytes

abbrev given_for : ListedValue → Place → Given
given_for (Int z) place = Number z place
given_for (Logical truth) place = Truth truth place
given_for (Text bytes) place = Piece bytes false place

value_read : (value : ListedValue) (tail : List ℕ) (valued : Bool) → IsPlain value → EndsWord tail
    → given (Between valued (shown value ++ tail)) (kind_for value) ≡ given_for value (Between true tail)
unfolding given shown
value_read (Int (pos n)) tail valued p t =
    let number = decimal_is_IsNumeral n (omega arith) in
    let digits = decimal_digits n (omega arith) in
    let word = digits_in_word (decimal n) digits in
    ap (given_behind IntItem) (seek_behind_blank valued (decimal n) tail number.0.0 word)
    ∙ ap (λ o. counted_as IntItem o (decimal n ++ tail)) (no_count (decimal n) tail digits t)
    ∙ int_constant (decimal n) tail (pos n) word t (int_read (decimal n) n digits number.0.0 number.1 p)
value_read (Int (negsuc n)) tail valued p t =
    let number = decimal_is_IsNumeral (suc n) (omega arith) in
    let digits = decimal_digits (suc n) (omega arith) in
    let word = digits_in_word (decimal (suc n)) digits in
    int_constant (45 ∷ decimal (suc n)) tail (negsuc n) word t (negative_read (decimal (suc n)) (suc n) digits number.0.0 number.1 (omega arith))
value_read (Logical true) tail valued p t = truth_constant (84 ∷ []) tail true refl t refl
value_read (Logical false) tail valued p t = truth_constant (70 ∷ []) tail false refl t refl
value_read (Text bytes) tail valued p t = absurd p

follows-value : (value : ListedValue) (all : Items) (later : List (List ℕ)) (kinds : List Kind) (place : Place) → IsPlain value
    → Follows all later (kind_for value) kinds (given_for value place) → all ≡ led_by (taken_for value) (items_from place later kinds)
follows-value (Int z) all later kinds place p f = f
follows-value (Logical truth) all later kinds place p f = f
follows-value (Text bytes) all later kinds place p f = absurd p

-- a value is the first of the items
item_read : (value : ListedValue) (tail : List ℕ) (valued : Bool) (later : List (List ℕ)) (kinds : List Kind) → IsPlain value → EndsWord tail
    → items_from (Between valued (shown value ++ tail)) later (kind_for value ∷ kinds) ≡ led_by (taken_for value) (items_from (Between true tail) later kinds)
item_read value tail valued later kinds p t =
    follows-value value _ later kinds (Between true tail) p
    (subst (λ g. Follows (items_from (Between valued (shown value ++ tail)) later (kind_for value ∷ kinds)) later (kind_for value) kinds g) (value_read value tail valued p t)
    (given-follows (Between valued (shown value ++ tail)) later (kind_for value) kinds))

-- a blank in front is passed
blank_passed : (valued : Bool) (rest : List ℕ) (later : List (List ℕ)) (kinds : List Kind)
    → items_from (Between valued (32 ∷ rest)) later kinds ≡ items_from (Between (valued && true) rest) later kinds
unfolding items_from given
blank_passed valued rest later [] = refl
blank_passed valued rest [] (kind ∷ kinds) = refl
blank_passed valued rest (next ∷ later) (kind ∷ kinds) = refl

-- where the record is used up the items go on in the next one
record_passed : (valued : Bool) (next : List ℕ) (later : List (List ℕ)) (kind : Kind) (kinds : List Kind)
    → items_from (Between valued []) (next ∷ later) (kind ∷ kinds) ≡ items_from (Between valued next) later (kind ∷ kinds)
unfolding given
record_passed valued next later kind kinds = given-follows (Between valued []) (next ∷ later) kind kinds

abbrev pub AllPlain : List ListedValue → Type 0
AllPlain [] = ⊤
AllPlain (value ∷ values) = IsPlain value × AllPlain values

-- the values as items take them
abbrev pub plain_items : List ListedValue → Items
plain_items values = record { values = map taken_for values; outcome = Filled }

abbrev records_of : Listing → List (List ℕ)
records_of out = out.complete ++ out.making ∷ []

shown_ends : (value : ListedValue) (tail : List ℕ) → IsPlain value → EndsWord (shown value ++ tail)
unfolding EndsWord shown
shown_ends (Int (pos n)) tail p = refl
shown_ends (Int (negsuc n)) tail p = refl
shown_ends (Logical true) tail p = refl
shown_ends (Logical false) tail p = refl
shown_ends (Text bytes) tail p = absurd p

shown_short : (value : ListedValue) → IsPlain value → length (shown value) ≤ 12
unfolding shown
shown_short (Int (pos n)) p = let l = length-decimal-le 10 n (omega arith) (omega arith) (omega arith) in omega arith
shown_short (Int (negsuc n)) p = let l = length-decimal-le 10 (suc n) (omega arith) (omega arith) (omega arith) in omega arith
shown_short (Logical true) p = omega arith
shown_short (Logical false) p = omega arith
shown_short (Text bytes) p = absurd p

listing_from-behind : (first : List ℕ) (out : Listing) (values : List ListedValue) → listing_from (behind first out) values ≡ behind first (listing_from out values)
unfolding listing_from
listing_from-behind first out [] = refl
listing_from-behind first out (value ∷ values) =
    ap (λ o. listing_from o values) (followed_by-after (first ∷ []) out (shown value)) ∙ listing_from-behind first (followed_by out (shown value)) values

-- the rest of the record in the making and the later records, and that the values are read from there
record ReadsFrom (making : List ℕ) (values : List ListedValue) : Type 0 where
  rest : List ℕ
  later : List (List ℕ)
  ends : EndsWord rest
  records : records_of (listing_from (only making) values) ≡ (making ++ rest) ∷ later
  reads : (valued : Bool) → items_from (Between valued rest) later (map kind_for values) ≡ plain_items values

reads_fitting : (making : List ℕ) (value : ListedValue) (values : List ListedValue) → IsPlain value → length making + length (shown value) ≤ 80
    → ReadsFrom (making ++ shown value) values → ReadsFrom making (value ∷ values)
unfolding listing_from
reads_fitting making value values p fits on = record {
  rest = shown value ++ on.rest;
  later = on.later;
  ends = shown_ends value on.rest p;
  records = ap (λ out. records_of (listing_from out values)) (in_place (only making) (shown value) fits)
      ∙ on.records ∙ ap (λ z. z ∷ on.later) (append_assoc making (shown value) on.rest);
  reads = λ (valued : Bool). item_read value on.rest valued on.later (map kind_for values) p on.ends ∙ ap (led_by (taken_for value)) (on.reads true);
}

reads_next : (making : List ℕ) (value : ListedValue) (values : List ListedValue) → IsPlain value → 80 < length making + length (shown value)
    → ReadsFrom (32 ∷ shown value) values → ReadsFrom making (value ∷ values)
unfolding listing_from begun EndsWord
reads_next making value values p passes on =
    let short : length (shown value) ≤ 12 = shown_short value p in
    let next : List ℕ = (32 ∷ shown value) ++ on.rest in
    record {
      rest = [];
      later = next ∷ on.later;
      ends = tt;
      records = ap (λ out. records_of (listing_from out values))
          (in_next_record making (shown value) passes (omega arith) ∙ ap (behind making) (in_place begun (shown value) (omega arith)))
          ∙ ap records_of (listing_from-behind making (only (32 ∷ shown value)) values)
          ∙ ap (λ rs. making ∷ rs) on.records ∙ ap (λ z. z ∷ next ∷ on.later) (sym (append-nil making));
      reads = λ (valued : Bool). record_passed valued next on.later (kind_for value) (map kind_for values)
          ∙ blank_passed valued (shown value ++ on.rest) on.later (kind_for value ∷ map kind_for values)
          ∙ item_read value on.rest (valued && true) on.later (map kind_for values) p on.ends ∙ ap (led_by (taken_for value)) (on.reads true);
    }

reads_by : (making : List ℕ) (value : ListedValue) (values : List ListedValue) → IsPlain value → ReadsFrom (32 ∷ shown value) values → ReadsFrom (making ++ shown value) values
    → (80 < length making + length (shown value)) ⊎ (length making + length (shown value) ≤ 80) → ReadsFrom making (value ∷ values)
reads_by making value values p next on (inl passes) = reads_next making value values p passes next
reads_by making value values p next on (inr fits) = reads_fitting making value values p fits on

reads_from : (values : List ListedValue) (making : List ℕ) → AllPlain values → ReadsFrom making values
unfolding listing_from items_from EndsWord
reads_from [] making p = record {
  rest = [];
  later = [];
  ends = tt;
  records = ap (λ z. z ∷ []) (sym (append-nil making));
  reads = λ valued. refl;
}
reads_from (value ∷ values) making p =
    reads_by making value values p.0 (reads_from values (32 ∷ shown value) p.1) (reads_from values (making ++ shown value) p.1) (cases_lt 80 (length making + length (shown value)))

-- integers of 32 bits and logicals that were listed are read back, whatever records they came to stand in
pub listed-read : (values : List ListedValue) → AllPlain values → items (listed values true) (map kind_for values) ≡ plain_items values
unfolding items listed listing begun
listed-read values p =
    let r : ReadsFrom (32 ∷ []) values = reads_from values (32 ∷ []) p in
    ap (λ rs. items rs (map kind_for values)) r.records ∙ blank_passed false r.rest r.later (map kind_for values) ∙ r.reads false
