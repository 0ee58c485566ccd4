-- A text that spells a list of items, part by part.
use Rattle.std.proofs.Common.{◌≡◌, ◌==◌, ◌⊎◌, inl, inr, Bool, true, false, ◌||◌, if◌then◌else◌, Some, None, IsTrue, max, List, [], ◌∷◌, ◌++◌, ℕ, suc, ◌+◌, ◌-◌, ◌*◌, ◌≤◌, ◌<◌, length, take, drop, refl, sym, ap, ◌∙◌, subst, arith}
use Rattle.std.specs.Char.{is_ascii_digit, to_ascii_uppercase}
use Rattle.std.proofs.lemmas.Grind.{common_steps}
use Rattle.edit_meaning.specs.Formats.{Descriptor, IntIn, LogicalIn, TextIn, Control, Literal, ToColumn, LeftBy, RightBy, NextRecord, PlusSigns, Format, Empty, Group, Edit, Item, Act, Stop, copies, pass, last_group}
use Rattle.edit_meaning.specs.FormatGrammar.{seen, is_from, Digits, no_more, one_more, Number, digits, Repeat, once, times, Describes, int_of_width, int_of_least, logical_of_width, text_whole, text_of_width, NoQuote, Quoted, ends, doubled, other, Controls, in_apostrophes, hollerith, skip, to_column, left_by, right_by, plus_as_ever, plus_suppressed, plus_produced, blanks_null, blanks_zero, Scales, unsigned, signed, Joint, Wanted, Free, Behind, SpellsList, right_parenthesis, comma, descriptor, control, group, slash, slashes, colon, scale}
use Rattle.edit_rules.specs.FormatParts as parts
use Rattle.edit_rules.specs.FormatParts.{Counted, Sign, Parted, number_from, number_of, next_sign, sign_of, with_digit, giving, int_part, int_by, int_point, int_least, logical_part, text_part, plus_part, plus_by, blanks_part, tab_part, tab_by, moving, quoted_part, verbatim_part, letter_part, part_by, part_behind, part_of}
use Rattle.edit_meaning.specs.ListItems.{characters, behind_text}
use Rattle.edit_rules.proofs.PartSteps.{unlike, bool_is}

-- a digit has no case
digit_up : (c : ℕ) → is_ascii_digit (to_ascii_uppercase c) ≡ true → to_ascii_uppercase c ≡ c
digit_up c h = grind arith

digit_down : (c : ℕ) → is_ascii_digit (to_ascii_uppercase c) ≡ false → is_ascii_digit c ≡ false
digit_down c h = grind arith

number_digit : (n : ℕ) (whole before : List ℕ) (digit : ℕ) (middle : List ℕ) → seen before ≡ digit ∷ middle → is_ascii_digit digit ≡ true
    → number_from n whole before ≡ number_from (with_digit n digit) middle middle
number_digit n whole [] digit middle e d = absurd (cc)
number_digit n whole (c ∷ cs) digit middle e d = by_blank (λ g. number_digit n whole cs digit middle g d) (c == 32) refl where
  by_digit : to_ascii_uppercase c ∷ cs ≡ digit ∷ middle → (if is_ascii_digit c then number_from (with_digit n c) cs cs else record { number = n; behind = whole }) ≡ number_from (with_digit n digit) middle middle
  by_digit g =
      let up : to_ascii_uppercase c ≡ digit = cc in
      let rest : cs ≡ middle = cc in
      let same : to_ascii_uppercase c ≡ c = digit_up c (ap is_ascii_digit up ∙ d) in
      let this : c ≡ digit = cc in
      ap (λ q. if q then number_from (with_digit n c) cs cs else record { number = n; behind = whole }) (ap is_ascii_digit this ∙ d)
      ∙ ap (λ k. number_from (with_digit n k) cs cs) this ∙ ap (λ r. number_from (with_digit n digit) r r) rest

  by_blank : (seen cs ≡ digit ∷ middle → number_from n whole cs ≡ number_from (with_digit n digit) middle middle) → (b : Bool) → (c == 32) ≡ b → number_from n whole (c ∷ cs) ≡ number_from (with_digit n digit) middle middle
  by_blank later true f =
      ap (λ q. if q then number_from n whole cs else (if is_ascii_digit c then number_from (with_digit n c) cs cs else record { number = n; behind = whole })) f
      ∙ later (sym (ap (λ q. if q then seen cs else to_ascii_uppercase c ∷ cs) f) ∙ e)
  by_blank later false f =
      ap (λ q. if q then number_from n whole cs else (if is_ascii_digit c then number_from (with_digit n c) cs cs else record { number = n; behind = whole })) f
      ∙ by_digit (sym (ap (λ q. if q then seen cs else to_ascii_uppercase c ∷ cs) f) ∙ e)

number_ended : (n : ℕ) (whole before : List ℕ) (character : ℕ) (rest : List ℕ) → seen before ≡ character ∷ rest → is_ascii_digit character ≡ false
    → number_from n whole before ≡ record { number = n; behind = whole }
number_ended n whole [] k rest e d = refl
number_ended n whole (c ∷ cs) k rest e d = by_blank (λ g. number_ended n whole cs k rest g d) (c == 32) refl where
  by_blank : (seen cs ≡ k ∷ rest → number_from n whole cs ≡ record { number = n; behind = whole }) → (b : Bool) → (c == 32) ≡ b → number_from n whole (c ∷ cs) ≡ record { number = n; behind = whole }
  by_blank later true f =
      ap (λ q. if q then number_from n whole cs else (if is_ascii_digit c then number_from (with_digit n c) cs cs else record { number = n; behind = whole })) f
      ∙ later (sym (ap (λ q. if q then seen cs else to_ascii_uppercase c ∷ cs) f) ∙ e)
  by_blank later false f =
      let g : to_ascii_uppercase c ∷ cs ≡ k ∷ rest = sym (ap (λ q. if q then seen cs else to_ascii_uppercase c ∷ cs) f) ∙ e in
      let up : to_ascii_uppercase c ≡ k = cc in
      ap (λ q. if q then number_from n whole cs else (if is_ascii_digit c then number_from (with_digit n c) cs cs else record { number = n; behind = whole })) f
      ∙ ap (λ q. if q then number_from (with_digit n c) cs cs else record { number = n; behind = whole }) (digit_down c (ap is_ascii_digit up ∙ d))

pub sign_shown : (before : List ℕ) (k : ℕ) (rest : List ℕ) → seen before ≡ k ∷ rest → sign_of before ≡ record { character = k; behind = rest }
unfolding sign_of
sign_shown [] k rest e = absurd (cc)
sign_shown (c ∷ cs) k rest e = by_blank (sign_shown cs k rest) (c == 32) refl where
  by_blank : (seen cs ≡ k ∷ rest → next_sign cs ≡ record { character = k; behind = rest }) → (b : Bool) → (c == 32) ≡ b → next_sign (c ∷ cs) ≡ record { character = k; behind = rest }
  by_blank later true f =
      ap (λ q. if q then next_sign cs else record { character = to_ascii_uppercase c; behind = cs }) f
      ∙ later (sym (ap (λ q. if q then seen cs else to_ascii_uppercase c ∷ cs) f) ∙ e)
  by_blank later false f =
      let g : to_ascii_uppercase c ∷ cs ≡ k ∷ rest = sym (ap (λ q. if q then seen cs else to_ascii_uppercase c ∷ cs) f) ∙ e in
      ap (λ q. if q then next_sign cs else record { character = to_ascii_uppercase c; behind = cs }) f
      ∙ ap (λ (l : List ℕ). let s : Sign = record { character = to_ascii_uppercase c; behind = l } in s) (let r : cs ≡ rest = cc in r)
      ∙ ap (λ u. let s : Sign = record { character = u; behind = rest } in s) (let r : to_ascii_uppercase c ≡ k = cc in r)

digits_up : {begun number : ℕ} {before after : List ℕ} → Digits begun number before after → begun ≤ number
digits_up no_more = omega arith
digits_up (one_more e d more) = omega (arith, digits_up more)

digits_read : {begun number : ℕ} {before after : List ℕ} → (whole : List ℕ) → Digits begun number before after → (k : ℕ) (rest : List ℕ) → seen after ≡ k ∷ rest → is_ascii_digit k ≡ false
    → number ≤ 65535 → number_from begun before before ≡ record { number = number; behind = after }
digits_read {before = before} whole no_more k rest e d l = number_ended _ before before k rest e d
digits_read {begun = begun} {before = before} whole (one_more {digit = digit} {middle = middle} s t more) k rest e d l =
    let fits : with_digit begun digit ≡ begun * 10 + (digit - 48) = omega (arith, digits_up more) in
    number_digit begun before before digit middle s (t) ∙ ap (λ n. number_from n middle middle) fits ∙ digits_read whole more k rest e d l

number_read : {number : ℕ} {before after : List ℕ} → Number number before after → (k : ℕ) (rest : List ℕ) → seen after ≡ k ∷ rest → is_ascii_digit k ≡ false
    → number ≤ 65535 → number_of before ≡ record { number = number; behind = after }
unfolding number_of
number_read {before = before} (digits {digit = digit} {middle = middle} s t more) k rest e d l =
    let fits : with_digit 0 digit ≡ digit - 48 = omega (arith, digits_up more) in
    number_digit 0 before before digit middle s (t) ∙ ap (λ n. number_from n middle middle) fits ∙ digits_read middle more k rest e d l

number_none : (before : List ℕ) (k : ℕ) (rest : List ℕ) → seen before ≡ k ∷ rest → is_ascii_digit k ≡ false → number_of before ≡ record { number = 0; behind = before }
unfolding number_of
number_none before k rest e d = number_ended 0 before before k rest e d

from_read : (least most n : ℕ) → IsTrue (is_from least most n) → (least ≤ n) × (n ≤ most)
from_read least most n h = (grind arith, grind arith)

part_shown : (before letter rest : List ℕ) (n k : ℕ) → number_of before ≡ record { number = n; behind = letter } → seen letter ≡ k ∷ rest
    → part_of before ≡ part_by n (record { character = k; behind = rest })
unfolding part_of
part_shown before letter rest n k e s = ap part_behind e ∙ ap (part_by n) (sign_shown letter k rest s)

-- a repeat in front of a character that is no digit
record Repeated (repeat : ℕ) (before letter : List ℕ) : Type 0 where
  number : ℕ
  reads : number_of before ≡ record { number = number; behind = letter }
  is : max number 1 ≡ repeat

repeated : {repeat : ℕ} {before letter : List ℕ} → Repeat repeat before letter → (k : ℕ) (rest : List ℕ) → seen letter ≡ k ∷ rest → is_ascii_digit k ≡ false
    → Repeated repeat before letter
repeated {before = before} once k rest e d = record { number = 0; reads = number_none before k rest e d; is = refl }
repeated {repeat = repeat} (times number fits) k rest e d =
    let f : (1 ≤ repeat) × (repeat ≤ 32767) = from_read 1 32767 repeat fits in
    record { number = repeat; reads = number_read number k rest e d (omega arith); is = omega arith }

-- what stands behind an item: a right parenthesis, a comma, a slash or a colon
record Next (text : List ℕ) : Type 0 where
  character : ℕ
  rest : List ℕ
  shows : seen text ≡ character ∷ rest
  digit : is_ascii_digit character ≡ false
  point : character ≡ 46 → ⊥
  sign : character ≡ 83 → ⊥
  plus : character ≡ 80 → ⊥

next_item : {depth : ℕ} {format : Format} {before after : List ℕ} → SpellsList depth Behind format before after → Next before
next_item (right_parenthesis _ s) = record { character = 41; rest = _; shows = s; digit = refl; point = λ e. absurd (omega arith); sign = λ e. absurd (omega arith); plus = λ e. absurd (omega arith) }
next_item (comma _ s _) = record { character = 44; rest = _; shows = s; digit = refl; point = λ e. absurd (omega arith); sign = λ e. absurd (omega arith); plus = λ e. absurd (omega arith) }
next_item (descriptor t _ _ _) = absurd (let h : false ≡ true = t in cc)
next_item (control t _ _) = absurd (let h : false ≡ true = t in cc)
next_item (group t _ _ _ _ _) = absurd (let h : false ≡ true = t in cc)
next_item (slash s _) = record { character = 47; rest = _; shows = s; digit = refl; point = λ e. absurd (omega arith); sign = λ e. absurd (omega arith); plus = λ e. absurd (omega arith) }
next_item (slashes t _ _ _ _) = absurd (let h : false ≡ true = t in cc)
next_item (colon s _) = record { character = 58; rest = _; shows = s; digit = refl; point = λ e. absurd (omega arith); sign = λ e. absurd (omega arith); plus = λ e. absurd (omega arith) }
next_item (scale t _ _) = absurd (let h : false ≡ true = t in cc)

described : {item : Descriptor} {before letter after : List ℕ} → (repeat : ℕ) → Repeat repeat before letter → Describes item letter after → Next after
    → part_of before ≡ giving repeat (Item item) after
unfolding letter_part int_part logical_part text_part
described {before = before} {letter = letter} {after = after} repeat r (int_of_width {width = width} {middle = middle} s number fits) next =
    let f : (1 ≤ width) × (width ≤ 1024) = from_read 1 1024 width fits in
    let rep : Repeated repeat before letter = repeated r 73 middle s refl in
    part_shown before letter middle rep.number 73 rep.reads s
    ∙ ap (int_by (max rep.number 1)) (number_read number next.character next.rest next.shows next.digit (omega arith))
    ∙ ap (int_point (max rep.number 1) (record { number = width; behind = after })) (sign_shown after next.character next.rest next.shows)
    ∙ ap (λ q. if q then int_least (max rep.number 1) width (number_of next.rest) else giving (max rep.number 1) (Item (IntIn width None)) after) (unlike next.character 46 next.point)
    ∙ ap (λ n. giving n (Item (IntIn width None)) after) rep.is
described {before = before} {letter = letter} {after = after} repeat r (int_of_least {width = width} {least = least} {middle = middle} {point = point} {behind = behind} s number fits p m small) next =
    let f : (1 ≤ width) × (width ≤ 1024) = from_read 1 1024 width fits in
    let rep : Repeated repeat before letter = repeated r 73 middle s refl in
    part_shown before letter middle rep.number 73 rep.reads s
    ∙ ap (int_by (max rep.number 1)) (number_read number 46 behind p refl (omega arith))
    ∙ ap (int_point (max rep.number 1) (record { number = width; behind = point })) (sign_shown point 46 behind p)
    ∙ ap (int_least (max rep.number 1) width) (number_read m next.character next.rest next.shows next.digit (grind arith))
    ∙ ap (λ n. giving n (Item (IntIn width (Some least))) after) rep.is
described {before = before} {letter = letter} {after = after} repeat r (logical_of_width {width = width} {middle = middle} s number fits) next =
    let f : (1 ≤ width) × (width ≤ 1024) = from_read 1 1024 width fits in
    let rep : Repeated repeat before letter = repeated r 76 middle s refl in
    part_shown before letter middle rep.number 76 rep.reads s
    ∙ ap (parts.logical_by (max rep.number 1)) (number_read number next.character next.rest next.shows next.digit (omega arith))
    ∙ ap (λ n. giving n (Item (LogicalIn width)) after) rep.is
described {before = before} {letter = letter} {after = after} repeat r (text_whole s) next =
    let rep : Repeated repeat before letter = repeated r 65 after s refl in
    part_shown before letter after rep.number 65 rep.reads s
    ∙ ap (parts.text_by (max rep.number 1)) (number_none after next.character next.rest next.shows next.digit)
    ∙ ap (λ n. giving n (Item (TextIn None)) after) rep.is
described {before = before} {letter = letter} {after = after} repeat r (text_of_width {width = width} {middle = middle} s number fits) next =
    let f : (1 ≤ width) × (width ≤ 1024) = from_read 1 1024 width fits in
    let rep : Repeated repeat before letter = repeated r 65 middle s refl in
    part_shown before letter middle rep.number 65 rep.reads s
    ∙ ap (parts.text_by (max rep.number 1)) (number_read number next.character next.rest next.shows next.digit (omega arith))
    ∙ ap (λ q. giving (max rep.number 1) (Item (TextIn (if q then None else Some width))) after) (unlike width 0 (λ e. absurd (omega arith)))
    ∙ ap (λ n. giving n (Item (TextIn (Some width))) after) rep.is

no_quote : (text : List ℕ) → NoQuote text → (characters true text ≡ []) × (behind_text true text ≡ text)
no_quote [] h = (refl, refl)
no_quote (c ∷ cs) h = (ap (λ q. if q then c ∷ characters false cs else []) h, ap (λ q. if q then behind_text false cs else c ∷ cs) h)

quoted_read : {text before after : List ℕ} → Quoted text before after → (characters false before ≡ text) × (behind_text false before ≡ after)
quoted_read (ends {quote = quote} {after = after} q n) =
    let e : (quote == 39) ≡ true = q in
    let rest = no_quote after n in
    (ap (λ b. if b then characters b after else quote ∷ characters b after) e ∙ rest.0, ap (λ b. behind_text b after) e ∙ rest.1)
quoted_read (doubled {quote = quote} {again = again} {middle = middle} q a more) =
    let e : (quote == 39) ≡ true = q in
    let f : (again == 39) ≡ true = a in
    let this : again ≡ 39 = grind arith in
    let rest = quoted_read more in (
      ap (λ b. if b then characters b (again ∷ middle) else quote ∷ characters b (again ∷ middle)) e
          ∙ ap (λ b. if b then again ∷ characters false middle else []) f ∙ ap (λ k. k ∷ characters false middle) this ∙ ap (λ l. 39 ∷ l) rest.0,
      ap (λ b. behind_text b (again ∷ middle)) e ∙ ap (λ b. if b then behind_text false middle else again ∷ middle) f ∙ rest.1,
    )
quoted_read (other {c = c} {middle = middle} e more) =
    let rest = quoted_read more in
    (ap (λ b. if b then characters b middle else c ∷ characters b middle) e ∙ ap (λ l. c ∷ l) rest.0, ap (λ b. behind_text b middle) e ∙ rest.1)

take_front : (text after : List ℕ) → take (length text) (text ++ after) ≡ text
take_front text after = grind (arith, common_steps)

drop_front : (text after : List ℕ) → drop (length text) (text ++ after) ≡ after
drop_front text after = grind (arith, common_steps)

-- what stands behind an item stands behind a number too
plain_number : {number : ℕ} {before after : List ℕ} → Number number before after → IsTrue (is_from 1 1024 number) → Next after
    → number_of before ≡ record { number = number; behind = after }
plain_number {number = number} n fits next =
    let f : (1 ≤ number) × (number ≤ 1024) = from_read 1 1024 number fits in
    number_read n next.character next.rest next.shows next.digit (omega arith)

-- a number begins with a digit
record Begins (text : List ℕ) : Type 0 where
  character : ℕ
  rest : List ℕ
  shows : seen text ≡ character ∷ rest
  digit : is_ascii_digit character ≡ true

begins : {number : ℕ} {before after : List ℕ} → Number number before after → Begins before
begins (digits {digit = digit} {middle = middle} s t more) = record { character = digit; rest = middle; shows = s; digit = t }

letter_no_digit : (c : ℕ) → is_ascii_digit c ≡ true → c ≡ 76 → ⊥
letter_no_digit c d e = grind arith

letter_no_digit-2 : (c : ℕ) → is_ascii_digit c ≡ true → c ≡ 82 → ⊥
letter_no_digit-2 c d e = grind arith

controlled : {item : Control} {before after : List ℕ} → Controls item before after → Next after → part_of before ≡ giving 1 (Act item) after
unfolding letter_part plus_part blanks_part tab_part quoted_part verbatim_part
controlled {before = before} {after = after} (in_apostrophes {c = c} {text = text} {middle = middle} s q) next =
    let rest = quoted_read q in
    part_shown before before middle 0 39 (number_none before 39 middle s refl) s
    ∙ ap (λ l. giving 1 (Act (Literal l)) (behind_text false middle)) rest.0 ∙ ap (giving 1 (Act (Literal (c ∷ text)))) rest.1
controlled {before = before} {after = after} (hollerith {number = number} {text = text} {letter = letter} {middle = middle} n fits s joined size) next =
    let f : (1 ≤ number) × (number ≤ 1024) = from_read 1 1024 number fits in
    part_shown before letter middle number 72 (number_read n 72 middle s refl (omega arith)) s
    ∙ ap (λ k. giving 1 (Act (Literal (take k middle))) (drop k middle)) (sym size)
    ∙ ap (λ m. giving 1 (Act (Literal (take (length text) m))) (drop (length text) m)) joined
    ∙ ap (λ l. giving 1 (Act (Literal l)) (drop (length text) (text ++ after))) (take_front text after)
    ∙ ap (giving 1 (Act (Literal text))) (drop_front text after)
controlled {before = before} {after = after} (skip {number = number} {letter = letter} n fits s) next =
    let f : (1 ≤ number) × (number ≤ 1024) = from_read 1 1024 number fits in
    part_shown before letter after number 88 (number_read n 88 after s refl (omega arith)) s
controlled {before = before} {after = after} (to_column {number = number} {middle = middle} s n fits) next =
    let b : Begins middle = begins n in
    part_shown before before middle 0 84 (number_none before 84 middle s refl) s
    ∙ ap (tab_by middle) (sign_shown middle b.character b.rest b.shows)
    ∙ ap (λ q. if q then moving LeftBy (number_of b.rest) else (if b.character == 82 then moving RightBy (number_of b.rest) else moving ToColumn (number_of middle))) (unlike b.character 76 (letter_no_digit b.character b.digit))
    ∙ ap (λ q. if q then moving RightBy (number_of b.rest) else moving ToColumn (number_of middle)) (unlike b.character 82 (letter_no_digit-2 b.character b.digit))
    ∙ ap (moving ToColumn) (plain_number n fits next)
controlled {before = before} {after = after} (left_by {number = number} {middle = middle} {behind = behind} s l n fits) next =
    part_shown before before middle 0 84 (number_none before 84 middle s refl) s
    ∙ ap (tab_by middle) (sign_shown middle 76 behind l) ∙ ap (moving LeftBy) (plain_number n fits next)
controlled {before = before} {after = after} (right_by {number = number} {middle = middle} {behind = behind} s l n fits) next =
    part_shown before before middle 0 84 (number_none before 84 middle s refl) s
    ∙ ap (tab_by middle) (sign_shown middle 82 behind l) ∙ ap (moving RightBy) (plain_number n fits next)
controlled {before = before} {after = after} (plus_as_ever s) next =
    part_shown before before after 0 83 (number_none before 83 after s refl) s
    ∙ ap (plus_by after) (sign_shown after next.character next.rest next.shows)
    ∙ ap (λ q. if q then giving 1 (Act (PlusSigns true)) next.rest else (if next.character == 83 then giving 1 (Act (PlusSigns false)) next.rest else giving 1 (Act (PlusSigns false)) after)) (unlike next.character 80 next.plus)
    ∙ ap (λ q. if q then giving 1 (Act (PlusSigns false)) next.rest else giving 1 (Act (PlusSigns false)) after) (unlike next.character 83 next.sign)
controlled {before = before} {after = after} (plus_suppressed {middle = middle} s l) next =
    part_shown before before middle 0 83 (number_none before 83 middle s refl) s ∙ ap (plus_by middle) (sign_shown middle 83 after l)
controlled {before = before} {after = after} (plus_produced {middle = middle} s l) next =
    part_shown before before middle 0 83 (number_none before 83 middle s refl) s ∙ ap (plus_by middle) (sign_shown middle 80 after l)
controlled {before = before} {after = after} (blanks_null {middle = middle} s l) next =
    part_shown before before middle 0 66 (number_none before 66 middle s refl) s ∙ ap parts.blanks_by (sign_shown middle 78 after l)
controlled {before = before} {after = after} (blanks_zero {middle = middle} s l) next =
    part_shown before before middle 0 66 (number_none before 66 middle s refl) s ∙ ap parts.blanks_by (sign_shown middle 90 after l)

-- a list of items by its first part
pub data Reads (depth : ℕ) (format : Format) (before after : List ℕ) : Type 0 where
  closes : part_of before ≡ record { part = parts.Closing; behind = after } → format ≡ Empty → Reads depth format before after
  joins : (joint : Joint) (middle : List ℕ) → part_of before ≡ record { part = parts.Joint; behind = middle } → SpellsList depth joint format middle after
      → Reads depth format before after
  gives : (count : ℕ) (edit : Edit) (later : Format) (joint : Joint) (middle : List ℕ) → part_of before ≡ giving count edit middle → 1 ≤ count
      → SpellsList depth joint later middle after → pass format ≡ copies count (edit ∷ []) ++ pass later → last_group format ≡ last_group later
      → Reads depth format before after
  opens : (count : ℕ) (inner later : Format) (inside middle : List ℕ) → part_of before ≡ record { part = parts.Opening count; behind = inside } → 1 ≤ count
      → depth < 20 → SpellsList (suc depth) Wanted inner inside middle → SpellsList depth Behind later middle after → format ≡ Group count inner later
      → Reads depth format before after

repeat_some : {repeat : ℕ} {before letter : List ℕ} → Repeat repeat before letter → 1 ≤ repeat
repeat_some once = omega arith
repeat_some {repeat = repeat} (times number fits) = let f : (1 ≤ repeat) × (repeat ≤ 32767) = from_read 1 32767 repeat fits in f.0

sign_no_digit : (sign : ℕ) → (sign == 43 || sign == 45) ≡ true → is_ascii_digit sign ≡ false
sign_no_digit sign h = grind arith

sign_part : (sign : ℕ) (middle : List ℕ) → (sign == 43 || sign == 45) ≡ true → part_by 0 (record { character = sign; behind = middle }) ≡ record { part = parts.Joint; behind = middle }
unfolding letter_part
sign_part sign middle h = by_plus (bool_is (sign == 43)) where
  is_plus : sign ≡ 43 → part_by 0 (record { character = sign; behind = middle }) ≡ record { part = parts.Joint; behind = middle }
  is_plus e = subst (λ k. part_by 0 (record { character = k; behind = middle }) ≡ record { part = parts.Joint; behind = middle }) (sym e) refl

  is_minus : sign ≡ 45 → part_by 0 (record { character = sign; behind = middle }) ≡ record { part = parts.Joint; behind = middle }
  is_minus e = subst (λ k. part_by 0 (record { character = k; behind = middle }) ≡ record { part = parts.Joint; behind = middle }) (sym e) refl

  by_plus : (sign == 43) ≡ true ⊎ (sign == 43) ≡ false → part_by 0 (record { character = sign; behind = middle }) ≡ record { part = parts.Joint; behind = middle }
  by_plus (inl e) = is_plus (grind arith)
  by_plus (inr e) = is_minus (grind arith)

pub reads : {depth : ℕ} {joint : Joint} {format : Format} {before after : List ℕ} → SpellsList depth joint format before after → Reads depth format before after
unfolding letter_part
reads {before = before} {after = after} (right_parenthesis _ s) = closes (part_shown before before after 0 41 (number_none before 41 after s refl) s) refl
reads {before = before} (comma {middle = middle} _ s later) = joins Wanted middle (part_shown before before middle 0 44 (number_none before 44 middle s refl) s) later
reads {before = before} (descriptor {repeat = repeat} {item = item} {later = rest} {middle = middle} _ r d later) =
    gives repeat (Item item) rest Behind middle (described repeat r d (next_item later)) (repeat_some r) later refl refl
reads {before = before} (control {item = item} {later = rest} {middle = middle} _ c later) =
    gives 1 (Act item) rest Behind middle (controlled c (next_item later)) (omega arith) later refl refl
reads {before = before} (group {repeat = repeat} {inner = inner} {later = rest} {parenthesis = parenthesis} {inside = inside} {middle = middle} _ r s deep within later) =
    let rep : Repeated repeat before parenthesis = repeated r 40 inside s refl in
    opens repeat inner rest inside middle
    (part_shown before parenthesis inside rep.number 40 rep.reads s ∙ ap (λ n. let p : Parted = record { part = parts.Opening n; behind = inside } in p) rep.is)
    (repeat_some r) deep within later refl
reads {before = before} (slash {later = rest} {middle = middle} s later) =
    gives 1 (Act NextRecord) rest Free middle (part_shown before before middle 0 47 (number_none before 47 middle s refl) s) (omega arith) later refl refl
reads {before = before} (slashes {repeat = repeat} {later = rest} {slash = mark} {middle = middle} _ n fits s later) =
    let rep : Repeated repeat before mark = repeated (times n fits) 47 middle s refl in
    gives repeat (Act NextRecord) rest Free middle
    (part_shown before mark middle rep.number 47 rep.reads s ∙ ap (λ k. giving k (Act NextRecord) middle) rep.is)
    (repeat_some (times n fits)) later refl refl
reads {before = before} (colon {later = rest} {middle = middle} s later) =
    gives 1 Stop rest Free middle (part_shown before before middle 0 58 (number_none before 58 middle s refl) s) (omega arith) later refl refl
reads {before = before} (scale {later = later} {middle = middle} _ (unsigned {number = number} {letter = letter} n fits s) more) =
    joins Free middle (part_shown before letter middle number 80 (number_read n 80 middle s refl (grind arith)) s) more
reads {before = before} (scale {joint = joint} {middle = middle} t (signed {sign = sign} {number = number} {middle = inside} {letter = letter} b is n fits s) more) =
    joins joint inside (part_shown before before inside 0 sign (number_none before sign inside b (sign_no_digit sign is)) b ∙ sign_part sign inside is)
    (scale t (unsigned n fits s) more)

some_seen : (text : List ℕ) (c : ℕ) (rest : List ℕ) → seen text ≡ c ∷ rest → 0 < length text
some_seen [] c rest e = absurd (cc)
some_seen (t ∷ ts) c rest e = omega arith

number_some : {number : ℕ} {before after : List ℕ} → Number number before after → 0 < length before
number_some {before = before} (digits {digit = digit} {middle = middle} s t more) = some_seen before digit middle s

described_some : {item : Descriptor} {before after : List ℕ} → Describes item before after → 0 < length before
described_some {before = before} (int_of_width {middle = middle} s _ _) = some_seen before 73 middle s
described_some {before = before} (int_of_least {middle = middle} s _ _ _ _ _) = some_seen before 73 middle s
described_some {before = before} (logical_of_width {middle = middle} s _ _) = some_seen before 76 middle s
described_some {before = before} {after = after} (text_whole s) = some_seen before 65 after s
described_some {before = before} (text_of_width {middle = middle} s _ _) = some_seen before 65 middle s

controls_some : {item : Control} {before after : List ℕ} → Controls item before after → 0 < length before
controls_some {before = before} (in_apostrophes {middle = middle} s _) = some_seen before 39 middle s
controls_some (hollerith n _ _ _ _) = number_some n
controls_some (skip n _ _) = number_some n
controls_some {before = before} (to_column {middle = middle} s _ _) = some_seen before 84 middle s
controls_some {before = before} (left_by {middle = middle} s _ _ _) = some_seen before 84 middle s
controls_some {before = before} (right_by {middle = middle} s _ _ _) = some_seen before 84 middle s
controls_some {before = before} {after = after} (plus_as_ever s) = some_seen before 83 after s
controls_some {before = before} (plus_suppressed {middle = middle} s _) = some_seen before 83 middle s
controls_some {before = before} (plus_produced {middle = middle} s _) = some_seen before 83 middle s
controls_some {before = before} (blanks_null {middle = middle} s _) = some_seen before 66 middle s
controls_some {before = before} (blanks_zero {middle = middle} s _) = some_seen before 66 middle s

repeated_some : {repeat : ℕ} {before letter : List ℕ} → Repeat repeat before letter → 0 < length letter → 0 < length before
repeated_some once h = h
repeated_some (times n _) h = number_some n

scaled_some : {before after : List ℕ} → Scales before after → 0 < length before
scaled_some (unsigned n _ _) = number_some n
scaled_some {before = before} (signed {sign = sign} {middle = middle} s _ _ _ _) = some_seen before sign middle s

-- a text that spells a list has a character
pub spelled_some : {depth : ℕ} {joint : Joint} {format : Format} {before after : List ℕ} → SpellsList depth joint format before after → 0 < length before
spelled_some {before = before} {after = after} (right_parenthesis _ s) = some_seen before 41 after s
spelled_some {before = before} (comma {middle = middle} _ s _) = some_seen before 44 middle s
spelled_some (descriptor _ r d _) = repeated_some r (described_some d)
spelled_some (control _ c _) = controls_some c
spelled_some (group {parenthesis = parenthesis} {inside = inside} _ r s _ _ _) = repeated_some r (some_seen parenthesis 40 inside s)
spelled_some {before = before} (slash {middle = middle} s _) = some_seen before 47 middle s
spelled_some (slashes _ n _ _ _) = number_some n
spelled_some {before = before} (colon {middle = middle} s _) = some_seen before 58 middle s
spelled_some (scale _ s _) = scaled_some s
