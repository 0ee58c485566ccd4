-- Names in C tell their entities apart.
--     variable_name-injective      two variables with one C name are one
--     variable_name-not_reserved      no variable has a word of C, of the include line or of a list as its C name
--     variable_name-not_made      nor a name that the translator makes
--     external_name-injective      two procedures or blocks with one C name are one
--     variable_name-external      a variable has the C name of a procedure or block only if it has its name
use Rattle.std.proofs.Common.{◌≡◌, ◌≢◌, ℕ, suc, ◌+◌, ◌<◌, ◌^◌, ◌%◌, ℤ, pos, negsuc, nat_abs, Bool, true, false, not, ◌||◌, ◌&&◌, List, [], ◌∷◌, ◌++◌, reverse, codes, bytes_eq, nat_eq, decimal, refl, sym, ap, ◌∙◌, subst, arith, append_assoc}
use Rattle.std.specs.List.{list_all}
use Rattle.std.proofs.lemmas.List.Folds.{list_any-append}
use Rattle.std.proofs.lemmas.List.{append_cancel_right, reverse-append}
use Rattle.std.proofs.lemmas.Fmt.{decimal_by_steps}
use Rattle.std.specs.Cmp.Lexicographic.{same_text}
use Rattle.f_tree.specs.CNames.{Bytes, is_name_byte, is_name, has_underscore, external_name, c_keywords, built_in_names, field_names, single_letters, is_among, is_reserved, takes_underscores, variable_name, MadeName, EntryNumber, FunctionResult, ResultLength, NumberTemporary, TextTemporary, PiecesTemporary, ConstantOf, ControlList, FormatText, EquivalenceClass, StatementLabel, EntryLabel, MadeLabel, LengthOf, DimensionOf, LowerBoundOf, constant_name, made_name, IsNumbered}

or-false-left : (a b : Bool) → (a || b) ≡ false → a ≡ false
or-false-left true b h = h
or-false-left false b h = refl

or-false-right : (a b : Bool) → (a || b) ≡ false → b ≡ false
or-false-right true b h = cc
or-false-right false b h = h

or-true-right : (a b : Bool) → b ≡ true → (a || b) ≡ true
or-true-right true b h = refl
or-true-right false b h = h

or-both : (a b : Bool) → a ≡ false → b ≡ false → (a || b) ≡ false
or-both a b ha hb = rw ha hb

and-left : (a b : Bool) → (a && b) ≡ true → a ≡ true
and-left true b h = refl
and-left false b h = cc

and-right : (a b : Bool) → (a && b) ≡ true → b ≡ true
and-right true b h = h
and-right false b h = cc

-- ## Underscores

pub has_underscore-append : (x y : Bytes) → has_underscore (x ++ y) ≡ (has_underscore x || has_underscore y)
unfolding has_underscore
has_underscore-append x y = list_any-append (λ byte. nat_eq byte 95) x y

-- an underscore behind or in front is one of the whole
underscore_behind : (x y : Bytes) → has_underscore y ≡ true → has_underscore (x ++ y) ≡ true
underscore_behind x y h = has_underscore-append x y ∙ or-true-right (has_underscore x) (has_underscore y) h

-- ## The two cases of a variable

-- a variable keeps its name, which has no underscore and is no reserved word, or takes two underscores
data Named (x name : Bytes) : Type 0 where
  Kept : has_underscore x ≡ false → is_reserved x ≡ false → name ≡ x → Named x name
  Lengthened : takes_underscores x ≡ true → name ≡ x ++ codes "__" → Named x name

named-by : (x : Bytes) (b : Bool) → takes_underscores x ≡ b → Named x (variable_name x)
unfolding takes_underscores variable_name
named-by x true h = Lengthened h (rw h refl)
named-by x false h =
    Kept (or-false-left (has_underscore x) (is_reserved x) h) (or-false-right (has_underscore x) (is_reserved x) h) (rw h refl)

named : (x : Bytes) → Named x (variable_name x)
named x = named-by x (takes_underscores x) refl

ends_underscored : (x : Bytes) → has_underscore (x ++ codes "__") ≡ true
unfolding has_underscore
ends_underscored x = underscore_behind x (codes "__") refl

-- ## Two variables

same_named : (x y name : Bytes) → Named x name → Named y name → x ≡ y
same_named x y name (Kept _ _ e) (Kept _ _ f) = sym e ∙ f
same_named x y name (Kept h _ e) (Lengthened _ f) =
    let u : has_underscore x ≡ true = ap has_underscore (sym e ∙ f) ∙ ends_underscored y in cc
same_named x y name (Lengthened _ e) (Kept h _ f) =
    let u : has_underscore y ≡ true = ap has_underscore (sym f ∙ e) ∙ ends_underscored x in cc
same_named x y name (Lengthened _ e) (Lengthened _ f) = append_cancel_right x y (codes "__") (sym e ∙ f)

pub variable_name-injective : (x y : Bytes) → variable_name x ≡ variable_name y → x ≡ y
variable_name-injective x y e = same_named x y (variable_name x) (named x) (subst (Named y) (sym e) (named y))

-- ## Reserved words

-- whether the name, read from its end, begins with two underscores
two_first : Bytes → Bool
two_first [] = false
two_first (a ∷ []) = false
two_first (a ∷ b ∷ rest) = nat_eq a 95 && nat_eq b 95

two_last : Bytes → Bool
two_last name = two_first (reverse name)

two_last-lengthened : (x : Bytes) → two_last (x ++ codes "__") ≡ true
unfolding two_last two_first
two_last-lengthened x = ap two_first (reverse-append x (codes "__"))

-- a name is not among words that fail a test which it passes
not_among : (test : Bytes → Bool) (words : List Bytes) (name : Bytes) → list_all (λ w. not (test w)) words ≡ true → test name ≡ true → is_among words name ≡ false
not_among test [] name _ _ = refl
not_among test (w ∷ words) name each passes =
    let here : not (test w) ≡ true = and-left (not (test w)) (list_all (λ v. not (test v)) words) each in
    let rest : is_among words name ≡ false = not_among test words name (and-right (not (test w)) (list_all (λ v. not (test v)) words) each) passes in
    or-both (bytes_eq w name) (is_among words name) (differs (bytes_eq w name) refl here) rest
  where
    differs : (b : Bool) → bytes_eq w name ≡ b → not (test w) ≡ true → bytes_eq w name ≡ false
    differs false h _ = h
    differs true h n =
        let e : w ≡ name = same_text w name (sym h) in
        let t : test w ≡ true = ap test e ∙ passes in
        let f : not true ≡ true = ap not (sym t) ∙ n in
        cc

two_last-not_reserved : (name : Bytes) → two_last name ≡ true → is_reserved name ≡ false
unfolding is_reserved c_keywords built_in_names field_names single_letters two_last two_first
two_last-not_reserved name h =
    or-both _ _ (or-both _ _ (or-both _ _ (not_among two_last c_keywords name refl h) (not_among two_last built_in_names name refl h)) (not_among two_last field_names name refl h)) (not_among two_last single_letters name refl h)

free_of_words : (x name : Bytes) → Named x name → is_reserved name ≡ false
free_of_words x name (Kept _ h e) = ap is_reserved e ∙ h
free_of_words x name (Lengthened _ e) = two_last-not_reserved name (ap two_last e ∙ two_last-lengthened x)

pub variable_name-not_reserved : (x : Bytes) → is_reserved (variable_name x) ≡ false
variable_name-not_reserved x = free_of_words x (variable_name x) (named x)

-- ## Made names

-- the last byte of a name
record Last (name : Bytes) (byte : ℕ) : Type 0 where
  front : Bytes
  is : name ≡ front ++ byte ∷ []

last_behind : (x y : Bytes) (byte : ℕ) → Last y byte → Last (x ++ y) byte
last_behind x y byte l = record { front = x ++ l.front; is = ap (λ v. x ++ v) l.is ∙ sym (append_assoc x l.front (byte ∷ [])) }

same_last : (x y : Bytes) (a b : ℕ) → x ++ a ∷ [] ≡ y ++ b ∷ [] → a ≡ b
same_last x y a b e =
    let r : a ∷ reverse x ≡ b ∷ reverse y = sym (reverse-append x (a ∷ [])) ∙ ap reverse e ∙ reverse-append y (b ∷ []) in cc

-- a name with an underscore that does not end in one is no variable's
record Closed (name : Bytes) : Type 0 where
  byte : ℕ
  underscored : has_underscore name ≡ true
  last : Last name byte
  other : byte ≢ 95

closed_apart : (x name : Bytes) → Closed name → Named x name → ⊥
closed_apart x name c (Kept h _ e) =
    let u : has_underscore x ≡ true = ap has_underscore (sym e) ∙ c.underscored in
    let clash : true ≡ false = sym u ∙ h in absurd (cc)
closed_apart x name c (Lengthened _ e) =
    let whole : (x ++ 95 ∷ []) ++ 95 ∷ [] ≡ c.last.front ++ c.byte ∷ [] = append_assoc x (95 ∷ []) (95 ∷ []) ∙ sym e ∙ c.last.is in
    c.other (sym (same_last (x ++ 95 ∷ []) c.last.front 95 c.byte whole))

-- the last byte of a number is a digit
record Digit (name : Bytes) : Type 0 where
  digit : ℕ
  small : digit < 10
  last : Last name (48 + digit)

decimal-ends : (n : ℕ) → n < 2 ^ 64 → Digit (decimal n)
decimal-ends n h =
    decimal_by_steps (λ m ds. Digit ds)
    (λ m small. record { digit = m; small = small; last = record { front = []; is = refl } })
    (λ m ds _ _. record { digit = m % 10; small = omega arith; last = record { front = ds; is = refl } })
    n h

closed_number : (front : Bytes) (n : ℕ) → has_underscore front ≡ true → n < 2 ^ 64 → Closed (front ++ decimal n)
closed_number front n h small =
    let d = decimal-ends n small in
    record { byte = 48 + d.digit; underscored = has_underscore-append front (decimal n) ∙ rw h refl; last = last_behind front (decimal n) (48 + d.digit) d.last; other = λ e. omega arith }

same_first : (a b : ℕ) (x y : Bytes) → a ∷ x ≡ b ∷ y → a ≡ b
same_first a b x y e = cc

-- a name that begins with a capital L is no variable's
capital_apart : (x rest : Bytes) → is_name x ≡ true → Named x (76 ∷ rest) → ⊥
unfolding is_name is_name_byte
capital_apart [] rest h (Kept _ _ e) = cc
capital_apart (a ∷ x) rest h (Kept _ _ e) =
    let f : a ≡ 76 = cc in
    let g : is_name (76 ∷ x) ≡ true = ap (λ v. is_name (v ∷ x)) (sym f) ∙ h in cc
capital_apart [] rest h (Lengthened _ e) = absurd (omega (arith, same_first 76 95 rest (codes "_") e))
capital_apart (a ∷ x) rest h (Lengthened _ e) =
    let f : a ≡ 76 = cc in
    let g : is_name (76 ∷ x) ≡ true = ap (λ v. is_name (v ∷ x)) (sym f) ∙ h in cc

entry_number_apart : (x : Bytes) → Named x (codes "n__") → ⊥
unfolding has_underscore takes_underscores is_reserved c_keywords built_in_names field_names single_letters
entry_number_apart x (Kept h _ e) =
    let u : has_underscore x ≡ true = ap has_underscore (sym e) in
    let clash : true ≡ false = sym u ∙ h in absurd (cc)
entry_number_apart x (Lengthened h e) =
    let f : codes "n" ≡ x = append_cancel_right (codes "n") x (codes "__") e in
    let t : false ≡ true = ap takes_underscores f ∙ h in absurd (cc)

closed_text : (front : Bytes) (byte : ℕ) → has_underscore (front ++ byte ∷ []) ≡ true → byte ≢ 95 → Closed (front ++ byte ∷ [])
closed_text front byte h other =
    record { byte = byte; underscored = h; last = record { front = front; is = refl }; other = other }

closed_constant : (z : ℤ) → nat_abs z < 2 ^ 64 → Closed (constant_name z)
unfolding has_underscore constant_name
closed_constant (pos n) h = closed_number (codes "c__") n refl h
closed_constant (negsuc n) h = closed_number (codes "c_n") (suc n) refl h

closed_behind : (dummy tail : Bytes) → Closed tail → Closed (dummy ++ tail)
closed_behind dummy tail c =
    record { byte = c.byte; underscored = underscore_behind dummy tail c.underscored; last = last_behind dummy tail c.byte c.last; other = c.other }

made_apart : (x : Bytes) → is_name x ≡ true → (m : MadeName) → IsNumbered m → Named x (made_name m) → ⊥
unfolding has_underscore made_name
made_apart x h EntryNumber k n = entry_number_apart x n
made_apart x h FunctionResult k n = closed_apart x _ (closed_text (codes "ret_va") 108 refl (λ e. omega arith)) n
made_apart x h ResultLength k n = closed_apart x _ (closed_text (codes "ret_val_le") 110 refl (λ e. omega arith)) n
made_apart x h (NumberTemporary j) k n = closed_apart x _ (closed_number (codes "i__") j refl k) n
made_apart x h (TextTemporary j) k n = closed_apart x _ (closed_number (codes "ch__") j refl k) n
made_apart x h (PiecesTemporary j) k n = closed_apart x _ (closed_number (codes "a__") j refl k) n
made_apart x h (ConstantOf z) k n = closed_apart x (constant_name z) (closed_constant z k) n
made_apart x h (ControlList j) k n = closed_apart x _ (closed_number (codes "io___") j refl k) n
made_apart x h (FormatText j) k n = closed_apart x _ (closed_number (codes "fmt_") j refl k) n
made_apart x h (EquivalenceClass j) k n = closed_apart x _ (closed_number (codes "equiv_") j refl k) n
made_apart x h (StatementLabel j) k n = capital_apart x (decimal j) h n
made_apart x h (EntryLabel entry) k n = capital_apart x (codes "_" ++ entry) h n
made_apart x h (MadeLabel j) k n = capital_apart x (codes "__" ++ decimal j) h n
made_apart x h (LengthOf dummy) k n = closed_apart x _ (closed_behind dummy (codes "_len") (closed_text (codes "_le") 110 refl (λ e. omega arith))) n
made_apart x h (DimensionOf dummy j) k n =
    closed_apart x _ (subst Closed (sym (append_assoc dummy (codes "_dim") (decimal j))) (closed_behind dummy (codes "_dim" ++ decimal j) (closed_number (codes "_dim") j refl k))) n
made_apart x h (LowerBoundOf dummy j) k n =
    closed_apart x _ (subst Closed (sym (append_assoc dummy (codes "_low") (decimal j))) (closed_behind dummy (codes "_low" ++ decimal j) (closed_number (codes "_low") j refl k))) n

pub variable_name-not_made : (x : Bytes) → is_name x ≡ true → (m : MadeName) → IsNumbered m → variable_name x ≢ made_name m
variable_name-not_made x h m k e = made_apart x h m k (subst (Named x) e (named x))

-- ## Procedures and common blocks

-- one underscore behind a name without one, else two
data External (x name : Bytes) : Type 0 where
  One : has_underscore x ≡ false → name ≡ x ++ codes "_" → External x name
  Two : has_underscore x ≡ true → name ≡ x ++ codes "__" → External x name

external-by : (x : Bytes) (b : Bool) → has_underscore x ≡ b → External x (external_name x)
unfolding external_name
external-by x true h = Two h (rw h refl)
external-by x false h = One h (rw h refl)

external : (x : Bytes) → External x (external_name x)
external x = external-by x (has_underscore x) refl

-- a name that has one underscore behind it is that of no other with two
one_or_two : (x y : Bytes) → has_underscore x ≡ false → x ++ codes "_" ≡ y ++ codes "__" → ⊥
one_or_two x y h e =
    let f : x ≡ y ++ codes "_" = append_cancel_right x (y ++ codes "_") (codes "_") (e ∙ sym (append_assoc y (codes "_") (codes "_"))) in
    let u : has_underscore x ≡ true = ap has_underscore f ∙ single y in
    let clash : true ≡ false = sym u ∙ h in absurd (cc)
  where
    single : (z : Bytes) → has_underscore (z ++ codes "_") ≡ true
    single z = underscore_behind z (codes "_") (unfold has_underscore in refl)

same_external : (x y name : Bytes) → External x name → External y name → x ≡ y
same_external x y name (One _ e) (One _ f) = append_cancel_right x y (codes "_") (sym e ∙ f)
same_external x y name (One h e) (Two _ f) = absurd (one_or_two x y h (sym e ∙ f))
same_external x y name (Two _ e) (One h f) = absurd (one_or_two y x h (sym f ∙ e))
same_external x y name (Two _ e) (Two _ f) = append_cancel_right x y (codes "__") (sym e ∙ f)

pub external_name-injective : (x y : Bytes) → external_name x ≡ external_name y → x ≡ y
external_name-injective x y e = same_external x y (external_name x) (external x) (subst (External y) (sym e) (external y))

same_shared : (x y name : Bytes) → Named x name → External y name → x ≡ y
same_shared x y name (Kept h _ e) (One _ f) =
    let u : has_underscore x ≡ true = ap has_underscore (sym e ∙ f) ∙ underscore_behind y (codes "_") (unfold has_underscore in refl) in
    let clash : true ≡ false = sym u ∙ h in absurd (cc)
same_shared x y name (Kept h _ e) (Two _ f) =
    let u : has_underscore x ≡ true = ap has_underscore (sym e ∙ f) ∙ ends_underscored y in
    let clash : true ≡ false = sym u ∙ h in absurd (cc)
same_shared x y name (Lengthened _ e) (One h f) = absurd (one_or_two y x h (sym f ∙ e))
same_shared x y name (Lengthened _ e) (Two _ f) = append_cancel_right x y (codes "__") (sym e ∙ f)

-- A variable and a procedure or block of one C name have one name in FORTRAN too.
pub variable_name-external : (x y : Bytes) → variable_name x ≡ external_name y → x ≡ y
variable_name-external x y e = same_shared x y (variable_name x) (named x) (subst (External y) (sym e) (external y))
