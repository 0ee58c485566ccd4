-- The value of each comparison of texts, of INDEX and of the lexical functions: the number that the library gives stands for the value in FORTRAN.
use Rattle.std.specs.Prelude.{◌≡◌, ℕ, suc, ◌+◌, nat_lt, nat_eq, ℤ, pos, negsuc, int_lt, int_le, Bool, true, false, not, ◌&&◌, ◌||◌, List, [], ◌∷◌, length, Some, Ok, if◌then◌else◌}
use Rattle.std.specs.Ordering.{int_eq}
use Rattle.std.specs.List.{starts_with}
use Rattle.std.proofs.Common.{refl, sym, ap, ◌∙◌, subst, arith}
use Rattle.std.proofs.lemmas.Bool.{eqb-true, eq-eqb, ltb-true, leb-false}
use Rattle.std.proofs.lemmas.Int.{ints}
use Rattle.c_image.specs.f_tree.Values.{Datum, IsInt, IsLog, IsText, Gives}
use Rattle.c_image.specs.f_tree.Terms.{Operator, IsLess, IsLessOrEqual, IsEqual, IsNotEqual, IsGreater, IsGreaterOrEqual}
use Rattle.c_image.specs.f_tree.Terms as function
use Rattle.c_image.specs.f_tree.Store.{Whole, Truth}
use Rattle.c_image.specs.f_tree.Store as store
use Rattle.c_image.specs.f_tree.Valuing as valuing
use Rattle.c_laws.specs.c_tree.declared.outcome.CValue.{CValue}
use Rattle.c_laws.specs.c_tree.declared.outcome.CValue.TheVariants.{Number}
use Rattle.c_laws.specs.c_tree.declared.outcome.CFault.TheVariants.{Library}
use Rattle.c_laws.specs.c_tree.declared.expression.BinaryOp.TheVariants as op
use Rattle.c_laws.specs.c_tree.Faults.{after, failing}
use Rattle.c_laws.specs.c_tree.Objects.{Object}
use Rattle.c_laws.specs.c_tree.Terms.{Term, Constant, Between}
use Rattle.c_laws.specs.c_tree.World.{World}
use Rattle.c_laws.specs.c_tree.World as c
use Rattle.c_laws.specs.c_tree.Builtins.{Builtin, s_cmp, i_indx, l_ge, l_gt, l_le, l_lt}
use Rattle.c_laws.specs.c_tree.Library.{library}
use Rattle.c_laws.specs.c_tree.LibraryArguments.{length_from, text_at}
use Rattle.c_laws.specs.c_tree.LibraryTexts.{sign_of, against_blanks, blanks_against, comparison, on_texts, one_if, not_below, above, not_above, below, found_from, index_of}
use Rattle.c_laws.proofs.ValueLaws.{Constant-counts}
use Rattle.c_image.specs.faithful.StorageImage.{number_for}
use Rattle.c_laws.specs.c_tree.Values.{truth}
use Rattle.c_image.specs.Held.{whole_for}
use Rattle.c_image.specs.Operations.{operator_for, library_for}
use Rattle.c_image_laws.specs.Meanings.{Means, IsNumber}
use Rattle.c_image_laws.proofs.ListLaws.{one_there}
use Rattle.c_image_laws.proofs.Growing.{not_equal}
use Rattle.c_image_laws.proofs.OperatorValues.{compares}

-- ## The sign of a comparison

-- a sign of two bytes, with what comes of the rest
below_by : (l r : ℕ) (rest : ℤ) (less same more : Bool) → nat_lt l r ≡ less → nat_eq l r ≡ same → nat_lt r l ≡ more →
    int_lt (if less then negsuc 0 else if more then pos 1 else rest) (pos 0) ≡ (less || (same && int_lt rest (pos 0)))
below_by l r rest true same more a b c = refl
below_by l r rest false true true a b c = absurd (let is = eqb-true l r b in let wrong = ltb-true r l c in omega (arith, is, wrong))
below_by l r rest false true false a b c = refl
below_by l r rest false false true a b c = refl
below_by l r rest false false false a b c = absurd (neither l r a b c)
  where
    neither : (l r : ℕ) → nat_lt l r ≡ false → nat_eq l r ≡ false → nat_lt r l ≡ false → ⊥
    neither l r a b c =
        let one = leb-false (suc l) r a in
        let other = leb-false (suc r) l c in
        let same : l ≡ r = omega (arith, one, other) in
        let wrong : true ≡ false = sym (eq-eqb l r same) ∙ b in cc

above_by : (l r : ℕ) (rest : ℤ) (less same more : Bool) → nat_lt l r ≡ less → nat_eq r l ≡ same → nat_lt r l ≡ more →
    int_lt (pos 0) (if less then negsuc 0 else if more then pos 1 else rest) ≡ (more || (same && int_lt (pos 0) rest))
above_by l r rest true same true a b c = absurd (let one = ltb-true l r a in let other = ltb-true r l c in omega (arith, one, other))
above_by l r rest true true false a b c = absurd (let is = eqb-true r l b in let wrong = ltb-true l r a in omega (arith, is, wrong))
above_by l r rest true false false a b c = refl
above_by l r rest false same true a b c = refl
above_by l r rest false true false a b c = refl
above_by l r rest false false false a b c = absurd (neither l r a b c)
  where
    neither : (l r : ℕ) → nat_lt l r ≡ false → nat_eq r l ≡ false → nat_lt r l ≡ false → ⊥
    neither l r a b c =
        let one = leb-false (suc l) r a in
        let other = leb-false (suc r) l c in
        let same : r ≡ l = omega (arith, one, other) in
        let wrong : true ≡ false = sym (eq-eqb r l same) ∙ b in cc

sign_below : (l r : ℕ) (rest : ℤ) → int_lt (sign_of l r rest) (pos 0) ≡ (nat_lt l r || (nat_eq l r && int_lt rest (pos 0)))
sign_below l r rest = below_by l r rest (nat_lt l r) (nat_eq l r) (nat_lt r l) refl refl refl

sign_above : (l r : ℕ) (rest : ℤ) → int_lt (pos 0) (sign_of l r rest) ≡ (nat_lt r l || (nat_eq r l && int_lt (pos 0) rest))
sign_above l r rest = above_by l r rest (nat_lt l r) (nat_eq r l) (nat_lt r l) refl refl refl

-- The number of a comparison is negative where the first text is before the second, and positive where it is behind it
pub is_below : (a b : List ℕ) → int_lt (comparison a b) (pos 0) ≡ valuing.is_before a b
unfolding valuing.is_before
is_below [] [] = refl
is_below [] (y ∷ ys) = sign_below 32 y (blanks_against ys) ∙ ap (λ later. nat_lt 32 y || (nat_eq 32 y && later)) (is_below [] ys)
is_below (x ∷ xs) [] = sign_below x 32 (against_blanks xs) ∙ ap (λ later. nat_lt x 32 || (nat_eq x 32 && later)) (blanks xs ∙ is_below xs [])
  where
    blanks : (xs : List ℕ) → int_lt (against_blanks xs) (pos 0) ≡ int_lt (comparison xs []) (pos 0)
    blanks [] = refl
    blanks (x ∷ xs) = refl
is_below (x ∷ xs) (y ∷ ys) = sign_below x y (comparison xs ys) ∙ ap (λ later. nat_lt x y || (nat_eq x y && later)) (is_below xs ys)

pub is_above : (a b : List ℕ) → int_lt (pos 0) (comparison a b) ≡ valuing.is_before b a
unfolding valuing.is_before
is_above [] [] = refl
is_above [] (y ∷ ys) = sign_above 32 y (blanks_against ys) ∙ ap (λ later. nat_lt y 32 || (nat_eq y 32 && later)) (is_above [] ys)
is_above (x ∷ xs) [] = sign_above x 32 (against_blanks xs) ∙ ap (λ later. nat_lt 32 x || (nat_eq 32 x && later)) (blanks xs ∙ is_above xs [])
  where
    blanks : (xs : List ℕ) → int_lt (pos 0) (against_blanks xs) ≡ int_lt (pos 0) (comparison xs [])
    blanks [] = refl
    blanks (x ∷ xs) = refl
is_above (x ∷ xs) (y ∷ ys) = sign_above x y (comparison xs ys) ∙ ap (λ later. nat_lt y x || (nat_eq y x && later)) (is_above xs ys)

-- ## Relations of texts

at_most : (z y : ℤ) → int_le z y ≡ not (int_lt y z)
at_most z y = grind (arith, ints)

equal_by : (z : ℤ) (p q : Bool) → int_lt z (pos 0) ≡ p → int_lt (pos 0) z ≡ q → int_eq z (pos 0) ≡ (not p && not q)
equal_by z true true a b = grind (arith, ints)
equal_by z true false a b = grind (arith, ints)
equal_by z false true a b = grind (arith, ints)
equal_by z false false a b = grind (arith, ints)

not_both : (p q : Bool) → not (not p && not q) ≡ (p || q)
not_both true true = refl
not_both true false = refl
not_both false true = refl
not_both false false = refl

-- Each relation of texts is that of the number of their comparison to 0
pub relation_meant : (objects : List Object) (operator : Operator) (a b : List ℕ) (d : Datum) (term : Term) → valuing.on_texts operator a b ≡ Gives d → IsNumber objects term (comparison a b) →
    Means objects (Between (operator_for operator) term (Constant (pos 0))) d
unfolding valuing.on_texts
relation_meant objects IsLess a b d term gives counts =
    compares objects op.Less term (Constant (pos 0)) (comparison a b) (pos 0) (valuing.is_before a b) d (λ x y. refl)
    (ap (λ holds. Ok (truth holds)) (is_below a b)) gives counts (Constant-counts objects (pos 0))
relation_meant objects IsLessOrEqual a b d term gives counts =
    compares objects op.LessOrEqual term (Constant (pos 0)) (comparison a b) (pos 0) (not (valuing.is_before b a)) d (λ x y. refl)
    (ap (λ holds. Ok (truth holds)) (at_most (comparison a b) (pos 0) ∙ ap not (is_above a b))) gives counts (Constant-counts objects (pos 0))
relation_meant objects IsEqual a b d term gives counts =
    compares objects op.Equal term (Constant (pos 0)) (comparison a b) (pos 0) (not (valuing.is_before a b) && not (valuing.is_before b a)) d (λ x y. refl)
    (ap (λ holds. Ok (truth holds)) (equal_by (comparison a b) (valuing.is_before a b) (valuing.is_before b a) (is_below a b) (is_above a b))) gives counts (Constant-counts objects (pos 0))
relation_meant objects IsNotEqual a b d term gives counts =
    compares objects op.Unequal term (Constant (pos 0)) (comparison a b) (pos 0) (valuing.is_before a b || valuing.is_before b a) d (λ x y. refl)
    (ap (λ holds. Ok (truth holds)) (ap not (equal_by (comparison a b) (valuing.is_before a b) (valuing.is_before b a) (is_below a b) (is_above a b)) ∙ not_both (valuing.is_before a b) (valuing.is_before b a)))
    gives counts (Constant-counts objects (pos 0))
relation_meant objects IsGreater a b d term gives counts =
    compares objects op.Greater term (Constant (pos 0)) (comparison a b) (pos 0) (valuing.is_before b a) d (λ x y. refl)
    (ap (λ holds. Ok (truth holds)) (is_above a b)) gives counts (Constant-counts objects (pos 0))
relation_meant objects IsGreaterOrEqual a b d term gives counts =
    compares objects op.GreaterOrEqual term (Constant (pos 0)) (comparison a b) (pos 0) (not (valuing.is_before a b)) d (λ x y. refl)
    (ap (λ holds. Ok (truth holds)) (at_most (pos 0) (comparison a b) ∙ ap not (is_below a b))) gives counts (Constant-counts objects (pos 0))
relation_meant objects _ a b d term gives counts = absurd (cc)

-- ## INDEX

same_either_way : (a b : ℕ) → nat_eq a b ≡ nat_eq b a
same_either_way a b = by (nat_eq b a) refl
  where
    by : (test : Bool) → nat_eq b a ≡ test → nat_eq a b ≡ test
    by true is = eq-eqb a b (sym (eqb-true b a is))
    by false is = not_equal a b (λ same. let wrong : true ≡ false = sym (eq-eqb b a (sym same)) ∙ is in absurd (cc))

begins_alike : (text part : List ℕ) → starts_with nat_eq text part ≡ valuing.begins_with text part
unfolding valuing.begins_with
begins_alike text [] = refl
begins_alike [] (b ∷ bs) = refl
begins_alike (a ∷ text) (b ∷ bs) =
    ap (λ test. test && starts_with nat_eq text bs) (same_either_way b a) ∙ ap (λ later. nat_eq a b && later) (begins_alike text bs)

choice_alike : (test : Bool) (place at : ℕ) (other : ℤ) (otherwise : ℕ) → place ≡ at → other ≡ pos otherwise → (if test then pos place else other) ≡ pos (if test then at else otherwise)
choice_alike true place at other otherwise same is = ap pos same
choice_alike false place at other otherwise same is = is

-- the first place of a text in another
pub index_alike : (place : ℕ) (text part : List ℕ) → found_from place text part ≡ pos (valuing.index_from place text part)
unfolding valuing.index_from valuing.begins_with
index_alike place [] [] = refl
index_alike place [] (b ∷ bs) =
    ap (λ test. if test then pos place else pos 0) (not_equal (suc (length bs)) 0 (λ same. omega (arith, same)))
index_alike place (a ∷ text) part =
    ap (λ test. if test then pos place else found_from (place + 1) text part) (begins_alike (a ∷ text) part) ∙
    choice_alike (valuing.begins_with (a ∷ text) part) place place (found_from (place + 1) text part) (valuing.index_from (suc place) text part) refl
    ((let next : place + 1 ≡ suc place = omega arith in ap (λ n. found_from n text part) next) ∙ index_alike (suc place) text part)

-- ## Calls of the library with two texts

not_negative : (n : ℕ) → int_lt (pos n) (pos 0) ≡ false
not_negative n = grind (arith, ints)

pub length_is : (n : ℕ) → length_from (Number (pos n)) ≡ Ok n
length_is n = ap (λ test. if test then failing Library else Ok n) (not_negative n)

-- a function of two texts is given the number of the texts that its arguments point to
pub texts_given : (number : List ℕ → List ℕ → ℤ) (world : World) (p q : CValue) (a b : List ℕ) → text_at world.objects p (length a) ≡ Ok a → text_at world.objects q (length b) ≡ Ok b →
    on_texts number world p q (Number (pos (length a))) (Number (pos (length b))) ≡ Ok (c.Gives (number a b) world)
unfolding on_texts
texts_given number world p q a b first second =
    ap (λ found. after found λ size. after (length_from (Number (pos (length b)))) λ count. after (text_at world.objects p size) λ left. after (text_at world.objects q count) λ right. Ok (c.Gives (number left right) world)) (length_is (length a)) ∙
    ap (λ found. after found λ count. after (text_at world.objects p (length a)) λ left. after (text_at world.objects q count) λ right. Ok (c.Gives (number left right) world)) (length_is (length b)) ∙
    ap (λ found. after found λ left. after (text_at world.objects q (length b)) λ right. Ok (c.Gives (number left right) world)) first ∙
    ap (λ found. after found λ right. Ok (c.Gives (number a right) world)) second

truth_given : (b : Bool) (d : Datum) (w : Whole) → Gives (IsLog b) ≡ Gives d → whole_for d ≡ Some w → one_if b ≡ number_for w
truth_given b d w gives is =
    let same : IsLog b ≡ d = cc in
    let whole : Truth b ≡ w = one_there (whole_for d) (Truth b) w (ap whole_for (sym same)) is in
    by b ∙ ap number_for whole
  where
    by : (b : Bool) → one_if b ≡ number_for (Truth b)
    by true = refl
    by false = refl

-- a relation of texts: the number of their comparison
pub comparison_given : (world : World) (p q : CValue) (a b : List ℕ) → text_at world.objects p (length a) ≡ Ok a → text_at world.objects q (length b) ≡ Ok b →
    library s_cmp world (p ∷ q ∷ Number (pos (length a)) ∷ Number (pos (length b)) ∷ []) ≡ Ok (c.Gives (comparison a b) world)
unfolding library
comparison_given world p q a b first second = texts_given comparison world p q a b first second

record IsLibrary (world : World) (p q : CValue) (a b : List ℕ) (builtin : Builtin) (number : List ℕ → List ℕ → ℤ) : Type 0 where
  gives : library builtin world (p ∷ q ∷ Number (pos (length a)) ∷ Number (pos (length b)) ∷ []) ≡ Ok (c.Gives (number a b) world)

given_by : (world : World) (p q : CValue) (a b : List ℕ) (one builtin : Builtin) (number : List ℕ → List ℕ → ℤ) (w : Whole) → Some one ≡ Some builtin → IsLibrary world p q a b one number →
    number a b ≡ number_for w → library builtin world (p ∷ q ∷ Number (pos (length a)) ∷ Number (pos (length b)) ∷ []) ≡ Ok (c.Gives (number_for w) world)
given_by world p q a b one builtin number w is given same =
    let builtin_is : one ≡ builtin = one_there (Some one) one builtin refl is in
    subst (λ f. library f world (p ∷ q ∷ Number (pos (length a)) ∷ Number (pos (length b)) ∷ []) ≡ Ok (c.Gives (number_for w) world)) builtin_is
    (given.gives ∙ ap (λ z. Ok (c.Gives z world)) same)

-- A function of two texts that is a call of the library gives there the value that it has in FORTRAN
pub texts_meant : (f : function.Function) (builtin : Builtin) (world : World) (p q : CValue) (a b : List ℕ) (d : Datum) (w : Whole) → valuing.applied f (IsText a ∷ IsText b ∷ []) ≡ Gives d →
    library_for f ≡ Some builtin → text_at world.objects p (length a) ≡ Ok a → text_at world.objects q (length b) ≡ Ok b → whole_for d ≡ Some w →
    library builtin world (p ∷ q ∷ Number (pos (length a)) ∷ Number (pos (length b)) ∷ []) ≡ Ok (c.Gives (number_for w) world)
unfolding valuing.applied valuing.on_texts library
texts_meant function.IndexOf builtin world p q a b d w gives named first second is =
    let value : IsInt (pos (valuing.index_from 1 a b)) ≡ d = cc in
    let whole : store.Number (pos (valuing.index_from 1 a b)) ≡ w = one_there (whole_for d) (store.Number (pos (valuing.index_from 1 a b))) w (ap whole_for (sym value)) is in
    given_by world p q a b i_indx builtin index_of w named (record { gives = texts_given index_of world p q a b first second }) (index_alike 1 a b ∙ ap number_for whole)
texts_meant function.LexicallyGreaterOrEqual builtin world p q a b d w gives named first second is =
    given_by world p q a b l_ge builtin not_below w named (record { gives = texts_given not_below world p q a b first second })
    (ap one_if (at_most (pos 0) (comparison a b) ∙ ap not (is_below a b)) ∙ truth_given (not (valuing.is_before a b)) d w gives is)
texts_meant function.LexicallyGreater builtin world p q a b d w gives named first second is =
    given_by world p q a b l_gt builtin above w named (record { gives = texts_given above world p q a b first second })
    (ap one_if (is_above a b) ∙ truth_given (valuing.is_before b a) d w gives is)
texts_meant function.LexicallyLessOrEqual builtin world p q a b d w gives named first second is =
    given_by world p q a b l_le builtin not_above w named (record { gives = texts_given not_above world p q a b first second })
    (ap one_if (at_most (comparison a b) (pos 0) ∙ ap not (is_above a b)) ∙ truth_given (not (valuing.is_before b a)) d w gives is)
texts_meant function.LexicallyLess builtin world p q a b d w gives named first second is =
    given_by world p q a b l_lt builtin below w named (record { gives = texts_given below world p q a b first second })
    (ap one_if (is_below a b) ∙ truth_given (valuing.is_before a b) d w gives is)
texts_meant _ builtin world p q a b d w gives named first second is = absurd (cc)
