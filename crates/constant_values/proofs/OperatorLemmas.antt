-- Operators between values, form by form.
use Rattle.std.proofs.Common.{◌≡◌, ℕ, ℤ, Bool, true, false, not, ◌&&◌, ◌||◌, ◌++◌, Option, Some, None, refl}
use Rattle.std.specs.Prelude.{◌+ℤ◌, ◌-ℤ◌, ◌*ℤ◌, int_lt, int_le}
use Rattle.std.specs.Ordering.{int_eq}
use Rattle.f_tree.specs.declared.expressions.BinaryOp.{BinaryOp}
use Rattle.f_tree.specs.declared.expressions.BinaryOp.TheVariants as op
use Rattle.f_tree.specs.Values.{Bytes, Datum, IsInt, IsLog, IsText, IsLabel, checked}
use Rattle.f_tree.specs.Valuing.{operated, on_integers, on_logicals, on_texts, both_or_none, left_of, divided, raised, is_before, applied}
use Rattle.constant_values.specs.Folded.{given, if_some, all_some, function_folded, between_folded, right_folded, both_texts, text_in, as_text, binary_folded}

pub int-Power : (a b : ℤ) → binary_folded op.Power (Some (IsInt a)) (Some (IsInt b)) ≡ given (raised a b)
unfolding binary_folded function_folded between_folded right_folded if_some all_some given left_of operated on_integers on_logicals on_texts both_or_none applied both_texts text_in as_text
int-Power a b = refl

pub int-Times : (a b : ℤ) → binary_folded op.Times (Some (IsInt a)) (Some (IsInt b)) ≡ given (checked (a *ℤ b))
unfolding binary_folded function_folded between_folded right_folded if_some all_some given left_of operated on_integers on_logicals on_texts both_or_none applied both_texts text_in as_text
int-Times a b = refl

pub int-Divide : (a b : ℤ) → binary_folded op.Divide (Some (IsInt a)) (Some (IsInt b)) ≡ given (divided a b)
unfolding binary_folded function_folded between_folded right_folded if_some all_some given left_of operated on_integers on_logicals on_texts both_or_none applied both_texts text_in as_text
int-Divide a b = refl

pub int-Plus : (a b : ℤ) → binary_folded op.Plus (Some (IsInt a)) (Some (IsInt b)) ≡ given (checked (a +ℤ b))
unfolding binary_folded function_folded between_folded right_folded if_some all_some given left_of operated on_integers on_logicals on_texts both_or_none applied both_texts text_in as_text
int-Plus a b = refl

pub int-Minus : (a b : ℤ) → binary_folded op.Minus (Some (IsInt a)) (Some (IsInt b)) ≡ given (checked (a -ℤ b))
unfolding binary_folded function_folded between_folded right_folded if_some all_some given left_of operated on_integers on_logicals on_texts both_or_none applied both_texts text_in as_text
int-Minus a b = refl

pub int-Concatenate : (a b : ℤ) → binary_folded op.Concatenate (Some (IsInt a)) (Some (IsInt b)) ≡ None
unfolding binary_folded function_folded between_folded right_folded if_some all_some given left_of operated on_integers on_logicals on_texts both_or_none applied both_texts text_in as_text
int-Concatenate a b = refl

pub int-Less : (a b : ℤ) → binary_folded op.Less (Some (IsInt a)) (Some (IsInt b)) ≡ Some (IsLog (int_lt a b))
unfolding binary_folded function_folded between_folded right_folded if_some all_some given left_of operated on_integers on_logicals on_texts both_or_none applied both_texts text_in as_text
int-Less a b = refl

pub int-LessOrEqual : (a b : ℤ) → binary_folded op.LessOrEqual (Some (IsInt a)) (Some (IsInt b)) ≡ Some (IsLog (int_le a b))
unfolding binary_folded function_folded between_folded right_folded if_some all_some given left_of operated on_integers on_logicals on_texts both_or_none applied both_texts text_in as_text
int-LessOrEqual a b = refl

pub int-Equal : (a b : ℤ) → binary_folded op.Equal (Some (IsInt a)) (Some (IsInt b)) ≡ Some (IsLog (int_eq a b))
unfolding binary_folded function_folded between_folded right_folded if_some all_some given left_of operated on_integers on_logicals on_texts both_or_none applied both_texts text_in as_text
int-Equal a b = refl

pub int-NotEqual : (a b : ℤ) → binary_folded op.NotEqual (Some (IsInt a)) (Some (IsInt b)) ≡ Some (IsLog (not (int_eq a b)))
unfolding binary_folded function_folded between_folded right_folded if_some all_some given left_of operated on_integers on_logicals on_texts both_or_none applied both_texts text_in as_text
int-NotEqual a b = refl

pub int-Greater : (a b : ℤ) → binary_folded op.Greater (Some (IsInt a)) (Some (IsInt b)) ≡ Some (IsLog (int_lt b a))
unfolding binary_folded function_folded between_folded right_folded if_some all_some given left_of operated on_integers on_logicals on_texts both_or_none applied both_texts text_in as_text
int-Greater a b = refl

pub int-GreaterOrEqual : (a b : ℤ) → binary_folded op.GreaterOrEqual (Some (IsInt a)) (Some (IsInt b)) ≡ Some (IsLog (int_le b a))
unfolding binary_folded function_folded between_folded right_folded if_some all_some given left_of operated on_integers on_logicals on_texts both_or_none applied both_texts text_in as_text
int-GreaterOrEqual a b = refl

pub int-And : (a b : ℤ) → binary_folded op.And (Some (IsInt a)) (Some (IsInt b)) ≡ None
unfolding binary_folded function_folded between_folded right_folded if_some all_some given left_of operated on_integers on_logicals on_texts both_or_none applied both_texts text_in as_text
int-And a b = refl

pub int-Or : (a b : ℤ) → binary_folded op.Or (Some (IsInt a)) (Some (IsInt b)) ≡ None
unfolding binary_folded function_folded between_folded right_folded if_some all_some given left_of operated on_integers on_logicals on_texts both_or_none applied both_texts text_in as_text
int-Or a b = refl

pub int-Equivalent : (a b : ℤ) → binary_folded op.Equivalent (Some (IsInt a)) (Some (IsInt b)) ≡ None
unfolding binary_folded function_folded between_folded right_folded if_some all_some given left_of operated on_integers on_logicals on_texts both_or_none applied both_texts text_in as_text
int-Equivalent a b = refl

pub int-NotEquivalent : (a b : ℤ) → binary_folded op.NotEquivalent (Some (IsInt a)) (Some (IsInt b)) ≡ None
unfolding binary_folded function_folded between_folded right_folded if_some all_some given left_of operated on_integers on_logicals on_texts both_or_none applied both_texts text_in as_text
int-NotEquivalent a b = refl

pub ruleset integer_forms = (int-Power, int-Times, int-Divide, int-Plus, int-Minus, int-Concatenate, int-Less, int-LessOrEqual, int-Equal, int-NotEqual, int-Greater, int-GreaterOrEqual, int-And, int-Or, int-Equivalent, int-NotEquivalent)

pub log-Power : (a b : Bool) → binary_folded op.Power (Some (IsLog a)) (Some (IsLog b)) ≡ None
unfolding binary_folded function_folded between_folded right_folded if_some all_some given left_of operated on_integers on_logicals on_texts both_or_none applied both_texts text_in as_text
log-Power a b = refl

pub log-Times : (a b : Bool) → binary_folded op.Times (Some (IsLog a)) (Some (IsLog b)) ≡ None
unfolding binary_folded function_folded between_folded right_folded if_some all_some given left_of operated on_integers on_logicals on_texts both_or_none applied both_texts text_in as_text
log-Times a b = refl

pub log-Divide : (a b : Bool) → binary_folded op.Divide (Some (IsLog a)) (Some (IsLog b)) ≡ None
unfolding binary_folded function_folded between_folded right_folded if_some all_some given left_of operated on_integers on_logicals on_texts both_or_none applied both_texts text_in as_text
log-Divide a b = refl

pub log-Plus : (a b : Bool) → binary_folded op.Plus (Some (IsLog a)) (Some (IsLog b)) ≡ None
unfolding binary_folded function_folded between_folded right_folded if_some all_some given left_of operated on_integers on_logicals on_texts both_or_none applied both_texts text_in as_text
log-Plus a b = refl

pub log-Minus : (a b : Bool) → binary_folded op.Minus (Some (IsLog a)) (Some (IsLog b)) ≡ None
unfolding binary_folded function_folded between_folded right_folded if_some all_some given left_of operated on_integers on_logicals on_texts both_or_none applied both_texts text_in as_text
log-Minus a b = refl

pub log-Concatenate : (a b : Bool) → binary_folded op.Concatenate (Some (IsLog a)) (Some (IsLog b)) ≡ None
unfolding binary_folded function_folded between_folded right_folded if_some all_some given left_of operated on_integers on_logicals on_texts both_or_none applied both_texts text_in as_text
log-Concatenate a b = refl

pub log-Less : (a b : Bool) → binary_folded op.Less (Some (IsLog a)) (Some (IsLog b)) ≡ None
unfolding binary_folded function_folded between_folded right_folded if_some all_some given left_of operated on_integers on_logicals on_texts both_or_none applied both_texts text_in as_text
log-Less a b = refl

pub log-LessOrEqual : (a b : Bool) → binary_folded op.LessOrEqual (Some (IsLog a)) (Some (IsLog b)) ≡ None
unfolding binary_folded function_folded between_folded right_folded if_some all_some given left_of operated on_integers on_logicals on_texts both_or_none applied both_texts text_in as_text
log-LessOrEqual a b = refl

pub log-Equal : (a b : Bool) → binary_folded op.Equal (Some (IsLog a)) (Some (IsLog b)) ≡ None
unfolding binary_folded function_folded between_folded right_folded if_some all_some given left_of operated on_integers on_logicals on_texts both_or_none applied both_texts text_in as_text
log-Equal a b = refl

pub log-NotEqual : (a b : Bool) → binary_folded op.NotEqual (Some (IsLog a)) (Some (IsLog b)) ≡ None
unfolding binary_folded function_folded between_folded right_folded if_some all_some given left_of operated on_integers on_logicals on_texts both_or_none applied both_texts text_in as_text
log-NotEqual a b = refl

pub log-Greater : (a b : Bool) → binary_folded op.Greater (Some (IsLog a)) (Some (IsLog b)) ≡ None
unfolding binary_folded function_folded between_folded right_folded if_some all_some given left_of operated on_integers on_logicals on_texts both_or_none applied both_texts text_in as_text
log-Greater a b = refl

pub log-GreaterOrEqual : (a b : Bool) → binary_folded op.GreaterOrEqual (Some (IsLog a)) (Some (IsLog b)) ≡ None
unfolding binary_folded function_folded between_folded right_folded if_some all_some given left_of operated on_integers on_logicals on_texts both_or_none applied both_texts text_in as_text
log-GreaterOrEqual a b = refl

pub log-And : (a b : Bool) → binary_folded op.And (Some (IsLog a)) (Some (IsLog b)) ≡ Some (IsLog (a && b))
unfolding binary_folded function_folded between_folded right_folded if_some all_some given left_of operated on_integers on_logicals on_texts both_or_none applied both_texts text_in as_text
log-And true b = refl
log-And false b = refl

pub log-Or : (a b : Bool) → binary_folded op.Or (Some (IsLog a)) (Some (IsLog b)) ≡ Some (IsLog (a || b))
unfolding binary_folded function_folded between_folded right_folded if_some all_some given left_of operated on_integers on_logicals on_texts both_or_none applied both_texts text_in as_text
log-Or true b = refl
log-Or false b = refl

pub log-Equivalent : (a b : Bool) → binary_folded op.Equivalent (Some (IsLog a)) (Some (IsLog b)) ≡ Some (IsLog (both_or_none a b))
unfolding binary_folded function_folded between_folded right_folded if_some all_some given left_of operated on_integers on_logicals on_texts both_or_none applied both_texts text_in as_text
log-Equivalent true true = refl
log-Equivalent true false = refl
log-Equivalent false true = refl
log-Equivalent false false = refl

pub log-NotEquivalent : (a b : Bool) → binary_folded op.NotEquivalent (Some (IsLog a)) (Some (IsLog b)) ≡ Some (IsLog (not (both_or_none a b)))
unfolding binary_folded function_folded between_folded right_folded if_some all_some given left_of operated on_integers on_logicals on_texts both_or_none applied both_texts text_in as_text
log-NotEquivalent true true = refl
log-NotEquivalent true false = refl
log-NotEquivalent false true = refl
log-NotEquivalent false false = refl

pub ruleset logical_forms = (log-Power, log-Times, log-Divide, log-Plus, log-Minus, log-Concatenate, log-Less, log-LessOrEqual, log-Equal, log-NotEqual, log-Greater, log-GreaterOrEqual, log-And, log-Or, log-Equivalent, log-NotEquivalent)

pub text-Power : (a b : Bytes) → binary_folded op.Power (Some (IsText a)) (Some (IsText b)) ≡ None
unfolding binary_folded function_folded between_folded right_folded if_some all_some given left_of operated on_integers on_logicals on_texts both_or_none applied both_texts text_in as_text
text-Power a b = refl

pub text-Times : (a b : Bytes) → binary_folded op.Times (Some (IsText a)) (Some (IsText b)) ≡ None
unfolding binary_folded function_folded between_folded right_folded if_some all_some given left_of operated on_integers on_logicals on_texts both_or_none applied both_texts text_in as_text
text-Times a b = refl

pub text-Divide : (a b : Bytes) → binary_folded op.Divide (Some (IsText a)) (Some (IsText b)) ≡ None
unfolding binary_folded function_folded between_folded right_folded if_some all_some given left_of operated on_integers on_logicals on_texts both_or_none applied both_texts text_in as_text
text-Divide a b = refl

pub text-Plus : (a b : Bytes) → binary_folded op.Plus (Some (IsText a)) (Some (IsText b)) ≡ None
unfolding binary_folded function_folded between_folded right_folded if_some all_some given left_of operated on_integers on_logicals on_texts both_or_none applied both_texts text_in as_text
text-Plus a b = refl

pub text-Minus : (a b : Bytes) → binary_folded op.Minus (Some (IsText a)) (Some (IsText b)) ≡ None
unfolding binary_folded function_folded between_folded right_folded if_some all_some given left_of operated on_integers on_logicals on_texts both_or_none applied both_texts text_in as_text
text-Minus a b = refl

pub text-Concatenate : (a b : Bytes) → binary_folded op.Concatenate (Some (IsText a)) (Some (IsText b)) ≡ Some (IsText (a ++ b))
unfolding binary_folded function_folded between_folded right_folded if_some all_some given left_of operated on_integers on_logicals on_texts both_or_none applied both_texts text_in as_text
text-Concatenate a b = refl

pub text-Less : (a b : Bytes) → binary_folded op.Less (Some (IsText a)) (Some (IsText b)) ≡ Some (IsLog (is_before a b))
unfolding binary_folded function_folded between_folded right_folded if_some all_some given left_of operated on_integers on_logicals on_texts both_or_none applied both_texts text_in as_text
text-Less a b = refl

pub text-LessOrEqual : (a b : Bytes) → binary_folded op.LessOrEqual (Some (IsText a)) (Some (IsText b)) ≡ Some (IsLog (not (is_before b a)))
unfolding binary_folded function_folded between_folded right_folded if_some all_some given left_of operated on_integers on_logicals on_texts both_or_none applied both_texts text_in as_text
text-LessOrEqual a b = refl

pub text-Equal : (a b : Bytes) → binary_folded op.Equal (Some (IsText a)) (Some (IsText b)) ≡ Some (IsLog (not (is_before a b) && not (is_before b a)))
unfolding binary_folded function_folded between_folded right_folded if_some all_some given left_of operated on_integers on_logicals on_texts both_or_none applied both_texts text_in as_text
text-Equal a b = refl

pub text-NotEqual : (a b : Bytes) → binary_folded op.NotEqual (Some (IsText a)) (Some (IsText b)) ≡ Some (IsLog (is_before a b || is_before b a))
unfolding binary_folded function_folded between_folded right_folded if_some all_some given left_of operated on_integers on_logicals on_texts both_or_none applied both_texts text_in as_text
text-NotEqual a b = refl

pub text-Greater : (a b : Bytes) → binary_folded op.Greater (Some (IsText a)) (Some (IsText b)) ≡ Some (IsLog (is_before b a))
unfolding binary_folded function_folded between_folded right_folded if_some all_some given left_of operated on_integers on_logicals on_texts both_or_none applied both_texts text_in as_text
text-Greater a b = refl

pub text-GreaterOrEqual : (a b : Bytes) → binary_folded op.GreaterOrEqual (Some (IsText a)) (Some (IsText b)) ≡ Some (IsLog (not (is_before a b)))
unfolding binary_folded function_folded between_folded right_folded if_some all_some given left_of operated on_integers on_logicals on_texts both_or_none applied both_texts text_in as_text
text-GreaterOrEqual a b = refl

pub text-And : (a b : Bytes) → binary_folded op.And (Some (IsText a)) (Some (IsText b)) ≡ None
unfolding binary_folded function_folded between_folded right_folded if_some all_some given left_of operated on_integers on_logicals on_texts both_or_none applied both_texts text_in as_text
text-And a b = refl

pub text-Or : (a b : Bytes) → binary_folded op.Or (Some (IsText a)) (Some (IsText b)) ≡ None
unfolding binary_folded function_folded between_folded right_folded if_some all_some given left_of operated on_integers on_logicals on_texts both_or_none applied both_texts text_in as_text
text-Or a b = refl

pub text-Equivalent : (a b : Bytes) → binary_folded op.Equivalent (Some (IsText a)) (Some (IsText b)) ≡ None
unfolding binary_folded function_folded between_folded right_folded if_some all_some given left_of operated on_integers on_logicals on_texts both_or_none applied both_texts text_in as_text
text-Equivalent a b = refl

pub text-NotEquivalent : (a b : Bytes) → binary_folded op.NotEquivalent (Some (IsText a)) (Some (IsText b)) ≡ None
unfolding binary_folded function_folded between_folded right_folded if_some all_some given left_of operated on_integers on_logicals on_texts both_or_none applied both_texts text_in as_text
text-NotEquivalent a b = refl

pub ruleset text_forms = (text-Power, text-Times, text-Divide, text-Plus, text-Minus, text-Concatenate, text-Less, text-LessOrEqual, text-Equal, text-NotEqual, text-Greater, text-GreaterOrEqual, text-And, text-Or, text-Equivalent, text-NotEquivalent)

pub left-Power : (a : Bool) → binary_folded op.Power (Some (IsLog a)) None ≡ None
unfolding binary_folded function_folded between_folded right_folded if_some all_some given left_of operated on_integers on_logicals on_texts both_or_none applied both_texts text_in as_text
left-Power a = refl

pub left-Times : (a : Bool) → binary_folded op.Times (Some (IsLog a)) None ≡ None
unfolding binary_folded function_folded between_folded right_folded if_some all_some given left_of operated on_integers on_logicals on_texts both_or_none applied both_texts text_in as_text
left-Times a = refl

pub left-Divide : (a : Bool) → binary_folded op.Divide (Some (IsLog a)) None ≡ None
unfolding binary_folded function_folded between_folded right_folded if_some all_some given left_of operated on_integers on_logicals on_texts both_or_none applied both_texts text_in as_text
left-Divide a = refl

pub left-Plus : (a : Bool) → binary_folded op.Plus (Some (IsLog a)) None ≡ None
unfolding binary_folded function_folded between_folded right_folded if_some all_some given left_of operated on_integers on_logicals on_texts both_or_none applied both_texts text_in as_text
left-Plus a = refl

pub left-Minus : (a : Bool) → binary_folded op.Minus (Some (IsLog a)) None ≡ None
unfolding binary_folded function_folded between_folded right_folded if_some all_some given left_of operated on_integers on_logicals on_texts both_or_none applied both_texts text_in as_text
left-Minus a = refl

pub left-Concatenate : (a : Bool) → binary_folded op.Concatenate (Some (IsLog a)) None ≡ None
unfolding binary_folded function_folded between_folded right_folded if_some all_some given left_of operated on_integers on_logicals on_texts both_or_none applied both_texts text_in as_text
left-Concatenate a = refl

pub left-Less : (a : Bool) → binary_folded op.Less (Some (IsLog a)) None ≡ None
unfolding binary_folded function_folded between_folded right_folded if_some all_some given left_of operated on_integers on_logicals on_texts both_or_none applied both_texts text_in as_text
left-Less a = refl

pub left-LessOrEqual : (a : Bool) → binary_folded op.LessOrEqual (Some (IsLog a)) None ≡ None
unfolding binary_folded function_folded between_folded right_folded if_some all_some given left_of operated on_integers on_logicals on_texts both_or_none applied both_texts text_in as_text
left-LessOrEqual a = refl

pub left-Equal : (a : Bool) → binary_folded op.Equal (Some (IsLog a)) None ≡ None
unfolding binary_folded function_folded between_folded right_folded if_some all_some given left_of operated on_integers on_logicals on_texts both_or_none applied both_texts text_in as_text
left-Equal a = refl

pub left-NotEqual : (a : Bool) → binary_folded op.NotEqual (Some (IsLog a)) None ≡ None
unfolding binary_folded function_folded between_folded right_folded if_some all_some given left_of operated on_integers on_logicals on_texts both_or_none applied both_texts text_in as_text
left-NotEqual a = refl

pub left-Greater : (a : Bool) → binary_folded op.Greater (Some (IsLog a)) None ≡ None
unfolding binary_folded function_folded between_folded right_folded if_some all_some given left_of operated on_integers on_logicals on_texts both_or_none applied both_texts text_in as_text
left-Greater a = refl

pub left-GreaterOrEqual : (a : Bool) → binary_folded op.GreaterOrEqual (Some (IsLog a)) None ≡ None
unfolding binary_folded function_folded between_folded right_folded if_some all_some given left_of operated on_integers on_logicals on_texts both_or_none applied both_texts text_in as_text
left-GreaterOrEqual a = refl

pub left-And-true : binary_folded op.And (Some (IsLog true)) None ≡ None
unfolding binary_folded function_folded between_folded right_folded if_some all_some given left_of operated on_integers on_logicals on_texts both_or_none applied both_texts text_in as_text
left-And-true = refl

pub left-And-false : binary_folded op.And (Some (IsLog false)) None ≡ Some (IsLog false)
unfolding binary_folded function_folded between_folded right_folded if_some all_some given left_of operated on_integers on_logicals on_texts both_or_none applied both_texts text_in as_text
left-And-false = refl

pub left-Or-true : binary_folded op.Or (Some (IsLog true)) None ≡ Some (IsLog true)
unfolding binary_folded function_folded between_folded right_folded if_some all_some given left_of operated on_integers on_logicals on_texts both_or_none applied both_texts text_in as_text
left-Or-true = refl

pub left-Or-false : binary_folded op.Or (Some (IsLog false)) None ≡ None
unfolding binary_folded function_folded between_folded right_folded if_some all_some given left_of operated on_integers on_logicals on_texts both_or_none applied both_texts text_in as_text
left-Or-false = refl

pub left-Equivalent : (a : Bool) → binary_folded op.Equivalent (Some (IsLog a)) None ≡ None
unfolding binary_folded function_folded between_folded right_folded if_some all_some given left_of operated on_integers on_logicals on_texts both_or_none applied both_texts text_in as_text
left-Equivalent a = refl

pub left-NotEquivalent : (a : Bool) → binary_folded op.NotEquivalent (Some (IsLog a)) None ≡ None
unfolding binary_folded function_folded between_folded right_folded if_some all_some given left_of operated on_integers on_logicals on_texts both_or_none applied both_texts text_in as_text
left-NotEquivalent a = refl

pub ruleset left_forms = (left-Power, left-Times, left-Divide, left-Plus, left-Minus, left-Concatenate, left-Less, left-LessOrEqual, left-Equal, left-NotEqual, left-Greater, left-GreaterOrEqual, left-And-true, left-And-false, left-Or-true, left-Or-false, left-Equivalent, left-NotEquivalent)

pub int-with-log : (o : BinaryOp) (a : ℤ) (b : Bool) → binary_folded o (Some (IsInt a)) (Some (IsLog b)) ≡ None
unfolding binary_folded function_folded between_folded right_folded if_some all_some given left_of operated on_integers on_logicals on_texts both_or_none applied both_texts text_in as_text
int-with-log op.Power a b = refl
int-with-log _ a b = refl

pub int-with-text : (o : BinaryOp) (a : ℤ) (b : Bytes) → binary_folded o (Some (IsInt a)) (Some (IsText b)) ≡ None
unfolding binary_folded function_folded between_folded right_folded if_some all_some given left_of operated on_integers on_logicals on_texts both_or_none applied both_texts text_in as_text
int-with-text op.Power a b = refl
int-with-text _ a b = refl

pub int-with-label : (o : BinaryOp) (a : ℤ) (b : ℕ) → binary_folded o (Some (IsInt a)) (Some (IsLabel b)) ≡ None
unfolding binary_folded function_folded between_folded right_folded if_some all_some given left_of operated on_integers on_logicals on_texts both_or_none applied both_texts text_in as_text
int-with-label op.Power a b = refl
int-with-label _ a b = refl

pub int-alone : (o : BinaryOp) (a : ℤ) → binary_folded o (Some (IsInt a)) None ≡ None
unfolding binary_folded function_folded between_folded right_folded if_some all_some given left_of operated on_integers on_logicals on_texts both_or_none applied both_texts text_in as_text
int-alone op.Power a = refl
int-alone _ a = refl

pub text-with-int : (o : BinaryOp) (a : Bytes) (b : ℤ) → binary_folded o (Some (IsText a)) (Some (IsInt b)) ≡ None
unfolding binary_folded function_folded between_folded right_folded if_some all_some given left_of operated on_integers on_logicals on_texts both_or_none applied both_texts text_in as_text
text-with-int op.Power a b = refl
text-with-int _ a b = refl

pub text-with-log : (o : BinaryOp) (a : Bytes) (b : Bool) → binary_folded o (Some (IsText a)) (Some (IsLog b)) ≡ None
unfolding binary_folded function_folded between_folded right_folded if_some all_some given left_of operated on_integers on_logicals on_texts both_or_none applied both_texts text_in as_text
text-with-log op.Power a b = refl
text-with-log _ a b = refl

pub text-with-label : (o : BinaryOp) (a : Bytes) (b : ℕ) → binary_folded o (Some (IsText a)) (Some (IsLabel b)) ≡ None
unfolding binary_folded function_folded between_folded right_folded if_some all_some given left_of operated on_integers on_logicals on_texts both_or_none applied both_texts text_in as_text
text-with-label op.Power a b = refl
text-with-label _ a b = refl

pub text-alone : (o : BinaryOp) (a : Bytes) → binary_folded o (Some (IsText a)) None ≡ None
unfolding binary_folded function_folded between_folded right_folded if_some all_some given left_of operated on_integers on_logicals on_texts both_or_none applied both_texts text_in as_text
text-alone op.Power a = refl
text-alone _ a = refl

pub log-with-int : (o : BinaryOp) (a : Bool) (b : ℤ) → binary_folded o (Some (IsLog a)) (Some (IsInt b)) ≡ binary_folded o (Some (IsLog a)) None
unfolding binary_folded function_folded between_folded right_folded if_some all_some given left_of operated on_integers on_logicals on_texts both_or_none applied both_texts text_in as_text
log-with-int op.And true b = refl
log-with-int op.And false b = refl
log-with-int op.Or true b = refl
log-with-int op.Or false b = refl
log-with-int _ a b = refl

pub log-with-text : (o : BinaryOp) (a : Bool) (b : Bytes) → binary_folded o (Some (IsLog a)) (Some (IsText b)) ≡ binary_folded o (Some (IsLog a)) None
unfolding binary_folded function_folded between_folded right_folded if_some all_some given left_of operated on_integers on_logicals on_texts both_or_none applied both_texts text_in as_text
log-with-text op.And true b = refl
log-with-text op.And false b = refl
log-with-text op.Or true b = refl
log-with-text op.Or false b = refl
log-with-text _ a b = refl

pub log-with-label : (o : BinaryOp) (a : Bool) (b : ℕ) → binary_folded o (Some (IsLog a)) (Some (IsLabel b)) ≡ binary_folded o (Some (IsLog a)) None
unfolding binary_folded function_folded between_folded right_folded if_some all_some given left_of operated on_integers on_logicals on_texts both_or_none applied both_texts text_in as_text
log-with-label op.And true b = refl
log-with-label op.And false b = refl
log-with-label op.Or true b = refl
log-with-label op.Or false b = refl
log-with-label _ a b = refl

pub label-with-any : (o : BinaryOp) (a : ℕ) (d : Datum) → binary_folded o (Some (IsLabel a)) (Some d) ≡ None
unfolding binary_folded function_folded between_folded right_folded if_some all_some given left_of operated on_integers on_logicals on_texts both_or_none applied both_texts text_in as_text
label-with-any op.Power a d = refl
label-with-any _ a d = refl

pub label-alone : (o : BinaryOp) (a : ℕ) → binary_folded o (Some (IsLabel a)) None ≡ None
unfolding binary_folded function_folded between_folded right_folded if_some all_some given left_of operated on_integers on_logicals on_texts both_or_none applied both_texts text_in as_text
label-alone op.Power a = refl
label-alone _ a = refl

pub none-with-any : (o : BinaryOp) (v : Option Datum) → binary_folded o None v ≡ None
unfolding binary_folded function_folded between_folded right_folded if_some all_some given left_of operated on_integers on_logicals on_texts both_or_none applied both_texts text_in as_text
none-with-any op.Power v = refl
none-with-any _ v = refl

pub ruleset unlike_forms = (int-with-log, int-with-text, int-with-label, int-alone, text-with-int, text-with-log, text-with-label, text-alone, log-with-int, log-with-text, log-with-label, label-with-any, label-alone, none-with-any)
