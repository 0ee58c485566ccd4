-- LEN, and the other functions, over operands.
use Rattle.std.proofs.Common.{◌≡◌, ℕ, ◌+◌, ◌≤◌, ◌<◌, ℤ, pos, Bool, true, false, List, [], ◌∷◌, length, Option, Some, None, if◌then◌else◌, refl, ap, sym, ◌∙◌, arith, true≢false}
use Rattle.std.specs.Prelude.{nat_le}
use Rattle.std.proofs.lemmas.Bool.Decides.{nat_tests}
use Rattle.f_tree.specs.Values.{Bytes, Datum, IsInt, IsLog, IsText, IsLabel, Gives, Fails, Overflow, given_that, in_range, checked}
use Rattle.f_tree.specs.Terms as term
use Rattle.f_tree.specs.declared.expressions.Expr.{Expr}
use Rattle.f_tree.specs.Valuing.{applied, total_length, length_of_piece}
use Rattle.constant_values.specs.declared.functions.IntrinsicFunction.{IntrinsicFunction}
use Rattle.constant_values.specs.declared.functions.IntrinsicFunction.TheVariants as is
use Rattle.constant_values.specs.FunctionNames.{function_of, is_length}
use Rattle.constant_values.specs.Folded.{KnownNames, given, if_some, all_some, function_folded, asked, applied_folded}
use Rattle.constant_values.specs.Operands.{apart_from_length, each_folded}

range-by : (n : ℕ) (b : Bool) → nat_le n 2147483647 ≡ b → given (checked (pos n)) ≡ (if b then Some (IsInt (pos n)) else None)
unfolding checked in_range given
range-by n b h = by (nat_le n 2147483647) ∙ ap (λ c. if c then Some (IsInt (pos n)) else None) h
  where
    by : (c : Bool) → given (if c then Gives (IsInt (pos n)) else Fails Overflow) ≡ (if c then Some (IsInt (pos n)) else None)
    by true = refl
    by false = refl

within : (n : ℕ) → n ≤ 2147483647 → nat_le n 2147483647 ≡ true
within n h = grind (arith, nat_tests)

past : (n : ℕ) → 2147483647 < n → nat_le n 2147483647 ≡ false
past n h = grind (arith, nat_tests)

text-length : (cs : Bytes) → function_folded term.TextLength (Some (IsText cs) ∷ []) ≡ given (checked (pos (length cs + 0)))
unfolding function_folded all_some if_some applied total_length length_of_piece given_that
text-length cs = refl

plus-zero : (n : ℕ) → n + 0 ≡ n
plus-zero n = omega arith

pub length-within : (cs : Bytes) → length cs ≤ 2147483647 → function_folded term.TextLength (Some (IsText cs) ∷ []) ≡ Some (IsInt (pos (length cs)))
length-within cs h = text-length cs ∙ ap (λ n. given (checked (pos n))) (plus-zero (length cs)) ∙ range-by (length cs) true (within (length cs) h)

pub length-past : (cs : Bytes) → 2147483647 < length cs → function_folded term.TextLength (Some (IsText cs) ∷ []) ≡ None
length-past cs h = text-length cs ∙ ap (λ n. given (checked (pos n))) (plus-zero (length cs)) ∙ range-by (length cs) false (past (length cs) h)

pub length-integer : (z : ℤ) → function_folded term.TextLength (Some (IsInt z) ∷ []) ≡ None
unfolding function_folded all_some if_some applied total_length length_of_piece given_that given
length-integer z = refl

pub length-logical : (b : Bool) → function_folded term.TextLength (Some (IsLog b) ∷ []) ≡ None
unfolding function_folded all_some if_some applied total_length length_of_piece given_that given
length-logical b = refl

pub length-label : (l : ℕ) → function_folded term.TextLength (Some (IsLabel l) ∷ []) ≡ None
unfolding function_folded all_some if_some applied total_length length_of_piece given_that given
length-label l = refl

pub length-none : function_folded term.TextLength (None ∷ []) ≡ None
unfolding function_folded all_some if_some
length-none = refl

-- another number of operands than one
pub length-of-nothing : function_folded term.TextLength [] ≡ None
unfolding function_folded all_some if_some applied given
length-of-nothing = refl

pub length-none-listed : (known : KnownNames) (es : List Expr) (env : List Datum) → length es ≡ 0 → None ≡ function_folded term.TextLength (asked term.TextLength (each_folded known es env))
unfolding asked each_folded
length-none-listed known [] env h = sym length-of-nothing
length-none-listed known (e ∷ es) env h = absurd (omega arith)

pub length-more-listed : (known : KnownNames) (es : List Expr) (env : List Datum) → 2 ≤ length es → None ≡ function_folded term.TextLength (asked term.TextLength (each_folded known es env))
unfolding asked each_folded
length-more-listed known [] env h = absurd (omega arith)
length-more-listed known (e ∷ []) env h = absurd (omega arith)
length-more-listed known (e ∷ d ∷ es) env h = sym length-of-nothing

pub ruleset length_forms = (length-within, length-past, length-integer, length-logical, length-label, length-none, length-of-nothing)

-- the other functions take what their operands are worth
apart-by : (f : IntrinsicFunction) (ds : List Datum) → is_length f ≡ false → given (applied (function_of f) ds) ≡ apart_from_length (function_of f) ds
unfolding function_of apart_from_length is_length
apart-by is.TextLength ds h = absurd (true≢false h)
apart-by _ ds h = refl

asked-by : (f : IntrinsicFunction) (vs : List (Option Datum)) → is_length f ≡ false → asked (function_of f) vs ≡ vs
unfolding function_of asked is_length
asked-by is.TextLength vs h = absurd (true≢false h)
asked-by _ vs h = refl

pub function-some : (f : IntrinsicFunction) (vs : List (Option Datum)) (ds : List Datum) → is_length f ≡ false → Some ds ≡ all_some vs →
    applied_folded (Some (function_of f)) vs ≡ apart_from_length (function_of f) ds
unfolding applied_folded function_folded if_some
function-some f vs ds h is =
    ap (λ ws. if_some (all_some ws) (λ es. given (applied (function_of f) es))) (asked-by f vs h)
    ∙ ap (λ o. if_some o (λ es. given (applied (function_of f) es))) (sym is) ∙ apart-by f ds h

pub function-none : (f : IntrinsicFunction) (vs : List (Option Datum)) → is_length f ≡ false → None ≡ all_some vs → applied_folded (Some (function_of f)) vs ≡ None
unfolding applied_folded function_folded if_some
function-none f vs h is =
    ap (λ ws. if_some (all_some ws) (λ es. given (applied (function_of f) es))) (asked-by f vs h)
    ∙ ap (λ o. if_some o (λ es. given (applied (function_of f) es))) (sym is)

length-by : (f : IntrinsicFunction) → is_length f ≡ true → function_of f ≡ term.TextLength
unfolding function_of is_length
length-by is.TextLength h = refl
length-by _ h = absurd (true≢false (sym h))

pub function-length : (f : IntrinsicFunction) (vs : List (Option Datum)) → is_length f ≡ true → applied_folded (Some (function_of f)) vs ≡ function_folded term.TextLength (asked term.TextLength vs)
unfolding applied_folded
function-length f vs h = ap (λ g. function_folded g (asked g vs)) (length-by f h)

pub ruleset function_forms = (function-some, function-none, function-length)
