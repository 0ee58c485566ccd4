-- The values of sums, differences, products and constants in which what adds nothing is left out.
use Rattle.std.specs.Prelude.{◌≡◌, ℕ, zero, suc, ◌+◌, ◌*◌, ◌≤◌, nat_eq, ℤ, pos, negsuc, ◌+ℤ◌, ◌-ℤ◌, ◌*ℤ◌, neg_ℤ, Bool, true, false, List, Some, Ok, Err, slice_get, if◌then◌else◌}
use Rattle.std.proofs.Common.{refl, sym, ap, subst, arith}
use Rattle.std.proofs.lemmas.Bool.{eqb-true}
use Rattle.std.proofs.lemmas.Int.{ints}
use Rattle.c_laws.specs.c_tree.declared.outcome.CValue.TheVariants.{Number, Pointer}
use Rattle.c_laws.specs.c_tree.declared.expression.UnaryOp.TheVariants as prefix
use Rattle.c_laws.specs.c_tree.declared.expression.BinaryOp.TheVariants as op
use Rattle.c_laws.specs.c_tree.Faults.{Or}
use Rattle.c_laws.specs.c_tree.Access.{Access, stride}
use Rattle.c_laws.specs.c_tree.Objects.{Object, Typed, extent}
use Rattle.c_laws.specs.c_tree.Terms.{Term, Constant, Between, Prefixed}
use Rattle.c_laws.specs.c_tree.Values.{in_range, seen}
use Rattle.c_laws.proofs.ValueLaws.{Constant-counts, Add-counts, Subtract-counts, Multiply-counts, Minus-counts}
use Rattle.c_image.specs.Operations.{constant_term}
use Rattle.c_image.specs.Elements.{sum_term, difference_term, product_term}
use Rattle.c_image_laws.specs.Meanings.{IsNumber, Points}
use Rattle.c_image_laws.proofs.AddressValues.{Add-points}

-- ## Constants

abbrev number_in : Or Typed → ℤ
number_in (Ok typed) = elim typed.value [ Number z ↦ z | _ ↦ pos 0 ]
number_in (Err reason) = pos 0

abbrev is_pointer : Or Typed → Bool
is_pointer (Ok typed) = elim typed.value [ Pointer object offset ↦ true | _ ↦ false ]
is_pointer (Err reason) = false

-- the number of a constant
constant_is : (objects : List Object) (a b : ℤ) → IsNumber objects (Constant a) b → a ≡ b
unfolding seen
constant_is objects a b counts = ap number_in counts

-- a constant is no pointer
no_pointer : (objects : List Object) (a : ℤ) (object offset : ℕ) (access : Access) → Points objects (Constant a) object offset access → ⊥
unfolding seen
no_pointer objects a object offset access points = let wrong : false ≡ true = ap is_pointer points in cc

least : negsuc 2147483647 ≡ neg_ℤ (pos 2147483647) -ℤ pos 1
least = refl

negative_counts : (objects : List Object) (less : ℕ) (test : Bool) → nat_eq less 2147483647 ≡ test → in_range (negsuc less) ≡ true →
    IsNumber objects (if test then Between op.Subtract (Prefixed prefix.Minus (Constant (pos 2147483647))) (Constant (pos 1)) else Prefixed prefix.Minus (Constant (pos (suc less)))) (negsuc less)
negative_counts objects less true is fits =
    let same : 2147483647 ≡ less = sym (eqb-true less 2147483647 is) in
    subst (λ n. IsNumber objects (Between op.Subtract (Prefixed prefix.Minus (Constant (pos 2147483647))) (Constant (pos 1))) (negsuc n)) same
    (Subtract-counts objects (Prefixed prefix.Minus (Constant (pos 2147483647))) (Constant (pos 1)) (neg_ℤ (pos 2147483647)) (pos 1)
    (Minus-counts objects (Constant (pos 2147483647)) (pos 2147483647) (Constant-counts objects (pos 2147483647)) refl) (Constant-counts objects (pos 1)) refl)
negative_counts objects less false is fits =
    Minus-counts objects (Constant (pos (suc less))) (pos (suc less)) (Constant-counts objects (pos (suc less))) fits

-- A constant has its number
pub constant_counts : (objects : List Object) (z : ℤ) → in_range z ≡ true → IsNumber objects (constant_term z) z
constant_counts objects (pos n) fits = Constant-counts objects (pos n)
constant_counts objects (negsuc less) fits = negative_counts objects less (nat_eq less 2147483647) refl fits

-- ## Sums, differences and products

zero_left : (z : ℤ) → pos 0 +ℤ z ≡ z
zero_left z = grind (arith, ints)

zero_right : (z : ℤ) → z +ℤ pos 0 ≡ z
zero_right z = grind (arith, ints)

nothing_taken : (z : ℤ) → z -ℤ pos 0 ≡ z
nothing_taken z = grind (arith, ints)

one_time : (z : ℤ) → z *ℤ pos 1 ≡ z
one_time z = grind (arith, ints)

pub sum_counts : (objects : List Object) (left right : Term) (a b : ℤ) → IsNumber objects left a → IsNumber objects right b → in_range (a +ℤ b) ≡ true → IsNumber objects (sum_term left right) (a +ℤ b)
sum_counts objects (Constant (pos m)) (Constant (pos n)) a b one other fits =
    subst (λ z. IsNumber objects (Constant (pos (m + n))) (z +ℤ b)) (constant_is objects (pos m) a one)
    (subst (λ z. IsNumber objects (Constant (pos (m + n))) (pos m +ℤ z)) (constant_is objects (pos n) b other) (Constant-counts objects (pos (m + n))))
sum_counts objects (Constant (pos zero)) right a b one other fits =
    subst (λ z. IsNumber objects right (z +ℤ b)) (constant_is objects (pos 0) a one) (subst (IsNumber objects right) (sym (zero_left b)) other)
sum_counts objects left (Constant (pos zero)) a b one other fits =
    subst (λ z. IsNumber objects left (a +ℤ z)) (constant_is objects (pos 0) b other) (subst (IsNumber objects left) (sym (zero_right a)) one)
sum_counts objects left right a b one other fits = Add-counts objects left right a b one other fits

pub difference_counts : (objects : List Object) (left right : Term) (a b : ℤ) → IsNumber objects left a → IsNumber objects right b → in_range (a -ℤ b) ≡ true →
    IsNumber objects (difference_term left right) (a -ℤ b)
difference_counts objects left (Constant (pos zero)) a b one other fits =
    subst (λ z. IsNumber objects left (a -ℤ z)) (constant_is objects (pos 0) b other) (subst (IsNumber objects left) (sym (nothing_taken a)) one)
difference_counts objects left right a b one other fits = Subtract-counts objects left right a b one other fits

pub product_counts : (objects : List Object) (left right : Term) (a b : ℤ) → IsNumber objects left a → IsNumber objects right b → in_range (a *ℤ b) ≡ true →
    IsNumber objects (product_term left right) (a *ℤ b)
product_counts objects left (Constant (pos (suc zero))) a b one other fits =
    subst (λ z. IsNumber objects left (a *ℤ z)) (constant_is objects (pos 1) b other) (subst (IsNumber objects left) (sym (one_time a)) one)
product_counts objects left right a b one other fits = Multiply-counts objects left right a b one other fits

-- a pointer and a distance
pub sum_points : (objects : List Object) (start distance : Term) (object offset count width : ℕ) (access : Access) (found : Object) → Points objects start object offset access →
    IsNumber objects distance (pos count) → stride access ≡ Some width → slice_get objects object ≡ Some found → offset + count * width ≤ extent found →
    Points objects (sum_term start distance) object (offset + count * width) access
unfolding seen
sum_points objects (Constant (pos m)) (Constant (pos n)) object offset count width access found points counts strides there fits = absurd (no_pointer objects (pos m) object offset access points)
sum_points objects (Constant (pos zero)) distance object offset count width access found points counts strides there fits = absurd (no_pointer objects (pos 0) object offset access points)
sum_points objects start (Constant (pos zero)) object offset count width access found points counts strides there fits =
    let none : 0 ≡ count = (let same : pos 0 ≡ pos count = constant_is objects (pos 0) (pos count) counts in cc) in
    let still : offset ≡ offset + 0 * width = omega arith in
    subst (λ n. Points objects start object (offset + n * width) access) none (subst (λ place. Points objects start object place access) still points)
sum_points objects start distance object offset count width access found points counts strides there fits =
    Add-points objects start distance object offset count width access found points counts strides there fits
