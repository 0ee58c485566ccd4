-- Which numbers have constants.
use Rattle.std.specs.declared.alloc.AllocError.{AllocError}
use Rattle.std.proofs.Common.{true≢false, of_z, to_z, ◌-ℤ◌, subst, Result, Ok, Err, IfOk, ◌≡◌, ℕ, suc, ◌+◌, ◌≤◌, ◌<◌, ℤ, pos, negsuc, Bool, true, false, Some, None, if◌then◌else◌, refl, ap, sym, ◌∙◌, arith}
use Rattle.std.specs.Prelude.{nat_le, nat_eq, option_map, neg_ℤ, int_lt, FitsSigned}
use Rattle.std.specs.Int.{w32}
use Rattle.std.proofs.lemmas.Int.{ints, to_z-of_z}
use Rattle.std.proofs.lemmas.Bool.Decides.{nat_tests}
use Rattle.c_tree.specs.declared.expression.CExpr.{CExpr}
use Rattle.c_tree.specs.declared.expression.CExpr.TheVariants as expr
use Rattle.c_tree.specs.declared.expression.UnaryOp.TheVariants as prefix
use Rattle.c_tree.specs.declared.expression.BinaryOp.TheVariants as op
use Rattle.named_items.specs.c_structure.Expressions.{number_expr}
use Rattle.item_emission.specs.NamedEmission.{negative_expr, constant_expr}

pub number-by : (n : ℕ) (b : Bool) → nat_le n 2147483647 ≡ b → number_expr (pos n) ≡ (if b then Some (expr.Number (pos n)) else None)
unfolding number_expr
number-by n b h = ap (λ c. if c then Some (expr.Number (pos n)) else None) h

within : (n : ℕ) → n ≤ 2147483647 → nat_le n 2147483647 ≡ true
within n h = grind (arith, nat_tests)

past : (n : ℕ) → 2147483647 < n → nat_le n 2147483647 ≡ false
past n h = grind (arith, nat_tests)

pub number-within : (n : ℕ) → n ≤ 2147483647 → number_expr (pos n) ≡ Some (expr.Number (pos n))
number-within n h = number-by n true (within n h)

pub number-past : (n : ℕ) → 2147483647 < n → number_expr (pos n) ≡ None
number-past n h = number-by n false (past n h)

pub number-negative : (n : ℕ) → number_expr (negsuc n) ≡ None
unfolding number_expr
number-negative n = refl

pub constant-positive : (n : ℕ) → n ≤ 2147483647 → constant_expr (pos n) ≡ Some (expr.Number (pos n))
unfolding constant_expr
constant-positive n h = number-within n h

negative-by : (less : ℕ) (b : Bool) → nat_eq less 2147483647 ≡ b → negative_expr less ≡ (if b then Some (expr.Binary op.Subtract (expr.Unary prefix.Minus (expr.Number (pos 2147483647))) (expr.Number (pos 1))) else option_map (expr.Unary prefix.Minus) (number_expr (pos (suc less))))
unfolding negative_expr
negative-by less b h =
    ap (λ c. if c then Some (expr.Binary op.Subtract (expr.Unary prefix.Minus (expr.Number (pos 2147483647))) (expr.Number (pos 1))) else option_map (expr.Unary prefix.Minus) (number_expr (pos (suc less)))) h

pub constant-least : constant_expr (negsuc 2147483647) ≡ Some (expr.Binary op.Subtract (expr.Unary prefix.Minus (expr.Number (pos 2147483647))) (expr.Number (pos 1)))
unfolding constant_expr
constant-least = negative-by 2147483647 true refl

not-least : (less : ℕ) → less < 2147483647 → nat_eq less 2147483647 ≡ false
not-least less h = grind (arith, nat_tests)

pub constant-negative : (less : ℕ) → less < 2147483647 → constant_expr (negsuc less) ≡ Some (expr.Unary prefix.Minus (expr.Number (pos (suc less))))
unfolding constant_expr
constant-negative less h = negative-by less false (not-least less h) ∙ ap (option_map (expr.Unary prefix.Minus)) (number-within (suc less) (omega arith))

-- beyond the greatest number
beyond : (n : ℕ) → nat_le n 2147483647 ≡ false → 2147483647 < n
beyond n h = grind (arith, nat_tests)

apart-from : (less : ℕ) → 2147483647 < less → nat_eq less 2147483647 ≡ false
apart-from less h = grind (arith, nat_tests)

pub after-past : (less : ℕ) → nat_le less 2147483647 ≡ false → negative_expr less ≡ None
after-past less h =
    let far = beyond less h in
    negative-by less false (apart-from less far) ∙ ap (option_map (expr.Unary prefix.Minus)) (number-past (suc less) (omega (arith, far)))

pub past-left : (a b : ℕ) → nat_le a 2147483647 ≡ false → number_expr (pos (a + b)) ≡ None
past-left a b h = let far = beyond a h in number-past (a + b) (omega (arith, far))

pub past-right : (a b : ℕ) → nat_le b 2147483647 ≡ false → number_expr (pos (a + b)) ≡ None
past-right a b h = let far = beyond b h in number-past (a + b) (omega (arith, far))

-- the same as the code meets them
below : (z : ℤ) → int_lt z (pos 0) ≡ true → (n : ℕ) × (z ≡ negsuc n)
below (pos n) h = absurd (true≢false (sym h ∙ none n))
  where
    none : (n : ℕ) → int_lt (pos n) (pos 0) ≡ false
    none n = grind (arith, nat_tests)
below (negsuc n) h = (n, refl)

pub number-signed : (z y : ℤ) → y ≡ z → int_lt y (pos 0) ≡ true → None ≡ number_expr z
number-signed z y same h =
    let b = below z (ap (λ x. int_lt x (pos 0)) (sym same) ∙ h) in sym (ap number_expr b.1 ∙ number-negative b.0)

pub constant-above : (z y : ℤ) → FitsSigned w32 z → y ≡ z → int_lt y (pos 0) ≡ false → constant_expr z ≡ Some (expr.Number y)
constant-above (pos n) y fits same h = constant-positive n (let k : n < 2147483648 = fits.sfits in omega arith) ∙ ap (λ x. Some (expr.Number x)) (sym same)
constant-above (negsuc n) y fits same h = absurd (true≢false (ap (λ x. int_lt x (pos 0)) (sym same) ∙ h))

not-the-least : (n : ℕ) → n < 2147483648 → (of_z w32 (negsuc n) ≡ 2147483648 → ⊥) → n < 2147483647
not-the-least n h k = let j : n ≡ 2147483647 → ⊥ = (λ e. k (ap (λ m. of_z w32 (negsuc m)) e)) in by (nat_eq n 2147483647) refl j
  where
    by : (b : Bool) → nat_eq n 2147483647 ≡ b → (n ≡ 2147483647 → ⊥) → n < 2147483647
    by true e j = absurd (j (grind (arith, nat_tests)))
    by false e j = grind (arith, nat_tests)

negative-by-it : (z y : ℤ) (n : ℕ) (r : Result CExpr AllocError) → z ≡ negsuc n → n < 2147483647 → y ≡ pos (suc n) → IfOk r (λ e. e ≡ expr.Unary prefix.Minus (expr.Number y)) → IfOk r (λ e. constant_expr z ≡ Some e)
negative-by-it z y n (Err f) is small same made = made
negative-by-it z y n (Ok e) is small same made = ap constant_expr is ∙ constant-negative n small ∙ ap Some (ap (λ x. expr.Unary prefix.Minus (expr.Number x)) (sym same) ∙ sym made)

pub negative-made : (z x y : ℤ) (r : Result CExpr AllocError) → FitsSigned w32 z → x ≡ z → int_lt x (pos 0) ≡ true → (of_z w32 z ≡ 2147483648 → ⊥) → y ≡ neg_ℤ x
    → IfOk r (λ e. e ≡ expr.Unary prefix.Minus (expr.Number y)) → IfOk r (λ e. constant_expr z ≡ Some e)
negative-made (pos n) x y r fits same h k opposite made = let b = below (pos n) (ap (λ v. int_lt v (pos 0)) (sym same) ∙ h) in absurd (cc)
negative-made (negsuc n) x y r fits same h k opposite made =
    negative-by-it (negsuc n) y n r refl (not-the-least n (let f : n < 2147483648 = fits.sfits in f) k) (opposite ∙ ap neg_ℤ same) made

zero-minus : (z : ℤ) → pos 0 -ℤ z ≡ neg_ℤ z
zero-minus z = grind (arith, ints)

pub opposite-is : (z x : ℤ) → FitsSigned w32 z → (of_z w32 z ≡ 2147483648 → ⊥) → x ≡ z → int_lt x (pos 0) ≡ true → to_z w32 (of_z w32 (pos 0 -ℤ x)) ≡ neg_ℤ x
opposite-is (pos n) x fits other same h = let b = below (pos n) (ap (λ v. int_lt v (pos 0)) (sym same) ∙ h) in absurd (cc)
opposite-is (negsuc n) x fits other same h =
    let less = not-the-least n (let f : n < 2147483648 = fits.sfits in f) other in
    let small : FitsSigned w32 (pos (suc n)) = record { sfits = omega (arith, less) } in
    ap (λ y. to_z w32 (of_z w32 (pos 0 -ℤ y))) same
    ∙ to_z-of_z w32 (pos 0 -ℤ negsuc n) (subst (FitsSigned w32) (sym (zero-minus (negsuc n))) small)
    ∙ zero-minus (negsuc n) ∙ ap neg_ℤ (sym same)

pub ruleset number_forms = (number-within, number-past, constant-least)
