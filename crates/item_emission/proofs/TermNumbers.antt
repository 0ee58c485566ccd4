-- The expressions of linked numbers, sums, differences and products.
use Rattle.std.specs.Prelude.{◌≡◌, ℕ, zero, suc, ◌+◌, nat_le, nat_eq, ℤ, pos, negsuc, Bool, true, false, ◌&&◌, List, Option, Some, None, option_map, option_and_then, if◌then◌else◌}
use Rattle.std.specs.Ordering.{int_eq}
use Rattle.std.proofs.Common.{refl, sym, ap, ◌∙◌, subst, arith}
use Rattle.std.proofs.lemmas.Int.{ints}
use Rattle.main_file.specs.f_tree.Values.{Datum, IsInt, IsLog, in_range}
use Rattle.c_tree.specs.Opened.{trees_opened}
use Rattle.c_tree.specs.declared.expression.CExpr.{CExpr}
use Rattle.c_tree.specs.declared.expression.CExpr.TheVariants as expr
use Rattle.c_tree.specs.declared.expression.UnaryOp.TheVariants as prefix
use Rattle.c_tree.specs.declared.expression.BinaryOp.TheVariants as op
use Rattle.c_tree.specs.Terms.{Term, Constant, Variable, Array, Routine, Unknown, Prefixed, Cast, Between, Choice, Element, Field, Size, Most, Magnitude}
use Rattle.named_items.specs.c_structure.Expressions.{Names, with_two, with_three, number_expr, array_expr, expr_for}
use Rattle.main_file.specs.c_image.Operations.{constant_term, negative_term}
use Rattle.main_file.specs.c_image.Elements.{sum_term, difference_term, product_term}
use Rattle.main_file.specs.c_emit.Numbers.{constant_value}
use Rattle.named_items.specs.SamePlaces.{number_in}
use Rattle.item_emission.specs.NamedEmission.{negative_expr, constant_expr, datum_expr, is_the_number, added_expr, sum_by, sum_expr, difference_expr, product_expr, sum_of}
use Rattle.item_emission.proofs.Numbers.{number-by, after-past, past-left, past-right}

pub number-is : (n : ℕ) (e : CExpr) → number_expr (pos n) ≡ Some e → number_in e ≡ Some (pos n)
unfolding number_expr number_in
number-is n e h = by (nat_le n 2147483647) h
  where
    by : (b : Bool) → (if b then Some (expr.Number (pos n)) else None) ≡ Some e → number_in e ≡ Some (pos n)
    by true g = subst (λ x. number_in x ≡ Some (pos n)) (same e g) refl
      where
        same : (e : CExpr) → Some (expr.Number (pos n)) ≡ Some e → expr.Number (pos n) ≡ e
        same e g = cc
    by false g = absurd (cc)

not-zero : (n : ℕ) → int_eq (pos (suc n)) (pos 0) ≡ false
not-zero n = grind (arith, ints)

not-one : (n : ℕ) → int_eq (pos (suc (suc n))) (pos 1) ≡ false
not-one n = grind (arith, ints)

abbrev IsApart : Term → Type 0
IsApart t = (z : ℤ) → t ≡ Constant z → ⊥

module _ (names : Names) where
  -- ## Constants

  negative-agrees : (less : ℕ) → expr_for names (negative_term less) ≡ negative_expr less
  unfolding expr_for negative_expr with_two number_expr
  negative-agrees less = by (nat_eq less 2147483647)
    where
      by : (b : Bool) → expr_for names (if b then Between op.Subtract (Prefixed prefix.Minus (Constant (pos 2147483647))) (Constant (pos 1)) else Prefixed prefix.Minus (Constant (pos (suc less))))
          ≡ (if b then Some (expr.Binary op.Subtract (expr.Unary prefix.Minus (expr.Number (pos 2147483647))) (expr.Number (pos 1))) else option_map (expr.Unary prefix.Minus) (number_expr (pos (suc less))))
      by true = refl
      by false = refl

  pub constant-agrees : (z : ℤ) → expr_for names (constant_term z) ≡ constant_expr z
  unfolding expr_for constant_expr
  constant-agrees (pos n) = refl
  constant-agrees (negsuc less) = negative-agrees less

  range-positive : (n : ℕ) (b : Bool) → nat_le n 2147483647 ≡ b → option_and_then (expr_for names) (if b then Some (Constant (pos n)) else None) ≡ number_expr (pos n)
  unfolding expr_for
  range-positive n true h = refl
  range-positive n false h = sym (number-by n false h)

  range-negative : (less : ℕ) (b : Bool) → nat_le less 2147483647 ≡ b → option_and_then (expr_for names) (if b && true then Some (negative_term less) else None) ≡ negative_expr less
  range-negative less true h = negative-agrees less
  range-negative less false h = sym (after-past less h)

  pub datum-agrees : (d : Datum) → option_and_then (expr_for names) (constant_value d) ≡ datum_expr d
  unfolding constant_value datum_expr in_range constant_expr expr_for number_expr
  datum-agrees (IsInt (pos n)) = range-positive n (nat_le n 2147483647) refl
  datum-agrees (IsInt (negsuc less)) = range-negative less (nat_le less 2147483647) refl
  datum-agrees (IsLog true) = refl
  datum-agrees (IsLog false) = refl
  datum-agrees d = refl

  -- ## What is no constant is no number

  mapped : (f : CExpr → CExpr) → ((x : CExpr) → number_in (f x) ≡ None) → (o : Option CExpr) (e : CExpr) → option_map f o ≡ Some e → number_in e ≡ None
  mapped f none (Some x) e h = subst (λ y. number_in y ≡ None) (same (f x) h) (none x)
    where
      same : (y : CExpr) → Some y ≡ Some e → y ≡ e
      same y g = cc
  mapped f none None e h = absurd (cc)

  of-two : (f : CExpr → CExpr → CExpr) → ((x y : CExpr) → number_in (f x y) ≡ None) → (o p : Option CExpr) (e : CExpr) → with_two f o p ≡ Some e → number_in e ≡ None
  unfolding with_two
  of-two f none (Some x) (Some y) e h = subst (λ a. number_in a ≡ None) (same (f x y) h) (none x y)
    where
      same : (a : CExpr) → Some a ≡ Some e → a ≡ e
      same a g = cc
  of-two f none (Some x) None e h = absurd (cc)
  of-two f none None p e h = absurd (cc)

  of-three : (f : CExpr → CExpr → CExpr → CExpr) → ((x y z : CExpr) → number_in (f x y z) ≡ None) → (o p q : Option CExpr) (e : CExpr) → with_three f o p q ≡ Some e → number_in e ≡ None
  unfolding with_three
  of-three f none (Some x) (Some y) (Some z) e h = subst (λ a. number_in a ≡ None) (same (f x y z) h) (none x y z)
    where
      same : (a : CExpr) → Some a ≡ Some e → a ≡ e
      same a g = cc
  of-three f none (Some x) (Some y) None e h = absurd (cc)
  of-three f none (Some x) None q e h = absurd (cc)
  of-three f none None p q e h = absurd (cc)

  itself : (y e : CExpr) → Some y ≡ Some e → number_in y ≡ None → number_in e ≡ None
  itself y e h none = subst (λ a. number_in a ≡ None) (same h) none
    where
      same : Some y ≡ Some e → y ≡ e
      same g = cc

  array-number : (o : Option (List ℕ)) (name : List ℕ) → number_in (array_expr o name) ≡ None
  unfolding array_expr number_in trees_opened
  array-number None name = refl
  array-number (Some bytes) name = refl

  apart-number : (t : Term) → IsApart t → (e : CExpr) → expr_for names t ≡ Some e → number_in e ≡ None
  unfolding expr_for number_in trees_opened
  apart-number (Constant z) apart e h = absurd (apart z refl)
  apart-number (Variable k access) apart e h = itself (expr.Name (names.object k)) e h refl
  apart-number (Array k access) apart e h = itself (array_expr (names.string k) (names.object k)) e h (array-number (names.string k) (names.object k))
  apart-number (Routine k) apart e h = itself (expr.Name (names.routine k)) e h refl
  apart-number Unknown apart e h = absurd (cc)
  apart-number (Prefixed sign t) apart e h = mapped (expr.Unary sign) (λ x. refl) (expr_for names t) e h
  apart-number (Cast type t) apart e h = mapped (expr.Cast type) (λ x. refl) (expr_for names t) e h
  apart-number (Between sign t u) apart e h = of-two (expr.Binary sign) (λ x y. refl) (expr_for names t) (expr_for names u) e h
  apart-number (Choice t u v) apart e h = of-three expr.Choose (λ x y z. refl) (expr_for names t) (expr_for names u) (expr_for names v) e h
  apart-number (Element t u) apart e h = of-two expr.Index (λ x y. refl) (expr_for names t) (expr_for names u) e h
  apart-number (Field t name) apart e h = mapped (λ x. expr.Field x name) (λ x. refl) (expr_for names t) e h
  apart-number Size apart e h = itself expr.SizeInt e h refl
  apart-number (Most which t u) apart e h = of-two (expr.MaxMin which) (λ x y. refl) (expr_for names t) (expr_for names u) e h
  apart-number (Magnitude t) apart e h = mapped expr.Abs (λ x. refl) (expr_for names t) e h

  -- ## Differences and products

  difference-other : (t u : Term) → IsApart u → difference_term t u ≡ Between op.Subtract t u
  difference-other t (Constant z) apart = absurd (apart z refl)
  difference-other t u apart = refl

  product-other : (t u : Term) → IsApart u → product_term t u ≡ Between op.Multiply t u
  product-other t (Constant z) apart = absurd (apart z refl)
  product-other t u apart = refl

  difference-by : (x y : Option CExpr) → ((e : CExpr) → y ≡ Some e → is_the_number (pos 0) (number_in e) ≡ false) → with_two (expr.Binary op.Subtract) x y ≡ with_two difference_expr x y
  unfolding with_two difference_expr
  difference-by (Some a) (Some b) h = sym (ap (λ t. Some (if t then a else expr.Binary op.Subtract a b)) (h b refl))
  difference-by (Some a) None h = refl
  difference-by None y h = refl

  product-by : (x y : Option CExpr) → ((e : CExpr) → y ≡ Some e → is_the_number (pos 1) (number_in e) ≡ false) → with_two (expr.Binary op.Multiply) x y ≡ with_two product_expr x y
  unfolding with_two product_expr
  product-by (Some a) (Some b) h = sym (ap (λ t. Some (if t then a else expr.Binary op.Multiply a b)) (h b refl))
  product-by (Some a) None h = refl
  product-by None y h = refl

  alone-difference : (x : Option CExpr) → x ≡ with_two difference_expr x (number_expr (pos 0))
  unfolding with_two difference_expr number_expr number_in is_the_number trees_opened
  alone-difference (Some a) = refl
  alone-difference None = refl

  alone-product : (x : Option CExpr) → x ≡ with_two product_expr x (number_expr (pos 1))
  unfolding with_two product_expr number_expr number_in is_the_number trees_opened
  alone-product (Some a) = refl
  alone-product None = refl

  not-it : (z : ℤ) (e : CExpr) → number_in e ≡ None → is_the_number z (number_in e) ≡ false
  unfolding is_the_number
  not-it z e h = ap (is_the_number z) h

  not-this : (z : ℤ) (n : ℕ) (e : CExpr) → int_eq (pos n) z ≡ false → number_expr (pos n) ≡ Some e → is_the_number z (number_in e) ≡ false
  unfolding is_the_number
  not-this z n e other h = ap (is_the_number z) (number-is n e h) ∙ other

  minus : (t u : Term) → IsApart u → expr_for names (difference_term t u) ≡ with_two difference_expr (expr_for names t) (expr_for names u)
  unfolding expr_for
  minus t u apart =
      ap (expr_for names) (difference-other t u apart)
      ∙ difference-by (expr_for names t) (expr_for names u) (λ e h. not-it (pos 0) e (apart-number u apart e h))

  pub difference-agrees : (t u : Term) → expr_for names (difference_term t u) ≡ with_two difference_expr (expr_for names t) (expr_for names u)
  unfolding expr_for number_expr
  difference-agrees t (Constant (pos zero)) = alone-difference (expr_for names t)
  difference-agrees t (Constant (pos (suc n))) = difference-by (expr_for names t) (number_expr (pos (suc n))) (λ e h. not-this (pos 0) (suc n) e (not-zero n) h)
  difference-agrees t (Constant (negsuc n)) = difference-by (expr_for names t) None (λ e h. absurd (cc))
  difference-agrees t u = minus t u (λ z h. absurd (cc))

  times : (t u : Term) → IsApart u → expr_for names (product_term t u) ≡ with_two product_expr (expr_for names t) (expr_for names u)
  unfolding expr_for
  times t u apart =
      ap (expr_for names) (product-other t u apart)
      ∙ product-by (expr_for names t) (expr_for names u) (λ e h. not-it (pos 1) e (apart-number u apart e h))

  pub product-agrees : (t u : Term) → expr_for names (product_term t u) ≡ with_two product_expr (expr_for names t) (expr_for names u)
  unfolding expr_for number_expr
  product-agrees t (Constant (pos zero)) = product-by (expr_for names t) (number_expr (pos zero)) (λ e h. not-this (pos 1) zero e refl h)
  product-agrees t (Constant (pos (suc zero))) = alone-product (expr_for names t)
  product-agrees t (Constant (pos (suc (suc n)))) = product-by (expr_for names t) (number_expr (pos (suc (suc n)))) (λ e h. not-this (pos 1) (suc (suc n)) e (not-one n) h)
  product-agrees t (Constant (negsuc n)) = product-by (expr_for names t) None (λ e h. absurd (cc))
  product-agrees t u = times t u (λ z h. absurd (cc))

  -- ## Sums

  sum-zero : (u : Term) → IsApart u → sum_term (Constant (pos zero)) u ≡ u
  sum-zero (Constant z) apart = absurd (apart z refl)
  sum-zero u apart = refl

  sum-positive : (m : ℕ) (u : Term) → IsApart u → sum_term (Constant (pos (suc m))) u ≡ Between op.Add (Constant (pos (suc m))) u
  sum-positive m (Constant z) apart = absurd (apart z refl)
  sum-positive m u apart = refl

  sum-negative : (m : ℕ) (u : Term) → IsApart u → sum_term (Constant (negsuc m)) u ≡ Between op.Add (Constant (negsuc m)) u
  sum-negative m (Constant z) apart = absurd (apart z refl)
  sum-negative m u apart = refl

  sum-to-zero : (t : Term) → IsApart t → sum_term t (Constant (pos zero)) ≡ t
  sum-to-zero (Constant z) apart = absurd (apart z refl)
  sum-to-zero t apart = refl

  sum-to-positive : (t : Term) (n : ℕ) → IsApart t → sum_term t (Constant (pos (suc n))) ≡ Between op.Add t (Constant (pos (suc n)))
  sum-to-positive (Constant z) n apart = absurd (apart z refl)
  sum-to-positive t n apart = refl

  sum-to-negative : (t : Term) (n : ℕ) → IsApart t → sum_term t (Constant (negsuc n)) ≡ Between op.Add t (Constant (negsuc n))
  sum-to-negative (Constant z) n apart = absurd (apart z refl)
  sum-to-negative t n apart = refl

  sum-of-others : (t u : Term) → IsApart t → IsApart u → sum_term t u ≡ Between op.Add t u
  sum-of-others (Constant z) u apart other = absurd (apart z refl)
  sum-of-others t (Constant z) apart other = absurd (other z refl)
  sum-of-others t u apart other = refl

  sum-constants : (a b : ℕ) → number_expr (pos (a + b)) ≡ sum_of (number_expr (pos a)) (number_expr (pos b))
  unfolding sum_of sum_expr sum_by number_in trees_opened
  sum-constants a b = by (nat_le a 2147483647) (nat_le b 2147483647) refl refl
    where
      by : (s t : Bool) → nat_le a 2147483647 ≡ s → nat_le b 2147483647 ≡ t → number_expr (pos (a + b)) ≡ sum_of (number_expr (pos a)) (number_expr (pos b))
      by true true h k = sym ((λ i. sum_of (number-by a true h i) (number-by b true k i)))
      by true false h k = past-right a b k ∙ sym ((λ i. sum_of (number-by a true h i) (number-by b false k i)))
      by false t h k = past-left a b h ∙ sym (ap (λ o. sum_of o (number_expr (pos b))) (number-by a false h))

  sum-plain : (x y : Option CExpr) → ((a c : CExpr) → x ≡ Some a → y ≡ Some c → sum_expr a c ≡ Some (expr.Binary op.Add a c)) → with_two (expr.Binary op.Add) x y ≡ sum_of x y
  unfolding with_two sum_of
  sum-plain (Some a) (Some c) h = sym (h a c refl refl)
  sum-plain (Some a) None h = refl
  sum-plain None y h = refl

  left-number : (a c : CExpr) (n : ℕ) → number_in a ≡ Some (pos (suc n)) → number_in c ≡ None → sum_expr a c ≡ Some (expr.Binary op.Add a c)
  unfolding sum_expr sum_by added_expr is_the_number
  left-number a c n h k = (λ i. sum_by (h i) (k i) a c) ∙ ap (λ t. Some (added_expr t false a c)) (not-zero n)

  right-number : (a c : CExpr) (n : ℕ) → number_in a ≡ None → number_in c ≡ Some (pos (suc n)) → sum_expr a c ≡ Some (expr.Binary op.Add a c)
  unfolding sum_expr sum_by added_expr is_the_number
  right-number a c n h k = (λ i. sum_by (h i) (k i) a c) ∙ ap (λ t. Some (added_expr false t a c)) (not-zero n)

  neither-number : (a c : CExpr) → number_in a ≡ None → number_in c ≡ None → sum_expr a c ≡ Some (expr.Binary op.Add a c)
  unfolding sum_expr sum_by added_expr is_the_number
  neither-number a c h k = (λ i. sum_by (h i) (k i) a c)

  zero-first : (y : Option CExpr) → ((e : CExpr) → y ≡ Some e → number_in e ≡ None) → y ≡ sum_of (number_expr (pos 0)) y
  unfolding sum_of sum_expr sum_by added_expr number_expr number_in trees_opened
  zero-first None h = refl
  zero-first (Some e) h = sym (ap (λ o. sum_by (Some (pos 0)) o (expr.Number (pos 0)) e) (h e refl))

  zero-last : (x : Option CExpr) → ((e : CExpr) → x ≡ Some e → number_in e ≡ None) → x ≡ sum_of x (number_expr (pos 0))
  unfolding sum_of sum_expr sum_by added_expr number_expr number_in is_the_number trees_opened
  zero-last None h = refl
  zero-last (Some e) h = sym (ap (λ o. sum_by o (Some (pos 0)) e (expr.Number (pos 0))) (h e refl))

  constant-first : (z : ℤ) (u : Term) → IsApart u → expr_for names (sum_term (Constant z) u) ≡ sum_of (number_expr z) (expr_for names u)
  unfolding expr_for number_expr sum_of with_two
  constant-first (pos zero) u apart = ap (expr_for names) (sum-zero u apart) ∙ zero-first (expr_for names u) (apart-number u apart)
  constant-first (pos (suc m)) u apart =
      ap (expr_for names) (sum-positive m u apart)
      ∙ sum-plain (number_expr (pos (suc m))) (expr_for names u) (λ a c h k. left-number a c m (number-is (suc m) a h) (apart-number u apart c k))
  constant-first (negsuc m) u apart = ap (expr_for names) (sum-negative m u apart)

  constant-last : (t : Term) (z : ℤ) → IsApart t → expr_for names (sum_term t (Constant z)) ≡ sum_of (expr_for names t) (number_expr z)
  unfolding expr_for number_expr
  constant-last t (pos zero) apart = ap (expr_for names) (sum-to-zero t apart) ∙ zero-last (expr_for names t) (apart-number t apart)
  constant-last t (pos (suc n)) apart =
      ap (expr_for names) (sum-to-positive t n apart)
      ∙ sum-plain (expr_for names t) (number_expr (pos (suc n))) (λ a c h k. right-number a c n (apart-number t apart a h) (number-is (suc n) c k))
  constant-last t (negsuc n) apart =
      ap (expr_for names) (sum-to-negative t n apart) ∙ sum-plain (expr_for names t) None (λ a c h k. absurd (cc))

  others-sum : (t u : Term) → IsApart t → IsApart u → expr_for names (sum_term t u) ≡ sum_of (expr_for names t) (expr_for names u)
  unfolding expr_for
  others-sum t u apart other =
      ap (expr_for names) (sum-of-others t u apart other)
      ∙ sum-plain (expr_for names t) (expr_for names u) (λ a c h k. neither-number a c (apart-number t apart a h) (apart-number u other c k))

  both-constants : (y z : ℤ) → expr_for names (sum_term (Constant y) (Constant z)) ≡ sum_of (number_expr y) (number_expr z)
  unfolding expr_for number_expr sum_of with_two
  both-constants (pos a) (pos b) = sum-constants a b
  both-constants (pos zero) (negsuc n) = refl
  both-constants (pos (suc m)) (negsuc n) = sum-plain (number_expr (pos (suc m))) None (λ a c h k. absurd (cc))
  both-constants (negsuc m) (pos zero) = refl
  both-constants (negsuc m) (pos (suc n)) = refl
  both-constants (negsuc m) (negsuc n) = refl

  first-other : (t u : Term) → IsApart t → expr_for names (sum_term t u) ≡ sum_of (expr_for names t) (expr_for names u)
  unfolding expr_for
  first-other t (Constant z) apart = constant-last t z apart
  first-other t u apart = others-sum t u apart (λ z h. absurd (cc))

  first-constant : (y : ℤ) (u : Term) → expr_for names (sum_term (Constant y) u) ≡ sum_of (number_expr y) (expr_for names u)
  unfolding expr_for
  first-constant y (Constant z) = both-constants y z
  first-constant y u = constant-first y u (λ z h. absurd (cc))

  pub sum-agrees : (t u : Term) → expr_for names (sum_term t u) ≡ sum_of (expr_for names t) (expr_for names u)
  unfolding expr_for
  sum-agrees (Constant y) u = first-constant y u
  sum-agrees t u = first-other t u (λ z h. absurd (cc))
