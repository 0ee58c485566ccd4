-- What is written alike is the same expression.
use Rattle.std.specs.Prelude.{◌≡◌, ℕ, ℤ, Bool, true, false, ◌&&◌, ◌||◌, List, Option, Some, None}
use Rattle.std.proofs.Common.{refl, sym, ap, ◌∙◌}
use Rattle.std.proofs.lemmas.Slice.Eq.{bytes_eq-Decides}
use Rattle.std.proofs.lemmas.Bool.Decides.{Decides-int_eq}
use Rattle.c_tree.specs.Opened.{trees_opened}
use Rattle.c_tree.specs.declared.expression.CExpr.{CExpr, Number, Name, Unary', Index', more_of-CExpr, end_of-CExpr}
use Rattle.c_tree.specs.declared.expression.CExpr.TheVariants as expr
use Rattle.c_tree.specs.declared.expression.UnaryOp.{UnaryOp}
use Rattle.c_tree.specs.declared.expression.UnaryOp.TheVariants as prefix
use Rattle.named_items.specs.SamePlaces.{name_in, number_in, pointed_in, pointer_in, array_in, element_in, same_names, same_numbers, same_elements, same_expr}
use Rattle.named_items.specs.Agreement.{WrittenAlike}

-- two values that are there and are the same
pub record AreOne {A : Type 0} (x y : Option A) : Type 0 where
  pub value : A
  pub first : x ≡ Some value
  pub second : y ≡ Some value

names_are_one : (x y : Option (List ℕ)) → same_names x y ≡ true → AreOne x y
unfolding same_names
names_are_one (Some a) (Some b) h = let same : a ≡ b = (bytes_eq-Decides a b).0 h in record { value = a; first = refl; second = ap Some (sym same) }
names_are_one (Some a) None h = absurd (cc)
names_are_one None y h = absurd (cc)

numbers_are_one : (x y : Option ℤ) → same_numbers x y ≡ true → AreOne x y
unfolding same_numbers
numbers_are_one (Some a) (Some b) h = let same : a ≡ b = (Decides-int_eq a b).0 h in record { value = a; first = refl; second = ap Some (sym same) }
numbers_are_one (Some a) None h = absurd (cc)
numbers_are_one None y h = absurd (cc)

name_is : (e : CExpr) (name : List ℕ) → name_in e ≡ Some name → e ≡ expr.Name name
unfolding name_in trees_opened
name_is (Name x) name h = let same : x ≡ name = cc in ap expr.Name same
name_is e name h = absurd (cc)

pub number_is : (e : CExpr) (z : ℤ) → number_in e ≡ Some z → e ≡ expr.Number z
unfolding number_in trees_opened
number_is (Number x) z h = let same : x ≡ z = cc in ap expr.Number same
number_is e z h = absurd (cc)

pointed_is : (op : UnaryOp) (e : CExpr) (name : List ℕ) → pointed_in op e ≡ Some name → expr.Unary op e ≡ expr.Unary prefix.Deref (expr.Name name)
unfolding pointed_in
pointed_is prefix.Deref e name h = ap (expr.Unary prefix.Deref) (name_is e name h)
pointed_is prefix.Minus e name h = absurd (cc)
pointed_is prefix.Not e name h = absurd (cc)
pointed_is prefix.Address e name h = absurd (cc)

pointer_is : (e : CExpr) (name : List ℕ) → pointer_in e ≡ Some name → e ≡ expr.Unary prefix.Deref (expr.Name name)
unfolding pointer_in trees_opened
pointer_is (Unary' op s (more_of-CExpr e end_of-CExpr)) name h = pointed_is op e name h
pointer_is e name h = absurd (cc)

element_is : (e : CExpr) (name : List ℕ) (z : ℤ) → array_in e ≡ Some name → element_in e ≡ Some z → e ≡ expr.Index (expr.Name name) (expr.Number z)
unfolding array_in element_in trees_opened
element_is (Index' s (more_of-CExpr a end_of-CExpr) t (more_of-CExpr i end_of-CExpr)) name z h g = ap (λ x. expr.Index x i) (name_is a name h) ∙ ap (expr.Index (expr.Name name)) (number_is i z g)
element_is e name z h g = absurd (cc)

by_name : (a b : CExpr) → AreOne (name_in a) (name_in b) → a ≡ b
by_name a b one = name_is a one.value one.first ∙ sym (name_is b one.value one.second)

by_pointer : (a b : CExpr) → AreOne (pointer_in a) (pointer_in b) → a ≡ b
by_pointer a b one = pointer_is a one.value one.first ∙ sym (pointer_is b one.value one.second)

by_element : (a b : CExpr) → AreOne (array_in a) (array_in b) → AreOne (element_in a) (element_in b) → a ≡ b
by_element a b one two = element_is a one.value two.value one.first two.first ∙ sym (element_is b one.value two.value one.second two.second)

pub left_true : (a b : Bool) → a && b ≡ true → a ≡ true
left_true true b h = refl
left_true false b h = absurd (cc)

pub right_true : (a b : Bool) → a && b ≡ true → b ≡ true
right_true true b h = h
right_true false b h = absurd (cc)

pub written_alike : WrittenAlike
unfolding same_expr same_elements
written_alike a b h = by (same_names (name_in a) (name_in b)) refl h
  where
    elements : same_names (array_in a) (array_in b) && same_numbers (element_in a) (element_in b) ≡ true → a ≡ b
    elements g =
        by_element a b (names_are_one (array_in a) (array_in b) (left_true (same_names (array_in a) (array_in b)) (same_numbers (element_in a) (element_in b)) g))
        (numbers_are_one (element_in a) (element_in b) (right_true (same_names (array_in a) (array_in b)) (same_numbers (element_in a) (element_in b)) g))

    pointers : (c : Bool) → same_names (pointer_in a) (pointer_in b) ≡ c → c || (same_names (array_in a) (array_in b) && same_numbers (element_in a) (element_in b)) ≡ true → a ≡ b
    pointers true is g = by_pointer a b (names_are_one (pointer_in a) (pointer_in b) is)
    pointers false is g = elements g

    by : (c : Bool) → same_names (name_in a) (name_in b) ≡ c → c || (same_names (pointer_in a) (pointer_in b) || (same_names (array_in a) (array_in b) && same_numbers (element_in a) (element_in b))) ≡ true → a ≡ b
    by true is g = by_name a b (names_are_one (name_in a) (name_in b) is)
    by false is g = pointers (same_names (pointer_in a) (pointer_in b)) refl g
