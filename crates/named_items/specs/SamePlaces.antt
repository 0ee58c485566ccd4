-- Places that are written alike: a name, what a name points to, or an element of an array by its number. C89, 3.3.2.1 and 3.3.3.2.
use Rattle.std.specs.Prelude.{ℕ, ℤ, Bool, false, ◌&&◌, ◌||◌, List, Option, Some, None, bytes_eq}
use Rattle.std.specs.Ordering.{int_eq}
use Rattle.c_tree.specs.declared.expression.CExpr.{CExpr, Number, Name, Unary', Index', more_of-CExpr}
use Rattle.c_tree.specs.declared.expression.UnaryOp.{UnaryOp}
use Rattle.c_tree.specs.declared.expression.UnaryOp.TheVariants as prefix

-- the name that an expression is
unfoldable pub name_in : CExpr → Option (List ℕ)
name_in (Name name) = Some name
name_in e = None

-- the number that an expression is
unfoldable pub number_in : CExpr → Option ℤ
number_in (Number z) = Some z
number_in e = None

-- the name behind an operator that reads through a pointer
unfoldable pub pointed_in : UnaryOp → CExpr → Option (List ℕ)
pointed_in prefix.Deref e = name_in e
pointed_in op e = None

-- the name of the pointer through which an expression reads
unfoldable pub pointer_in : CExpr → Option (List ℕ)
pointer_in (Unary' op s (more_of-CExpr e r)) = pointed_in op e
pointer_in e = None

-- the name of the array of which an expression is an element
unfoldable pub array_in : CExpr → Option (List ℕ)
array_in (Index' s (more_of-CExpr e r) t (more_of-CExpr i q)) = name_in e
array_in e = None

-- the number of the element that an expression is
unfoldable pub element_in : CExpr → Option ℤ
element_in (Index' s (more_of-CExpr e r) t (more_of-CExpr i q)) = number_in i
element_in e = None

-- two names that are there and are the same
unfoldable pub same_names : Option (List ℕ) → Option (List ℕ) → Bool
same_names (Some x) (Some y) = bytes_eq x y
same_names _ _ = false

-- two numbers that are there and are the same
unfoldable pub same_numbers : Option ℤ → Option ℤ → Bool
same_numbers (Some x) (Some y) = int_eq x y
same_numbers _ _ = false

-- two elements of one array with one number
unfoldable pub same_elements : CExpr → CExpr → Bool
same_elements a b = same_names (array_in a) (array_in b) && same_numbers (element_in a) (element_in b)

-- two places that are written alike
unfoldable pub same_expr : CExpr → CExpr → Bool
same_expr a b = same_names (name_in a) (name_in b) || (same_names (pointer_in a) (pointer_in b) || same_elements a b)

unfoldable pub same_places_opened : Unit {0}
unfolding name_in number_in pointed_in pointer_in array_in element_in same_names same_numbers same_elements same_expr
same_places_opened = tt
