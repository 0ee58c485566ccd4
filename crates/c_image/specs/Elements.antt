-- Which element of an array a list of subscripts names, as a C expression: of a(i, j, k) it is
-- ((k - lower) * size + (j - lower)) * size + (i - lower), the first subscript going fastest. What adds nothing is left out.
-- ANSI X3.9-1978, section 5.4.
use Rattle.std.specs.Prelude.{ℕ, zero, suc, ◌+◌, ℤ, pos, List, [], ◌∷◌}
use Rattle.faithful.specs.c_tree.declared.expression.BinaryOp.TheVariants as op
use Rattle.faithful.specs.c_tree.Access.{ToNumber}
use Rattle.faithful.specs.c_tree.Terms.{Term, Constant, Variable, Between}
use Rattle.c_image.specs.Operations.{constant_term}

-- two constants are one, and 0 is left out
abbrev pub sum_term : Term → Term → Term
sum_term (Constant (pos a)) (Constant (pos b)) = Constant (pos (a + b))
sum_term (Constant (pos zero)) right = right
sum_term left (Constant (pos zero)) = left
sum_term left right = Between op.Add left right

abbrev pub difference_term : Term → Term → Term
difference_term left (Constant (pos zero)) = left
difference_term left right = Between op.Subtract left right

-- a factor of 1 is left out
abbrev pub product_term : Term → Term → Term
product_term left (Constant (pos (suc zero))) = left
product_term left right = Between op.Multiply left right

-- a lower bound or a size: a constant, or what an object holds since the function began
pub data Quantity : Type 0 where
  Written : ℤ → Quantity
  Saved : ℕ → Quantity

abbrev pub quantity_term : Quantity → Term
quantity_term (Written number) = constant_term number
quantity_term (Saved object) = Variable object ToNumber

-- a dimension in C: by how much a subscript is more than the lower bound, and how many elements the dimension has
pub record Step : Type 0 where
  pub distance : Term
  pub size : Term

abbrev pub step_for : Quantity → Quantity → Term → Step
step_for lower size subscript = record { distance = difference_term subscript (quantity_term lower); size = quantity_term size }

-- the elements that stand before the one with these distances
abbrev pub index_term : List Step → Term
index_term [] = Constant (pos 0)
index_term (last ∷ []) = last.distance
index_term (step ∷ next ∷ later) = sum_term (product_term (index_term (next ∷ later)) step.size) step.distance
