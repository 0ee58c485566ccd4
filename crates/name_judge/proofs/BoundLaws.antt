-- Bounds are judged alike by a table of names and by what is given of the names.
use Rattle.std.specs.Prelude.{◌≡◌, Bool, false, ◌&&◌, List, [], ◌∷◌, Option, Some, None}
use Rattle.std.proofs.Common.{refl, sym, ap, ◌∙◌}
use Rattle.f_tree.specs.Values.{Bytes, Datum}
use Rattle.f_tree.specs.Facts.{Attribute}
use Rattle.f_tree.specs.Folds.{fold_expr}
use Rattle.f_tree.specs.Lines.{Naming}
use Rattle.f_tree.specs.declared.names.Basic.{Basic}
use Rattle.f_tree.specs.declared.names.Class.{Class}
use Rattle.f_tree.specs.declared.names.Class.TheVariants as class
use Rattle.f_tree.specs.declared.expressions.Expr.{Expr}
use Rattle.f_tree.specs.declared.expressions.Expr.TheOpen as expr
use Rattle.f_tree.specs.declared.statements.Dimension.{Dimension as WrittenDimension}
use Rattle.f_tree.specs.declared.statements.UpperBound.{UpperBound}
use Rattle.f_tree.specs.declared.statements.UpperBound.TheVariants as upper
use Rattle.f_tree.specs.declared.units.Unit.{Unit as WrittenUnit}
use Rattle.declaration_rows.specs.NameRows.{given_names, is_integer_name, is_integer_value, same_integer, layer_bound, is_bound_expression, is_lower, is_upper, are_dummy_bounds}
use Rattle.name_facts.specs.declared.table.NameFacts.{NameFacts}
use Rattle.name_facts.specs.GivenFacts.{AreNameFacts}
use Rattle.name_judge.specs.FactRows.{naming_in}

abbrev name_by : Class → Basic → Option Datum → Bool
name_by k basic constant = elim k [
  | class.Constant ↦ is_integer_value constant
  | class.Dummy ↦ same_integer basic
  | class.Stored ↦ same_integer basic
  | _ ↦ false
]

name_is : (a : Attribute) → is_integer_name a ≡ name_by a.class a.basic a.constant
unfolding is_integer_name
name_is a = refl

integer_alike : (a b : Attribute) → a.class ≡ b.class → a.basic ≡ b.basic → a.constant ≡ b.constant → is_integer_name a ≡ is_integer_name b
integer_alike a b same basic constant =
    name_is a ∙ ap (λ k. name_by k a.basic a.constant) same ∙ ap (λ t. name_by b.class t a.constant) basic ∙ ap (name_by b.class b.basic) constant ∙ sym (name_is b)

given_alike : (u : WrittenUnit) (table : NameFacts) → AreNameFacts u table → (x : Bytes) → is_integer_name (naming_in table x) ≡ is_integer_name (given_names u x)
unfolding naming_in
given_alike u table known x =
    integer_alike (naming_in table x) (given_names u x) (known.facts x).class (known.facts x).basic (known.facts x).constant

-- one layer, and so a whole expression
module _ (g h : Naming) (same : (x : Bytes) → is_integer_name (g x) ≡ is_integer_name (h x)) where
  layer_alike : (l : expr.Expr-F Bool) → layer_bound g l ≡ layer_bound h l
  unfolding layer_bound
  layer_alike (expr.Name x) = same x
  layer_alike (expr.Int z) = refl
  layer_alike (expr.Logical b) = refl
  layer_alike (expr.Text cs) = refl
  layer_alike (expr.Apply x bs) = refl
  layer_alike (expr.Part b from to) = refl
  layer_alike (expr.Minus b) = refl
  layer_alike (expr.Plus b) = refl
  layer_alike (expr.Not b) = refl
  layer_alike (expr.Paren b) = refl
  layer_alike (expr.Binary op a b) = refl
  layer_alike (expr.AltReturn label) = refl
  layer_alike (expr.Bind bs b) = refl
  layer_alike (expr.Bound k) = refl

  bound_alike : (e : Expr) → is_bound_expression g e ≡ is_bound_expression h e
  unfolding is_bound_expression
  bound_alike e = ap (λ (f : expr.Expr-F Bool → Bool). fold_expr f e) (λ i l. layer_alike l i)

  lower_alike : (o : Option Expr) → is_lower g o ≡ is_lower h o
  unfolding is_lower
  lower_alike None = refl
  lower_alike (Some e) = bound_alike e

  upper_alike : (b : UpperBound) → is_upper g b ≡ is_upper h b
  unfolding is_upper
  upper_alike (upper.Value e) = bound_alike e
  upper_alike upper.Star = refl

  dimensions_alike : (ds : List WrittenDimension) → are_dummy_bounds g ds ≡ are_dummy_bounds h ds
  unfolding are_dummy_bounds
  dimensions_alike [] = refl
  dimensions_alike (d ∷ ds) =
      ap (λ b. b && (is_upper g d.upper && are_dummy_bounds g ds)) (lower_alike d.lower) ∙ ap (λ b. is_lower h d.lower && (b && are_dummy_bounds g ds)) (upper_alike d.upper)
      ∙ ap (λ b. is_lower h d.lower && (is_upper h d.upper && b)) (dimensions_alike ds)

pub dummy_bounds_alike : (u : WrittenUnit) (table : NameFacts) → AreNameFacts u table → (ds : List WrittenDimension) → are_dummy_bounds (naming_in table) ds ≡ are_dummy_bounds (given_names u) ds
dummy_bounds_alike u table known = dimensions_alike (naming_in table) (given_names u) (given_alike u table known)
