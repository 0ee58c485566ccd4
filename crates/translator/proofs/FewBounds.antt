-- No name of a unit has more constant bounds than dimensions.
use Rattle.std.specs.Prelude.{◌≤◌, Bool, true, false, List, [], ◌∷◌, length, Option, Some, None, bytes_eq, if◌then◌else◌, ℤ}
use Rattle.std.proofs.Common.{length-append, arith}
use Rattle.f_tree.specs.declared.units.Unit.{Unit as GivenUnit}
use Rattle.f_tree.specs.declared.names.Options.{Options}
use Rattle.f_tree.specs.Values.{Bytes}
use Rattle.f_tree.specs.Facts.{Attribute, Dimension}
use Rattle.f_tree.specs.Uses.{Use}
use Rattle.f_tree.specs.Attributes.{Constant, Expansion, bare, constant_term, constant_upper, bounds_between, constant_bounds, with_dimensions, without_expansion, with_expansions, attribute_in, attribute_of, described, all_described}
use Rattle.f_tree.specs.Lines.{program_of, with_ties, unit_read}

abbrev HasFew : Attribute → Type 0
HasFew a = length a.bounds ≤ length a.dimensions

one-between : (lower : Option ℤ) (last : Option (Option ℤ)) → length (bounds_between lower last) ≤ 1
unfolding bounds_between
one-between None None = omega arith
one-between None (Some b) = omega arith
one-between (Some a) None = omega arith
one-between (Some a) (Some b) = omega arith

few-constant : (ds : List Dimension) → length (constant_bounds ds) ≤ length ds
unfolding constant_bounds
few-constant [] = omega arith
few-constant (d ∷ ds) =
    omega (
      arith,
      length-append (bounds_between (constant_term d.lower) (constant_upper d.upper)) (constant_bounds ds),
      one-between (constant_term d.lower) (constant_upper d.upper),
      few-constant ds,
    )

chosen : (t : Bool) (a b : Attribute) → HasFew a → HasFew b → HasFew (if t then a else b)
chosen true a b one other = one
chosen false a b one other = other

module _ (u : GivenUnit) (uses : List Use) (cs : List Constant) (es : List Expansion) where
  own-few : (x : Bytes) → HasFew (attribute_of u uses cs es x)
  unfolding attribute_of with_expansions without_expansion with_dimensions
  own-few x = few-constant _

  few-among : (xs : List Bytes) (x : Bytes) → HasFew (attribute_in (described u uses cs es xs) x)
  unfolding described attribute_in bare
  few-among [] x = omega arith
  few-among (y ∷ xs) x = chosen (bytes_eq y x) (attribute_of u uses cs es y) (attribute_in (described u uses cs es xs) x) (own-few y) (few-among xs x)

pub few-bounds : (options : Options) (u : GivenUnit) (x : Bytes) → HasFew ((unit_read options u).attribute x)
unfolding unit_read with_ties program_of all_described
few-bounds options u x = few-among u _ _ _ _ x
