-- What the frame of a function holds when it begins, and where the values that are passed to it stand.
use Rattle.std.specs.Prelude.{◌≡◌, ℕ, ◌+◌, ◌≤◌, ℤ, true, List, map, length, Option, Some, None, slice_get}
use Rattle.std.proofs.Common.{refl, sym, ap, ◌∙◌, subst, arith}
use Rattle.std.proofs.lemmas.List.{length-map}
use Rattle.c_image.specs.f_tree.Values.{Spot, Datum, IsInt, IsLog, IsText, in_range}
use Rattle.c_image.specs.f_tree.Store.{Sequence, Chr, with_whole}
use Rattle.c_image.specs.f_tree.Association.{sequence_of, basic_of}
use Rattle.c_laws.specs.c_tree.declared.outcome.CValue.{CValue}
use Rattle.c_laws.specs.c_tree.declared.outcome.CValue.TheVariants.{Number, Pointer}
use Rattle.c_laws.specs.c_tree.Access.{ToPointer}
use Rattle.c_laws.specs.c_tree.Declarations.{unset, unset_values}
use Rattle.c_laws.specs.c_tree.Linking.{or_else}
use Rattle.c_laws.specs.c_tree.Objects.{Object, bytes_of_number}
use Rattle.c_laws.specs.c_tree.Steps.{bound, all_bound}
use Rattle.c_image.specs.World.{World, with_sequence, framed}
use Rattle.c_image.specs.Held.{Holds}
use Rattle.c_image.specs.Addresses.{Through, access_to, Reaches, IsSound}
use Rattle.c_image_laws.specs.DerivedPlaces.{value_place, HasCharacter}
use Rattle.c_image_laws.specs.Statements.{IsAt}
use Rattle.c_image_laws.proofs.Growing.{held_at, changed_there}
use Rattle.c_image_laws.proofs.CallsStand.{bound_there, fresh_there}

-- a parameter's object holds its argument
pub parameter_at : (μ : World) (first i : ℕ) (values : List CValue) (fresh : List Object) (value : CValue) (object : Object) → slice_get values i ≡ Some value → slice_get fresh i ≡ Some object →
    (framed first (all_bound values fresh) μ).frozen (first + i) ≡ Some (bound value object)
parameter_at μ first i values fresh value object is there =
    held_at first (first + i) i (all_bound values fresh) μ.frozen refl ∙ ap (λ found. or_else found (μ.frozen (first + i))) (bound_there values fresh i value object is there)

-- a temporary's object is as it was made
pub temporary_at : (μ : World) (first i : ℕ) (values : List CValue) (fresh : List Object) (object : Object) → length values ≤ i → slice_get fresh i ≡ Some object →
    (framed first (all_bound values fresh) μ).frozen (first + i) ≡ Some object
temporary_at μ first i values fresh object behind there =
    held_at first (first + i) i (all_bound values fresh) μ.frozen refl ∙ ap (λ found. or_else found (μ.frozen (first + i))) (fresh_there values fresh i object behind there)

-- a dummy argument is reached through its parameter
pub parameter_reaches : (μ : World) (first i : ℕ) (values : List CValue) (fresh : List Object) (p : Spot) (object : ℕ) → slice_get values i ≡ Some (Pointer object p.first) →
    slice_get fresh i ≡ Some (unset_values (ToPointer (access_to p.basic)) 1) → IsAt μ p object → Reaches (framed first (all_bound values fresh) μ) p (Through (first + i))
parameter_reaches μ first i values fresh p object is there at =
    (object, at, parameter_at μ first i values fresh (Pointer object p.first) (unset_values (ToPointer (access_to p.basic)) 1) is there)

-- a length, or another number that is passed by value, is held by its parameter
pub parameter_holds : (μ : World) (first i : ℕ) (values : List CValue) (fresh : List Object) (z : ℤ) → slice_get values i ≡ Some (Number z) → slice_get fresh i ≡ Some (unset 4) →
    in_range z ≡ true → Holds ((framed first (all_bound values fresh) μ).frozen (first + i)) (IsInt z)
parameter_holds μ first i values fresh z is there fits = record {
  bytes = map Some (bytes_of_number z);
  is = parameter_at μ first i values fresh (Number z) (unset 4) is there;
  begins = (fits, refl);
}

-- ## Values that are passed

pub value_at : (μ : World) (d : Datum) (q : Sequence) (k : ℕ) → IsAt (with_sequence μ (Some k) q) (value_place μ d q) k
value_at μ d q k = changed_there μ.homes μ.height (Some k)

pub value_sound : (μ : World) (d : Datum) (q : Sequence) (k : ℕ) → sequence_of d ≡ Some q → HasCharacter d → IsSound (with_sequence μ (Some k) q) (value_place μ d q)
unfolding sequence_of basic_of with_whole
value_sound μ (IsInt z) q k is has =
    let cells : 4 ≡ length q.cells = ap (λ found. length_in found) is in
    record {
      there = omega arith;
      shaped = (refl, sym cells);
      inside = subst (λ size. 0 + length q.cells ≤ size) (sym (changed_there μ.size μ.height (length q.cells))) (omega arith);
    }
  where
    length_in : Option Sequence → ℕ
    length_in None = 0
    length_in (Some r) = length r.cells
value_sound μ (IsLog b) q k is has =
    let cells : 4 ≡ length q.cells = ap (λ found. length_in found) is in
    record {
      there = omega arith;
      shaped = (refl, sym cells);
      inside = subst (λ size. 0 + length q.cells ≤ size) (sym (changed_there μ.size μ.height (length q.cells))) (omega arith);
    }
  where
    length_in : Option Sequence → ℕ
    length_in None = 0
    length_in (Some r) = length r.cells
value_sound μ (IsText cs) q k is has =
    let cells : length (map Chr cs) ≡ length q.cells = ap (λ found. length_in found) is in
    let count = length-map cs Chr in
    record {
      there = omega arith;
      shaped = omega (arith, cells, count, has);
      inside = subst (λ size. 0 + length q.cells ≤ size) (sym (changed_there μ.size μ.height (length q.cells))) (omega arith);
    }
  where
    length_in : Option Sequence → ℕ
    length_in None = 0
    length_in (Some r) = length r.cells
value_sound μ _ q k is has = absurd (cc)
