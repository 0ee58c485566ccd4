-- The element that FORTRAN finds by subscripts, and the C expression for it. ANSI X3.9-1978, section 5.4.
use Rattle.std.specs.Prelude.{◌≡◌, ℕ, ℤ, pos, true, List}
use Rattle.c_image.specs.f_tree.declared.names.Basic.TheVariants.{Character}
use Rattle.c_image.specs.f_tree.Values.{Bytes, Spot, Datum, IsSpot, Gives, in_range}
use Rattle.c_image.specs.f_tree.Store.{Store}
use Rattle.c_image.specs.f_tree.Facts.{Bounds}
use Rattle.c_image.specs.f_tree.Valuing.{element_at}
use Rattle.c_laws.specs.c_tree.Access.{ToNumber, ToChar}
use Rattle.c_laws.specs.c_tree.Objects.{Object}
use Rattle.c_laws.specs.c_tree.Terms.{Term}
use Rattle.c_image.specs.World.{World}
use Rattle.c_image.specs.Standing.{Stands}
use Rattle.c_image.specs.Addresses.{Address, access_to, Reaches, IsSound, element_term, text_term}
use Rattle.c_image.specs.Elements.{Step, Quantity, quantity_term, index_term, product_term, sum_term, difference_term}
use Rattle.c_image.specs.Knowing.{IsQuantity}
use Rattle.c_image_laws.specs.Meanings.{IsNumber, IsDistance, AreSteps, Points, IsPlace}
use Rattle.c_image_laws.specs.Statements.{IsAt}

-- a place that is found, sound and in the same object, with what is said of its expression
pub record IsElement (μ : World) (d : Datum) (object : ℕ) (named : ℕ → Type 0) : Type 0 where
  pub place : Spot
  pub is : IsSpot place ≡ d
  pub sound : IsSound μ place
  pub at : IsAt μ place object
  pub found : named place.first

-- the bounds need be met by the subscripts alone: where FORTRAN finds the element, no step of the expression passes 32 bits
abbrev pub ElementsAreFound : Type 0
ElementsAreFound = (μ : World) (s : Store) (objects : List Object) (x : Bytes) (p : Spot) (address : Address) (object : ℕ) (bounds : List Bounds) (ds : List Datum) (steps : List Step) (d : Datum) →
    Stands μ s objects → IsSound μ p → access_to p.basic ≡ ToNumber → Reaches μ p address → IsAt μ p object → AreSteps objects bounds ds steps → element_at x bounds ds (IsSpot p) ≡ Gives d →
    IsElement μ d object (λ first. IsPlace objects (element_term address (index_term steps)) object first ToNumber)

-- an element of an array of texts, whose size is the length of each
abbrev pub TextElementsAreFound : Type 0
TextElementsAreFound = (μ : World) (s : Store) (objects : List Object) (x : Bytes) (p : Spot) (address : Address) (object : ℕ) (bounds : List Bounds) (ds : List Datum) (steps : List Step) (size : Term) (d : Datum) →
    Stands μ s objects → IsSound μ p → p.basic ≡ Character → Reaches μ p address → IsAt μ p object → AreSteps objects bounds ds steps → IsNumber objects size (pos p.width) →
    element_at x bounds ds (IsSpot p) ≡ Gives d →
    IsElement μ d object (λ first. Points objects (sum_term (text_term address) (product_term (index_term steps) size)) object first ToChar)

-- a bound or a size has its number, and so has what a subscript is more than its lower bound
abbrev pub QuantitiesAreMeant : Type 0
QuantitiesAreMeant = (μ : World) (s : Store) (objects : List Object) (quantity : Quantity) (z : ℤ) → Stands μ s objects → IsQuantity μ quantity z → in_range z ≡ true →
    IsNumber objects (quantity_term quantity) z

abbrev pub DistancesAreMeant : Type 0
DistancesAreMeant = (objects : List Object) (b : Bounds) (z : ℤ) (subscript lower : Term) → IsNumber objects subscript z → IsNumber objects lower b.lower →
    IsDistance objects b z (difference_term subscript lower)
