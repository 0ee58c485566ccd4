-- How the function of a unit knows the bounds of its arrays: those of a name that no call gives bounds are constant; of a dummy array they are constant, or
-- written where they always have one value, or kept by an item before the first statement.
-- ANSI X3.9-1978, sections 5.1.1, 5.1.2, 5.5.1 and 15.9.3; C89, 3.1.2.4.
use Rattle.std.specs.Prelude.{◌≡◌, ◌≢◌, ℕ, suc, ◌<◌, ◌≤◌, ℤ, pos, true, List, [], ◌∷◌, length, Some, slice_get}
use Rattle.emitted_texts.specs.f_tree.declared.names.Class.TheVariants as class
use Rattle.emitted_texts.specs.f_tree.Values.{Bytes, Datum, IsInt, Gives, in_range}
use Rattle.emitted_texts.specs.f_tree.Store.{Store}
use Rattle.emitted_texts.specs.f_tree.Terms.{Term}
use Rattle.emitted_texts.specs.f_tree.Facts.{Dimension, Bounds, Formal, Named, Alternate, Facts, Frame}
use Rattle.emitted_texts.specs.f_tree.Setting.{IsIn}
use Rattle.emitted_texts.specs.f_tree.Valuing.{size_of_dimension}
use Rattle.emitted_texts.specs.f_tree.Association.{dimensions_by}
use Rattle.emitted_texts.specs.l_core.Pures.{Pure, Temporaries, meant}
use Rattle.emitted_texts.specs.c_tree.Flat.{Flat}
use Rattle.emitted_texts.specs.c_image.Addresses.{Alone, Through}
use Rattle.emitted_texts.specs.c_image.Elements.{Quantity, Written, Saved}
use Rattle.emitted_texts.specs.c_emit_laws.EmittedNumbers.{BoundFits}
use Rattle.emitted_texts.specs.SecondLayer.{Emission}
use Rattle.emitted_texts.specs.Emitted.{IsInFrame}
use Rattle.kept_bounds.specs.KeptBounds.{bound_pure, size_pure}
use Rattle.bound_items.specs.BoundItems.{Saving, saving_item}

-- the names of dummies; an alternate return has none
abbrev pub dummies_named : List Formal → List Bytes
dummies_named [] = []
dummies_named (Named x ∷ formals) = x ∷ dummies_named formals
dummies_named (Alternate ∷ formals) = dummies_named formals

-- ## Items

-- an object of the frame behind the parameters, made anew at each call
pub record IsMadeAnew (e : Emission) (object : ℕ) : Type 0 where
  pub in_frame : IsInFrame e object
  pub behind : length e.function.parameters ≤ in_frame.index

-- the item that keeps a bound stands at its place before the first statement, and the object that keeps it is that of no temporary, result, parameter or
-- length
pub record IsKeptAt (e : Emission) (at : ℕ) (one : Saving) : Type 0 where
  pub item : Flat
  pub emitted : saving_item e.writing one ≡ Some item
  pub stands : slice_get e.function.code at ≡ Some item
  pub made : IsMadeAnew e one.object
  pub temporaries : (k : ℕ) → e.writing.is_number k ≡ true → e.writing.naming.temporary k ≢ one.object
  pub results : (x : Bytes) (object : ℕ) → (e.writing.facts.program.attribute x).class ≡ class.Result → e.writing.naming.address x ≡ Alone object → object ≢ one.object
  pub addresses : (x : Bytes) (parameter : ℕ) → e.writing.naming.address x ≡ Through parameter → parameter ≢ one.object
  pub lengths : (x : Bytes) → e.writing.naming.length x ≢ one.object

-- what is kept is a lower bound of a dummy array, or the size of a dimension
pub data IsBoundValue (c : Facts) (formals : List Formal) (p : Pure) : Type 0 where
  of_lower : (x : Bytes) (k : ℕ) (d : Dimension) → IsIn x (dummies_named formals) → slice_get (c.program.attribute x).dimensions k ≡ Some d → bound_pure d.lower ≡ Some p → IsBoundValue c formals p
  of_size : (x : Bytes) (k : ℕ) (d : Dimension) (t : Term) (lower upper : Pure) → IsIn x (dummies_named formals) → slice_get (c.program.attribute x).dimensions k ≡ Some d → d.upper ≡ Some t →
      bound_pure d.lower ≡ Some lower → bound_pure t ≡ Some upper → size_pure lower upper ≡ p → IsBoundValue c formals p

-- ## Constant bounds

-- the bounds of a name are those that are declared, which are written into the subscripts
pub record HasConstantBounds (e : Emission) (x : Bytes) : Type 0 where
  pub fits : (k : ℕ) (b : Bounds) → slice_get (e.writing.facts.program.attribute x).bounds k ≡ Some b → BoundFits b
  pub closed : (k : ℕ) (b : Bounds) → slice_get (e.writing.facts.program.attribute x).bounds k ≡ Some b → suc k < length (e.writing.facts.program.attribute x).bounds → (last : ℤ) × (b.upper ≡ Some last)
  pub lowers : (k : ℕ) (b : Bounds) → slice_get (e.writing.facts.program.attribute x).bounds k ≡ Some b → e.writing.naming.lower x k ≡ Written b.lower
  pub sizes : (k : ℕ) (b : Bounds) (last : ℤ) → slice_get (e.writing.facts.program.attribute x).bounds k ≡ Some b → b.upper ≡ Some last → e.writing.naming.size x k ≡ Written (pos (size_of_dimension b))

-- the bounds of a dummy are the same at each call
abbrev pub AreFixed : Facts → Bytes → Type 0
AreFixed c x = (f : Frame) (store : Store) (bounds : List Bounds) → dimensions_by c f store (c.program.attribute x).dimensions ≡ Gives bounds → bounds ≡ (c.program.attribute x).bounds

-- ## Adjustable bounds

-- a value that is the same at each call
abbrev pub IsAlways : Pure → ℤ → Type 0
IsAlways p z = (c : Facts) (f : Frame) (kept : Temporaries) (store : Store) (d : Datum) → meant c f kept store p ≡ Gives d → d ≡ IsInt z

-- how a bound is known: as one that is always the same, of 32 bits, or by the object that keeps it
pub data IsQuantityOf (savings : List Saving) (q : Quantity) (p : Pure) : Type 0 where
  written : (z : ℤ) → q ≡ Written z → in_range z ≡ true → IsAlways p z → IsQuantityOf savings q p
  kept : (i : ℕ) (one : Saving) → q ≡ Saved one.object → slice_get savings i ≡ Some one → one.value ≡ p → IsQuantityOf savings q p

pub record IsLowerKnown (e : Emission) (savings : List Saving) (x : Bytes) (k : ℕ) (d : Dimension) : Type 0 where
  pub value : Pure
  pub is : bound_pure d.lower ≡ Some value
  pub known : IsQuantityOf savings (e.writing.naming.lower x k) value

pub record IsSizeKnown (e : Emission) (savings : List Saving) (x : Bytes) (k : ℕ) (d : Dimension) (last : Term) : Type 0 where
  pub lower : Pure
  pub upper : Pure
  pub lower_is : bound_pure d.lower ≡ Some lower
  pub upper_is : bound_pure last ≡ Some upper
  pub known : IsQuantityOf savings (e.writing.naming.size x k) (size_pure lower upper)

-- the bounds of a dummy array that a call fixes; each dimension but the last has an upper bound
pub record HasAdjustableBounds (e : Emission) (savings : List Saving) (x : Bytes) : Type 0 where
  pub lowers : (k : ℕ) (d : Dimension) → slice_get (e.writing.facts.program.attribute x).dimensions k ≡ Some d → IsLowerKnown e savings x k d
  pub sizes : (k : ℕ) (d : Dimension) (last : Term) → slice_get (e.writing.facts.program.attribute x).dimensions k ≡ Some d → d.upper ≡ Some last → IsSizeKnown e savings x k d last
  pub closed : (k : ℕ) (d : Dimension) → slice_get (e.writing.facts.program.attribute x).dimensions k ≡ Some d → suc k < length (e.writing.facts.program.attribute x).dimensions → (last : Term) × (d.upper ≡ Some last)

pub data HasDummyBounds (e : Emission) (savings : List Saving) (x : Bytes) : Type 0 where
  constant : AreFixed e.writing.facts x → HasConstantBounds e x → HasDummyBounds e savings x
  adjustable : HasAdjustableBounds e savings x → HasDummyBounds e savings x

-- ## All of them

-- what is kept before the first statement, one item for each, no two by one object; and how the bounds of each name are known
pub record BoundsAreKnown (e : Emission) (formals : List Formal) (savings : List Saving) : Type 0 where
  pub saved : (i : ℕ) (one : Saving) → slice_get savings i ≡ Some one → IsKeptAt e i one
  pub alone : (i j : ℕ) (one other : Saving) → slice_get savings i ≡ Some one → slice_get savings j ≡ Some other → one.object ≡ other.object → i ≡ j
  pub values : (i : ℕ) (one : Saving) → slice_get savings i ≡ Some one → IsBoundValue e.writing.facts formals one.value
  pub others : (x : Bytes) → (IsIn x (dummies_named formals) → ⊥) → HasConstantBounds e x
  pub dummies : (x : Bytes) → IsIn x (dummies_named formals) → HasDummyBounds e savings x
