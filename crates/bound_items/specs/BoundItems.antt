-- The flat C items by which a function keeps the bounds of its dummy arrays before its first statement, and that they hold what the call fixes.
-- ANSI X3.9-1978, sections 5.1.1 and 5.5.1; C89, 3.3.16.
use Rattle.std.specs.Prelude.{◌≡◌, ◌≢◌, ℕ, suc, ◌+◌, ◌≤◌, ℤ, List, [], ◌∷◌, length, Option, Some, option_map, slice_get}
use Rattle.c_emit_laws.specs.c_emit.simulation.Machine.{Goes}
use Rattle.c_emit_laws.specs.c_emit.simulation.LocalSimulation.{Does}
use Rattle.c_emit_laws.specs.c_emit.f_tree.Values.{Bytes, IsInt, Gives}
use Rattle.c_emit_laws.specs.c_emit.f_tree.Store.{Store}
use Rattle.c_emit_laws.specs.c_emit.f_tree.Facts.{Frame}
use Rattle.c_emit_laws.specs.c_emit.f_tree.Setting.{IsIn}
use Rattle.c_emit_laws.specs.l_core.Pures.{Pure, none_kept, meant}
use Rattle.c_emit_laws.specs.c_emit.c_tree.Access.{ToNumber}
use Rattle.c_emit_laws.specs.c_emit.c_tree.Objects as objects_of
use Rattle.c_emit_laws.specs.c_emit.c_tree.Objects.{Object}
use Rattle.c_emit_laws.specs.c_emit.c_tree.Terms.{Variable}
use Rattle.c_emit_laws.specs.c_emit.c_tree.Flat.{Flat, Assign}
use Rattle.c_emit_laws.specs.c_emit.c_tree.World as c
use Rattle.c_emit_laws.specs.c_emit.c_tree.Linking as linking
use Rattle.c_emit_laws.specs.c_emit.c_tree.Steps.{View, language}
use Rattle.c_emit_laws.specs.c_image.World.{World, IsHomeless}
use Rattle.c_emit_laws.specs.c_image.Standing.{Stands}
use Rattle.c_emit_laws.specs.c_image.Held.{Holds}
use Rattle.c_emit_laws.specs.c_image.Addresses.{Through}
use Rattle.c_emit_laws.specs.c_emit.Numbers.{Writing, value_term}
use Rattle.c_emit_laws.specs.EmittedNumbers.{IsKnown}
use Rattle.kept_bounds.specs.KeptBounds.{without_bounds}

-- ## Items

-- an object, and the value that it gets: a lower bound, or the size of a dimension
pub record Saving : Type 0 where
  pub object : ℕ
  pub value : Pure

unfoldable pub saving_item : Writing → Saving → Option Flat
saving_item w one = option_map (Assign (Variable one.object ToNumber)) (value_term w one.value)

-- ## What they do

-- an object with room for a number, in which no sequence stands, and which is no parameter and holds no length
pub record HasRoom (μ : World) (w : Writing) (object : ℕ) : Type 0 where
  pub bytes : List (Option ℕ)
  pub holds : μ.frozen object ≡ Some (objects_of.Bytes bytes)
  pub room : 4 ≤ length bytes
  pub homeless : IsHomeless μ object
  pub addresses : (x : Bytes) (parameter : ℕ) → w.naming.address x ≡ Through parameter → parameter ≢ object
  pub lengths : (x : Bytes) → w.naming.length x ≢ object

-- the item for a value stands at a position, and where no bounds are fixed yet the value is a number
pub record IsSaved (w : Writing) (f : Frame) (s : Store) (code : List Flat) (at : ℕ) (one : Saving) (z : ℤ) : Type 0 where
  pub item : Flat
  pub emitted : saving_item w one ≡ Some item
  pub stands : slice_get code at ≡ Some item
  pub is : meant w.facts (without_bounds f) none_kept s one.value ≡ Gives (IsInt z)

-- those of some values, from a position on; no object gets two
pub data AreSaved (μ : World) (w : Writing) (f : Frame) (s : Store) (code : List Flat) : ℕ → List Saving → List ℤ → Type 0 where
  none_saved : (at : ℕ) → AreSaved μ w f s code at [] []
  one_saved : (at : ℕ) (one : Saving) (later : List Saving) (z : ℤ) (zs : List ℤ) → HasRoom μ w one.object → IsSaved w f s code at one z → ((other : Saving) → IsIn other later → other.object ≢ one.object) →
      AreSaved μ w f s code (suc at) later zs → AreSaved μ w f s code at (one ∷ later) (z ∷ zs)

-- each object holds its number
pub data AreHeld (frozen : ℕ → Option Object) : List Saving → List ℤ → Type 0 where
  none_held : AreHeld frozen [] []
  one_held : (one : Saving) (later : List Saving) (z : ℤ) (zs : List ℤ) → Holds (frozen one.object) (IsInt z) → AreHeld frozen later zs → AreHeld frozen (one ∷ later) (z ∷ zs)

-- the function comes behind the items: the store stands as before, what was known is known, and all is held as before but for the objects
pub record ComesBehind (μ : World) (w : Writing) (f : Frame) (s : Store) (function : linking.Function) (view : View) (world : c.World) (savings : List Saving) (zs : List ℤ) : Type 0 where
  pub frozen : ℕ → Option Object
  pub objects : List Object
  pub does : Does language (λ v. 1) function view world (length savings) (Goes (record view { position = view.position + length savings }) (record world { objects = objects }))
  pub stands : Stands (record μ { frozen = frozen }) s objects
  pub known : IsKnown (record μ { frozen = frozen }) w (without_bounds f) none_kept
  pub held : AreHeld frozen savings zs
  pub same : (k : ℕ) → ((one : Saving) → IsIn one savings → one.object ≢ k) → frozen k ≡ μ.frozen k
  pub as_many : length objects ≡ length world.objects

-- LAW
-- where there is something to keep
abbrev pub BoundsAreKept : Type 0
BoundsAreKept = (μ : World) (w : Writing) (f : Frame) (s : Store) (function : linking.Function) (view : View) (world : c.World) (one : Saving) (later : List Saving) (zs : List ℤ) →
    Stands μ s world.objects → IsKnown μ w (without_bounds f) none_kept → AreSaved μ w f s function.code view.position (one ∷ later) zs → ComesBehind μ w f s function view world (one ∷ later) zs

unfoldable pub bound_items_opened : Unit {0}
unfolding saving_item
bound_items_opened = tt
