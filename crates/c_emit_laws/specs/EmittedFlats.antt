-- What the flat C items for lowered steps do, one for each step. ANSI X3.9-1978, sections 10 and 11; C89, 3.6.
use Rattle.std.specs.Prelude.{◌≡◌, ℕ, suc, ◌+◌, ◌≤◌, ℤ, true, List, length, Option, Some, slice_get, slice_set}
use Rattle.c_emit.specs.simulation.Machine.{Goes}
use Rattle.c_emit.specs.f_tree.Values.{IsInt}
use Rattle.c_emit.specs.f_tree.Terms.{Function}
use Rattle.c_emit.specs.f_tree.World as fortran
use Rattle.c_emit.specs.l_core.Pures.{Pure, Pures}
use Rattle.c_emit.specs.l_core.Steps.{Step, Put, PutLabel, Keep, Compute, Unless, AgainIf, Skip, Again, Jump, Select, JumpBy, Branch, Way, Pass, Text}
use Rattle.c_emit.specs.l_core.Machine.{View, step}
use Rattle.c_emit.specs.c_tree.Objects as objects_of
use Rattle.c_emit.specs.c_tree.Flat.{Flat}
use Rattle.c_emit.specs.c_tree.World as c
use Rattle.c_emit.specs.c_tree.Linking as linking
use Rattle.c_emit.specs.c_tree.Steps as c_steps
use Rattle.c_emit.specs.c_tree.Steps.{Wants, deed}
use Rattle.c_emit.specs.c_image.World.{World, with_held, IsHomeless}
use Rattle.c_emit.specs.c_image.Standing.{Stands}
use Rattle.c_emit.specs.c_image.Held.{Holds}
use Rattle.c_emit.specs.c_image.Knowing.{IsApart}
use Rattle.c_image_laws.specs.Meanings.{StandsAfter}
use Rattle.c_emit.specs.Numbers.{Writing, Library}
use Rattle.c_emit.specs.Flats.{flat_of}
use Rattle.c_emit_laws.specs.EmittedNumbers.{IsKnown}

-- a step that changes no temporary, and calls, answers and ends nothing
pub data Steers : Step → Type 0 where
  by_put : (place p : Pure) → Steers (Put place p)
  by_label : (place : Pure) (label : ℕ) → Steers (PutLabel place label)
  by_test : (p : Pure) (n : ℕ) → Steers (Unless p n)
  by_test_back : (p : Pure) (n : ℕ) → Steers (AgainIf p n)
  by_skip : (n : ℕ) → Steers (Skip n)
  by_return : (n : ℕ) → Steers (Again n)
  by_jump : (label : ℕ) → Steers (Jump label)
  by_select : (p : Pure) (count : ℕ) → Steers (Select p count)
  by_held : (place : Pure) (labels : List ℕ) → Steers (JumpBy place labels)
  by_branch : (k count : ℕ) → Steers (Branch k count)
  by_way : (label : ℕ) → Steers (Way label)
  by_pass : Steers Pass

-- where the lowered text has gone, the C function goes: at the item of the step that is next, over a store that stands; what the procedure knows is as
-- it was
pub record GoesAlike (μ : World) (v v' : View) (x' : fortran.World) (place : ℕ → ℕ) (function : linking.Function) (view : c_steps.View) (world : c.World) (item : Flat) : Type 0 where
  pub frame : v'.frame ≡ v.frame
  pub kept : v'.kept ≡ v.kept
  pub height : v'.height ≡ v.height
  pub after : StandsAfter μ x'.store (λ objects. deed function view world item ≡ Goes (record view { position = place v'.at }) (record world { objects = objects }))

-- Each step of a text that puts a number or a label at a place, tests, jumps, chooses by a number, by a label that is held or by the answer of a subroutine, or does nothing, and goes on, is the one item that is emitted for it.
abbrev pub FlatsGoOn : Type 0
FlatsGoOn = (u : Text) (v v' : View) (x x' : fortran.World) (μ : World) (w : Writing) (place : ℕ → ℕ) (function : linking.Function) (view : c_steps.View) (world : c.World) (st : Step) (item : Flat) →
    w.facts ≡ u.facts → slice_get u.steps v.at ≡ Some st → Steers st → flat_of w place u.position v.at st ≡ Some item →
    view.position ≡ place v.at → place (suc v.at) ≡ place v.at + 1 → Stands μ x.store world.objects → IsKnown μ w v.frame v.kept → step u v x ≡ Goes v' x' →
    GoesAlike μ v v' x' place function view world item

-- where the lowered text has kept a value, the C function has it in the object of the temporary: the store stands as before, and what the procedure
-- knows now is so
pub record KeepsAlike (μ : World) (v v' : View) (x x' : fortran.World) (w : Writing) (k size : ℕ) (place : ℕ → ℕ) (function : linking.Function) (view : c_steps.View) (world : c.World) (item : Flat) : Type 0 where
  pub frame : v'.frame ≡ v.frame
  pub height : v'.height ≡ v.height
  pub same : x' ≡ x
  pub bytes : List (Option ℕ)
  pub same_size : length bytes ≡ size
  pub wants : Wants
  pub goes : deed function view world item ≡
      Goes (record view { position = place v'.at; wants = wants }) (record world { objects = slice_set world.objects (w.naming.temporary k) (objects_of.Bytes bytes) })
  pub stands : Stands (with_held μ (w.naming.temporary k) (Some (objects_of.Bytes bytes))) x'.store (slice_set world.objects (w.naming.temporary k) (objects_of.Bytes bytes))
  pub known : IsKnown (with_held μ (w.naming.temporary k) (Some (objects_of.Bytes bytes))) w v'.frame v'.kept

-- A step that keeps a number in a temporary of its own, and goes on, is the one item that is emitted for it.
abbrev pub KeptFlatsGoOn : Type 0
KeptFlatsGoOn = (u : Text) (v v' : View) (x x' : fortran.World) (μ : World) (w : Writing) (place : ℕ → ℕ) (function : linking.Function) (view : c_steps.View) (world : c.World) (k : ℕ) (old : List (Option ℕ)) (p : Pure) (item : Flat) →
    w.facts ≡ u.facts → slice_get u.steps v.at ≡ Some (Keep k p) → flat_of w place u.position v.at (Keep k p) ≡ Some item →
    view.position ≡ place v.at → place (suc v.at) ≡ place v.at + 1 → Stands μ x.store world.objects → IsKnown μ w v.frame v.kept →
    μ.frozen (w.naming.temporary k) ≡ Some (objects_of.Bytes old) → 4 ≤ length old → IsHomeless μ (w.naming.temporary k) → IsApart w.naming k → step u v x ≡ Goes v' x' →
    KeepsAlike μ v v' x x' w k (length old) place function view world item

-- what a function calls of the library is behind its program's functions, and the objects of its constants hold them
pub record CallsLibrary (μ : World) (library : Library) (function : linking.Function) : Type 0 where
  pub own : library.own ≡ function.own
  pub constants : (z : ℤ) → library.has z ≡ true → Holds (μ.frozen (library.constant z)) (IsInt z)

-- A step that computes a function of numbers which C has in its library, and goes on, is the one call that is emitted for it. Where the function has no value
-- (a power past 32 bits, a shift by 33) nothing is owed.
abbrev pub ComputedFlatsGoOn : Type 0
ComputedFlatsGoOn = (u : Text) (v v' : View) (x x' : fortran.World) (μ : World) (w : Writing) (place : ℕ → ℕ) (function : linking.Function) (view : c_steps.View) (world : c.World) (k : ℕ) (old : List (Option ℕ)) (f : Function) (ps : Pures) (item : Flat) →
    w.facts ≡ u.facts → slice_get u.steps v.at ≡ Some (Compute k f ps) → flat_of w place u.position v.at (Compute k f ps) ≡ Some item →
    view.position ≡ place v.at → place (suc v.at) ≡ place v.at + 1 → Stands μ x.store world.objects → IsKnown μ w v.frame v.kept → CallsLibrary μ w.library function →
    μ.frozen (w.naming.temporary k) ≡ Some (objects_of.Bytes old) → 4 ≤ length old → IsHomeless μ (w.naming.temporary k) → IsApart w.naming k → step u v x ≡ Goes v' x' →
    KeepsAlike μ v v' x x' w k (length old) place function view world item
