-- What the C statements for lowered steps do: an assignment to a place, one of a temporary, and a test. ANSI X3.9-1978, sections 10.1, 10.2
-- and 11.5; C89, 3.3.16 and 3.6.4.1.
use Rattle.std.specs.Prelude.{◌≡◌, ℕ, ◌+◌, ◌≤◌, true, Bool, List, length, Option, Some, Ok}
use Rattle.c_emit.specs.simulation.Machine.{Goes}
use Rattle.c_emit.specs.f_tree.Values.{Datum, IsLog, Gives, in_range}
use Rattle.c_emit.specs.f_tree.Store.{Store, Whole}
use Rattle.c_emit.specs.f_tree.Facts.{Frame}
use Rattle.c_emit.specs.l_core.Pures.{Pure, Temporaries, meant}
use Rattle.c_emit.specs.l_core.Machine.{put_at}
use Rattle.c_emit.specs.c_tree.Access.{ToNumber}
use Rattle.c_emit.specs.c_tree.Objects as objects_of
use Rattle.c_emit.specs.c_tree.Objects.{Object}
use Rattle.c_emit.specs.c_tree.Terms.{Term, Variable}
use Rattle.c_emit.specs.c_tree.Values.{test_of}
use Rattle.c_emit.specs.c_tree.World as c
use Rattle.c_emit.specs.c_tree.Linking as linking
use Rattle.c_emit.specs.c_tree.Flat.{Assign}
use Rattle.c_emit.specs.c_tree.Steps.{View, deed}
use Rattle.c_emit.specs.faithful.StorageImage.{number_for}
use Rattle.c_emit.specs.c_image.World.{World, IsHomeless}
use Rattle.c_emit.specs.c_image.Standing.{Stands}
use Rattle.c_emit.specs.c_image.Held.{whole_for}
use Rattle.c_image_laws.specs.Meanings.{StandsAfter, Keeps}
use Rattle.c_emit.specs.Numbers.{Writing, value_term, place_term}
use Rattle.c_emit_laws.specs.EmittedNumbers.{IsKnown}

-- a value that is emitted has 32 bits
abbrev pub EmittedNumbersFit : Type 0
EmittedNumbersFit = (μ : World) (s : Store) (objects : List Object) (w : Writing) (frame : Frame) (temporaries : Temporaries) (p : Pure) (term : Term) (d : Datum) (v : Whole) →
    Stands μ s objects → IsKnown μ w frame temporaries → value_term w p ≡ Some term → meant w.facts frame temporaries s p ≡ Gives d → whole_for d ≡ Some v → in_range (number_for v) ≡ true

-- a place gets a number: the C assignment goes on, and the store behind the step stands
abbrev pub PutsAreEmitted : Type 0
PutsAreEmitted = (μ : World) (s later : Store) (function : linking.Function) (view : View) (world : c.World) (w : Writing) (frame : Frame) (temporaries : Temporaries) (place p : Pure) (target value : Term) (r d : Datum) →
    Stands μ s world.objects → IsKnown μ w frame temporaries → place_term w place ≡ Some target → value_term w p ≡ Some value →
    meant w.facts frame temporaries s p ≡ Gives d → meant w.facts frame temporaries s place ≡ Gives r → put_at s r d ≡ Gives later →
    StandsAfter μ later (λ after. deed function view world (Assign target value) ≡ Goes (record view { position = view.position + 1 }) (record world { objects = after }))

-- a temporary gets a number: the C assignment goes on, the temporary holds it, and the store stands as before
abbrev pub KeepsAreEmitted : Type 0
KeepsAreEmitted = (μ : World) (s : Store) (function : linking.Function) (view : View) (world : c.World) (w : Writing) (frame : Frame) (temporaries : Temporaries) (k : ℕ) (old : List (Option ℕ)) (p : Pure) (value : Term) (d : Datum) →
    Stands μ s world.objects → IsKnown μ w frame temporaries → μ.frozen (w.naming.temporary k) ≡ Some (objects_of.Bytes old) → 4 ≤ length old → IsHomeless μ (w.naming.temporary k) →
    value_term w p ≡ Some value → meant w.facts frame temporaries s p ≡ Gives d →
    Keeps μ s world.objects (w.naming.temporary k) d (length old)
    (λ after. deed function view world (Assign (Variable (w.naming.temporary k) ToNumber) value) ≡ Goes (record view { position = view.position + 1 }) (record world { objects = after }))

-- a condition: the C test holds where it holds
abbrev pub ConditionsAreEmitted : Type 0
ConditionsAreEmitted = (μ : World) (s : Store) (objects : List Object) (w : Writing) (frame : Frame) (temporaries : Temporaries) (p : Pure) (term : Term) (b : Bool) →
    Stands μ s objects → IsKnown μ w frame temporaries → value_term w p ≡ Some term → meant w.facts frame temporaries s p ≡ Gives (IsLog b) → test_of objects term ≡ Ok b
