-- What worlds and objects keep through steps and at the begin of a function.
use Rattle.std.specs.Prelude.{◌≡◌, ℕ, ◌+◌, ◌≤◌, List, [], ◌++◌, length, take, drop, Option, Some, None, Ok, Err, slice_get, slice_set}
use Rattle.std.proofs.Common.{refl, sym, ap, ◌∙◌, subst, arith}
use Rattle.std.proofs.lemmas.List.{length-set, length-take-le, length-drop, length-append}
use Rattle.output_laws.specs.simulation.Machine.{Goes}
use Rattle.output_laws.specs.c_tree.declared.outcome.CValue.{CValue}
use Rattle.output_laws.specs.c_tree.declared.outcome.CValue.TheVariants.{Number, Pointer, Null, Function}
use Rattle.output_laws.specs.c_tree.Faults.{Or, after}
use Rattle.output_laws.specs.c_tree.Access.{Access}
use Rattle.output_laws.specs.c_tree.Objects.{Object, Place, converted, put_object, store_through, stored}
use Rattle.output_laws.specs.c_tree.Terms.{Term}
use Rattle.output_laws.specs.c_tree.Values.{value_of, place_named, test_of, number_of}
use Rattle.output_laws.specs.c_tree.Flat as flat
use Rattle.output_laws.specs.c_tree.Flat.{Flat, CaseAt}
use Rattle.output_laws.specs.c_tree.World as c
use Rattle.output_laws.specs.c_tree.Linking as linking
use Rattle.output_laws.specs.c_tree.Steps as c_steps
use Rattle.output_laws.specs.c_tree.Steps.{deed, given_that, with_frame, all_bound}
use Rattle.c_emit_laws.specs.c_image.World.{World, with_held, Extends}
use Rattle.c_emit_laws.proofs.c_image_laws.Growing.{changed_elsewhere}

-- ## Objects are as many as they were

record Had {A B : Type 0} (r : Or A) (f : A → Or B) (b : B) : Type 0 where
  value : A
  is : r ≡ Ok value
  gives : f value ≡ Ok b

had : {A B : Type 0} (r : Or A) (f : A → Or B) (b : B) → after r f ≡ Ok b → Had r f b
had (Ok value) f b e = record { value = value; is = refl; gives = e }
had (Err reason) f b e = absurd (cc)

value_or : {A : Type 0} → A → Or A → A
value_or d (Ok a) = a
value_or d (Err reason) = d

through_length : (objects now : List Object) (at : CValue) (access : Access) (value : CValue) → store_through objects at access value ≡ Ok now → length now ≡ length objects
unfolding value_or
through_length objects now (Pointer object offset) access value e =
    let found = had (put_object access offset value (slice_get objects object)) (λ changed'. Ok (slice_set objects object changed')) now e in
    sym (ap (λ r. length (value_or now r)) found.gives) ∙ length-set objects object found.value
through_length objects now Null access value e = absurd (cc)
through_length objects now (Number number) access value e = absurd (cc)
through_length objects now (Function number) access value e = absurd (cc)

pub stored_length : (objects now : List Object) (place : Place) (value : CValue) → stored objects place value ≡ Ok now → length now ≡ length objects
unfolding stored
stored_length objects now place value e =
    let found = had (converted place.access value) (λ held. store_through objects place.at place.access held) now e in
    through_length objects now place.at place.access found.value found.gives

-- an event that goes on
record Went {A : Type 0} (r : Or A) (f : A → c_steps.Happening) (view : c_steps.View) (world : c.World) : Type 0 where
  value : A
  is : r ≡ Ok value
  goes : f value ≡ Goes view world

went : {A : Type 0} (r : Or A) (f : A → c_steps.Happening) (view : c_steps.View) (world : c.World) → given_that r f ≡ Goes view world → Went r f view world
went (Ok value) f view world e = record { value = value; is = refl; goes = e }
went (Err reason) f view world e = absurd (cc)

world_of : c.World → c_steps.Happening → c.World
world_of w (Goes view world) = world
world_of w e = w

-- an item that calls, answers and ends nothing
pub data IsPlain : Flat → Type 0 where
  assigns : (target value : Term) → IsPlain (flat.Assign target value)
  tests : (test : Term) (on off : ℕ) → IsPlain (flat.Branch test on off)
  chooses : (value : Term) (cases : List CaseAt) (otherwise : ℕ) → IsPlain (flat.Select value cases otherwise)
  jumps : (position : ℕ) → IsPlain (flat.Jump position)
  nothing : IsPlain flat.Nothing

pub plain_length : (function : linking.Function) (view later : c_steps.View) (world now : c.World) (item : Flat) → IsPlain item → deed function view world item ≡ Goes later now → length now.objects ≡ length world.objects
unfolding deed world_of went
plain_length function view later world now _ (assigns target value) e =
    let at = went (place_named world.objects target) _ later now e in
    let has = went (value_of world.objects value) _ later now at.goes in
    let found = went (stored world.objects at.value has.value) _ later now has.goes in
    let same : length now.objects ≡ length found.value = sym (ap (λ h. length (world_of now h).objects) found.goes) in
    same ∙ stored_length world.objects found.value at.value has.value found.is
plain_length function view later world now _ (tests test on off) e =
    let holds = went (test_of world.objects test) _ later now e in
    sym (ap (λ h. length (world_of now h).objects) holds.goes)
plain_length function view later world now _ (chooses value cases otherwise) e =
    let number = went (number_of world.objects value) _ later now e in
    sym (ap (λ h. length (world_of now h).objects) number.goes)
plain_length function view later world now _ (jumps position) e = sym (ap (λ h. length (world_of now h).objects) e)
plain_length function view later world now _ nothing e = sym (ap (λ h. length (world_of now h).objects) e)

-- a frame that is made anew
pub framed_length : (function : linking.Function) (objects : List Object) → function.frame + length function.fresh ≤ length objects → length (with_frame function [] objects) ≡ length objects
framed_length function objects room =
    let front = length-take-le function.frame objects (omega (arith, room)) in
    let back = length-drop (function.frame + length function.fresh) objects in
    let all = length-append (take function.frame objects ++ function.fresh) (drop (function.frame + length function.fresh) objects) in
    let more = length-append (take function.frame objects) function.fresh in
    let is : length (with_frame function [] objects) ≡ length (take function.frame objects ++ function.fresh ++ drop (function.frame + length function.fresh) objects) = refl in
    omega (arith, room, front, back, all, more, is)

-- ## Growth

none_there : {A : Type 0} (found : Option A) (a : A) → found ≡ None → found ≡ Some a → ⊥
none_there found a none some = absurd (cc)

-- an object of which nothing was said at the call holds something else
pub extends_changed : (μ ν : World) (k : ℕ) (held : Option Object) → Extends μ ν → μ.frozen k ≡ None → Extends μ (with_held ν k held)
extends_changed μ ν k held grown none = record {
  higher = grown.higher;
  homes = grown.homes;
  size = grown.size;
  fixed = grown.fixed;
  frozen = λ m object is. changed_elsewhere ν.frozen k m held (λ same. none_there (μ.frozen m) object (subst (λ i. μ.frozen i ≡ None) (sym same) none) is) ∙ grown.frozen m object is;
}
