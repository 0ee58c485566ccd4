-- A label that is put at a place, or held there, is its number in C. ANSI X3.9-1978, sections 10.3 and 11.3; C89, 3.3.16 and 3.6.4.2.
use Rattle.std.specs.Prelude.{◌≡◌, ℕ, suc, ◌+◌, ◌%◌, ℤ, pos, Bool, true, false, ◌&&◌, List, [], ◌∷◌, Option, Some, None, Ok, bytes_eq, if◌then◌else◌}
use Rattle.std.proofs.Common.{refl, sym, ap, ◌∙◌, subst}
use Rattle.c_emit.specs.simulation.Machine.{Goes, Breaks}
use Rattle.c_emit.specs.f_tree.declared.names.Basic.{Basic}
use Rattle.c_emit.specs.f_tree.declared.names.Basic.TheVariants.{Integer, Logical, Character, Untyped}
use Rattle.c_emit.specs.f_tree.Values.{Bytes, Spot, Datum, IsInt, IsSpot, BadAssignedLabel, Checked, Gives, Fails, in_range}
use Rattle.c_emit.specs.f_tree.Store.{Store, Whole, Label, Number, Truth, define_label, label_at}
use Rattle.c_emit.specs.f_tree.Facts.{Frame}
use Rattle.c_emit.specs.f_tree.World as fortran
use Rattle.c_emit.specs.f_tree.Step.{contains, name_of}
use Rattle.c_emit.specs.l_core.Pures.{Pure, Temporaries, meant}
use Rattle.c_emit.specs.l_core.Steps.{Text}
use Rattle.c_emit.specs.l_core.Machine.{View, to, past, put_label_at, label_held, passed_before, jumping}
use Rattle.c_emit.specs.c_tree.declared.outcome.CValue.TheVariants as c_value
use Rattle.c_emit.specs.c_tree.Access.{ToNumber}
use Rattle.c_emit.specs.c_tree.Faults.{after}
use Rattle.c_emit.specs.c_tree.Objects.{Object, as_number}
use Rattle.c_emit.specs.c_tree.Terms.{Term}
use Rattle.c_emit.specs.c_tree.Values.{number_of}
use Rattle.c_emit.specs.c_tree.World as c
use Rattle.c_emit.specs.c_tree.Linking as linking
use Rattle.c_emit.specs.c_tree.Flat.{Assign}
use Rattle.c_emit.specs.c_tree.Steps as c_steps
use Rattle.c_emit.specs.c_tree.Steps.{deed}
use Rattle.c_image_laws.proofs.c_laws.StepLaws.{assignment_goes}
use Rattle.c_image_laws.proofs.c_laws.ValueLaws.{value_of-number}
use Rattle.c_emit.specs.c_image.World.{World}
use Rattle.c_emit.specs.c_image.Standing.{Stands}
use Rattle.c_emit.specs.c_image.Addresses.{access_to, HasShape}
use Rattle.c_emit.specs.c_image.Operations.{constant_term}
use Rattle.c_image_laws.specs.Meanings.{StandsAfter}
use Rattle.c_image_laws.proofs.DefinedPlaces.{label_defined}
use Rattle.c_image_laws.proofs.FetchedPlaces.{label_fetched}
use Rattle.c_image_laws.proofs.Contracts.{constants_are_meant}
use Rattle.c_image_laws.proofs.OperatorValues.{counts_integer}
use Rattle.c_emit.specs.Numbers.{Writing, constant_value, place_term}
use Rattle.c_emit_laws.specs.EmittedNumbers.{IsKnown, IsNumberPlace}
use Rattle.c_emit_laws.proofs.NumberLaws.{places_are_emitted}

-- a place of a number or a truth value has four units, from a multiple of four on
numeric_shape : (basic : Basic) (p : Spot) → access_to basic ≡ ToNumber → HasShape basic p → (p.first % 4 ≡ 0) × (p.width ≡ 4)
numeric_shape Integer p is shaped = shaped
numeric_shape Logical p is shaped = shaped
numeric_shape Character p is shaped = absurd (cc)
numeric_shape Untyped p is shaped = absurd (cc)

record IsConstant (z : ℤ) (term : Term) : Type 0 where
  fits : in_range z ≡ true
  is : constant_term z ≡ term

constant_by : (z : ℤ) (term : Term) (test : Bool) → in_range z ≡ test → (if test then Some (constant_term z) else None) ≡ Some term → IsConstant z term
constant_by z term true fits h = record { fits = fits; is = cc }
constant_by z term false fits h = absurd (cc)

is_constant : (z : ℤ) (term : Term) → constant_value (IsInt z) ≡ Some term → IsConstant z term
unfolding constant_value
is_constant z term h = constant_by z term (in_range z) refl h

label_put : (u : Text) (s : Store) (label : ℕ) (place : Spot) (r : Datum) (later : Store) → r ≡ IsSpot place → put_label_at u s label r ≡ Gives later → define_label s place (name_of u.facts.program) label ≡ Gives later
unfolding put_label_at
label_put u s label place r later is put = sym (ap (put_label_at u s label) is) ∙ put

-- a place gets a label: the C assignment of its number goes on, and the store behind the step stands
pub labels_are_put : (u : Text) (μ : World) (s later : Store) (function : linking.Function) (view : c_steps.View) (world : c.World) (w : Writing) (frame : Frame) (temporaries : Temporaries) (place : Pure) (label : ℕ) (target value : Term) (r : Datum) →
    Stands μ s world.objects → IsKnown μ w frame temporaries → place_term w place ≡ Some target → constant_value (IsInt (pos label)) ≡ Some value → meant w.facts frame temporaries s place ≡ Gives r →
    put_label_at u s label r ≡ Gives later → StandsAfter μ later (λ after. deed function view world (Assign target value) ≡ Goes (record view { position = view.position + 1 }) (record world { objects = after }))
labels_are_put u μ s later function view world w frame temporaries place label target value r stands known placed emitted found put =
    let at = places_are_emitted μ s world.objects w frame temporaries place target r stands known placed found in
    let constant = is_constant (pos label) value emitted in
    let shape = numeric_shape at.place.basic at.place at.numeric at.sound.shaped in
    let counts = counts_integer world.objects (constant_term (pos label)) (pos label) (constants_are_meant world.objects (pos label) constant.fits) in
    let after = label_defined μ s later world.objects at.place at.object (name_of u.facts.program) label stands shape.0 shape.1 at.at (label_put u s label at.place r later at.is put) constant.fits in
    subst (λ t. StandsAfter μ later (λ after. deed function view world (Assign target t) ≡ Goes (record view { position = view.position + 1 }) (record world { objects = after }))) constant.is
    (record {
      objects = after.objects;
      stored = assignment_goes function view world target (constant_term (pos label)) (record { at = c_value.Pointer at.object at.place.first; access = ToNumber }) (c_value.Number (pos label)) after.objects at.named.names
          (value_of-number world.objects (constant_term (pos label)) (pos label) counts) after.stored;
      stands = after.stands;
    })

label_there : (s : Store) (place : Spot) (r : Datum) (w : Whole) → r ≡ IsSpot place → label_held s r ≡ Gives w → label_at s place ≡ Gives w
unfolding label_held
label_there s place r w is held = sym (ap (label_held s) is) ∙ held

-- a place that holds a label has its number in C
pub labels_are_held : (μ : World) (s : Store) (objects : List Object) (w : Writing) (frame : Frame) (temporaries : Temporaries) (p : Pure) (term : Term) (r : Datum) (owner : Bytes) (label : ℕ) →
    Stands μ s objects → IsKnown μ w frame temporaries → place_term w p ≡ Some term → meant w.facts frame temporaries s p ≡ Gives r → label_held s r ≡ Gives (Label owner label) → number_of objects term ≡ Ok (pos label)
labels_are_held μ s objects w frame temporaries p term r owner label stands known placed found held =
    let at = places_are_emitted μ s objects w frame temporaries p term r stands known placed found in
    let shape = numeric_shape at.place.basic at.place at.numeric at.sound.shaped in
    let there = label_fetched μ s objects at.place at.object (Label owner label) stands shape.0 at.at (label_there s at.place r (Label owner label) at.is held) in
    ap (λ found. after found as_number) (value_of-number objects term (pos label) (at.named.holds ∙ there))

-- a jump to a held label goes on to the step of the label, where it is one of those that are allowed
pub jumping_is : (u : Text) (labels : List ℕ) (v : View) (x : fortran.World) (owner : Bytes) (label : ℕ)
    → jumping u labels v x (Gives (Label owner label)) ≡ (if bytes_eq owner (name_of u.facts.program) && contains labels label then to (suc v.at + passed_before labels label) v x else Breaks BadAssignedLabel)
unfolding jumping past
jumping_is u labels v x owner label = refl

pub record IsHeld (labels : List ℕ) (v : View) (x : fortran.World) (v' : View) (x' : fortran.World) (r : Checked Whole) : Type 0 where
  pub owner : Bytes
  pub label : ℕ
  pub gives : r ≡ Gives (Label owner label)
  pub among : contains labels label ≡ true
  pub goes : to (suc v.at + passed_before labels label) v x ≡ Goes v' x'

among_by : (labels : List ℕ) (v : View) (x : fortran.World) (v' : View) (x' : fortran.World) (owner : Bytes) (label : ℕ) (own among : Bool) → contains labels label ≡ among →
    (if own && among then to (suc v.at + passed_before labels label) v x else Breaks BadAssignedLabel) ≡ Goes v' x' → IsHeld labels v x v' x' (Gives (Label owner label))
among_by labels v x v' x' owner label true true is h = record { owner = owner; label = label; gives = refl; among = is; goes = h }
among_by labels v x v' x' owner label true false is h = absurd (cc)
among_by labels v x v' x' owner label false among is h = absurd (cc)

pub held_by : (u : Text) (labels : List ℕ) (v : View) (x : fortran.World) (v' : View) (x' : fortran.World) (r : Checked Whole) → jumping u labels v x r ≡ Goes v' x' → IsHeld labels v x v' x' r
unfolding jumping
held_by u labels v x v' x' (Gives (Label owner label)) h =
    among_by labels v x v' x' owner label (bytes_eq owner (name_of u.facts.program)) (contains labels label) refl (sym (jumping_is u labels v x owner label) ∙ h)
held_by u labels v x v' x' (Gives (Number z)) h = absurd (cc)
held_by u labels v x v' x' (Gives (Truth b)) h = absurd (cc)
held_by u labels v x v' x' (Fails act) h = absurd (cc)
