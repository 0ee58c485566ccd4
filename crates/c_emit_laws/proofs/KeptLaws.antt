-- The flat C items for steps that keep numbers go on where the steps do, and what is known then is so.
use Rattle.std.specs.Prelude.{◌≡◌, ℕ, suc, ◌+◌, nat_eq, Bool, true, false, List, map, length, position, Option, Some, None, bytes_eq, slice_set, unwrap_or, if◌then◌else◌}
use Rattle.std.proofs.Common.{refl, sym, ap, ◌∙◌, subst}
use Rattle.c_emit.specs.simulation.Machine.{Goes}
use Rattle.c_emit.specs.f_tree.declared.names.Basic.{Basic}
use Rattle.c_emit.specs.f_tree.declared.names.Basic.TheVariants.{Integer, Logical}
use Rattle.c_emit.specs.f_tree.Values.{Datum, IsInt, IsLog, Checked, Gives, Fails, given_that}
use Rattle.c_emit.specs.f_tree.Store.{Whole, Truth, Number as ANumber}
use Rattle.c_emit.specs.f_tree.Facts.{Frame}
use Rattle.c_emit.specs.f_tree.Valuing.{applied}
use Rattle.c_emit.specs.f_tree.World as fortran
use Rattle.c_emit.specs.l_core.Pures.{Temporaries, with_kept, meant, all_meant}
use Rattle.c_emit.specs.l_core.Machine.{View, onward, keeping, done, step}
use Rattle.c_emit.specs.c_tree.Access.{ToNumber}
use Rattle.c_emit.specs.c_tree.Objects as objects_of
use Rattle.c_emit.specs.c_tree.Flat as flat
use Rattle.c_emit.specs.c_tree.Terms.{Term, Variable}
use Rattle.c_emit.specs.c_tree.Builtins.{builtin_names}
use Rattle.c_emit.specs.c_tree.Steps.{WantsNothing}
use Rattle.c_emit.specs.c_image.World.{World, changed, with_held}
use Rattle.c_emit.specs.c_image.Standing.{Stands}
use Rattle.c_emit.specs.c_image.Held.{whole_for, BeginWith}
use Rattle.c_emit.specs.c_image.Knowing.{Knows, IsApart}
use Rattle.c_image_laws.proofs.Keeping.{number_kept}
use Rattle.c_image_laws.proofs.Knowledge.{knows_kept}
use Rattle.c_emit.specs.Numbers.{Writing, if_number, value_term}
use Rattle.c_emit.specs.Types.{HasType}
use Rattle.c_emit.specs.LibraryFunctions.{LibraryFunction, library_function}
use Rattle.c_emit.specs.Calls.{address_of, routine_of, held_terms, computed_item}
use Rattle.c_emit.specs.Flats.{flat_of}
use Rattle.c_emit_laws.specs.EmittedNumbers.{IsKnown}
use Rattle.c_emit_laws.specs.EmittedFlats.{KeepsAlike, KeptFlatsGoOn, ComputedFlatsGoOn}
use Rattle.c_emit_laws.proofs.Choices.{some_same, got}
use Rattle.c_emit_laws.proofs.ComputedNumbers.{computed_by, integers_of}
use Rattle.c_emit_laws.proofs.ComputedLaws.{computed_goes}
use Rattle.c_emit_laws.proofs.FittingNumbers.{FitsUnit, fits_whole}
use Rattle.c_emit_laws.proofs.HeldNumbers.{values_hold}
use Rattle.c_emit_laws.proofs.FlatLaws.{IsTo, to_by, assigned_by}
use Rattle.c_emit_laws.proofs.NumberLaws.{numbers_are_emitted}
use Rattle.c_emit_laws.proofs.StepLaws.{keeps_are_emitted}

-- what is kept that goes on has a value
record IsKept (k : ℕ) (v : View) (x : fortran.World) (v' : View) (x' : fortran.World) (r : Checked Datum) : Type 0 where
  value : Datum
  gives : r ≡ Gives value
  goes : IsTo (suc v.at) (record v { kept = with_kept k value v.kept }) x v' x'

kept_by : (k : ℕ) (v : View) (x : fortran.World) (v' : View) (x' : fortran.World) (r : Checked Datum) → keeping k v x r ≡ Goes v' x' → IsKept k v x v' x' r
unfolding keeping onward
kept_by k v x v' x' (Gives d) h = record { value = d; gives = refl; goes = to_by (suc v.at) (record v { kept = with_kept k d v.kept }) x v' x' h }
kept_by k v x v' x' (Fails act) h = absurd (cc)

same_kept : (k : ℕ) (d : Datum) (kept : Temporaries) → changed kept k (Some d) ≡ with_kept k d kept
unfolding with_kept
same_kept k d kept = refl

numbers_kept : (kept : Temporaries) (is_number : ℕ → Bool) (k : ℕ) (d : Datum) (value : Whole) → whole_for d ≡ Some value
    → ((j : ℕ) (e : Datum) → kept j ≡ Some e → is_number j ≡ true → (found : Whole) × (whole_for e ≡ Some found))
    → (j : ℕ) (e : Datum) → with_kept k d kept j ≡ Some e → is_number j ≡ true → (found : Whole) × (whole_for e ≡ Some found)
unfolding with_kept
numbers_kept kept is_number k d value is numbers j e has holds = by (nat_eq j k) has
  where
    by : (test : Bool) → (if test then Some d else kept j) ≡ Some e → (found : Whole) × (whole_for e ≡ Some found)
    by true h = subst (λ y. (found : Whole) × (whole_for y ≡ Some found)) (some_same d e h) (value, is)
    by false h = numbers j e h holds

known_behind : (μ : World) (w : Writing) (frame : Frame) (kept : Temporaries) (k : ℕ) (d : Datum) (value : Whole) (bytes : List (Option ℕ)) → IsKnown μ w frame kept → IsApart w.naming k → BeginWith d bytes
    → whole_for d ≡ Some value → IsKnown (with_held μ (w.naming.temporary k) (Some (objects_of.Bytes bytes))) w frame (with_kept k d kept)
known_behind μ w frame kept k d value bytes known apart begins is = record {
  knows = subst (Knows (with_held μ (w.naming.temporary k) (Some (objects_of.Bytes bytes))) w.naming w.facts frame) (same_kept k d kept)
      (knows_kept μ w.naming w.facts frame kept k d bytes apart begins known.knows);
  spots = known.spots;
  types = known.types;
  numbers = numbers_kept kept w.is_number k d value is known.numbers;
  bounds = known.bounds;
  closed = known.closed;
}

-- the object of a temporary that holds numbers
temporary_is : (holds : Bool) (term : Term) (target : Term) → if_number holds (Some term) ≡ Some target → term ≡ target
unfolding if_number
temporary_is true term target h = some_same term target h
temporary_is false term target h = absurd (cc)

pub kept_flats_go_on : KeptFlatsGoOn
unfolding step flat_of done
kept_flats_go_on u v v' x x' μ w place function view world k old p item facts at emitted here next stands known frozen room homeless apart goes =
    let m = assigned_by (if_number (w.is_number k) (Some (Variable (w.naming.temporary k) ToNumber))) (value_term w p) item emitted in
    let done_is : keeping k v x (meant u.facts v.frame v.kept x.store p) ≡ Goes v' x' = sym (ap (done u v x) at) ∙ goes in
    let kept = kept_by k v x v' x' (meant u.facts v.frame v.kept x.store p) done_is in
    let gives : meant w.facts v.frame v.kept x.store p ≡ Gives kept.value = ap (λ c. meant c v.frame v.kept x.store p) facts ∙ kept.gives in
    let keeps = keeps_are_emitted μ x.store function view world w v.frame v.kept k old p m.value kept.value stands known frozen room homeless m.value_is gives in
    let means = numbers_are_emitted μ x.store world.objects w v.frame v.kept p m.value kept.value stands known m.value_is gives in
    let target : Variable (w.naming.temporary k) ToNumber ≡ m.target = temporary_is (w.is_number k) (Variable (w.naming.temporary k) ToNumber) m.target m.target_is in
    let follows : view.position + 1 ≡ place (suc v.at) = ap (λ n. n + 1) here ∙ sym next in
    let item_is : flat.Assign (Variable (w.naming.temporary k) ToNumber) m.value ≡ item = ap (λ t. flat.Assign t m.value) target ∙ m.is in
    let behind = known_behind μ w v.frame v.kept k kept.value means.whole keeps.bytes known apart keeps.begins means.is in
    subst (λ i. KeepsAlike μ v v' x x' w k (length old) place function view world i) item_is (record {
      frame = ap (λ (y : View). y.frame) kept.goes.view;
      height = ap (λ (y : View). y.height) kept.goes.view;
      same = kept.goes.world;
      bytes = keeps.bytes;
      same_size = keeps.same_size;
      wants = view.wants;
      goes = keeps.stored
          ∙ ap (λ n. Goes (record view { position = n }) (record world { objects = slice_set world.objects (w.naming.temporary k) (objects_of.Bytes keeps.bytes) })) (follows ∙ ap (λ (y : View). place y.at) (sym kept.goes.view));
      stands = subst (λ (y : fortran.World). Stands (with_held μ (w.naming.temporary k) (Some (objects_of.Bytes keeps.bytes))) y.store (slice_set world.objects (w.naming.temporary k) (objects_of.Bytes keeps.bytes))) (sym kept.goes.world) keeps.stands;
      known = subst (λ (y : View). IsKnown (with_held μ (w.naming.temporary k) (Some (objects_of.Bytes keeps.bytes))) w y.frame y.kept) (sym kept.goes.view) behind;
    })

-- ## Functions of the library

-- what is emitted for one
pub record IsCalled (w : Writing) (x : Option Term) (o : Option LibraryFunction) (xs : Option (List Term)) (item : flat.Flat) : Type 0 where
  pub target : Term
  pub one : LibraryFunction
  pub terms : List Term
  pub target_is : x ≡ Some target
  pub one_is : o ≡ Some one
  pub terms_are : xs ≡ Some terms
  pub is : flat.Invoke (flat.Kept target) (flat.Direct (routine_of w one.name)) (map address_of terms) ≡ item

pub called_by : (w : Writing) (x : Option Term) (o : Option LibraryFunction) (xs : Option (List Term)) (item : flat.Flat) → computed_item w x o xs ≡ Some item → IsCalled w x o xs item
unfolding computed_item
called_by w (Some target) (Some one) (Some terms) item h = record { target = target; one = one; terms = terms; target_is = refl; one_is = refl; terms_are = refl; is = some_same _ item h }
called_by w (Some target) (Some one) None item h = absurd (cc)
called_by w (Some target) None xs item h = absurd (cc)
called_by w None o xs item h = absurd (cc)

-- what is computed is a number
record IsCounted (d : Datum) : Type 0 where
  whole : Whole
  is : whole_for d ≡ Some whole

counted : (basic : Basic) (d : Datum) → HasType basic d → IsCounted d
counted Integer (IsInt z) typed = record { whole = ANumber z; is = refl }
counted Logical (IsLog b) typed = record { whole = Truth b; is = refl }
counted _ _ typed = absurd (typed)

pub computed_flats_go_on : ComputedFlatsGoOn
unfolding step flat_of done
computed_flats_go_on u v v' x x' μ w place function view world k old f ps item facts at emitted here next stands known calls frozen room homeless apart goes =
    let m = called_by w (if_number (w.is_number k) (Some (Variable (w.naming.temporary k) ToNumber))) (library_function f) (held_terms w ps) item emitted in
    let done_is : keeping k v x (given_that (all_meant u.facts v.frame v.kept x.store ps) (applied f)) ≡ Goes v' x' = sym (ap (done u v x) at) ∙ goes in
    let kept = kept_by k v x v' x' (given_that (all_meant u.facts v.frame v.kept x.store ps) (applied f)) done_is in
    let values = got (all_meant u.facts v.frame v.kept x.store ps) (applied f) kept.value kept.gives in
    let computed = computed_by f m.one values.value kept.value m.one_is values.gives in
    let means = counted m.one.gives kept.value computed.typed in
    let held = values_hold μ x.store world.objects w v.frame v.kept stands known calls.constants ps values.value m.terms (integers_of m.one.takes values.value computed.operands) (ap (λ c. all_meant c v.frame v.kept x.store ps) facts ∙ values.is) m.terms_are in
    let keeps = number_kept μ x.store world.objects (w.naming.temporary k) old kept.value means.whole stands frozen room homeless means.is (fits_whole kept.value means.whole computed.fits means.is) in
    let stored = computed_goes function view world w.library.own (w.naming.temporary k) f m.one m.terms values.value kept.value means.whole _ calls.own m.one_is computed.operands held values.gives means.is keeps.stored in
    let target : Variable (w.naming.temporary k) ToNumber ≡ m.target = temporary_is (w.is_number k) (Variable (w.naming.temporary k) ToNumber) m.target m.target_is in
    let follows : view.position + 1 ≡ place (suc v.at) = ap (λ n. n + 1) here ∙ sym next in
    let item_is : flat.Invoke (flat.Kept (Variable (w.naming.temporary k) ToNumber)) (flat.Direct (routine_of w m.one.name)) (map address_of m.terms) ≡ item =
    ap (λ t. flat.Invoke (flat.Kept t) (flat.Direct (routine_of w m.one.name)) (map address_of m.terms)) target ∙ m.is in
    let behind = known_behind μ w v.frame v.kept k kept.value means.whole keeps.bytes known apart keeps.begins means.is in
    subst (λ i. KeepsAlike μ v v' x x' w k (length old) place function view world i) item_is (record {
      frame = ap (λ (y : View). y.frame) kept.goes.view;
      height = ap (λ (y : View). y.height) kept.goes.view;
      same = kept.goes.world;
      bytes = keeps.bytes;
      same_size = keeps.same_size;
      wants = WantsNothing;
      goes = stored
          ∙ ap (λ n. Goes (record view { position = n; wants = WantsNothing }) (record world { objects = slice_set world.objects (w.naming.temporary k) (objects_of.Bytes keeps.bytes) })) (follows ∙ ap (λ (y : View). place y.at) (sym kept.goes.view));
      stands = subst (λ (y : fortran.World). Stands (with_held μ (w.naming.temporary k) (Some (objects_of.Bytes keeps.bytes))) y.store (slice_set world.objects (w.naming.temporary k) (objects_of.Bytes keeps.bytes))) (sym kept.goes.world) keeps.stands;
      known = subst (λ (y : View). IsKnown (with_held μ (w.naming.temporary k) (Some (objects_of.Bytes keeps.bytes))) w y.frame y.kept) (sym kept.goes.view) behind;
    })
