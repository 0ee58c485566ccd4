-- The bounds that a call fixes are kept by the items before the first statement; by these, and by what is written into the subscripts, the bounds of each
-- name are known.
use Rattle.std.specs.Prelude.{◌≡◌, ℕ, zero, suc, ◌+◌, ◌<◌, ℤ, pos, true, List, [], ◌∷◌, length, Option, Some, None, slice_get}
use Rattle.std.proofs.Common.{refl, sym, ap, ◌∙◌, subst, arith}
use Rattle.std.proofs.lemmas.Option.{slice_get_within}
use Rattle.procedure_emission.specs.f_tree.Values.{Bytes, IsInt, Gives, given_that, in_range}
use Rattle.procedure_emission.specs.f_tree.Terms.{Term}
use Rattle.procedure_emission.specs.f_tree.Store.{Store}
use Rattle.procedure_emission.specs.f_tree.Facts.{Dimension, Bounds, Formal, Facts, Frame}
use Rattle.procedure_emission.specs.f_tree.Setting.{IsIn, first_in, later_in}
use Rattle.procedure_emission.specs.f_tree.Valuing.{reduce, either_bounds, bounds_of, size_of_dimension}
use Rattle.procedure_emission.specs.f_tree.Association.{integer_of, sized, dimension_by, dimensions_by, all_dimensions_by, bounds_for}
use Rattle.procedure_emission.specs.l_core.Pures.{Pure, none_kept, meant}
use Rattle.procedure_emission.specs.c_image.World.{World}
use Rattle.procedure_emission.specs.c_image.Held.{Holds}
use Rattle.procedure_emission.specs.c_image.Elements.{Quantity}
use Rattle.procedure_emission.specs.c_image.Knowing.{IsQuantity}
use Rattle.procedure_emission.proofs.c_emit_laws.Choices.{got, some_same}
use Rattle.procedure_emission.specs.kept_bounds.FixedBounds.{AreOfDimensions, IsFound}
use Rattle.procedure_emission.specs.kept_bounds.KeptBounds.{size_pure, without_bounds}
use Rattle.procedure_emission.proofs.kept_bounds.FixedValues.{dimensions_are_fixed, names_are_fixed}
use Rattle.procedure_emission.proofs.kept_bounds.SizeValues.{lowers_are_meant, sizes_are_meant}
use Rattle.procedure_emission.specs.bound_items.BoundItems.{Saving, HasRoom, AreSaved, none_saved, one_saved, AreHeld, one_held}
use Rattle.procedure_emission.specs.emitted_texts.SecondLayer.{Emission, IsTemporary}
use Rattle.procedure_emission.specs.DummyBounds.{dummies_named, IsBoundValue, of_lower, of_size, HasConstantBounds, IsQuantityOf, written, kept, HasAdjustableBounds, HasDummyBounds, constant, adjustable, BoundsAreKnown}
use Rattle.emitted_procedures.proofs.Known.{AreBoundsKnown}

-- ## Lists

pub no_element : {A B : Type 0} (i : ℕ) (a : A) → slice_get [] i ≡ Some a → B
no_element zero a h = absurd (cc)
no_element (suc i) a h = absurd (cc)

some_there : {A : Type 0} (xs : List A) (k : ℕ) → k < length xs → (x : A) × (slice_get xs k ≡ Some x)
some_there [] k low = absurd (omega (arith, low))
some_there (x ∷ xs) zero low = (x, refl)
some_there (x ∷ xs) (suc k) low = some_there xs k (omega (arith, low))

pub placed : (one : Saving) (ones : List Saving) → IsIn one ones → (i : ℕ) × (slice_get ones i ≡ Some one)
placed one _ first_in = (0, refl)
placed one (other ∷ ones) (later_in among) = let at = placed one ones among in (suc at.0, at.1)

-- ## Dimensions

abbrev from_on : ℤ → Bounds
from_on lower = record { lower = lower; upper = None }

no_upper : {A : Type 0} (b : Bounds) (lower last : ℤ) → Gives (from_on lower) ≡ Gives b → b.upper ≡ Some last → A
no_upper b lower last h upper =
    let same : from_on lower ≡ b = (let g = h in cc) in
    let none : None ≡ Some last = ap (λ (x : Bounds). x.upper) same ∙ upper in
    absurd (cc)

-- a dimension that is fixed with an upper bound has one
closed_dimension : (c : Facts) (f : Frame) (s : Store) (d : Dimension) (b : Bounds) → dimension_by c f s d ≡ Gives b → (last : ℤ) → b.upper ≡ Some last → (t : Term) × (d.upper ≡ Some t)
unfolding dimension_by
closed_dimension c f s d b h last upper =
    let g = got (integer_of (reduce c f s [] d.lower)) (λ lower. elim d.upper [ None ↦ Gives (record { lower = lower; upper = None }) | Some t ↦ given_that (integer_of (reduce c f s [] t)) (sized lower) ]) b h in
    by g.value d.upper refl g.gives
  where
    by : (lower : ℤ) (o : Option Term) → d.upper ≡ o → (elim o [ None ↦ Gives (record { lower = lower; upper = None }) | Some t ↦ given_that (integer_of (reduce c f s [] t)) (sized lower) ]) ≡ Gives b → (t : Term) × (d.upper ≡ Some t)
    by lower None is g = no_upper b lower last g upper
    by lower (Some t) is g = (t, is)

dimension_at : (c : Facts) (f : Frame) (s : Store) (ds : List Dimension) (bs : List Bounds) → AreOfDimensions c f s ds bs → (k : ℕ) (d : Dimension) → slice_get ds k ≡ Some d → (b : Bounds) × (dimension_by c f s d ≡ Gives b)
dimension_at c f s ds bs are k d at =
    let low = slice_get_within ds k d at in
    let many = are.as_many in
    let found = some_there bs k (omega (arith, low, many)) in
    let one = are.each k found.0 found.1 in
    (found.0, subst (λ x. dimension_by c f s x ≡ Gives found.0) (some_same one.dimension d (sym one.at ∙ at)) one.fixed)

int_same : (y z : ℤ) → IsInt y ≡ IsInt z → y ≡ z
int_same y z h = cc

gives_same : (y z : ℤ) → Gives (IsInt y) ≡ Gives (IsInt z) → y ≡ z
gives_same y z h = cc

-- ## What is kept

-- how the procedure begins: its frame before bounds are fixed and after that, the store, and the bounds of its dummies
module _ (e : Emission) (formals : List Formal) (savings : List Saving) (is : BoundsAreKnown e formals savings) (first f : Frame) (store : Store) (names : List Bytes) (all : List (List Bounds))
    (bare : without_bounds first ≡ without_bounds f) (are_named : names ≡ dummies_named formals) (fixed : all_dimensions_by e.writing.facts first store names ≡ Gives all) where
  abbrev Means : Pure → ℤ → Type 0
  Means p z = meant e.writing.facts (without_bounds f) none_kept store p ≡ Gives (IsInt z)

  as_first : (p : Pure) (z : ℤ) → meant e.writing.facts (without_bounds first) none_kept store p ≡ Gives (IsInt z) → Means p z
  as_first p z h = subst (λ g. meant e.writing.facts g none_kept store p ≡ Gives (IsInt z)) bare h

  dummy_fixed : (x : Bytes) → IsIn x (dummies_named formals) → (bs : List Bounds) × (dimensions_by e.writing.facts first store (e.writing.facts.program.attribute x).dimensions ≡ Gives bs)
  dummy_fixed x among = by (bounds_for x names all) (names_are_fixed e.writing.facts first store names all fixed x)
    where
      by : (found : Option (List Bounds)) → IsFound e.writing.facts first store names x found → (bs : List Bounds) × (dimensions_by e.writing.facts first store (e.writing.facts.program.attribute x).dimensions ≡ Gives bs)
      by None out = absurd (out (subst (IsIn x) (sym are_named) among))
      by (Some bs) given = (bs, given.fixed)

  dimension_fixed : (x : Bytes) (k : ℕ) (d : Dimension) → IsIn x (dummies_named formals) → slice_get (e.writing.facts.program.attribute x).dimensions k ≡ Some d → (b : Bounds) × (dimension_by e.writing.facts first store d ≡ Gives b)
  dimension_fixed x k d among at =
      let dummy = dummy_fixed x among in
      dimension_at e.writing.facts first store (e.writing.facts.program.attribute x).dimensions dummy.0
      (dimensions_are_fixed e.writing.facts first store (e.writing.facts.program.attribute x).dimensions dummy.0 dummy.1) k d at

  -- what is kept is a number
  value_is : (p : Pure) → IsBoundValue e.writing.facts formals p → (z : ℤ) × Means p z
  value_is p (of_lower x k d among at made) =
      let one = dimension_fixed x k d among at in
      (one.0.lower, as_first p one.0.lower (lowers_are_meant e.writing.facts first none_kept store d one.0 p one.1 made))
  value_is p (of_size x k d t lower upper among at last low high same) =
      let one = dimension_fixed x k d among at in
      let size = sizes_are_meant e.writing.facts first none_kept store d one.0 t lower upper one.1 last low high in
      (pos (size_of_dimension one.0), subst (λ q. Means q (pos (size_of_dimension one.0))) same (as_first (size_pure lower upper) (pos (size_of_dimension one.0)) size.is))

  module _ (now : World) (rooms : (i : ℕ) (one : Saving) → slice_get savings i ≡ Some one → IsTemporary now one.object) where
    room_of : (i : ℕ) (one : Saving) → slice_get savings i ≡ Some one → HasRoom now e.writing one.object
    room_of i one at =
        let room = rooms i one at in
        let item = is.saved i one at in
        record { bytes = room.bytes; holds = room.holds; room = room.room; homeless = room.homeless; addresses = item.addresses; lengths = item.lengths }

    pub saved_from : (at : ℕ) (ones : List Saving) → ((i : ℕ) (one : Saving) → slice_get ones i ≡ Some one → slice_get savings (at + i) ≡ Some one) → (zs : List ℤ) × AreSaved now e.writing f store e.function.code at ones zs
    saved_from at [] there = ([], none_saved at)
    saved_from at (one ∷ later) there =
        let here : slice_get savings at ≡ Some one = ap (slice_get savings) {x = at} {y = at + 0} (omega arith) ∙ there 0 one refl in
        let item = is.saved at one here in
        let value = value_is one.value (is.values at one here) in
        let rest = saved_from (suc at) later (λ i other h. ap (slice_get savings) {x = suc at + i} {y = at + suc i} (omega arith) ∙ there (suc i) other h) in (
          value.0 ∷ rest.0,
          one_saved at one later value.0 rest.0 (room_of at one here) (record { item = item.item; emitted = item.emitted; stands = item.stands; is = value.1 }) (λ other among same.
              let place = placed other later among in
              let equal : at ≡ at + suc place.0 = is.alone at (at + suc place.0) one other here (there (suc place.0) other place.1) (sym same) in
              omega (arith, equal)) rest.1,
        )

  -- an object holds what it keeps
  pub record HoldsItsValue (ν : World) (one : Saving) : Type 0 where
    pub value : ℤ
    pub is_value : Means one.value value
    pub held : Holds (ν.frozen one.object) (IsInt value)

  pub held_at : (now ν : World) (at : ℕ) (ones : List Saving) (zs : List ℤ) → AreSaved now e.writing f store e.function.code at ones zs → AreHeld ν.frozen ones zs → (i : ℕ) (one : Saving) → slice_get ones i ≡ Some one → HoldsItsValue ν one
  held_at now ν at [] zs saved held i one h = no_element i one h
  held_at now ν at (x ∷ later) [] saved held i one h = elim held [ ]
  held_at now ν at (x ∷ later) (z ∷ zs) (one_saved _ _ _ _ _ room saved alone rest) (one_held _ _ _ _ holds more) zero one h =
      subst (HoldsItsValue ν) (some_same x one h) (record { value = z; is_value = saved.is; held = holds })
  held_at now ν at (x ∷ later) (z ∷ zs) (one_saved _ _ _ _ _ room saved alone rest) (one_held _ _ _ _ holds more) (suc i) one h = held_at now ν (suc at) later zs rest more i one h

  -- ## What is known

  module _ (ν : World) (holds : (i : ℕ) (one : Saving) → slice_get savings i ≡ Some one → HoldsItsValue ν one) where
    record IsKnownAs (q : Quantity) (y : ℤ) : Type 0 where
      quantity : IsQuantity ν q y
      fits : in_range y ≡ true

    quantity_is : (q : Quantity) (p : Pure) (y : ℤ) → IsQuantityOf savings q p → Means p y → IsKnownAs q y
    quantity_is q p y (written z as_written fits always) means =
        let same : y ≡ z = int_same y z (always e.writing.facts (without_bounds f) none_kept store (IsInt y) means) in
        record { quantity = subst (λ r. IsQuantity ν r y) (sym as_written) (sym same); fits = ap in_range same ∙ fits }
    quantity_is q p y (kept i one as_kept at value) means =
        let there = holds i one at in
        let same : there.value ≡ y = gives_same there.value y (sym there.is_value ∙ ap (meant e.writing.facts (without_bounds f) none_kept store) value ∙ means) in
        record { quantity = subst (λ r. IsQuantity ν r y) (sym as_kept) (subst (λ z. Holds (ν.frozen one.object) (IsInt z)) same there.held); fits = subst (λ z. in_range z ≡ true) same there.held.begins.0 }

    constant_known : (x : Bytes) (bs : List Bounds) → HasConstantBounds e x → bs ≡ (e.writing.facts.program.attribute x).bounds → AreBoundsKnown ν e x bs
    constant_known x bs has same = subst (AreBoundsKnown ν e x) (sym same) (record {
      fits = has.fits;
      closed = has.closed;
      lowers = λ k b at. subst (λ q. IsQuantity ν q b.lower) (sym (has.lowers k b at)) refl;
      sizes = λ k b last at upper. subst (λ q. IsQuantity ν q (pos (size_of_dimension b))) (sym (has.sizes k b last at upper)) refl;
    })

    module _ (x : Bytes) (bs : List Bounds) (has : HasAdjustableBounds e savings x) (are : AreOfDimensions e.writing.facts first store (e.writing.facts.program.attribute x).dimensions bs) where
      lower_known : (k : ℕ) (b : Bounds) → slice_get bs k ≡ Some b → IsKnownAs (e.writing.naming.lower x k) b.lower
      lower_known k b at =
          let one = are.each k b at in
          let low = has.lowers k one.dimension one.at in
          quantity_is (e.writing.naming.lower x k) low.value b.lower low.known
          (as_first low.value b.lower (lowers_are_meant e.writing.facts first none_kept store one.dimension b low.value one.fixed low.is))

      size_known : (k : ℕ) (b : Bounds) (last : ℤ) → slice_get bs k ≡ Some b → b.upper ≡ Some last → IsKnownAs (e.writing.naming.size x k) (pos (size_of_dimension b))
      size_known k b last at upper =
          let one = are.each k b at in
          let t = closed_dimension e.writing.facts first store one.dimension b one.fixed last upper in
          let size = has.sizes k one.dimension t.0 one.at t.1 in
          let meaning = sizes_are_meant e.writing.facts first none_kept store one.dimension b t.0 size.lower size.upper one.fixed t.1 size.lower_is size.upper_is in
          quantity_is (e.writing.naming.size x k) (size_pure size.lower size.upper) (pos (size_of_dimension b)) size.known (as_first (size_pure size.lower size.upper) (pos (size_of_dimension b)) meaning.is)

      closed_known : (k : ℕ) (b : Bounds) → slice_get bs k ≡ Some b → suc k < length bs → (last : ℤ) × (b.upper ≡ Some last)
      closed_known k b at more =
          let one = are.each k b at in
          let t = has.closed k one.dimension one.at (subst (λ n. suc k < n) are.as_many more) in
          let size = has.sizes k one.dimension t.0 one.at t.1 in
          let meaning = sizes_are_meant e.writing.facts first none_kept store one.dimension b t.0 size.lower size.upper one.fixed t.1 size.lower_is size.upper_is in
          (meaning.last, meaning.upper)

      adjustable_known : AreBoundsKnown ν e x bs
      adjustable_known = record {
        fits = λ k b at. record { lower = (lower_known k b at).fits; size = λ last upper. (size_known k b last at upper).fits };
        closed = closed_known;
        lowers = λ k b at. (lower_known k b at).quantity;
        sizes = λ k b last at upper. (size_known k b last at upper).quantity;
      }

    dummy_known : (x : Bytes) (bs : List Bounds) → HasDummyBounds e savings x → dimensions_by e.writing.facts first store (e.writing.facts.program.attribute x).dimensions ≡ Gives bs → AreBoundsKnown ν e x bs
    dummy_known x bs (constant always has) given = constant_known x bs has (always first store bs given)
    dummy_known x bs (adjustable has) given = adjustable_known x bs has (dimensions_are_fixed e.writing.facts first store (e.writing.facts.program.attribute x).dimensions bs given)

    pub bounds_known : ((x : Bytes) → f.dimensions x ≡ bounds_for x names all) → (x : Bytes) → AreBoundsKnown ν e x (bounds_of e.writing.facts f x)
    unfolding bounds_of either_bounds
    bounds_known dimensions x =
        subst (λ found. AreBoundsKnown ν e x (either_bounds found (e.writing.facts.program.attribute x).bounds)) (sym (dimensions x))
        (by (bounds_for x names all) (names_are_fixed e.writing.facts first store names all fixed x))
      where
        by : (found : Option (List Bounds)) → IsFound e.writing.facts first store names x found → AreBoundsKnown ν e x (either_bounds found (e.writing.facts.program.attribute x).bounds)
        by None out = constant_known x (e.writing.facts.program.attribute x).bounds (is.others x (λ among. out (subst (IsIn x) (sym are_named) among))) refl
        by (Some bs) given = dummy_known x bs (is.dummies x (subst (IsIn x) are_named given.among)) given.fixed
