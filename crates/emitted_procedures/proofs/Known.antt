-- What the function of a procedure knows of its names, given what its dummies and its result are.
use Rattle.std.specs.Prelude.{◌≡◌, ◌≢◌, ℕ, suc, ◌<◌, ℤ, pos, true, ◌&&◌, List, [], length, Option, Some, None, slice_get}
use Rattle.std.proofs.Common.{refl, sym, ap, ◌∙◌, subst, arith}
use Rattle.std.proofs.lemmas.Option.{slice_get_within}
use Rattle.procedure_emission.specs.f_tree.declared.names.Basic.{Basic}
use Rattle.procedure_emission.specs.f_tree.declared.names.Basic.TheVariants.{Character}
use Rattle.procedure_emission.specs.f_tree.declared.names.Class.{Class}
use Rattle.procedure_emission.specs.f_tree.declared.names.Class.TheVariants as class
use Rattle.procedure_emission.specs.f_tree.Values.{Bytes, Spot, Datum, IsSpot, IsProc, NoMeaning, Checked, Gives, Fails}
use Rattle.procedure_emission.specs.f_tree.Facts.{Bounds, Attribute, Home, Facts, Frame}
use Rattle.procedure_emission.specs.f_tree.Valuing.{stored_at, if_bound, if_there, named_as, whole, bounds_of, size_of_dimension}
use Rattle.procedure_emission.specs.l_core.Pures.{none_kept}
use Rattle.procedure_emission.specs.l_core.Steps.{Text}
use Rattle.procedure_emission.specs.faithful.FrameImage.{HasLength}
use Rattle.procedure_emission.specs.c_image.World.{World, Extends}
use Rattle.procedure_emission.specs.c_image.Addresses.{Reaches, IsSound}
use Rattle.procedure_emission.specs.c_image.Knowing.{IsQuantity}
use Rattle.procedure_emission.proofs.c_image_laws.Knowledge.{reaches_later}
use Rattle.procedure_emission.proofs.c_image_laws.SoundPlaces.{sound_later}
use Rattle.procedure_emission.specs.c_emit.Numbers.{is_variable, is_numeric, has_number}
use Rattle.procedure_emission.specs.c_emit_laws.EmittedNumbers.{BoundFits, IsKnown}
use Rattle.procedure_emission.specs.emitted_texts.SecondLayer.{Surroundings, Emission}
use Rattle.procedure_emission.specs.kept_bounds.KeptBounds.{without_bounds}
use Rattle.procedure_emission.specs.EmittedUnits.{IsEmittedUnit}

-- ## What a name stands for

spot_in : Spot → Checked Datum → Spot
spot_in p (Gives (IsSpot q)) = q
spot_in p d = p

gives_spot : (q p : Spot) → Gives (IsSpot q) ≡ Gives (IsSpot p) → q ≡ p
unfolding spot_in
gives_spot q p h = ap (spot_in q) h

data Stands (c : Facts) (f : Frame) (x : Bytes) (a : Attribute) (p : Spot) : Type 0 where
  is_stored : a.class ≡ class.Stored → stored_at a a.width (c.home x) ≡ Gives (IsSpot p) → Stands c f x a p
  is_bound : f.bound x ≡ Some (IsSpot p) → Stands c f x a p
  is_result : (q : Spot) → a.class ≡ class.Result → f.result ≡ Some q → record q { basic = a.basic } ≡ p → Stands c f x a p

bound_is : (r : Option Datum) (d : Datum) → if_bound r ≡ Gives d → r ≡ Some d
unfolding if_bound
bound_is (Some e) d h = let same : e ≡ d = (let g = h in cc) in ap Some same
bound_is None d h = absurd (cc)

record IsThere (basic : Basic) (r : Option Spot) (d : Datum) : Type 0 where
  spot : Spot
  is : r ≡ Some spot
  same : IsSpot (record spot { basic = basic }) ≡ d

there_is : (basic : Basic) (r : Option Spot) (d : Datum) → if_there basic r ≡ Gives d → IsThere basic r d
unfolding if_there
there_is basic (Some q) d h = record { spot = q; is = refl; same = (let g = h in cc) }
there_is basic None d h = absurd (cc)

spots_same : (q p : Spot) → IsSpot q ≡ IsSpot p → q ≡ p
spots_same q p h = gives_spot q p (ap Gives h)

stands_by : (c : Facts) (f : Frame) (x : Bytes) (a : Attribute) (p : Spot) → named_as c f x a ≡ Gives (IsSpot p) → Stands c f x a p
unfolding named_as
stands_by c f x a p e = by a.class refl e
  where
    by : (k : Class) → a.class ≡ k → (elim k [
      | class.Stored ↦ stored_at a a.width (c.home x)
      | class.Dummy ↦ if_bound (f.bound x)
      | class.DummyProcedure ↦ if_bound (f.bound x)
      | class.Result ↦ if_there a.basic f.result
      | class.Procedure ↦ Gives (IsProc x)
      | class.Intrinsic ↦ Gives (IsProc x)
      | _ ↦ Fails NoMeaning
    ]) ≡ Gives (IsSpot p) → Stands c f x a p
    by class.Constant is h = absurd (cc)
    by class.Stored is h = is_stored is h
    by class.Dummy is h = is_bound (bound_is (f.bound x) (IsSpot p) h)
    by class.Result is h = let there = there_is a.basic f.result (IsSpot p) h in is_result there.spot is there.is (spots_same (record there.spot { basic = a.basic }) p there.same)
    by class.Procedure is h = absurd (cc)
    by class.DummyProcedure is h = is_bound (bound_is (f.bound x) (IsSpot p) h)
    by class.StatementFunction is h = absurd (cc)
    by class.Intrinsic is h = absurd (cc)
    by class.Unit is h = absurd (cc)

-- a variable of numbers has a place
spot_only : (c : Facts) (f : Frame) (x : Bytes) (a : Attribute) (d : Datum) → (a.class ≡ class.Dummy → (e : Datum) → f.bound x ≡ Some e → (p : Spot) × (e ≡ IsSpot p)) → is_variable a.class && is_numeric a.basic ≡ true → named_as c f x a ≡ Gives d → (p : Spot) × (d ≡ IsSpot p)
unfolding named_as is_variable stored_at
spot_only c f x a d bound numeric e = by a.class refl numeric e
  where
    stored : (width : Option ℕ) (home : Option Home) → stored_at a width home ≡ Gives d → (p : Spot) × (d ≡ IsSpot p)
    stored (Some width) (Some h) g = (_, sym (given g))
      where
        given : {one : Datum} → Gives one ≡ Gives d → one ≡ d
        given g = cc
    stored None h g = absurd (cc)
    stored (Some width) None g = absurd (cc)

    by : (k : Class) → a.class ≡ k → is_variable k && is_numeric a.basic ≡ true → (elim k [
      | class.Stored ↦ stored_at a a.width (c.home x)
      | class.Dummy ↦ if_bound (f.bound x)
      | class.DummyProcedure ↦ if_bound (f.bound x)
      | class.Result ↦ if_there a.basic f.result
      | class.Procedure ↦ Gives (IsProc x)
      | class.Intrinsic ↦ Gives (IsProc x)
      | _ ↦ Fails NoMeaning
    ]) ≡ Gives d → (p : Spot) × (d ≡ IsSpot p)
    by class.Constant is n h = absurd (cc)
    by class.Stored is n h = stored a.width (c.home x) h
    by class.Dummy is n h = bound is d (bound_is (f.bound x) d h)
    by class.Result is n h = let there = there_is a.basic f.result d h in (record there.spot { basic = a.basic }, sym there.same)
    by class.Procedure is n h = absurd (cc)
    by class.DummyProcedure is n h = absurd (cc)
    by class.StatementFunction is n h = absurd (cc)
    by class.Intrinsic is n h = absurd (cc)
    by class.Unit is n h = absurd (cc)

-- what has storage is of the type of its name
basic_by : (a : Attribute) (width : Option ℕ) (home : Option Home) (p : Spot) → stored_at a width home ≡ Gives (IsSpot p) → p.basic ≡ a.basic
unfolding stored_at spot_in
basic_by a (Some width) (Some h) p e = sym (ap (λ r. (spot_in p r).basic) e)
basic_by a None h p e = absurd (cc)
basic_by a (Some width) None p e = absurd (cc)

none_there : {A : Type 0} (bs : List Bounds) (k : ℕ) (b : Bounds) → bs ≡ [] → slice_get bs k ≡ Some b → A
none_there bs k b none h =
    let low = slice_get_within bs k b h in
    let size = ap length none in
    absurd (omega (arith, low, size))

-- ## The frame of a procedure

pub record DummyStands (ν : World) (e : Emission) (x : Bytes) (d : Datum) : Type 0 where
  pub spot : Spot
  pub is : d ≡ IsSpot spot
  pub sound : IsSound ν spot
  pub reaches : Reaches ν spot (e.writing.naming.address x)
  pub basic : spot.basic ≡ (e.writing.facts.program.attribute x).basic

-- a dummy is a place, or a procedure
pub data IsDummy (ν : World) (e : Emission) (x : Bytes) (d : Datum) : Type 0 where
  a_place : DummyStands ν e x d → IsDummy ν e x d
  a_procedure : (name : Bytes) → d ≡ IsProc name → (e.writing.facts.program.attribute x).class ≡ class.DummyProcedure → IsDummy ν e x d

pub record ResultStands (ν : World) (e : Emission) (x : Bytes) (p : Spot) : Type 0 where
  pub sound : IsSound ν p
  pub reaches : Reaches ν p (e.writing.naming.address x)

-- what its dummies and its result are
pub record FrameStands (ν : World) (e : Emission) (f : Frame) : Type 0 where
  pub dummies : (x : Bytes) (d : Datum) → f.bound x ≡ Some d → IsDummy ν e x d
  pub result : (x : Bytes) (q : Spot) → (e.writing.facts.program.attribute x).class ≡ class.Result → f.result ≡ Some q → ResultStands ν e x (record q { basic = (e.writing.facts.program.attribute x).basic })
  pub lengths : (x : Bytes) (n : ℕ) → f.lengths x ≡ Some n → (e.writing.facts.program.attribute x).class ≡ class.Dummy → (e.writing.facts.program.attribute x).basic ≢ Character

module _ (s : Surroundings) (number : ℕ) (u : Text) (costs : List ℕ) (e : Emission) (is : IsEmittedUnit s number u costs e) (ν : World) (f : Frame) (grown : Extends s.first ν) (stands : FrameStands ν e f)
    (bare : (x : Bytes) → bounds_of e.writing.facts f x ≡ []) where
  no_bound : {A : Type 0} (x : Bytes) (k : ℕ) (b : Bounds) → slice_get (bounds_of e.writing.facts f x) k ≡ Some b → A
  no_bound x k b at = none_there (bounds_of e.writing.facts f x) k b (bare x) at

  bound_spot : (x : Bytes) (p : Spot) → f.bound x ≡ Some (IsSpot p) → (q : Spot) × (q ≡ p) × IsSound ν q × Reaches ν q (e.writing.naming.address x) × (q.basic ≡ (e.writing.facts.program.attribute x).basic)
  bound_spot x p h = by (stands.dummies x (IsSpot p) h)
    where
      by : IsDummy ν e x (IsSpot p) → (q : Spot) × (q ≡ p) × IsSound ν q × Reaches ν q (e.writing.naming.address x) × (q.basic ≡ (e.writing.facts.program.attribute x).basic)
      by (a_place dummy) = (dummy.spot, sym (spots_same p dummy.spot dummy.is), dummy.sound, dummy.reaches, dummy.basic)
      by (a_procedure name same own) = absurd (cc)

  -- a dummy variable is a place
  variable_spot : (x : Bytes) (d : Datum) → (e.writing.facts.program.attribute x).class ≡ class.Dummy → IsDummy ν e x d → (p : Spot) × (d ≡ IsSpot p)
  variable_spot x d own (a_place dummy) = (dummy.spot, dummy.is)
  variable_spot x d own (a_procedure name same other) = let wrong : class.DummyProcedure ≡ class.Dummy = sym other ∙ own in absurd (cc)

  stored_whole : (x : Bytes) (p : Spot) → (e.writing.facts.program.attribute x).class ≡ class.Stored → whole e.writing.facts f x ≡ Gives (IsSpot p) → IsSound ν p × Reaches ν p (e.writing.naming.address x)
  stored_whole x p own h =
      let sound = is.sound f x p own h in
      (sound_later s.first ν p grown sound, reaches_later s.first ν p (e.writing.naming.address x) grown sound.there (is.reached f x p own h))

  sound_of : (x : Bytes) (p : Spot) → whole e.writing.facts f x ≡ Gives (IsSpot p) → Stands e.writing.facts f x (e.writing.facts.program.attribute x) p → IsSound ν p × Reaches ν p (e.writing.naming.address x)
  sound_of x p h (is_stored own stored) = stored_whole x p own h
  sound_of x p h (is_bound bound) =
      let dummy = bound_spot x p bound in (subst (IsSound ν) dummy.1 dummy.2, subst (λ q. Reaches ν q (e.writing.naming.address x)) dummy.1 dummy.3)
  sound_of x p h (is_result q own given same) =
      let there = stands.result x q own given in (subst (IsSound ν) same there.sound, subst (λ r. Reaches ν r (e.writing.naming.address x)) same there.reaches)

  basic_of : (x : Bytes) (p : Spot) → Stands e.writing.facts f x (e.writing.facts.program.attribute x) p → p.basic ≡ (e.writing.facts.program.attribute x).basic
  basic_of x p (is_stored own stored) = basic_by (e.writing.facts.program.attribute x) (e.writing.facts.program.attribute x).width (e.writing.facts.home x) p stored
  basic_of x p (is_bound bound) = let dummy = bound_spot x p bound in ap (λ (q : Spot). q.basic) (sym dummy.1) ∙ dummy.4
  basic_of x p (is_result q own given same) = ap (λ (r : Spot). r.basic) (sym same)

  no_text : {A : Type 0} (x : Bytes) (n : ℕ) → HasLength (e.writing.facts.program.attribute x) → f.lengths x ≡ Some n → A
  unfolding HasLength
  no_text x n has h = absurd (stands.lengths x n h has.0 has.1)

  nothing_kept : {A : Type 0} (k : ℕ) (d : Datum) → none_kept k ≡ Some d → A
  nothing_kept k d h = absurd (cc)

  -- where no array has bounds yet, it knows its names, and has kept nothing
  pub known_at_first : IsKnown ν e.writing f none_kept
  unfolding has_number whole
  known_at_first = record {
    knows = record {
      sound = λ x p h. (sound_of x p h (stands_by e.writing.facts f x (e.writing.facts.program.attribute x) p h)).0;
      reaches = λ x p h. (sound_of x p h (stands_by e.writing.facts f x (e.writing.facts.program.attribute x) p h)).1;
      lengths = λ x n has h. no_text x n has h;
      lowers = λ x k b h. no_bound x k b h;
      sizes = λ x k b last h upper. no_bound x k b h;
      kept = λ k d h. nothing_kept k d h;
    };
    spots = λ x d numeric h. spot_only e.writing.facts f x (e.writing.facts.program.attribute x) d (λ own one bound. variable_spot x one own (stands.dummies x one bound)) numeric h;
    types = λ x p h. basic_of x p (stands_by e.writing.facts f x (e.writing.facts.program.attribute x) p h);
    numbers = λ k d h numeric. nothing_kept k d h;
    bounds = λ x k b h. no_bound x k b h;
    closed = λ x k b h more. no_bound x k b h;
  }

-- ## Its bounds

-- how the bounds of a name are known
pub record AreBoundsKnown (ν : World) (e : Emission) (x : Bytes) (bs : List Bounds) : Type 0 where
  pub fits : (k : ℕ) (b : Bounds) → slice_get bs k ≡ Some b → BoundFits b
  pub closed : (k : ℕ) (b : Bounds) → slice_get bs k ≡ Some b → suc k < length bs → (last : ℤ) × (b.upper ≡ Some last)
  pub lowers : (k : ℕ) (b : Bounds) → slice_get bs k ≡ Some b → IsQuantity ν (e.writing.naming.lower x k) b.lower
  pub sizes : (k : ℕ) (b : Bounds) (last : ℤ) → slice_get bs k ≡ Some b → b.upper ≡ Some last → IsQuantity ν (e.writing.naming.size x k) (pos (size_of_dimension b))

-- with these it knows its names in the frame of the procedure
pub known_with : (ν : World) (e : Emission) (f : Frame) → IsKnown ν e.writing (without_bounds f) none_kept → ((x : Bytes) → AreBoundsKnown ν e x (bounds_of e.writing.facts f x)) → IsKnown ν e.writing f none_kept
unfolding whole named_as
known_with ν e f known all = record {
  knows = record {
    sound = known.knows.sound;
    reaches = known.knows.reaches;
    lengths = known.knows.lengths;
    lowers = λ x k b at. (all x).lowers k b at;
    sizes = λ x k b last at upper. (all x).sizes k b last at upper;
    kept = known.knows.kept;
  };
  spots = known.spots;
  types = known.types;
  numbers = known.numbers;
  bounds = λ x k b at. (all x).fits k b at;
  closed = λ x k b at more. (all x).closed k b at more;
}
