-- What the function of a main program knows when it begins.
use Rattle.std.specs.Prelude.{◌≡◌, ℕ, suc, ◌<◌, ℤ, true, ◌&&◌, List, length, Option, Some, None, slice_get}
use Rattle.std.proofs.Common.{refl, sym, ap, ◌∙◌, subst}
use Rattle.output_laws.specs.f_tree.declared.names.Basic.{Basic}
use Rattle.output_laws.specs.f_tree.declared.names.Class.{Class}
use Rattle.output_laws.specs.f_tree.declared.names.Class.TheVariants as class
use Rattle.output_laws.specs.f_tree.Values.{Bytes, Spot, Datum, IsSpot, IsProc, NoMeaning, Checked, Gives, Fails}
use Rattle.output_laws.specs.f_tree.Facts.{Bounds, Attribute, Home, Facts, Frame}
use Rattle.output_laws.specs.f_tree.Valuing.{stored_at, if_bound, if_there, named_as, whole, either_bounds, bounds_of}
use Rattle.c_emit_laws.specs.l_core.Pures.{none_kept}
use Rattle.c_emit_laws.specs.l_core.Steps.{Text}
use Rattle.c_emit_laws.specs.c_image.World.{World, Extends}
use Rattle.c_emit_laws.specs.c_image.Elements.{Quantity}
use Rattle.c_emit_laws.specs.c_image.Knowing.{IsQuantity}
use Rattle.c_emit_laws.proofs.c_image_laws.Knowledge.{knows_later}
use Rattle.c_emit_laws.specs.c_emit.Numbers.{Writing, is_variable, is_numeric, has_number}
use Rattle.c_emit_laws.specs.EmittedNumbers.{IsKnown}
use Rattle.emitted_texts.specs.SecondLayer.{Surroundings, Emission}
use Rattle.emitted_texts.specs.Emitted.{IsEmittedMain}

-- a frame of a procedure without dummies and result
pub record IsBare (f : Frame) : Type 0 where
  pub bound : (x : Bytes) → f.bound x ≡ None
  pub lengths : (x : Bytes) → f.lengths x ≡ None
  pub dimensions : (x : Bytes) → f.dimensions x ≡ None
  pub result : f.result ≡ None

spot_in : Spot → Checked Datum → Spot
spot_in p (Gives (IsSpot q)) = q
spot_in p d = p

none_bound : (r : Option Datum) → r ≡ None → (d : Datum) → if_bound r ≡ Gives d → ⊥
unfolding if_bound
none_bound None none d e = absurd (cc)
none_bound (Some x) none d e = absurd (cc)

none_given : (basic : Basic) (r : Option Spot) → r ≡ None → (d : Datum) → if_there basic r ≡ Gives d → ⊥
unfolding if_there
none_given basic None none d e = absurd (cc)
none_given basic (Some p) none d e = absurd (cc)

-- what has a place there has storage of its own
stored_only : (c : Facts) (f : Frame) (x : Bytes) (a : Attribute) (p : Spot) → IsBare f → named_as c f x a ≡ Gives (IsSpot p) → a.class ≡ class.Stored
unfolding named_as
stored_only c f x a p bare e = by a.class e
  where
    by : (k : Class) → (elim k [
      | class.Stored ↦ stored_at a a.width (c.home x)
      | class.Dummy ↦ if_bound (f.bound x)
      | class.DummyProcedure ↦ if_bound (f.bound x)
      | class.Result ↦ if_there a.basic f.result
      | class.Procedure ↦ Gives (IsProc x)
      | class.Intrinsic ↦ Gives (IsProc x)
      | _ ↦ Fails NoMeaning
    ]) ≡ Gives (IsSpot p) → k ≡ class.Stored
    by class.Constant h = absurd (cc)
    by class.Stored h = refl
    by class.Dummy h = absurd (none_bound (f.bound x) (bare.bound x) (IsSpot p) h)
    by class.Result h = absurd (none_given a.basic f.result bare.result (IsSpot p) h)
    by class.Procedure h = absurd (cc)
    by class.DummyProcedure h = absurd (none_bound (f.bound x) (bare.bound x) (IsSpot p) h)
    by class.StatementFunction h = absurd (cc)
    by class.Intrinsic h = absurd (cc)
    by class.Unit h = absurd (cc)

-- a variable of numbers has a place
spot_only : (c : Facts) (f : Frame) (x : Bytes) (a : Attribute) (d : Datum) → IsBare f → is_variable a.class && is_numeric a.basic ≡ true → named_as c f x a ≡ Gives d → (p : Spot) × (d ≡ IsSpot p)
unfolding named_as is_variable stored_at
spot_only c f x a d bare numeric e = by a.class numeric e
  where
    stored : (width : Option ℕ) (home : Option Home) → stored_at a width home ≡ Gives d → (p : Spot) × (d ≡ IsSpot p)
    stored (Some width) (Some h) g = (_, sym (given g))
      where
        given : {one : Datum} → Gives one ≡ Gives d → one ≡ d
        given g = cc
    stored None h g = absurd (cc)
    stored (Some width) None g = absurd (cc)

    by : (k : Class) → is_variable k && is_numeric a.basic ≡ true → (elim k [
      | class.Stored ↦ stored_at a a.width (c.home x)
      | class.Dummy ↦ if_bound (f.bound x)
      | class.DummyProcedure ↦ if_bound (f.bound x)
      | class.Result ↦ if_there a.basic f.result
      | class.Procedure ↦ Gives (IsProc x)
      | class.Intrinsic ↦ Gives (IsProc x)
      | _ ↦ Fails NoMeaning
    ]) ≡ Gives d → (p : Spot) × (d ≡ IsSpot p)
    by class.Constant n h = absurd (cc)
    by class.Stored n h = stored a.width (c.home x) h
    by class.Dummy n h = absurd (none_bound (f.bound x) (bare.bound x) d h)
    by class.Result n h = absurd (none_given a.basic f.result bare.result d h)
    by class.Procedure n h = absurd (cc)
    by class.DummyProcedure n h = absurd (cc)
    by class.StatementFunction n h = absurd (cc)
    by class.Intrinsic n h = absurd (cc)
    by class.Unit n h = absurd (cc)

-- and it is of the type of its name
basic_by : (a : Attribute) (width : Option ℕ) (home : Option Home) (p : Spot) → stored_at a width home ≡ Gives (IsSpot p) → p.basic ≡ a.basic
unfolding stored_at spot_in
basic_by a (Some width) (Some h) p e = sym (ap (λ r. (spot_in p r).basic) e)
basic_by a None h p e = absurd (cc)
basic_by a (Some width) None p e = absurd (cc)

named_stored : (c : Facts) (f : Frame) (x : Bytes) (a : Attribute) → a.class ≡ class.Stored → named_as c f x a ≡ stored_at a a.width (c.home x)
unfolding named_as
named_stored c f x a is = ap (λ k. elim k [
  | class.Stored ↦ stored_at a a.width (c.home x)
  | class.Dummy ↦ if_bound (f.bound x)
  | class.DummyProcedure ↦ if_bound (f.bound x)
  | class.Result ↦ if_there a.basic f.result
  | class.Procedure ↦ Gives (IsProc x)
  | class.Intrinsic ↦ Gives (IsProc x)
  | _ ↦ Fails NoMeaning
]) is

module _ (s : Surroundings) (number : ℕ) (u : Text) (costs : List ℕ) (e : Emission) (is : IsEmittedMain s number u costs e) (f : Frame) (bare : IsBare f) where
  stored : (x : Bytes) (p : Spot) → whole e.writing.facts f x ≡ Gives (IsSpot p) → (e.writing.facts.program.attribute x).class ≡ class.Stored
  unfolding whole
  stored x p h = stored_only e.writing.facts f x (e.writing.facts.program.attribute x) p bare h

  -- no bounds are fixed at the call
  own_bounds : (x : Bytes) → bounds_of e.writing.facts f x ≡ (e.writing.facts.program.attribute x).bounds
  unfolding bounds_of either_bounds
  own_bounds x = ap (λ d. either_bounds d (e.writing.facts.program.attribute x).bounds) (bare.dimensions x)

  bound_at : (x : Bytes) (k : ℕ) (b : Bounds) → slice_get (bounds_of e.writing.facts f x) k ≡ Some b → slice_get (e.writing.facts.program.attribute x).bounds k ≡ Some b
  bound_at x k b at = ap (λ bs. slice_get bs k) (sym (own_bounds x)) ∙ at

  absurd_some : {A : Type 0} {B : Type 0} (r : Option A) (a : A) → r ≡ None → r ≡ Some a → B
  absurd_some r a none some = absurd (cc)

  written : (q : Quantity) (z : ℤ) (one : Quantity) → q ≡ one → IsQuantity s.first one z → IsQuantity s.first q z
  written q z one same holds = subst (λ x. IsQuantity s.first x z) (sym same) holds

  pub known_first : IsKnown s.first e.writing f none_kept
  unfolding has_number whole
  known_first = record {
    knows = record {
      sound = λ x p h. is.sound f x p (stored x p h) h;
      reaches = λ x p h. is.reached f x p (stored x p h) h;
      lengths = λ x n has h. absurd_some (f.lengths x) n (bare.lengths x) h;
      lowers = λ x k b h. written (e.writing.naming.lower x k) b.lower _ (is.lowers x k b (bound_at x k b h)) refl;
      sizes = λ x k b last h upper. written (e.writing.naming.size x k) _ _ (is.sizes x k b last (bound_at x k b h) upper) refl;
      kept = λ k d h. absurd_some None d refl h;
    };
    spots = λ x d numeric h. spot_only e.writing.facts f x (e.writing.facts.program.attribute x) d bare numeric h;
    types = λ x p h. basic_by (e.writing.facts.program.attribute x) (e.writing.facts.program.attribute x).width (e.writing.facts.home x) p
        (sym (named_stored e.writing.facts f x (e.writing.facts.program.attribute x) (stored x p h)) ∙ h);
    numbers = λ k d h numeric. absurd_some None d refl h;
    bounds = λ x k b h. is.fits x k b (bound_at x k b h);
    closed = λ x k b h more. is.closed x k b (bound_at x k b h) (subst (λ bs. suc k < length bs) (own_bounds x) more);
  }

pub known_later : (μ ν : World) (w : Writing) (f : Frame) (kept : ℕ → Option Datum) → Extends μ ν → IsKnown μ w f kept → IsKnown ν w f kept
known_later μ ν w f kept grown known = record {
  knows = knows_later μ ν w.naming w.facts f kept grown known.knows;
  spots = known.spots;
  types = known.types;
  numbers = known.numbers;
  bounds = known.bounds;
  closed = known.closed;
}
