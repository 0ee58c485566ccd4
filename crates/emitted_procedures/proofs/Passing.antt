-- What a call passes: values become sequences that stand in the objects that hold them, places and procedures are passed as they are.
use Rattle.std.specs.Prelude.{◌≡◌, ℕ, suc, ◌<◌, nat_eq, ℤ, true, false, Bool, List, [], ◌∷◌, ◌++◌, map, length, Some}
use Rattle.std.proofs.Common.{refl, sym, ◌∙◌, subst, arith}
use Rattle.std.proofs.lemmas.List.{length-append}
use Rattle.procedure_emission.specs.f_tree.declared.names.Basic.{Basic}
use Rattle.procedure_emission.specs.f_tree.declared.names.Basic.TheVariants.{Integer, Logical, Character, Untyped}
use Rattle.procedure_emission.specs.f_tree.Values.{Bytes, Spot, Datum, IsInt, IsLog, IsSpot, IsProc, IsLabel, Nothing}
use Rattle.procedure_emission.specs.f_tree.Store.{Store, Sequence, Number, Truth, with_whole}
use Rattle.procedure_emission.specs.f_tree.World.{Procedure}
use Rattle.procedure_emission.specs.f_tree.Association.{sequence_of, basic_of, passing_one, passing_more, passing, made}
use Rattle.procedure_emission.specs.c_tree.declared.outcome.CValue.{CValue}
use Rattle.procedure_emission.specs.c_tree.declared.outcome.CValue.TheVariants.{Pointer, Function}
use Rattle.procedure_emission.specs.c_tree.Access.{ToNumber}
use Rattle.procedure_emission.specs.c_image.World.{World, with_sequence, Extends}
use Rattle.procedure_emission.specs.c_image.Held.{Holds}
use Rattle.procedure_emission.specs.c_image.Addresses.{access_to, IsSound}
use Rattle.procedure_emission.specs.c_image.Passing.{Argument, with_arguments, AreHeld, none_held, value_held, no_value}
use Rattle.procedure_emission.specs.c_image_laws.DerivedPlaces.{HasCharacter, value_place}
use Rattle.procedure_emission.specs.c_image_laws.Statements.{IsOutside}
use Rattle.procedure_emission.proofs.c_image_laws.Growing.{extends_grown}
use Rattle.procedure_emission.proofs.c_image_laws.CallsStand.{extends_passed}
use Rattle.procedure_emission.proofs.c_image_laws.IdleFrames.{idle_beside_sequence}
use Rattle.procedure_emission.proofs.c_image_laws.Knowledge.{holds_later}
use Rattle.procedure_emission.proofs.c_image_laws.Parameters.{value_at, value_sound}
use Rattle.procedure_emission.proofs.c_image_laws.SoundPlaces.{sound_later}
use Rattle.procedure_emission.specs.emitted_texts.SecondLayer.{Surroundings, IsFree, length_of_text, lengths_of}
use Rattle.procedure_emission.specs.CallLayer.{ArePassed, none_passed, place_passed, procedure_passed, nothing_passed, label_passed}

-- an object that is of no frame of another function
abbrev pub IsFar : Surroundings → ℕ → ℕ → Type 0
IsFar s number object = (j : ℕ) → nat_eq j number ≡ false → IsOutside (s.rooms j).first (s.rooms j).count object

-- an actual argument and what is passed for it
pub data IsGiven (s : Surroundings) (number : ℕ) (ν : World) : Argument → CValue → Type 0 where
  integer_given : (z : ℤ) (object : ℕ) → Holds (ν.frozen object) (IsInt z) → IsFar s number object → IsGiven s number ν (record { datum = IsInt z; object = object }) (Pointer object 0)
  truth_given : (b : Bool) (object : ℕ) → Holds (ν.frozen object) (IsLog b) → IsFar s number object → IsGiven s number ν (record { datum = IsLog b; object = object }) (Pointer object 0)
  place_given : (p : Spot) (object : ℕ) → IsSound ν p → access_to p.basic ≡ ToNumber → ν.homes p.sequence ≡ Some object → IsGiven s number ν (record { datum = IsSpot p; object = object }) (Pointer object p.first)
  nothing_given : (object : ℕ) → IsGiven s number ν (record { datum = Nothing; object = object }) (Pointer object 0)
  procedure_given : (x : Bytes) (function : ℕ) → s.numbers (Procedure x) ≡ Some function → IsGiven s number ν (record { datum = IsProc x; object = 0 }) (Function function)

-- all of them; a label is passed as nothing
pub data AreGiven (s : Surroundings) (number : ℕ) (ν : World) : List Argument → List CValue → Type 0 where
  none_given : AreGiven s number ν [] []
  one_given : (argument : Argument) (value : CValue) (later : List Argument) (values : List CValue) → IsGiven s number ν argument value → AreGiven s number ν later values → AreGiven s number ν (argument ∷ later) (value ∷ values)
  label_given : (label : ℕ) (later : List Argument) (values : List CValue) → AreGiven s number ν later values → AreGiven s number ν (record { datum = IsLabel label; object = 0 } ∷ later) values

-- the arguments as they are valued
abbrev pub data_of : List Argument → List Datum
data_of arguments = map (λ argument. argument.datum) arguments

no_text : (basic : Basic) (width : ℕ) → access_to basic ≡ ToNumber → length_of_text basic width ≡ []
no_text Integer width h = refl
no_text Logical width h = refl
no_text Character width h = absurd (cc)
no_text Untyped width h = refl

module _ (s : Surroundings) (number : ℕ) where
  -- ## The world grows

  given_later : (ν ξ : World) (argument : Argument) (value : CValue) → Extends ν ξ → IsGiven s number ν argument value → IsGiven s number ξ argument value
  given_later ν ξ _ _ grown (integer_given z object holds far) = integer_given z object (holds_later ν.frozen ξ.frozen object (IsInt z) grown.frozen holds) far
  given_later ν ξ _ _ grown (truth_given b object holds far) = truth_given b object (holds_later ν.frozen ξ.frozen object (IsLog b) grown.frozen holds) far
  given_later ν ξ _ _ grown (place_given p object sound numeric home) = place_given p object (sound_later ν ξ p grown sound) numeric (grown.homes p.sequence sound.there ∙ home)
  given_later ν ξ _ _ grown (nothing_given object) = nothing_given object
  given_later ν ξ _ _ grown (procedure_given x function is) = procedure_given x function is

  all_given_later : (ν ξ : World) (arguments : List Argument) (values : List CValue) → Extends ν ξ → AreGiven s number ν arguments values → AreGiven s number ξ arguments values
  all_given_later ν ξ _ _ grown none_given = none_given
  all_given_later ν ξ _ _ grown (one_given argument value later values one more) =
      one_given argument value later values (given_later ν ξ argument value grown one) (all_given_later ν ξ later values grown more)
  all_given_later ν ξ _ _ grown (label_given label later values more) = label_given label later values (all_given_later ν ξ later values grown more)

  pub all_held : (ν : World) (arguments : List Argument) (values : List CValue) → AreGiven s number ν arguments values → AreHeld ν.frozen arguments
  unfolding sequence_of
  all_held ν _ _ none_given = none_held
  all_held ν _ _ (one_given _ _ later values (integer_given z object holds far) more) = value_held (record { datum = IsInt z; object = object }) later holds (all_held ν later values more)
  all_held ν _ _ (one_given _ _ later values (truth_given b object holds far) more) = value_held (record { datum = IsLog b; object = object }) later holds (all_held ν later values more)
  all_held ν _ _ (one_given _ _ later values (place_given p object sound numeric home) more) = no_value (record { datum = IsSpot p; object = object }) later refl (all_held ν later values more)
  all_held ν _ _ (one_given _ _ later values (nothing_given object) more) = no_value (record { datum = Nothing; object = object }) later refl (all_held ν later values more)
  all_held ν _ _ (one_given _ _ later values (procedure_given x function is) more) = no_value (record { datum = IsProc x; object = 0 }) later refl (all_held ν later values more)
  all_held ν _ _ (label_given label later values more) = no_value (record { datum = IsLabel label; object = 0 }) later refl (all_held ν later values more)

  -- ## What is passed

  -- a value stands in the object that holds it
  value_passed : (ν : World) (d : Datum) (q : Sequence) (object : ℕ) (later : List Argument) (rest : List Datum) (values : List CValue) (n : ℕ) → sequence_of d ≡ Some q → HasCharacter d → n ≡ ν.height
      → ArePassed s (with_arguments (with_sequence ν (Some object) q) later) rest values
      → ArePassed s (with_arguments (with_sequence ν (Some object) q) later) (IsSpot (record { basic = basic_of d; sequence = n; first = 0; extent = length q.cells; width = length q.cells }) ∷ rest) (Pointer object 0 ∷ values)
  value_passed ν d q object later rest values n is has high more =
      let one = with_sequence ν (Some object) q in
      let grown : Extends one (with_arguments one later) = extends_passed one later in
      let low : ν.height < suc ν.height = omega arith in
      subst
      (λ k. ArePassed s (with_arguments one later) (IsSpot (record { basic = basic_of d; sequence = k; first = 0; extent = length q.cells; width = length q.cells }) ∷ rest) (Pointer object 0 ∷ values)) (sym high)
      (place_passed (value_place ν d q) object rest values (sound_later one (with_arguments one later) (value_place ν d q) grown (value_sound ν d q object is has))
      (grown.homes ν.height low ∙ value_at ν d q object) more)

  one_longer : (ν : World) (store : Store) (q : Sequence) → length store ≡ ν.height → length (store ++ q ∷ []) ≡ suc ν.height
  one_longer ν store q high = let both = length-append store (q ∷ []) in omega (arith, both, high)

  pub all_passed : (ν : World) (store : Store) (arguments : List Argument) (values : List CValue) → length store ≡ ν.height → AreGiven s number ν arguments values
      → ArePassed s (with_arguments ν arguments) (passing store (data_of arguments)).actuals values
  unfolding sequence_of basic_of passing_one passing_more passing made
  all_passed ν store _ _ high none_given = none_passed
  all_passed ν store (argument ∷ later) (value ∷ values) high (one_given _ _ _ _ (integer_given z object holds far) more) =
      let q : Sequence = record { cells = with_whole (Number z) 0 []; read_only = true } in
      value_passed ν (IsInt z) q object later (passing (store ++ q ∷ []) (data_of later)).actuals values (length store) refl tt high
      (all_passed (with_sequence ν (Some object) q) (store ++ q ∷ []) later values (one_longer ν store q high) (all_given_later ν (with_sequence ν (Some object) q) later values (extends_grown ν (Some object) q) more))
  all_passed ν store (argument ∷ later) (value ∷ values) high (one_given _ _ _ _ (truth_given b object holds far) more) =
      let q : Sequence = record { cells = with_whole (Truth b) 0 []; read_only = true } in
      value_passed ν (IsLog b) q object later (passing (store ++ q ∷ []) (data_of later)).actuals values (length store) refl tt high
      (all_passed (with_sequence ν (Some object) q) (store ++ q ∷ []) later values (one_longer ν store q high) (all_given_later ν (with_sequence ν (Some object) q) later values (extends_grown ν (Some object) q) more))
  all_passed ν store (argument ∷ later) (value ∷ values) high (one_given _ _ _ _ (place_given p object sound numeric home) more) =
      let grown = extends_passed ν later in
      place_passed p object (passing store (data_of later)).actuals values (sound_later ν (with_arguments ν later) p grown sound) (grown.homes p.sequence sound.there ∙ home) (all_passed ν store later values high more)
  all_passed ν store (argument ∷ later) (value ∷ values) high (one_given _ _ _ _ (nothing_given object) more) =
      nothing_passed (Pointer object 0) (passing store (data_of later)).actuals values (all_passed ν store later values high more)
  all_passed ν store (argument ∷ later) (value ∷ values) high (one_given _ _ _ _ (procedure_given x function is) more) =
      procedure_passed x function (passing store (data_of later)).actuals values is (all_passed ν store later values high more)
  all_passed ν store (argument ∷ later) values high (label_given label _ _ more) = label_passed label (passing store (data_of later)).actuals values (all_passed ν store later values high more)

  -- numbers have no lengths
  pub no_lengths : (ν : World) (store : Store) (arguments : List Argument) (values : List CValue) → AreGiven s number ν arguments values → lengths_of (passing store (data_of arguments)).actuals ≡ []
  unfolding sequence_of basic_of passing_one passing_more passing made
  no_lengths ν store _ _ none_given = refl
  no_lengths ν store (argument ∷ later) (value ∷ values) (one_given _ _ _ _ (integer_given z object holds far) more) = no_lengths ν (store ++ record { cells = with_whole (Number z) 0 []; read_only = true } ∷ []) later values more
  no_lengths ν store (argument ∷ later) (value ∷ values) (one_given _ _ _ _ (truth_given b object holds far) more) = no_lengths ν (store ++ record { cells = with_whole (Truth b) 0 []; read_only = true } ∷ []) later values more
  no_lengths ν store (argument ∷ later) (value ∷ values) (one_given _ _ _ _ (place_given p object sound numeric home) more) = (λ i. no_text p.basic p.width numeric i ++ no_lengths ν store later values more i)
  no_lengths ν store (argument ∷ later) (value ∷ values) (one_given _ _ _ _ (nothing_given object) more) = no_lengths ν store later values more
  no_lengths ν store (argument ∷ later) (value ∷ values) (one_given _ _ _ _ (procedure_given x function is) more) = no_lengths ν store later values more
  no_lengths ν store (argument ∷ later) values (label_given label _ _ more) = no_lengths ν store later values more

  -- the frames of others stay nobody's
  pub others_free : (ν : World) (arguments : List Argument) (values : List CValue) (j : ℕ) → nat_eq j number ≡ false → AreGiven s number ν arguments values → IsFree (s.rooms j) ν → IsFree (s.rooms j) (with_arguments ν arguments)
  unfolding sequence_of
  others_free ν _ _ j apart none_given free = free
  others_free ν (argument ∷ later) (value ∷ values) j apart (one_given _ _ _ _ (integer_given z object holds far) more) free =
      let q : Sequence = record { cells = with_whole (Number z) 0 []; read_only = true } in
      others_free (with_sequence ν (Some object) q) later values j apart (all_given_later ν (with_sequence ν (Some object) q) later values (extends_grown ν (Some object) q) more)
      (idle_beside_sequence ν (s.rooms j).first (s.rooms j).count object q free (far j apart))
  others_free ν (argument ∷ later) (value ∷ values) j apart (one_given _ _ _ _ (truth_given b object holds far) more) free =
      let q : Sequence = record { cells = with_whole (Truth b) 0 []; read_only = true } in
      others_free (with_sequence ν (Some object) q) later values j apart (all_given_later ν (with_sequence ν (Some object) q) later values (extends_grown ν (Some object) q) more)
      (idle_beside_sequence ν (s.rooms j).first (s.rooms j).count object q free (far j apart))
  others_free ν (argument ∷ later) (value ∷ values) j apart (one_given _ _ _ _ (place_given p object sound numeric home) more) free = others_free ν later values j apart more free
  others_free ν (argument ∷ later) (value ∷ values) j apart (one_given _ _ _ _ (nothing_given object) more) free = others_free ν later values j apart more free
  others_free ν (argument ∷ later) (value ∷ values) j apart (one_given _ _ _ _ (procedure_given x function is) more) free = others_free ν later values j apart more free
  others_free ν (argument ∷ later) values j apart (label_given label _ _ more) free = others_free ν later values j apart more free
