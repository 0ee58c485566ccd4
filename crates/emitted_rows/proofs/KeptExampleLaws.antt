-- The example that keeps bounds is emitted.
use Rattle.std.specs.Prelude.{◌≡◌, ◌≢◌, ℕ, zero, suc, ◌+◌, ◌<◌, ◌≤◌, nat_eq, Bool, true, false, [], ◌∷◌, length, Some, None, bytes_eq, slice_get}
use Rattle.std.proofs.Common.{refl, sym, ap, ◌∙◌, subst, arith}
use Rattle.procedure_emission.specs.f_tree.declared.names.Class.TheVariants as class
use Rattle.procedure_emission.specs.f_tree.Values.{Bytes, in_range}
use Rattle.procedure_emission.specs.f_tree.Terms.{Term}
use Rattle.procedure_emission.specs.f_tree.Facts.{Dimension, Bounds, SubroutineUnit, FunctionUnit, BlockDataUnit}
use Rattle.procedure_emission.specs.f_tree.Setting.{IsIn, first_in, later_in}
use Rattle.procedure_emission.specs.l_core.Pures.{Pure, Pures}
use Rattle.procedure_emission.specs.l_core.Steps.{Acting, Starts, Step, Keep, Halt, Acts}
use Rattle.procedure_emission.specs.l_core.Costs.{cost}
use Rattle.procedure_emission.specs.c_tree.declared.types.ParameterType.TheVariants as parameter
use Rattle.procedure_emission.specs.c_image.Addresses.{Address, Through}
use Rattle.procedure_emission.specs.c_emit.Numbers.{numbers_opened, is_numeric}
use Rattle.procedure_emission.specs.c_emit.Types.{types_opened}
use Rattle.procedure_emission.specs.c_emit.Calls.{calls_opened}
use Rattle.procedure_emission.specs.c_emit.Flats.{flats_opened}
use Rattle.procedure_emission.specs.emitted_texts.Emitted.{stage_behind, is_of_output}
use Rattle.procedure_emission.specs.kept_bounds.KeptBounds.{kept_bounds_opened}
use Rattle.procedure_emission.specs.bound_items.BoundItems.{Saving, bound_items_opened}
use Rattle.procedure_emission.specs.ProcedureItems.{procedure_items_opened}
use Rattle.procedure_emission.specs.DummyBounds.{IsKeptAt, IsBoundValue, of_lower, of_size, HasConstantBounds, kept, IsLowerKnown, IsSizeKnown, HasAdjustableBounds, HasDummyBounds, constant, adjustable, BoundsAreKnown}
use Rattle.procedure_emission.specs.EmittedUnits.{is_number_pointer, IsItem, StepsFit, IsOfRoom, IsParameter, no_parameters, named}
use Rattle.emitted_rows.specs.KeptExample.{the_array, the_lower, the_upper, its_dimension, array_entry, attribute_by, array_attribute, array_steps, array_text, its_savings, address_by, array_emission, array_room, array_surroundings, array_costs, array_later, ArrayIsEmitted}
use Rattle.emitted_rows.proofs.ExampleLaws.{some_is, none_some, nothing_at_all, not_false, fixed_by}

-- ## Names

attribute_class : (b : Bool) → (attribute_by b).class ≡ class.Dummy
attribute_class true = refl
attribute_class false = refl

attribute_bounds : (b : Bool) → (attribute_by b).bounds ≡ []
attribute_bounds true = refl
attribute_bounds false = refl

no_stored : {A : Type 0} (x : Bytes) → (array_attribute x).class ≡ class.Stored → A
no_stored x own = let wrong : class.Dummy ≡ class.Stored = sym (attribute_class (bytes_eq x the_array)) ∙ own in absurd (cc)

no_result : {A : Type 0} (x : Bytes) → (array_attribute x).class ≡ class.Result → A
no_result x own = let wrong : class.Dummy ≡ class.Result = sym (attribute_class (bytes_eq x the_array)) ∙ own in absurd (cc)

no_bounds : {A : Type 0} (x : Bytes) (k : ℕ) (b : Bounds) → slice_get (array_attribute x).bounds k ≡ Some b → A
no_bounds x k b at = nothing_at_all k b (ap (λ bs. slice_get bs k) (sym (attribute_bounds (bytes_eq x the_array))) ∙ at)

-- a parameter is one of the first three objects
parameter_in : Address → ℕ
parameter_in (Through q) = q
parameter_in other = 0

parameter_low : (a b : Bool) (p : ℕ) → address_by a b ≡ Through p → p < 3
unfolding parameter_in
parameter_low true b p h = let same : 0 ≡ p = ap parameter_in h in omega (arith, same)
parameter_low false true p h = let same : 1 ≡ p = ap parameter_in h in omega (arith, same)
parameter_low false false p h = let same : 2 ≡ p = ap parameter_in h in omega (arith, same)

-- ## Steps

its_item : (n : ℕ) (st : Step) → slice_get array_steps n ≡ Some st → IsItem array_surroundings array_text array_emission n st
unfolding procedure_items_opened flats_opened numbers_opened types_opened calls_opened
its_item zero st h = subst (IsItem array_surroundings array_text array_emission 0) (some_is _ st h) (record { item = _; emitted = refl; stands = refl })
its_item (suc zero) st h = subst (IsItem array_surroundings array_text array_emission 1) (some_is _ st h) (record { item = _; emitted = refl; stands = refl })
its_item (suc (suc n)) st h = absurd (cc)

positive : (n : ℕ) (st : Step) → slice_get array_steps n ≡ Some st → 1 ≤ cost array_costs n
unfolding cost
positive zero st h = omega arith
positive (suc zero) st h = omega arith
positive (suc (suc n)) st h = absurd (cc)

keeps_none : {A : Type 0} (n k : ℕ) (p : Pure) → slice_get array_steps n ≡ Some (Keep k p) → A
keeps_none zero k p h = absurd (cc)
keeps_none (suc zero) k p h = absurd (cc)
keeps_none (suc (suc n)) k p h = absurd (cc)

stages : (n : ℕ) (st : Step) → slice_get array_steps n ≡ Some st → stage_behind None st ≡ None
unfolding stage_behind
stages zero st h = ap (stage_behind None) (sym (some_is _ st h))
stages (suc zero) st h = ap (stage_behind None) (sym (some_is _ st h))
stages (suc (suc n)) st h = absurd (cc)

outputs : {A : Type 0} (n : ℕ) (st : Step) → slice_get array_steps n ≡ Some st → is_of_output st ≡ true → A
unfolding is_of_output
outputs zero st h of = let wrong : false ≡ true = ap is_of_output (some_is _ st h) ∙ of in absurd (cc)
outputs (suc zero) st h of = let wrong : false ≡ true = ap is_of_output (some_is _ st h) ∙ of in absurd (cc)
outputs (suc (suc n)) st h of = absurd (cc)

acts_none : {A : Type 0} (n : ℕ) (act : Acting) (ps : Pures) (m : ℕ) → slice_get array_steps n ≡ Some (Acts act ps m) → A
acts_none zero act ps m h = absurd (cc)
acts_none (suc zero) act ps m h = absurd (cc)
acts_none (suc (suc n)) act ps m h = absurd (cc)

halts_none : {A : Type 0} (n : ℕ) (text : Bytes) → slice_get array_steps n ≡ Some (Halt text) → A
halts_none zero text h = absurd (cc)
halts_none (suc zero) text h = absurd (cc)
halts_none (suc (suc n)) text h = absurd (cc)

steps_fit : StepsFit array_surroundings array_text array_emission array_entry
steps_fit = record {
  kinds = λ n st m at among k b is. none_some b is;
  keeps = λ n k p at. keeps_none n k p at;
  stages = λ n st m at among. sym (stages n st at);
  outputs = λ n st at of. outputs n st at of;
  returns = λ n st at return. refl;
  none_at_first = refl;
  own = refl;
  constants = λ z has. not_false has;
  lists = λ n way layout controls ps m unit at is. acts_none n (Starts way layout controls) ps m at;
  texts = λ n text at. halts_none n text at;
}

-- ## Parameters

is_array : IsParameter array_text array_emission 0 the_array parameter.Integers
unfolding is_numeric is_number_pointer
is_array = record { dummy = refl; numeric = refl; width = refl; pointer = refl; address = refl; fresh = refl }

is_lower : IsParameter array_text array_emission 1 the_lower parameter.Integers
unfolding is_numeric is_number_pointer
is_lower = record { dummy = refl; numeric = refl; width = refl; pointer = refl; address = refl; fresh = refl }

is_upper : IsParameter array_text array_emission 2 the_upper parameter.Integers
unfolding is_numeric is_number_pointer
is_upper = record { dummy = refl; numeric = refl; width = refl; pointer = refl; address = refl; fresh = refl }

-- ## Bounds

saved : (i : ℕ) (one : Saving) → slice_get its_savings i ≡ Some one → IsKeptAt array_emission i one
unfolding numbers_opened bound_items_opened in_range
saved zero one h = subst (IsKeptAt array_emission 0) (some_is _ one h) (record {
  item = _;
  emitted = refl;
  stands = refl;
  made = record { in_frame = record { index = 3; at = refl; bytes = None ∷ None ∷ None ∷ None ∷ []; is = refl; room = omega arith }; behind = omega arith };
  temporaries = λ k numeric. not_false numeric;
  results = λ x object own. no_result x own;
  addresses = λ x p at same. (let low = parameter_low (bytes_eq x the_array) (bytes_eq x the_lower) p at in omega (arith, low, same));
  lengths = λ x same. omega (arith, same);
})
saved (suc zero) one h = subst (IsKeptAt array_emission 1) (some_is _ one h) (record {
  item = _;
  emitted = refl;
  stands = refl;
  made = record { in_frame = record { index = 4; at = refl; bytes = None ∷ None ∷ None ∷ None ∷ []; is = refl; room = omega arith }; behind = omega arith };
  temporaries = λ k numeric. not_false numeric;
  results = λ x object own. no_result x own;
  addresses = λ x p at same. (let low = parameter_low (bytes_eq x the_array) (bytes_eq x the_lower) p at in omega (arith, low, same));
  lengths = λ x same. omega (arith, same);
})
saved (suc (suc i)) one h = absurd (cc)

alone : (i j : ℕ) (one other : Saving) → slice_get its_savings i ≡ Some one → slice_get its_savings j ≡ Some other → one.object ≡ other.object → i ≡ j
alone zero zero one other h h' same = refl
alone (suc zero) (suc zero) one other h h' same = refl
alone zero (suc zero) one other h h' same =
    let three : 3 ≡ one.object = ap (λ (x : Saving). x.object) (some_is _ one h) in
    let four : 4 ≡ other.object = ap (λ (x : Saving). x.object) (some_is _ other h') in
    absurd (omega (arith, three, four, same))
alone (suc zero) zero one other h h' same =
    let four : 4 ≡ one.object = ap (λ (x : Saving). x.object) (some_is _ one h) in
    let three : 3 ≡ other.object = ap (λ (x : Saving). x.object) (some_is _ other h') in
    absurd (omega (arith, three, four, same))
alone (suc (suc i)) j one other h h' same = absurd (cc)
alone i (suc (suc j)) one other h h' same = absurd (cc)

values : (i : ℕ) (one : Saving) → slice_get its_savings i ≡ Some one → IsBoundValue array_emission.writing.facts array_entry.formals one.value
unfolding kept_bounds_opened
values zero one h = subst (λ (x : Saving). IsBoundValue array_emission.writing.facts array_entry.formals x.value) (some_is _ one h) (of_lower the_array 0 its_dimension first_in refl refl)
values (suc zero) one h =
    subst (λ (x : Saving). IsBoundValue array_emission.writing.facts array_entry.formals x.value) (some_is _ one h) (of_size the_array 0 its_dimension _ _ _ first_in refl refl refl refl refl)
values (suc (suc i)) one h = absurd (cc)

constants : (x : Bytes) → HasConstantBounds array_emission x
constants x = record { fits = λ k b at. no_bounds x k b at; closed = λ k b at more. no_bounds x k b at; lowers = λ k b at. no_bounds x k b at; sizes = λ k b last at upper. no_bounds x k b at }

lower_known : (k : ℕ) (d : Dimension) → slice_get (its_dimension ∷ []) k ≡ Some d → IsLowerKnown array_emission its_savings the_array k d
unfolding kept_bounds_opened
lower_known zero d h = subst (IsLowerKnown array_emission its_savings the_array 0) (some_is its_dimension d h) (record { value = _; is = refl; known = kept 0 _ refl refl refl })
lower_known (suc k) d h = nothing_at_all k d h

size_known : (k : ℕ) (d : Dimension) (last : Term) → slice_get (its_dimension ∷ []) k ≡ Some d → d.upper ≡ Some last → IsSizeKnown array_emission its_savings the_array k d last
unfolding kept_bounds_opened
size_known zero d last h upper =
    let same : its_dimension ≡ d = some_is its_dimension d h in
    subst (λ x. IsSizeKnown array_emission its_savings the_array 0 x last) same
    (subst (IsSizeKnown array_emission its_savings the_array 0 its_dimension) (some_is _ last (ap (λ (x : Dimension). x.upper) same ∙ upper))
    (record { lower = _; upper = _; lower_is = refl; upper_is = refl; known = kept 1 _ refl refl refl }))
size_known (suc k) d last h upper = nothing_at_all k d h

array_known : HasAdjustableBounds array_emission its_savings the_array
array_known = record { lowers = lower_known; sizes = size_known; closed = closed }
  where
    closed : (k : ℕ) (d : Dimension) → slice_get (its_dimension ∷ []) k ≡ Some d → suc k < 1 → (last : Term) × (d.upper ≡ Some last)
    closed k d h more = absurd (omega (arith, more))

dummies : (x : Bytes) → IsIn x (the_array ∷ the_lower ∷ the_upper ∷ []) → HasDummyBounds array_emission its_savings x
dummies _ first_in = adjustable array_known
dummies _ (later_in first_in) = constant (fixed_by array_emission the_lower refl refl) (constants the_lower)
dummies _ (later_in (later_in first_in)) = constant (fixed_by array_emission the_upper refl refl) (constants the_upper)
dummies x (later_in (later_in (later_in among))) = elim among [ ]

bounds_known : BoundsAreKnown array_emission array_entry.formals its_savings
bounds_known = record { saved = saved; alone = alone; values = values; others = λ x other. constants x; dummies = dummies }

-- ## The unit

rooms_apart : (j object : ℕ) → nat_eq j 0 ≡ false → IsOfRoom (array_room j) object → IsOfRoom (array_room 0) object → ⊥
rooms_apart zero object apart one other = absurd (cc)
rooms_apart (suc j) object apart one other = let low = one.0 in let high = other.1 in omega (arith, low, high)

no_block : SubroutineUnit ≢ BlockDataUnit
no_block same = cc

no_function : SubroutineUnit ≢ FunctionUnit
no_function same = cc

more : (n : ℕ) → cost array_costs n ≤ cost array_later n
unfolding cost
more zero = omega arith
more (suc zero) = omega arith
more (suc (suc n)) = omega arith

first : length its_savings + cost array_costs 0 ≤ cost array_later 0
unfolding cost
first = omega arith

pub array_is_emitted : ArrayIsEmitted
array_is_emitted = (
  record {
    facts = refl;
    runs = no_block;
    items = its_item;
    in_order = λ n st at. omega arith;
    positive = positive;
    entry = array_entry;
    only = refl;
    room = refl;
    inside = omega arith;
    apart_rooms = record { rooms = rooms_apart; constants = λ j z apart has own. not_false has };
    parameters = named 0 the_array _ parameter.Integers _ is_array (named 1 the_lower _ parameter.Integers _ is_lower (named 2 the_upper [] parameter.Integers [] is_upper (no_parameters 3)));
    gives = λ other. refl;
    result = λ function. absurd (no_function function);
    temporaries = λ k numeric. not_false numeric;
    apart = λ k numeric. not_false numeric;
    fit = steps_fit;
    calls = λ name function found. none_some function found;
    sound = λ f x p stored h. no_stored x stored;
    reached = λ f x p stored h. no_stored x stored;
    savings = its_savings;
    bounds = bounds_known;
    begins = refl;
  },
  record { more = more; first = first },
  refl,
)
