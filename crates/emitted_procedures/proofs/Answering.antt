-- What a procedure answers: the number of an alternate return, or the value of its result.
use Rattle.std.specs.Prelude.{◌≡◌, ◌≢◌, ℕ, ℤ, pos, true, List, [], ◌∷◌, take, Option, Some, None, option_map, Ok, slice_get}
use Rattle.std.proofs.Common.{refl, sym, ap, ◌∙◌, subst}
use Rattle.procedure_emission.specs.simulation.Machine.{Answers}
use Rattle.procedure_emission.specs.simulation.LocalSimulation.{last, Meets}
use Rattle.procedure_emission.specs.f_tree.declared.names.Basic.{Basic}
use Rattle.procedure_emission.specs.f_tree.declared.names.Basic.TheVariants as basic
use Rattle.procedure_emission.specs.f_tree.declared.names.Class.TheVariants as class
use Rattle.procedure_emission.specs.f_tree.Values.{Spot, Datum, IsInt, IsLog, IsText, IsSpot, IsProc, IsLabel, Nothing, NoMeaning, Checked, Gives, Fails, in_range, given_that}
use Rattle.procedure_emission.specs.f_tree.Terms.{Wanted, AsSubroutine, AsFunction}
use Rattle.procedure_emission.specs.f_tree.Store.{Store, Whole, Number as ANumber, Truth, fetch}
use Rattle.procedure_emission.specs.f_tree.Facts.{Attribute, UnitKind, MainProgram, SubroutineUnit, FunctionUnit, BlockDataUnit, EntryPoint, Facts, Frame}
use Rattle.procedure_emission.specs.f_tree.Setting.{IsIn, first_in, later_in}
use Rattle.procedure_emission.specs.f_tree.World as fortran
use Rattle.procedure_emission.specs.f_tree.Valuing.{stored_at, if_bound, if_there, named_as, whole, fetched}
use Rattle.procedure_emission.specs.f_tree.Association.{same_basic, same_width, serves, cut_to, result_given, result_from}
use Rattle.procedure_emission.specs.f_tree.Association as association
use Rattle.procedure_emission.specs.l_core.Pures.{Pure, Load, Name, meant}
use Rattle.procedure_emission.specs.l_core.Steps.{Step, Back, BackBy, Text}
use Rattle.procedure_emission.specs.l_core.Machine.{View, Doing, resting, answering, answer, answering_by, done, step}
use Rattle.procedure_emission.specs.l_core.Costs.{cost}
use Rattle.procedure_emission.specs.c_tree.declared.outcome.CValue.TheVariants.{Number}
use Rattle.procedure_emission.specs.c_tree.Objects as c_objects
use Rattle.procedure_emission.specs.c_tree.Terms.{Term, Constant}
use Rattle.procedure_emission.specs.c_tree.Flat as flat
use Rattle.procedure_emission.specs.c_tree.Flat.{Flat}
use Rattle.procedure_emission.specs.c_tree.Values as c_values
use Rattle.procedure_emission.specs.c_tree.Values.{value_of}
use Rattle.procedure_emission.specs.c_tree.World as c
use Rattle.procedure_emission.specs.c_tree.Steps as c_steps
use Rattle.procedure_emission.specs.c_tree.Steps.{deed, given_by}
use Rattle.procedure_emission.proofs.c_laws.StepLaws.{step_at, return_answers}
use Rattle.procedure_emission.proofs.c_laws.ValueLaws.{value_of-number}
use Rattle.procedure_emission.specs.faithful.StorageImage.{number_for}
use Rattle.procedure_emission.specs.c_image.Standing.{Stands}
use Rattle.procedure_emission.specs.c_image.Held.{whole_for}
use Rattle.procedure_emission.proofs.c_image_laws.Growing.{cut_stands, extends_itself}
use Rattle.procedure_emission.specs.c_emit.Numbers.{is_numeric, value_term, place_term}
use Rattle.procedure_emission.specs.c_emit.Types.{HasType, if_numeric, type_at, type_of}
use Rattle.procedure_emission.specs.c_emit.Flats.{returned_by}
use Rattle.procedure_emission.proofs.c_emit_laws.Choices.{mapped_by, some_same}
use Rattle.procedure_emission.proofs.c_emit_laws.NumberLaws.{numbers_are_emitted}
use Rattle.procedure_emission.proofs.c_emit_laws.StepLaws.{numbers_fit}
use Rattle.procedure_emission.proofs.c_emit_laws.TypeLaws.{types_are_right}
use Rattle.procedure_emission.specs.emitted_texts.SecondLayer.{Surroundings, Emission}
use Rattle.procedure_emission.specs.ProcedureItems.{result_term, back_item, back_by_item, procedure_item}
use Rattle.procedure_emission.specs.Reading.{numbers_kept}
use Rattle.procedure_emission.specs.CallLayer.{CallWorld, IsGivenBack, IsAnswer, IsActive, IsStaged, IsAtStep, call_couple}
use Rattle.procedure_emission.specs.EmittedUnits.{is_return, IsItem, number_result, IsEmittedUnit}
use Rattle.emitted_procedures.proofs.KeptNumbers.{left_true}
use Rattle.emitted_procedures.proofs.ReadNumbers.{integer_read, value_read}

-- ## What is answered

wanted_subroutine : (kind : UnitKind) (a : Attribute) (want : Wanted) → kind ≢ FunctionUnit → serves kind a want ≡ true → want ≡ AsSubroutine
unfolding serves
wanted_subroutine kind a AsSubroutine other h = refl
wanted_subroutine MainProgram a (AsFunction b width) other h = absurd (cc)
wanted_subroutine SubroutineUnit a (AsFunction b width) other h = absurd (cc)
wanted_subroutine FunctionUnit a (AsFunction b width) other h = absurd (other refl)
wanted_subroutine BlockDataUnit a (AsFunction b width) other h = absurd (cc)

same_type : (a b : Basic) → same_basic a b ≡ true → b ≡ a
unfolding same_basic
same_type basic.Integer basic.Integer h = refl
same_type basic.Logical basic.Logical h = refl
same_type basic.Character basic.Character h = refl
same_type _ _ h = absurd (cc)

-- a subroutine's answer
subroutine_answered : (μ : CallWorld) (store : Store) (want : Wanted) (z : ℤ) → want ≡ AsSubroutine → in_range z ≡ true → IsAnswer μ want store (IsInt z) (Some z)
subroutine_answered μ store want z is fits = subst (λ w. IsAnswer μ w store (IsInt z) (Some z)) (sym is) (z, refl, fits, refl)

-- a function's answer of the type that was wanted
typed_answer : (μ : CallWorld) (store : Store) (b : Basic) (width : ℕ) (d : Datum) (whole : Whole) → HasType b d → whole_for d ≡ Some whole → in_range (number_for whole) ≡ true → IsAnswer μ (AsFunction b width) store d (Some (number_for whole))
typed_answer μ store basic.Integer width (IsInt z) whole typed is fits =
    let same : ANumber z ≡ whole = some_same (ANumber z) whole is in (z, refl, ap (λ v. in_range (number_for v)) same ∙ fits, ap (λ v. Some (number_for v)) (sym same))
typed_answer μ store basic.Logical width (IsLog t) whole typed is fits =
    let same : Truth t ≡ whole = some_same (Truth t) whole is in (t, refl, ap (λ v. Some (number_for v)) (sym same))
typed_answer μ store _ width _ whole typed is fits = absurd typed

number_answered : (μ : CallWorld) (store : Store) (a : Attribute) (want : Wanted) (d : Datum) (whole : Whole) → serves FunctionUnit a want ≡ true → HasType a.basic d → whole_for d ≡ Some whole → in_range (number_for whole) ≡ true
    → IsAnswer μ want store d (Some (number_for whole))
unfolding serves
number_answered μ store a AsSubroutine d whole served typed is fits = absurd (cc)
number_answered μ store a (AsFunction b width) d whole served typed is fits =
    let same : b ≡ a.basic = same_type a.basic b (left_true (same_basic a.basic b) (same_width b a.width width) served) in
    subst (λ t. IsAnswer μ (AsFunction t width) store d (Some (number_for whole))) (sym same) (typed_answer μ store a.basic width d whole typed is fits)

-- a function of numbers gives a number
gives_number : (b : Basic) (z : ℤ) → given_by (number_result b) (Number z) ≡ Ok (Some z)
unfolding number_result
gives_number basic.Integer z = refl
gives_number basic.Logical z = refl
gives_number basic.Character z = refl
gives_number basic.Untyped z = refl

numeric_type : (b : Basic) → is_numeric b ≡ true → if_numeric b ≡ Some b
unfolding is_numeric if_numeric
numeric_type basic.Integer h = refl
numeric_type basic.Logical h = refl
numeric_type basic.Character h = absurd (cc)
numeric_type basic.Untyped h = absurd (cc)

only_one : {A : Type 0} (a b : A) → IsIn a (b ∷ []) → a ≡ b
only_one a _ first_in = refl
only_one a b (later_in among) = elim among [ ]

-- the value of the result is that of the function's name
result_named : (f : Facts) (frame : Frame) (x : List ℕ) (p : Spot) (store : Store) (kept : ℕ → Option Datum) → (f.program.attribute x).class ≡ class.Result → frame.result ≡ Some p → p.basic ≡ (f.program.attribute x).basic
    → meant f frame kept store (Load (Name x)) ≡ fetch store p
unfolding meant whole named_as if_there fetched given_that
result_named f frame x p store kept own there same =
    ap (λ k. given_that (elim k [
      | class.Stored ↦ stored_at (f.program.attribute x) (f.program.attribute x).width (f.home x)
      | class.Dummy ↦ if_bound (frame.bound x)
      | class.DummyProcedure ↦ if_bound (frame.bound x)
      | class.Result ↦ if_there (f.program.attribute x).basic frame.result
      | class.Procedure ↦ Gives (IsProc x)
      | class.Intrinsic ↦ Gives (IsProc x)
      | _ ↦ Fails NoMeaning
    ]) (fetched store)) own
    ∙ ap (λ r. given_that (if_there (f.program.attribute x).basic r) (fetched store)) there
    ∙ ap (λ b. fetch store (record p { basic = b })) (sym same)

module _ (s : Surroundings) (number : ℕ) (u : Text) (costs : List ℕ) (e : Emission) (is : IsEmittedUnit s number u costs e) (μ : CallWorld) (v : View) (x : fortran.World) (w : c_steps.View) (y : c.World) (now : IsAtStep s number e μ v x w y)
    (st : Step) (at : slice_get u.steps v.at ≡ Some st) (item : IsItem s u e v.at st) where
  active : IsActive s number e μ v x y
  active = now.active

  here : slice_get e.function.code w.position ≡ Some item.item
  here = ap (slice_get e.function.code) now.position ∙ item.stands

  done_is : (ev : Doing) → step u v x ≡ ev → done u v x (Some st) ≡ ev
  unfolding step
  done_is ev h = sym (ap (done u v x) at) ∙ h

  -- the transfer that was found is given back
  given_back : is_return st ≡ true → IsGivenBack μ x y
  given_back return = subst (IsStaged μ x y) (is.fit.returns v.at st at return) now.staged

  kind_is : e.writing.facts.program.kind ≡ u.facts.program.kind
  kind_is = ap (λ (f : Facts). f.program.kind) is.facts

  -- ## Of a procedure that is no function

  no_function : u.facts.program.kind ≢ FunctionUnit → μ.wanted ≡ AsSubroutine
  no_function other = wanted_subroutine e.writing.facts.program.kind (e.writing.facts.program.attribute v.frame.called.name) μ.wanted (λ same. other (sym kind_is ∙ same)) active.frame.served

  answer_number : (term : Term) (z : ℤ) → u.facts.program.kind ≢ FunctionUnit → is_return st ≡ true → flat.Return (Some term) ≡ item.item → value_of y.objects term ≡ Ok (Number z) → in_range z ≡ true
      → Meets (call_couple s number u costs e) μ w y (cost costs v.at) (Answers x (IsInt z))
  answer_number term z other return item_is valued fits =
      let gives : given_by e.function.result (Number z) ≡ Ok (Some z) = ap (λ r. given_by r (Number z)) (is.gives other) in
      let does : deed e.function w y item.item ≡ Answers y (Some z) = subst (λ i. deed e.function w y i ≡ Answers y (Some z)) item_is (return_answers e.function w y term (Number z) (Some z) valued gives) in
      record {
        count = 1;
        shared = y;
        ans = Some z;
        does = last (step_at e.function w y item.item here ∙ does) refl;
        few = is.positive v.at st at;
        given = record { now = active.now; both = active.both; found = given_back return; answers = subroutine_answered μ x.store μ.wanted z (no_function other) fits };
      }

  zero_valued : value_of y.objects (Constant (pos 0)) ≡ Ok (Number (pos 0))
  unfolding c_values.seen
  zero_valued = refl

  zero_fits : in_range (pos 0) ≡ true
  unfolding in_range
  zero_fits = refl

  -- ## Of a function

  result_answered : (p : Spot) → u.facts.program.kind ≡ FunctionUnit → st ≡ Back → v.frame.result ≡ Some p → p.basic ≡ (e.writing.facts.program.attribute v.frame.called.name).basic → (found : Checked Datum) → fetch x.store p ≡ found
      → Meets (call_couple s number u costs e) μ w y (cost costs v.at) (answering (result_given v.frame x found))
  unfolding result_given answering procedure_item back_item result_term value_term is_return type_of type_at cut_to
  result_answered p function back there type (Fails act) fetched' = λ claimed. absurd claimed
  result_answered p function back there type (Gives d) fetched' =
      let entry = is.entry in
      let made = is.result function in
      let facts = e.writing.facts in
      let called : v.frame.called ≡ entry = only_one v.frame.called entry (subst (IsIn v.frame.called) (ap (λ (f : Facts). f.program.entries) is.facts ∙ is.only) active.frame.called) in
      let attribute : facts.program.attribute entry.name ≡ u.facts.program.attribute entry.name = ap (λ (f : Facts). f.program.attribute entry.name) is.facts in
      let own : (facts.program.attribute entry.name).class ≡ class.Result = ap (λ (a : Attribute). a.class) attribute ∙ made.own in
      let numeric : is_numeric (facts.program.attribute entry.name).basic ≡ true = ap (λ (a : Attribute). is_numeric a.basic) attribute ∙ made.numeric entry.name made.own in
      let same : p.basic ≡ (facts.program.attribute entry.name).basic = type ∙ ap (λ (one : EntryPoint). (facts.program.attribute one.name).basic) called in
      let gives : meant facts v.frame (numbers_kept v.kept) x.store (Load (Name entry.name)) ≡ Gives d = result_named facts v.frame entry.name p x.store (numbers_kept v.kept) own there same ∙ fetched' in
      let gives' : meant facts v.frame v.kept x.store (Load (Name entry.name)) ≡ Gives d = result_named facts v.frame entry.name p x.store v.kept own there same ∙ fetched' in
      let emitted : option_map (λ term. flat.Return (Some term)) (place_term e.writing (Name entry.name)) ≡ Some item.item =
      ap (λ es. option_map (λ term. flat.Return (Some term)) (result_term e.writing es)) (sym (ap (λ (f : Facts). f.program.entries) is.facts ∙ is.only)) ∙ ap (back_item e.writing) (sym (kind_is ∙ function))
      ∙ ap (procedure_item s.numbers e.writing e.place u.position v.at) (sym back) ∙ item.emitted in
      let m = mapped_by (λ term. flat.Return (Some term)) (place_term e.writing (Name entry.name)) item.item emitted in
      let means = numbers_are_emitted active.now x.store y.objects e.writing v.frame (numbers_kept v.kept) (Load (Name entry.name)) m.one d active.both.stands active.known m.one_is gives in
      let fits = numbers_fit active.now x.store y.objects e.writing v.frame (numbers_kept v.kept) (Load (Name entry.name)) m.one d means.whole active.both.stands active.known m.one_is gives means.is in
      let typed = types_are_right e.writing v.at v.frame v.kept x.store (Load (Name entry.name)) d (facts.program.attribute entry.name).basic active.known.types now.typed (numeric_type (facts.program.attribute entry.name).basic numeric) gives' in
      let served : serves FunctionUnit (facts.program.attribute entry.name) μ.wanted ≡ true =
      ap (λ (one : EntryPoint). serves FunctionUnit (facts.program.attribute one.name) μ.wanted) (sym called) ∙ ap (λ k. serves k (facts.program.attribute v.frame.called.name) μ.wanted) (sym (kind_is ∙ function)) ∙ active.frame.served in
      let given : given_by e.function.result (Number (number_for means.whole)) ≡ Ok (Some (number_for means.whole)) =
      ap (λ r. given_by r (Number (number_for means.whole))) made.gives ∙ gives_number (u.facts.program.attribute entry.name).basic (number_for means.whole) in
      let does : deed e.function w y item.item ≡ Answers y (Some (number_for means.whole)) =
      subst (λ i. deed e.function w y i ≡ Answers y (Some (number_for means.whole))) m.is
      (return_answers e.function w y m.one (Number (number_for means.whole)) (Some (number_for means.whole)) (value_of-number y.objects m.one (number_for means.whole) means.counts) given) in
      let found = given_back (ap is_return back) in
      let cut = cut_stands μ.image active.now x.store y.objects active.both.extends active.both.stands in
      record {
        count = 1;
        shared = y;
        ans = Some (number_for means.whole);
        does = last (step_at e.function w y item.item here ∙ does) refl;
        few = is.positive v.at st at;
        given = record {
          now = μ.image;
          both = record {
            extends = extends_itself μ.image;
            stands = subst (λ n. Stands μ.image (take n x.store) y.objects) (sym active.frame.base) cut;
            units = active.both.units;
            transfers = active.both.transfers;
            as_many = active.both.as_many;
          };
          found = found;
          answers = number_answered μ (take v.frame.base x.store) (facts.program.attribute entry.name) μ.wanted d means.whole served typed means.is fits;
        };
      }

  -- ## RETURN and END

  function_answers : u.facts.program.kind ≡ FunctionUnit → st ≡ Back → Meets (call_couple s number u costs e) μ w y (cost costs v.at) (answering (result_from v.frame x v.frame.result))
  unfolding result_from
  function_answers function back =
      let there = active.frame.result (kind_is ∙ function) in
      subst (λ r. Meets (call_couple s number u costs e) μ w y (cost costs v.at) (answering (result_from v.frame x r))) (sym there.1)
      (result_answered there.0 function back there.1 there.2 (fetch x.store there.0) refl)

  plain_return : (kind : UnitKind) → u.facts.program.kind ≡ kind → st ≡ Back → returned_by kind ≡ Some (flat.Return (Some (Constant (pos 0)))) → back_item e.writing kind ≡ returned_by kind → flat.Return (Some (Constant (pos 0))) ≡ item.item
  unfolding procedure_item
  plain_return kind is_kind back returns plain =
      some_same (flat.Return (Some (Constant (pos 0)))) item.item
      (sym returns ∙ sym plain ∙ ap (back_item e.writing) (sym (kind_is ∙ is_kind)) ∙ ap (procedure_item s.numbers e.writing e.place u.position v.at) (sym back) ∙ item.emitted)

  by_kind : (kind : UnitKind) → u.facts.program.kind ≡ kind → st ≡ Back → Meets (call_couple s number u costs e) μ w y (cost costs v.at) (answering (answer kind v.frame x (pos 0)))
  unfolding answer association.answer answering resting back_item returned_by is_return
  by_kind MainProgram is_kind back =
      answer_number (Constant (pos 0)) (pos 0) (λ same. other (sym is_kind ∙ same)) (ap is_return back) (plain_return MainProgram is_kind back refl refl) zero_valued zero_fits
    where
      other : MainProgram ≡ FunctionUnit → ⊥
      other same = cc
  by_kind SubroutineUnit is_kind back =
      answer_number (Constant (pos 0)) (pos 0) (λ same. other (sym is_kind ∙ same)) (ap is_return back) (plain_return SubroutineUnit is_kind back refl refl) zero_valued zero_fits
    where
      other : SubroutineUnit ≡ FunctionUnit → ⊥
      other same = cc
  by_kind FunctionUnit is_kind back = function_answers is_kind back
  by_kind BlockDataUnit is_kind back = absurd (is.runs is_kind)

  pub answers : st ≡ Back → Meets (call_couple s number u costs e) μ w y (cost costs v.at) (step u v x)
  unfolding done
  answers back =
      let event : step u v x ≡ answering (answer u.facts.program.kind v.frame x (pos 0)) = sym (done_is (step u v x) refl) ∙ ap (λ o. done u v x (Some o)) back in
      subst (Meets (call_couple s number u costs e) μ w y (cost costs v.at)) (sym event) (by_kind u.facts.program.kind refl back)

  -- ## RETURN by a number

  by_number : (p : Pure) → st ≡ BackBy p → u.facts.program.kind ≡ SubroutineUnit → (found : Checked Datum) → meant u.facts v.frame v.kept x.store p ≡ found → Meets (call_couple s number u costs e) μ w y (cost costs v.at) (answering_by u v x found)
  unfolding answering_by answering answer procedure_item back_by_item is_return
  by_number p back kind (Fails act) found = λ claimed. absurd claimed
  by_number p back kind (Gives (IsLog b)) found = λ claimed. absurd claimed
  by_number p back kind (Gives (IsText cs)) found = λ claimed. absurd claimed
  by_number p back kind (Gives (IsSpot q)) found = λ claimed. absurd claimed
  by_number p back kind (Gives (IsProc z)) found = λ claimed. absurd claimed
  by_number p back kind (Gives (IsLabel l)) found = λ claimed. absurd claimed
  by_number p back kind (Gives Nothing) found = λ claimed. absurd claimed
  by_number p back kind (Gives (IsInt z)) found =
      let emitted : option_map (λ term. flat.Return (Some term)) (value_term e.writing p) ≡ Some item.item =
      ap (back_by_item e.writing p) (sym (kind_is ∙ kind)) ∙ ap (procedure_item s.numbers e.writing e.place u.position v.at) (sym back) ∙ item.emitted in
      let m = mapped_by (λ term. flat.Return (Some term)) (value_term e.writing p) item.item emitted in
      let gives : meant e.writing.facts v.frame (numbers_kept v.kept) x.store p ≡ Gives (IsInt z) =
      integer_read (meant e.writing.facts v.frame (numbers_kept v.kept) x.store p) z
      (value_read e.writing v.frame v.kept x.store now.plain p m.one (IsInt z) m.one_is (ap (λ f. meant f v.frame v.kept x.store p) is.facts ∙ found)) in
      let means = numbers_are_emitted active.now x.store y.objects e.writing v.frame (numbers_kept v.kept) p m.one (IsInt z) active.both.stands active.known m.one_is gives in
      let same : means.whole ≡ ANumber z = some_same means.whole (ANumber z) (sym means.is) in
      let valued : value_of y.objects m.one ≡ Ok (Number z) = value_of-number y.objects m.one z (means.counts ∙ ap (λ k. Ok (c_objects.plain (Number (number_for k)))) same) in
      let fits = numbers_fit active.now x.store y.objects e.writing v.frame (numbers_kept v.kept) p m.one (IsInt z) (ANumber z) active.both.stands active.known m.one_is gives refl in
      subst (λ k. Meets (call_couple s number u costs e) μ w y (cost costs v.at) (answering (answer k v.frame x z))) (sym kind)
      (answer_number m.one z (λ function. other (sym kind ∙ function)) (ap is_return back) m.is valued fits)
    where
      other : SubroutineUnit ≡ FunctionUnit → ⊥
      other same = cc

  no_item : {A : Type 0} (i : Flat) → None ≡ Some i → A
  no_item i h = absurd (cc)

  -- only a subroutine is emitted with one
  number_kind : (p : Pure) → st ≡ BackBy p → (kind : UnitKind) → u.facts.program.kind ≡ kind → kind ≡ SubroutineUnit
  unfolding procedure_item back_by_item
  number_kind p back SubroutineUnit is_kind = refl
  number_kind p back MainProgram is_kind = no_item item.item (ap (back_by_item e.writing p) (sym (kind_is ∙ is_kind)) ∙ ap (procedure_item s.numbers e.writing e.place u.position v.at) (sym back) ∙ item.emitted)
  number_kind p back FunctionUnit is_kind = no_item item.item (ap (back_by_item e.writing p) (sym (kind_is ∙ is_kind)) ∙ ap (procedure_item s.numbers e.writing e.place u.position v.at) (sym back) ∙ item.emitted)
  number_kind p back BlockDataUnit is_kind = no_item item.item (ap (back_by_item e.writing p) (sym (kind_is ∙ is_kind)) ∙ ap (procedure_item s.numbers e.writing e.place u.position v.at) (sym back) ∙ item.emitted)

  pub answers_by : (p : Pure) → st ≡ BackBy p → Meets (call_couple s number u costs e) μ w y (cost costs v.at) (step u v x)
  unfolding done
  answers_by p back =
      let event : step u v x ≡ answering_by u v x (meant u.facts v.frame v.kept x.store p) = sym (done_is (step u v x) refl) ∙ ap (λ o. done u v x (Some o)) back in
      subst (Meets (call_couple s number u costs e) μ w y (cost costs v.at)) (sym event) (by_number p back (number_kind p back u.facts.program.kind refl) (meant u.facts v.frame v.kept x.store p) refl)
