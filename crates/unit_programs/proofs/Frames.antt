-- What belongs to an active procedure stands in the frame of its function.
use Rattle.std.specs.Prelude.{◌≡◌, ℕ, suc, ◌+◌, Bool, true, false, ◌&&◌, ◌||◌, List, [], ◌∷◌, map, length, position, Some, option_map, slice_get, bytes_eq}
use Rattle.std.proofs.Common.{refl, sym, ap, ◌∙◌, subst, arith}
use Rattle.std.proofs.lemmas.Slice.Eq.{bytes_eq-Decides}
use Rattle.emitted_procedures.specs.f_tree.declared.names.Basic.{Basic}
use Rattle.emitted_procedures.specs.f_tree.declared.names.Basic.TheVariants as basic
use Rattle.emitted_procedures.specs.f_tree.declared.names.Class.{Class}
use Rattle.emitted_procedures.specs.f_tree.declared.names.Class.TheVariants as class
use Rattle.emitted_procedures.specs.f_tree.CNames as c_names
use Rattle.emitted_procedures.specs.f_tree.CNames.{external_name, made_name, FunctionResult}
use Rattle.emitted_procedures.specs.f_tree.Values.{Bytes, Spot, Datum, IsInt, IsLog, IsText, IsSpot, IsProc, IsLabel, Nothing, NoMeaning, Checked, Gives, Fails}
use Rattle.emitted_procedures.specs.f_tree.Facts.{Attribute, Formal, Named, Alternate, MainProgram, SubroutineUnit, FunctionUnit, BlockDataUnit, UnitKind, EntryPoint, ProgramUnit, Facts, Frame}
use Rattle.emitted_procedures.specs.f_tree.Setting.{IsIn, first_in, later_in}
use Rattle.emitted_procedures.specs.f_tree.Valuing.{stored_at, if_bound, if_there, named_as, whole}
use Rattle.emitted_procedures.specs.f_tree.World.{Procedure}
use Rattle.emitted_procedures.specs.f_tree.Meaning.{has_entry, answers_to}
use Rattle.emitted_procedures.specs.l_core.Pures.{Temporaries}
use Rattle.emitted_procedures.specs.l_core.Steps.{Text}
use Rattle.emitted_procedures.specs.c_tree.declared.outcome.CValue.TheVariants.{Pointer, Function}
use Rattle.emitted_procedures.specs.c_tree.Objects.{Object}
use Rattle.emitted_procedures.specs.c_tree.Declarations.{Declared, declared_parameter}
use Rattle.emitted_procedures.specs.faithful.StorageImage.{name_of_entries, function_name, number_named}
use Rattle.emitted_procedures.specs.faithful.FrameImage as frames
use Rattle.emitted_procedures.specs.faithful.FrameImage.{Each, frame_object_at, frame_object, value_in, HasLength, StandsFor, FormalStands, ResultStandsAs, ResultStands}
use Rattle.emitted_procedures.specs.c_image.World.{World}
use Rattle.emitted_procedures.specs.c_image.Addresses.{Through, Reaches, access_to, pointer_object}
use Rattle.emitted_procedures.specs.c_emit.Numbers.{is_numeric, is_variable, has_number}
use Rattle.emitted_procedures.specs.c_emit_laws.EmittedNumbers.{IsKnown}
use Rattle.unit_file_laws.specs.linking_laws.Linked.{AreDistinct}
use Rattle.emitted_procedures.specs.emitted_texts.SecondLayer.{Surroundings, Emission}
use Rattle.emitted_procedures.specs.procedure_emission.CallLayer.{CallWorld, IsFrameOf, function_object, AreProceduresHeld}
use Rattle.call_bridge.specs.CallBridge.{FramesStand}
use Rattle.main_programs.proofs.MainStorage.{position_named}
use Rattle.unit_file_laws.specs.unit_file.UnitFile.{Parameter, Inventory, Bases, parameter_for, first_parameter, result_object, address_in}
use Rattle.unit_file_laws.specs.unit_sites.UnitSites.{UnitsOfFile, files_of}
use Rattle.unit_file_laws.specs.unit_places.UnitPlaces.{linked_unit, FunctionStands}
use Rattle.unit_file_laws.proofs.unit_places.Declared.{framed_by, framed_are, framed_parameter, framed_result}
use Rattle.unit_file_laws.proofs.Listed.{framed_names_are}
use Rattle.unit_programs.specs.TranslatedUnits.{Rendering, units_of, dummies_named, IsDummy, is_number, is_procedure, IsTranslatedUnit, IsTranslatedSet}
use Rattle.unit_programs.specs.EmittedFile.{surroundings_of, emission_of}
use Rattle.unit_programs.proofs.Objects as objects_of
use Rattle.unit_programs.proofs.Objects.{found_back}
use Rattle.unit_programs.proofs.Stored as stored_of
use Rattle.unit_programs.proofs.Emission.{parameter_placed, dummy_address, procedure_address}

-- ## Names of procedures

-- the function of a procedure of one name has its name
procedure_named : (u : ProgramUnit) (entry : EntryPoint) (y : Bytes) → u.entries ≡ entry ∷ [] → answers_to (Procedure y) u ≡ true → function_name u ≡ external_name y
unfolding answers_to function_name has_entry
procedure_named u entry y only h = by u.kind h
  where
    same_name : has_entry u.entries y ≡ true → name_of_entries u.entries ≡ external_name y
    same_name g =
        let here : (bytes_eq entry.name y || false) ≡ true = ap (λ es. has_entry es y) (sym only) ∙ g in
        ap name_of_entries only ∙ ap external_name ((bytes_eq-Decides entry.name y).0 (first_so (bytes_eq entry.name y) here))
      where
        first_so : (t : Bool) → (t || false) ≡ true → t ≡ true
        first_so true k = refl
        first_so false k = absurd (cc)

    by : (k : UnitKind) → elim k [ SubroutineUnit ↦ has_entry u.entries y | FunctionUnit ↦ has_entry u.entries y | _ ↦ false ] ≡ true → elim k [ MainProgram ↦ c_names.main_name | _ ↦ name_of_entries u.entries ] ≡ external_name y
    by MainProgram g = absurd (cc)
    by SubroutineUnit g = same_name g
    by FunctionUnit g = same_name g
    by BlockDataUnit g = absurd (cc)

-- what a name stands for, by its class
abbrev class_value : Facts → Frame → Bytes → Attribute → Class → Checked Datum
class_value c f x a k = elim k [
  | class.Stored ↦ stored_at a a.width (c.home x)
  | class.Dummy ↦ if_bound (f.bound x)
  | class.DummyProcedure ↦ if_bound (f.bound x)
  | class.Result ↦ if_there a.basic f.result
  | class.Procedure ↦ Gives (IsProc x)
  | class.Intrinsic ↦ Gives (IsProc x)
  | _ ↦ Fails NoMeaning
]

text_is_none : is_numeric basic.Character ≡ true → ⊥
unfolding is_numeric
text_is_none h = cc

one_entry : (e only : EntryPoint) → IsIn e (only ∷ []) → only ≡ e
one_entry e _ first_in = refl
one_entry e only (later_in among) = elim among [ ]

module _ (fs : List UnitsOfFile) (rs : List Rendering) (is : IsTranslatedSet fs rs) (j : ℕ) (r : Rendering) (at : slice_get rs j ≡ Some r) where
  abbrev v : Inventory
  v = r.written.inventory

  abbrev b : Bases
  b = r.site.bases

  abbrev u : Text
  u = r.text

  abbrev s : Surroundings
  s = surroundings_of fs rs

  abbrev e : Emission
  e = emission_of fs j r

  one : IsTranslatedUnit rs j r
  one = is.units j r at

  stands : FunctionStands fs j r.site r.written
  stands = objects_of.function_stands fs rs is j r at

  frame_is : e.function.frame ≡ first_parameter v b
  frame_is = (objects_of.function_of fs rs is j r at).frame

  program_is : u.facts.program ≡ r.unit
  program_is = stored_of.program_is fs rs is j r at

  -- ## Objects of the frame

  framed_object : (i : ℕ) (d : Declared) → slice_get (framed_by v) i ≡ Some d → frame_object (files_of fs) j d.name ≡ Some (e.function.frame + i)
  unfolding frame_object
  framed_object i d there =
      (λ k. frame_object_at d.name (stands.written k) (stands.function_is k))
      ∙ ap (option_map (λ place. (linked_unit fs stands.functions r.site r.written).frame + place))
      (ap (position (λ (declared : Declared). bytes_eq declared.name d.name)) (framed_are v)
      ∙ position_named (framed_by v) i d (subst AreDistinct (sym (ap (map (λ (z : Declared). z.name)) (sym (framed_are v)) ∙ framed_names_are v)) one.built.differ.framed) there)
      ∙ ap (λ frame. Some (frame + i)) (stands.frame ∙ sym frame_is)

  number_there : (y : Bytes) (number : ℕ) → s.numbers (Procedure y) ≡ Some number → number_named (files_of fs) (external_name y) ≡ Some number
  number_there y number found =
      let f = found_back 0 (units_of rs) (Procedure y) number found in
      let there = f.is in
      let q = objects_of.of_unit fs rs is f.place f.unit f.at in
      let name = procedure_named f.unit (is.units f.place q.0 q.1).entry y (ap (λ z. z.entries) (sym q.2) ∙ (is.units f.place q.0 q.1).only) f.answers in
      ap (number_named (files_of fs)) (sym name ∙ ap function_name (sym q.2)) ∙ objects_of.unit_named fs rs is f.place q.0 q.1 ∙ ap Some {x = f.place} {y = number} (omega (arith, there))

  module _ (μ : CallWorld) (ν : World) (f : Frame) (kept : Temporaries) (objects : List Object) (of : IsFrameOf u.facts.program μ f) (known : IsKnown ν e.writing f kept) (procedures : AreProceduresHeld s e ν f)
      (held : (k : ℕ) (object : Object) → ν.frozen k ≡ Some object → slice_get objects k ≡ Some object) where
    entry_is : one.entry ≡ f.called
    entry_is = one_entry f.called one.entry (subst (IsIn f.called) (ap (λ p. p.entries) program_is ∙ one.only) of.called)

    -- ## Dummies

    held_value : (k : ℕ) (object : ℕ) (spot : Spot) → ν.frozen k ≡ Some (pointer_object (access_to spot.basic) (Pointer object spot.first)) → value_in objects (Some k) ≡ Some (Pointer object spot.first)
    unfolding value_in
    held_value k object spot frozen = ap frames.held_by (held k (pointer_object (access_to spot.basic) (Pointer object spot.first)) frozen)

    held_function : (k number : ℕ) → ν.frozen k ≡ Some (function_object number) → value_in objects (Some k) ≡ Some (Function number)
    unfolding value_in
    held_function k number frozen = ap frames.held_by (held k (function_object number) frozen)

    bound_dummy : (x : Bytes) (d : Datum) → (u.facts.program.attribute x).class ≡ class.Dummy → f.bound x ≡ Some d → whole u.facts f x ≡ Gives d
    unfolding whole named_as if_bound
    bound_dummy x d own bound = ap (class_value u.facts f x (u.facts.program.attribute x)) own ∙ ap if_bound bound

    bound_procedure : (x : Bytes) (d : Datum) → (u.facts.program.attribute x).class ≡ class.DummyProcedure → f.bound x ≡ Some d → whole u.facts f x ≡ Gives d
    unfolding whole named_as if_bound
    bound_procedure x d own bound = ap (class_value u.facts f x (u.facts.program.attribute x)) own ∙ ap if_bound bound

    -- a place that a parameter points to
    points_at : (x : Bytes) (k : ℕ) (spot : Spot) → whole u.facts f x ≡ Gives (IsSpot spot) → e.writing.naming.address x ≡ Through k → StandsFor (files_of fs) ν.homes objects (Some k) (IsSpot spot)
    points_at x k spot h address =
        let reaches = subst (Reaches ν spot) address (known.knows.reaches x spot h) in
        (reaches.0, reaches.1, held_value k reaches.0 spot reaches.2)

    number_stands : (x : Bytes) (k : ℕ) (d : Datum) → (u.facts.program.attribute x).class ≡ class.Dummy → is_numeric (u.facts.program.attribute x).basic ≡ true → f.bound x ≡ Some d → e.writing.naming.address x ≡ Through k
        → StandsFor (files_of fs) ν.homes objects (Some k) d
    unfolding has_number is_variable
    number_stands x k (IsSpot spot) own numeric bound address = points_at x k spot (bound_dummy x (IsSpot spot) own bound) address
    number_stands x k (IsProc y) own numeric bound address =
        let number : has_number e.writing x ≡ true = (λ i. is_variable (own i) && is_numeric (u.facts.program.attribute x).basic) ∙ numeric in
        let q = known.spots x (IsProc y) number (bound_dummy x (IsProc y) own bound) in
        no_spot q.0 q.1
      where
        no_spot : {A : Type 0} (spot : Spot) → IsProc y ≡ IsSpot spot → A
        no_spot spot h = absurd (cc)
    number_stands x k (IsInt z) own numeric bound address = tt
    number_stands x k (IsLog t) own numeric bound address = tt
    number_stands x k (IsText cs) own numeric bound address = tt
    number_stands x k (IsLabel l) own numeric bound address = tt
    number_stands x k Nothing own numeric bound address = tt

    procedure_stands : (x : Bytes) (k : ℕ) (d : Datum) → (u.facts.program.attribute x).class ≡ class.DummyProcedure → f.bound x ≡ Some d → e.writing.naming.address x ≡ Through k → StandsFor (files_of fs) ν.homes objects (Some k) d
    procedure_stands x k (IsSpot spot) own bound address = points_at x k spot (bound_procedure x (IsSpot spot) own bound) address
    procedure_stands x k (IsProc y) own bound address =
        let p = procedures x (IsProc y) k own bound address in
        let same : y ≡ p.0 = names_same y p.0 p.2 in
        (p.1, ap (λ z. number_named (files_of fs) (external_name z)) same ∙ number_there p.0 p.1 p.3, held_function k p.1 p.4)
      where
        names_same : (x y : Bytes) → IsProc x ≡ IsProc y → x ≡ y
        names_same x y h = cc
    procedure_stands x k (IsInt z) own bound address = tt
    procedure_stands x k (IsLog t) own bound address = tt
    procedure_stands x k (IsText cs) own bound address = tt
    procedure_stands x k (IsLabel l) own bound address = tt
    procedure_stands x k Nothing own bound address = tt

    dummy_stands : (i : ℕ) (p : Parameter) → slice_get v.parameters i ≡ Some p → IsDummy u.facts v p → FormalStands (files_of fs) ν.homes objects j r.unit f (Named p.name)
    unfolding HasLength
    dummy_stands i p there (is_number own numeric width fixed pointer) = record {
      parameter = λ d bound. subst (λ o. StandsFor (files_of fs) ν.homes objects o d) (sym (framed_object i (declared_parameter (parameter_for p)) (framed_parameter v i p there)))
          (number_stands p.name (e.function.frame + i) d own numeric bound (dummy_address fs rs is j r at p.name i own (parameter_placed fs rs is j r at i p there)));
      length = λ has n length. no_text (u.facts.program.attribute p.name).basic numeric (ap (λ z. (z.attribute p.name).basic) program_is ∙ has.1);
    }
      where
        no_text : {A : Type 0} (k : Basic) → is_numeric k ≡ true → k ≡ basic.Character → A
        no_text k numeric' text = let no : is_numeric basic.Character ≡ true = ap is_numeric (sym text) ∙ numeric' in absurd (text_is_none no)
    dummy_stands i p there (is_procedure own fixed pointer) = record {
      parameter = λ d bound. subst (λ o. StandsFor (files_of fs) ν.homes objects o d) (sym (framed_object i (declared_parameter (parameter_for p)) (framed_parameter v i p there)))
          (procedure_stands p.name (e.function.frame + i) d own bound (procedure_address fs rs is j r at p.name i own (parameter_placed fs rs is j r at i p there)));
      length = λ has n length. no_dummy (sym own ∙ ap (λ z. (z.attribute p.name).class) program_is ∙ has.0);
    }
      where
        no_dummy : {A : Type 0} → class.DummyProcedure ≡ class.Dummy → A
        no_dummy h = absurd (cc)

    dummies_from : (i : ℕ) (formals : List Formal) (ps : List Parameter) → dummies_named formals ≡ map (λ (p : Parameter). p.name) ps → ((m : ℕ) (p : Parameter) → slice_get ps m ≡ Some p → slice_get v.parameters (i + m) ≡ Some p)
        → Each (FormalStands (files_of fs) ν.homes objects j r.unit f) formals
    dummies_from i [] ps same there = frames.none
    dummies_from i (Named x ∷ formals) [] same there = absurd (cc)
    dummies_from i (Named x ∷ formals) (p ∷ ps) same there =
        let first : p.name ≡ x = cc in
        let rest : dummies_named formals ≡ map (λ (q : Parameter). q.name) ps = cc in
        let here : slice_get v.parameters i ≡ Some p = ap (slice_get v.parameters) {x = i} {y = i + 0} (omega arith) ∙ there 0 p refl in
        frames.more (Named x) formals (subst (λ y. FormalStands (files_of fs) ν.homes objects j r.unit f (Named y)) first (dummy_stands i p here (one.parameters i p here)))
        (dummies_from (suc i) formals ps rest (λ m q other. ap (slice_get v.parameters) {x = suc i + m} {y = i + suc m} (omega arith) ∙ there (suc m) q other))
    dummies_from i (Alternate ∷ formals) ps same there = frames.more Alternate formals tt (dummies_from i formals ps same there)

    dummies_stand : Each (FormalStands (files_of fs) ν.homes objects j r.unit f) f.called.formals
    dummies_stand =
        subst (λ (entry : EntryPoint). Each (FormalStands (files_of fs) ν.homes objects j r.unit f) entry.formals) entry_is
        (dummies_from 0 one.entry.formals v.parameters one.dummies (λ m p there. ap (slice_get v.parameters) {x = 0 + m} {y = m} (omega arith) ∙ there))

    -- ## The result

    number_result_stands : (k : Basic) (spot : Spot) → is_numeric k ≡ true → (object : ℕ) → ν.homes spot.sequence ≡ Some object → frame_object (files_of fs) j (made_name FunctionResult) ≡ Some object
        → ResultStandsAs k (files_of fs) ν.homes objects j spot
    unfolding is_numeric
    number_result_stands basic.Integer spot numeric object home there = (object, home, there)
    number_result_stands basic.Logical spot numeric object home there = (object, home, there)
    number_result_stands basic.Character spot numeric object home there = absurd (cc)
    number_result_stands basic.Untyped spot numeric object home there = absurd (cc)

    result_whole : (x : Bytes) (spot : Spot) → (u.facts.program.attribute x).class ≡ class.Result → f.result ≡ Some spot → whole u.facts f x ≡ Gives (IsSpot (record spot { basic = (u.facts.program.attribute x).basic }))
    unfolding whole named_as if_there
    result_whole x spot own there = ap (class_value u.facts f x (u.facts.program.attribute x)) own ∙ ap (if_there (u.facts.program.attribute x).basic) there

    result_there : (spot : Spot) → r.unit.kind ≡ FunctionUnit → f.result ≡ Some spot → spot.basic ≡ (u.facts.program.attribute f.called.name).basic → ResultStands (files_of fs) ν.homes objects j (Some spot)
    unfolding address_in
    result_there spot function there typed =
        let res = one.result function in
        let name = one.entry.name in
        let reaches = known.knows.reaches name (record spot { basic = (u.facts.program.attribute name).basic }) (result_whole name spot res.own there) in
        let object = subst (λ k. Reaches ν (record spot { basic = (u.facts.program.attribute name).basic }) (address_in v b name k)) res.own reaches in
        let frame = frame_is in
        subst (λ k. ResultStandsAs k (files_of fs) ν.homes objects j spot) (sym (typed ∙ ap (λ (entry : EntryPoint). (u.facts.program.attribute entry.name).basic) (sym entry_is)))
        (number_result_stands (u.facts.program.attribute name).basic spot (res.numeric name res.own) (result_object v b) object.0
        (framed_object (length v.parameters) _ (framed_result v res.type res.returned) ∙ ap Some {x = e.function.frame + length v.parameters} {y = result_object v b} (omega (arith, frame))))

    result_stands : ResultStands (files_of fs) ν.homes objects j f.result
    result_stands = by r.unit.kind refl
      where
        kind_is : u.facts.program.kind ≡ r.unit.kind
        kind_is = ap (λ p. p.kind) program_is

        none_of : (r.unit.kind ≡ FunctionUnit → ⊥) → ResultStands (files_of fs) ν.homes objects j f.result
        none_of other = subst (ResultStands (files_of fs) ν.homes objects j) (sym (of.no_result (λ function. other (sym kind_is ∙ function)))) tt

        by : (k : UnitKind) → r.unit.kind ≡ k → ResultStands (files_of fs) ν.homes objects j f.result
        by FunctionUnit function =
            let p = of.result (kind_is ∙ function) in
            subst (ResultStands (files_of fs) ν.homes objects j) (sym p.1) (result_there p.0 function p.1 p.2)
        by MainProgram other = none_of (λ function. let no : MainProgram ≡ FunctionUnit = sym other ∙ function in absurd (cc))
        by SubroutineUnit other = none_of (λ function. let no : SubroutineUnit ≡ FunctionUnit = sym other ∙ function in absurd (cc))
        by BlockDataUnit other = none_of (λ function. let no : BlockDataUnit ≡ FunctionUnit = sym other ∙ function in absurd (cc))

  pub frames_stand : FramesStand (units_of rs) (files_of fs) s j e
  frames_stand μ ν f kept objects of known procedures held = record {
    unit = r.unit;
    is = objects_of.unit_at fs rs is j r at;
    function = j;
    has = objects_of.unit_named fs rs is j r at;
    dummies = dummies_stand μ ν f kept objects of known procedures held;
    result = result_stands μ ν f kept objects of known procedures held;
  }
