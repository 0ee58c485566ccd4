-- The units of the example are plain, and the functions that are said are made for them.
use Rattle.std.specs.Prelude.{◌≡◌, ℕ, zero, suc, ◌+◌, ◌<◌, ◌≤◌, ◌^◌, nat_eq, Bool, true, false, not, List, [], ◌∷◌, map, length, Some, None, slice_get, bytes_eq, if◌then◌else◌}
use Rattle.std.proofs.Common.{refl, sym, ap, ◌∙◌, subst, arith}
use Rattle.std.proofs.lemmas.Slice.Eq.{bytes_eq-Decides}
use Rattle.unit_translation.specs.f_tree.declared.names.Class.{Class}
use Rattle.unit_translation.specs.f_tree.declared.names.Class.TheVariants as class
use Rattle.unit_translation.specs.f_tree.Values.{Bytes}
use Rattle.unit_translation.specs.f_tree.CNames.{is_name, is_name_byte}
use Rattle.unit_translation.specs.f_tree.Facts.{Attribute, Member, Named, ProgramUnit}
use Rattle.unit_translation.specs.f_tree.Setting.{IsIn, first_in, later_in, IsMember, here, AreDistinct, no_names, another_name}
use Rattle.unit_translation.specs.f_tree.Valuing.{elements_of, extent_of}
use Rattle.unit_translation.specs.l_core.Steps.{Step, Halt, Text}
use Rattle.main_translation_laws.specs.lowering_laws.Layout.{without_loops}
use Rattle.unit_translation.specs.c_tree.Opened.{trees_opened}
use Rattle.unit_translation.specs.c_emit.Numbers.{is_numeric}
use Rattle.unit_translation.specs.faithful.StorageImage.{function_name}
use Rattle.unit_translation.specs.faithful.Signatures.{named_formals}
use Rattle.main_translation_laws.specs.linking_laws.Linked as names
use Rattle.unit_translation.specs.main_translation.Flow.{flow_opened}
use Rattle.unit_translation.specs.main_translation.Contents.{contents_opened, count_by, text_at}
use Rattle.unit_translation.specs.main_translation.Outlined.{labels_in, outlined_opened}
use Rattle.unit_translation.specs.unit_file.UnitFile.{WrittenUnit}
use Rattle.unit_translation.specs.unit_sites.UnitSites.{UnitsOfFile}
use Rattle.unit_translation.specs.UnitFlow.{unit_flow_opened}
use Rattle.unit_translation.specs.procedure_emission.kept_bounds.KeptBounds.{is_adjustable, kept_bounds_opened}
use Rattle.unit_translation.specs.UnitBounds.{unit_bounds_opened}
use Rattle.unit_translation.specs.UnitContents.{program_units, whole_text, temporaries_kept, constants_passed, unit_contents_opened}
use Rattle.unit_translation.specs.UnitBodies.{written_files, unit_bodies_opened}
use Rattle.main_translation_laws.proofs.linking_laws.Places.{some_same}
use Rattle.unit_programs.specs.unit_forms.OwnSetting.{own_facts}
use Rattle.unit_programs.specs.OwnStorage.{bytes_in}
use Rattle.unit_programs.proofs.ExampleParts.{fixed_by}
use Rattle.unit_programs.proofs.Told.{distinct_by, each_at}
use Rattle.unit_programs.specs.Example.{the_variable, the_dummy, the_function, the_subroutine, an_integer, no_name, main_attribute, function_attribute, subroutine_attribute, main_unit, function_unit, subroutine_unit, its_constants, main_steps, function_steps, subroutine_steps, main_inventory, function_inventory, subroutine_inventory, main_body, function_body, subroutine_body, example_opened}
use Rattle.unit_translation_laws.specs.Example.{lowered_main, lowered_function, lowered_subroutine, its_lowered_units, its_calls, its_lowered_files, its_written_files, its_lowered_apart, its_written_apart}
use Rattle.unit_translation_laws.specs.PlainUnits as asked
use Rattle.unit_translation_laws.specs.PlainUnits.{is_number, IsPlainDummy, HasPlainStorage, HasPlainBounds, IsPlainUnitText, IsPlainUnit, ArePlainUnits}

pub example_constants : constants_passed its_lowered_units ≡ its_constants
unfolding example_opened flow_opened contents_opened unit_flow_opened kept_bounds_opened unit_bounds_opened unit_contents_opened named_formals
example_constants = refl

-- with the texts of STOP as they are read off the steps
abbrev Texts : Type 0
Texts = ℕ → Bytes

abbrev main_with : Texts → WrittenUnit
main_with texts = record { inventory = record main_inventory { calls = its_calls; texts = texts }; body = main_body }

abbrev function_with : Texts → WrittenUnit
function_with texts = record { inventory = record function_inventory { texts = texts }; body = function_body }

abbrev subroutine_with : Texts → WrittenUnit
subroutine_with texts = record { inventory = record subroutine_inventory { texts = texts }; body = subroutine_body }

abbrev together_with : Texts → Texts → Texts → List UnitsOfFile
together_with a b c = record { constants = its_constants; units = main_with a ∷ function_with b ∷ subroutine_with c ∷ [] } ∷ []

abbrev apart_with : Texts → Texts → Texts → List UnitsOfFile
apart_with a b c = record { constants = its_constants; units = main_with a ∷ [] } ∷ record { constants = []; units = function_with b ∷ subroutine_with c ∷ [] } ∷ []

made_so : written_files its_lowered_files ≡ Some (together_with (λ n. text_at (slice_get main_steps n)) (λ n. text_at (slice_get function_steps n)) (λ n. text_at (slice_get subroutine_steps n)))
unfolding example_opened flow_opened contents_opened outlined_opened unit_flow_opened kept_bounds_opened unit_bounds_opened unit_contents_opened unit_bodies_opened trees_opened named_formals
made_so = refl

apart_so : written_files its_lowered_apart ≡ Some (apart_with (λ n. text_at (slice_get main_steps n)) (λ n. text_at (slice_get function_steps n)) (λ n. text_at (slice_get subroutine_steps n)))
unfolding example_opened flow_opened contents_opened outlined_opened unit_flow_opened kept_bounds_opened unit_bounds_opened unit_contents_opened unit_bodies_opened trees_opened named_formals
apart_so = refl

-- ## Steps without STOP

abbrev IsNoStop : Step → Type 0
IsNoStop (Halt text) = ⊥
IsNoStop st = Unit {0}

abbrev AreNoStops : List Step → Type 0
AreNoStops [] = Unit {0}
AreNoStops (st ∷ later) = IsNoStop st × AreNoStops later

no_text_of : (st : Step) → IsNoStop st → text_at (Some st) ≡ []
unfolding text_at
no_text_of (Halt text) none = absurd none
no_text_of st none = refl

no_text : (steps : List Step) → AreNoStops steps → (n : ℕ) → text_at (slice_get steps n) ≡ []
unfolding text_at
no_text [] none zero = refl
no_text [] none (suc n) = refl
no_text (st ∷ later) none zero = no_text_of st none.0
no_text (st ∷ later) none (suc n) = no_text later none.1 n

no_stop : (steps : List Step) → AreNoStops steps → (n : ℕ) (text : Bytes) → slice_get steps n ≡ Some (Halt text) → ⊥
no_stop [] none n text at = cc
no_stop (st ∷ later) none zero text at = subst IsNoStop (some_same st (Halt text) at) none.0
no_stop (st ∷ later) none (suc n) text at = no_stop later none.1 n text at

main_goes_on : AreNoStops main_steps
main_goes_on = (tt, (tt, (tt, (tt, (tt, (tt, (tt, tt)))))))

two_go_on : (first second : Step) → IsNoStop first → IsNoStop second → AreNoStops (first ∷ second ∷ [])
two_go_on first second one other = (one, (other, tt))

pub example_made : written_files its_lowered_files ≡ Some its_written_files
example_made = made_so ∙ (λ i. Some (together_with (λ n. no_text main_steps main_goes_on n i) (λ n. no_text function_steps (tt, (tt, tt)) n i) (λ n. no_text subroutine_steps (tt, (tt, tt)) n i)))

pub example_made_apart : written_files its_lowered_apart ≡ Some its_written_apart
example_made_apart = apart_so ∙ (λ i. Some (apart_with (λ n. no_text main_steps main_goes_on n i) (λ n. no_text function_steps (tt, (tt, tt)) n i) (λ n. no_text subroutine_steps (tt, (tt, tt)) n i)))

-- ## Names

main_names : (x : Bytes) (P : Attribute → Type 0) → (bytes_eq x the_variable ≡ true → P an_integer) → P (record an_integer { class = class.Procedure }) → P (record no_name { class = class.Procedure }) → P no_name → P (main_attribute x)
main_names x P own function subroutine other = by (bytes_eq x the_variable) (bytes_eq x the_function) (bytes_eq x the_subroutine) refl
  where
    by : (a b c : Bool) → bytes_eq x the_variable ≡ a → P (if a then an_integer else if b then record an_integer { class = class.Procedure } else if c then record no_name { class = class.Procedure } else no_name)
    by true b c h = own h
    by false true c h = function
    by false false true h = subroutine
    by false false false h = other

function_names : (x : Bytes) (P : Attribute → Type 0) → P (record an_integer { class = class.Result }) → (bytes_eq x the_dummy ≡ true → P (record an_integer { class = class.Dummy })) → P no_name → P (function_attribute x)
function_names x P result dummy other = by (bytes_eq x the_function) (bytes_eq x the_dummy) refl
  where
    by : (a b : Bool) → bytes_eq x the_dummy ≡ b → P (if a then record an_integer { class = class.Result } else if b then record an_integer { class = class.Dummy } else no_name)
    by true b h = result
    by false true h = dummy h
    by false false h = other

subroutine_names : (x : Bytes) (P : Attribute → Type 0) → (bytes_eq x the_dummy ≡ true → P (record an_integer { class = class.Dummy })) → P no_name → P (subroutine_attribute x)
subroutine_names x P dummy other = by (bytes_eq x the_dummy) refl
  where
    by : (b : Bool) → bytes_eq x the_dummy ≡ b → P (if b then record an_integer { class = class.Dummy } else no_name)
    by true h = dummy h
    by false h = other

main_bare : (x : Bytes) → (main_attribute x).bounds ≡ []
main_bare x = main_names x (λ a. a.bounds ≡ []) (λ h. refl) refl refl refl

main_flat : (x : Bytes) → (main_attribute x).dimensions ≡ []
main_flat x = main_names x (λ a. a.dimensions ≡ []) (λ h. refl) refl refl refl

function_bare : (x : Bytes) → (function_attribute x).bounds ≡ []
function_bare x = function_names x (λ a. a.bounds ≡ []) refl (λ h. refl) refl

function_flat : (x : Bytes) → (function_attribute x).dimensions ≡ []
function_flat x = function_names x (λ a. a.dimensions ≡ []) refl (λ h. refl) refl

subroutine_bare : (x : Bytes) → (subroutine_attribute x).bounds ≡ []
subroutine_bare x = subroutine_names x (λ a. a.bounds ≡ []) (λ h. refl) refl

subroutine_flat : (x : Bytes) → (subroutine_attribute x).dimensions ≡ []
subroutine_flat x = subroutine_names x (λ a. a.dimensions ≡ []) (λ h. refl) refl

-- of the main program: no dummy and no result
main_other : (A : Type 0) (x : Bytes) (k : Class) → (class.Stored ≡ k → A) → (class.Procedure ≡ k → A) → (class.Constant ≡ k → A) → (main_attribute x).class ≡ k → A
main_other A x k stored procedure constant = main_names x (λ a. a.class ≡ k → A) (λ h. stored) procedure procedure constant

function_other : (A : Type 0) (x : Bytes) (k : Class) → (class.Result ≡ k → A) → (class.Dummy ≡ k → A) → (class.Constant ≡ k → A) → (function_attribute x).class ≡ k → A
function_other A x k result dummy constant = function_names x (λ a. a.class ≡ k → A) result (λ h. dummy) constant

subroutine_other : (A : Type 0) (x : Bytes) (k : Class) → (class.Dummy ≡ k → A) → (class.Constant ≡ k → A) → (subroutine_attribute x).class ≡ k → A
subroutine_other A x k dummy constant = subroutine_names x (λ a. a.class ≡ k → A) (λ h. dummy) constant

-- ## What is asked of each unit

not_adjustable : (a : Attribute) → a.bounds ≡ [] → a.dimensions ≡ [] → is_adjustable a ≡ false
unfolding is_adjustable
not_adjustable a none flat = λ i. not (nat_eq (length (none i)) (length (flat i)))

bare_bounds : (unit : ProgramUnit) → ((x : Bytes) → (unit.attribute x).bounds ≡ []) → ((x : Bytes) → (unit.attribute x).dimensions ≡ []) → HasPlainBounds unit
bare_bounds unit none flat = record {
  ranked = λ m among. ap length (none m.name) ∙ ap length (sym (flat m.name));
  counted = λ m b bs among is. let no : [] ≡ b ∷ bs = sym (none m.name) ∙ is in absurd (cc);
  fits = λ x k b constant at. let no : None ≡ Some b = ap (λ bs. slice_get bs k) (sym (none x)) ∙ at in absurd (cc);
  closed = λ x k b constant at more. let no : None ≡ Some b = ap (λ bs. slice_get bs k) (sym (none x)) ∙ at in absurd (cc);
  adjustable = λ x is. let no : false ≡ true = sym (not_adjustable (unit.attribute x) (none x) (flat x)) ∙ is in absurd (cc);
}

nothing_stored : (unit : ProgramUnit) → unit.blocks ≡ [] → unit.ties ≡ [] → unit.images ≡ [] → unit.stored ≡ [] → ((x : Bytes) → (unit.attribute x).class ≡ class.Stored → ⊥) → HasPlainStorage unit
nothing_stored unit blocks ties images none other = record {
  blocks = blocks;
  ties = ties;
  images = images;
  stored = λ x own numeric. absurd (other x own);
  kept = λ m o. absurd (never m o);
  distinct = subst AreDistinct (sym none) no_names;
  named = λ m o. absurd (never m o);
  numbers = λ m o. absurd (never m o);
  wide = λ m o. absurd (never m o);
  sized = λ m o. absurd (never m o);
  within = λ m o. absurd (never m o);
  small = λ m o. absurd (never m o);
}
  where
    never : (m : Member) → IsIn m unit.stored → ⊥
    never m o = empty m (subst (IsIn m) none o)
      where
        empty : (n : Member) → IsIn n [] → ⊥
        empty n p = elim p [ ]

text_of : (u : Text) → 1 + length u.steps ≤ 2 ^ 64 → 1 + temporaries_kept u.steps ≤ 2 ^ 64 → 1 + length u.marks ≤ 2 ^ 64 → labels_in u.steps ≡ [] → AreNoStops u.steps → IsPlainUnitText u
text_of u steps temporaries marks none go_on = record {
  steps = steps;
  temporaries = temporaries;
  marks = marks;
  labels = λ label o. absurd (empty label (subst (IsIn label) none o));
  stops = λ n text at. absurd (no_stop u.steps go_on n text at);
}
  where
    empty : (label : ℕ) → IsIn label [] → ⊥
    empty label o = elim o [ ]

only_one : {A : Type 0} (P : A → Type 0) (a : A) → P a → (b : A) → IsIn b (a ∷ []) → P b
only_one P a so _ first_in = so
only_one P a so b (later_in o) = elim o [ ]

only_name : (x : List ℕ) → names.AreDistinct (x ∷ [])
only_name x zero zero name at at' = refl
only_name x zero (suc j) name at at' = absurd (cc)
only_name x (suc i) j name at at' = absurd (cc)

no_name_at_all : names.AreDistinct []
no_name_at_all i j name at at' = absurd (cc)

same_dummy : (x : Bytes) → bytes_eq x the_dummy ≡ true → IsIn x (the_dummy ∷ [])
same_dummy x h = subst (λ y. IsIn y (the_dummy ∷ [])) (sym ((bytes_eq-Decides x the_dummy).0 h)) first_in

function_dummy : (x : Bytes) → (function_attribute x).class ≡ class.Dummy → IsIn x (the_dummy ∷ [])
function_dummy x = function_names x (λ a. a.class ≡ class.Dummy → IsIn x (the_dummy ∷ [])) (λ same. absurd (cc)) (λ h same. same_dummy x h) (λ same. absurd (cc))

subroutine_dummy : (x : Bytes) → (subroutine_attribute x).class ≡ class.Dummy → IsIn x (the_dummy ∷ [])
subroutine_dummy x = subroutine_names x (λ a. a.class ≡ class.Dummy → IsIn x (the_dummy ∷ [])) (λ h same. same_dummy x h) (λ same. absurd (cc))

main_member : (x : Bytes) → (main_attribute x).class ≡ class.Stored → IsMember x main_unit.stored
main_member x =
    main_names x (λ a. a.class ≡ class.Stored → IsMember x main_unit.stored) (λ h same. subst (λ y. IsMember y main_unit.stored) (sym ((bytes_eq-Decides x the_variable).0 h)) here) (λ same. absurd (cc)) (λ same. absurd (cc)) (λ same. absurd (cc))

no_members : IsMember the_variable [] → ⊥
no_members o = elim o [ ]

main_is_plain : IsPlainUnit its_lowered_units 0 lowered_main
unfolding example_opened contents_opened outlined_opened kept_bounds_opened unit_bounds_opened unit_contents_opened named_formals is_name is_name_byte
main_is_plain = record {
  lowered = refl;
  text = text_of (whole_text lowered_main) (omega arith) (omega arith) (omega arith) refl main_goes_on;
  direct = refl;
  ended = refl;
  loops = without_loops refl;
  runs = λ h. absurd (cc);
  name = [];
  formals = [];
  entry = refl;
  main = λ h. refl;
  dummies = record {
    plain = λ x o. elim o [ ];
    named = λ x o. elim o [ ];
    distinct = no_name_at_all;
    variables = λ x own numeric. absurd (main_other ⊥ x class.Dummy (λ h. absurd (cc)) (λ h. absurd (cc)) (λ h. absurd (cc)) own);
    procedures = λ x own. absurd (main_other ⊥ x class.DummyProcedure (λ h. absurd (cc)) (λ h. absurd (cc)) (λ h. absurd (cc)) own);
  };
  result = record {
    own = λ h. absurd (cc);
    numeric = λ x own. absurd (main_other ⊥ x class.Result (λ h. absurd (cc)) (λ h. absurd (cc)) (λ h. absurd (cc)) own);
    alone = λ x own. main_flat x;
  };
  storage = record {
    blocks = refl;
    ties = refl;
    images = refl;
    stored = λ x own numeric. main_member x own;
    kept = only_one (λ (m : Member). (main_attribute m.name).class ≡ class.Stored) (record { name = the_variable; size = 4 }) refl;
    distinct = another_name no_members no_names;
    named = only_one (λ (m : Member). is_name m.name ≡ true) (record { name = the_variable; size = 4 }) refl;
    numbers = only_one (λ (m : Member). is_numeric (main_attribute m.name).basic ≡ true) (record { name = the_variable; size = 4 }) refl;
    wide = only_one (λ (m : Member). (main_attribute m.name).width ≡ Some 4) (record { name = the_variable; size = 4 }) refl;
    sized = only_one (λ (m : Member). m.size ≡ bytes_in (count_by (main_attribute m.name).bounds)) (record { name = the_variable; size = 4 }) refl;
    within = only_one (λ (m : Member). extent_of (elements_of (main_attribute m.name).bounds) 4 ≤ m.size) (record { name = the_variable; size = 4 }) (omega arith);
    small = only_one (λ (m : Member). m.size < 2147483648) (record { name = the_variable; size = 4 }) (omega arith);
  };
  bounds = bare_bounds main_unit main_bare main_flat;
}

function_is_plain : IsPlainUnit its_lowered_units 1 lowered_function
unfolding example_opened contents_opened outlined_opened kept_bounds_opened unit_bounds_opened unit_contents_opened named_formals is_name is_name_byte
function_is_plain = record {
  lowered = refl;
  text = text_of (whole_text lowered_function) (omega arith) (omega arith) (omega arith) refl (tt, (tt, tt));
  direct = refl;
  ended = refl;
  loops = without_loops refl;
  runs = λ h. absurd (cc);
  name = the_function;
  formals = Named the_dummy ∷ [];
  entry = refl;
  main = λ h. absurd (cc);
  dummies = record {
    plain = only_one (IsPlainDummy its_lowered_units 1 lowered_function) the_dummy (is_number refl refl refl (asked.constant refl (fixed_by (own_facts (program_units its_lowered_units) 1 function_unit) the_dummy refl refl)) refl);
    named = only_one (λ x. is_name x ≡ true) the_dummy refl;
    distinct = only_name the_dummy;
    variables = λ x own numeric. function_dummy x own;
    procedures = λ x own. absurd (function_other ⊥ x class.DummyProcedure (λ h. absurd (cc)) (λ h. absurd (cc)) (λ h. absurd (cc)) own);
  };
  result = record {
    own = λ h. refl;
    numeric = λ x own. (refl, function_names x (λ a. a.class ≡ class.Result → is_numeric a.basic ≡ true) (λ same. refl) (λ h same. absurd (cc)) (λ same. absurd (cc)) own);
    alone = λ x own. function_flat x;
  };
  storage = nothing_stored function_unit refl refl refl refl (λ x own. function_other ⊥ x class.Stored (λ h. absurd (cc)) (λ h. absurd (cc)) (λ h. absurd (cc)) own);
  bounds = bare_bounds function_unit function_bare function_flat;
}

subroutine_is_plain : IsPlainUnit its_lowered_units 2 lowered_subroutine
unfolding example_opened contents_opened outlined_opened kept_bounds_opened unit_bounds_opened unit_contents_opened named_formals is_name is_name_byte
subroutine_is_plain = record {
  lowered = refl;
  text = text_of (whole_text lowered_subroutine) (omega arith) (omega arith) (omega arith) refl (tt, (tt, tt));
  direct = refl;
  ended = refl;
  loops = without_loops refl;
  runs = λ h. absurd (cc);
  name = the_subroutine;
  formals = Named the_dummy ∷ [];
  entry = refl;
  main = λ h. absurd (cc);
  dummies = record {
    plain = only_one (IsPlainDummy its_lowered_units 2 lowered_subroutine) the_dummy
        (is_number refl refl refl (asked.constant refl (fixed_by (own_facts (program_units its_lowered_units) 2 subroutine_unit) the_dummy refl refl)) refl);
    named = only_one (λ x. is_name x ≡ true) the_dummy refl;
    distinct = only_name the_dummy;
    variables = λ x own numeric. subroutine_dummy x own;
    procedures = λ x own. absurd (subroutine_other ⊥ x class.DummyProcedure (λ h. absurd (cc)) (λ h. absurd (cc)) own);
  };
  result = record {
    own = λ h. absurd (cc);
    numeric = λ x own. absurd (subroutine_other ⊥ x class.Result (λ h. absurd (cc)) (λ h. absurd (cc)) own);
    alone = λ x own. subroutine_flat x;
  };
  storage = nothing_stored subroutine_unit refl refl refl refl (λ x own. subroutine_other ⊥ x class.Stored (λ h. absurd (cc)) (λ h. absurd (cc)) own);
  bounds = bare_bounds subroutine_unit subroutine_bare subroutine_flat;
}

pub example_plain : ArePlainUnits its_lowered_units
example_plain = record {
  units = each_at (IsPlainUnit its_lowered_units) its_lowered_units (main_is_plain, (function_is_plain, (subroutine_is_plain, tt)));
  some = omega arith;
  differ = differ;
}
  where
    differ : names.AreDistinct (map function_name (program_units its_lowered_units))
    differ = distinct_by (map function_name (program_units its_lowered_units)) (unfold example_opened in refl)
