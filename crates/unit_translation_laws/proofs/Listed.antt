-- The names of a unit are listed, each as what it is: its variables, its dummies and its result.
use Rattle.std.specs.List.{list_all}
use Rattle.std.specs.Prelude.{length, ◌≡◌, ◌≢◌, ℕ, suc, Bool, true, false, List, [], ◌∷◌, map, position, Some, option_map, is_some, slice_get, bytes_eq}
use Rattle.std.proofs.Common.{arith, refl, sym, ap, ◌∙◌, subst}
use Rattle.std.proofs.lemmas.List.{length-map}
use Rattle.std.proofs.lemmas.Slice.Eq.{bytes_eq-Decides}
use Rattle.unit_translation.specs.f_tree.declared.names.Class.TheVariants as class
use Rattle.unit_translation.specs.f_tree.Values.{Bytes}
use Rattle.unit_translation.specs.f_tree.CNames.{is_name}
use Rattle.unit_translation.specs.f_tree.Facts.{Dimension, Bounds, Formal, UnitKind, MainProgram, SubroutineUnit, FunctionUnit, BlockDataUnit}
use Rattle.unit_translation.specs.f_tree.Setting.{IsIn, first_in, later_in}
use Rattle.unit_translation.specs.f_tree.Valuing.{elements_of}
use Rattle.unit_translation.specs.f_tree.Meaning.{facts_at}
use Rattle.unit_translation.specs.c_tree.declared.types.ResultType.TheVariants as result_type
use Rattle.unit_translation.specs.c_tree.declared.types.ParameterType.{ParameterType}
use Rattle.unit_translation.specs.c_emit.Numbers.{has_shape, is_numeric}
use Rattle.unit_translation.specs.faithful.Signatures.{named_formals}
use Rattle.main_translation_laws.specs.linking_laws.Linked as names
use Rattle.main_translation_laws.proofs.linking_laws.Places.{same_bytes, taken, skipped, position_step, map_at, distinct_later}
use Rattle.unit_programs.specs.unit_forms.OwnSetting.{own_facts}
use Rattle.unit_translation.specs.procedure_emission.EmittedUnits.{is_number_pointer, is_function_pointer}
use Rattle.unit_translation.specs.procedure_emission.kept_bounds.KeptBounds.{is_adjustable, dimension_is_pure}
use Rattle.unit_translation.specs.main_translation.Contents.{count_by, number_type_of, variable_of}
use Rattle.main_translation_laws.proofs.Lists.{AreApart, none_apart, one_apart, in_map, in_at, at_in}
use Rattle.main_translation_laws.proofs.Storage.{name_is, count_is, placed_at, own_place}
use Rattle.unit_translation.specs.unit_file.UnitFile.{Parameter, KeptBound, Inventory}
use Rattle.unit_programs.specs.unit_file_laws.KnownUnits.{IsVariable, IsParameter, NamesAreListed}
use Rattle.unit_translation.specs.UnitContents.{LoweredUnit, program_units, parameter_for, formals_in, parameters_in, type_given, basic_given, result_by, returned_by, result_given, inventory_of}
use Rattle.unit_programs.specs.OwnStorage.{bytes_in, HasOwnStorage}
use Rattle.unit_programs.specs.TranslatedUnits.{dummies_named, IsBoundValue, BoundsAreWritten, DummyBounds, are_written, are_kept, IsDummy, is_number, is_procedure, IsResult}
use Rattle.unit_translation_laws.specs.PlainUnits as plain
use Rattle.unit_translation_laws.specs.PlainUnits.{HasPlainStorage, HasPlainBounds, HasDummyBounds, IsPlainDummy, HasPlainDummies, HasPlainResult}
use Rattle.unit_translation_laws.proofs.KeptPlaces.{none_there}
use Rattle.unit_translation_laws.proofs.ListedBounds.{dummies_are, adjustable_parts, bounds_are_kept, value_kept}

-- ## Dummies

abbrev pub parameter_by : LoweredUnit → Bytes → Parameter
parameter_by u x = record { name = x; type = parameter_for (u.use_of x) }

-- the parameter of a name stands at its place
record IsNamedAt (u : LoweredUnit) (xs : List Bytes) (x : Bytes) : Type 0 where
  index : ℕ
  place : position (λ (p : Parameter). bytes_eq x p.name) (map (parameter_by u) xs) ≡ Some index
  at : slice_get xs index ≡ Some x

named_first : (u : LoweredUnit) (y : Bytes) (xs : List Bytes) (x : Bytes) → x ≡ y → IsNamedAt u (y ∷ xs) x
named_first u y xs x same = record {
  index = 0;
  place = position_step (λ (p : Parameter). bytes_eq x p.name) (parameter_by u y) (map (parameter_by u) xs)
      ∙ taken (bytes_eq x y) (Some 0) (option_map suc (position (λ (p : Parameter). bytes_eq x p.name) (map (parameter_by u) xs))) (same_bytes x y same);
  at = ap Some (sym same);
}

named_later : (u : LoweredUnit) (y : Bytes) (xs : List Bytes) (x : Bytes) → bytes_eq x y ≡ false → IsNamedAt u xs x → IsNamedAt u (y ∷ xs) x
named_later u y xs x other later = record {
  index = suc later.index;
  place = position_step (λ (p : Parameter). bytes_eq x p.name) (parameter_by u y) (map (parameter_by u) xs)
      ∙ skipped (bytes_eq x y) (Some 0) (option_map suc (position (λ (p : Parameter). bytes_eq x p.name) (map (parameter_by u) xs))) other ∙ ap (option_map suc) later.place;
  at = later.at;
}

named_at : (u : LoweredUnit) (x : Bytes) (xs : List Bytes) → IsIn x xs → IsNamedAt u xs x
named_at u x _ (first_in {as' = xs}) = named_first u x xs x refl
named_at u x _ (later_in {b = y} {as' = xs} o) = by (bytes_eq x y) refl (named_at u x xs o)
  where
    by : (b : Bool) → bytes_eq x y ≡ b → IsNamedAt u xs x → IsNamedAt u (y ∷ xs) x
    by true same later = named_first u y xs x ((bytes_eq-Decides x y).0 same)
    by false other later = named_later u y xs x other later

names_of_parameters : (u : LoweredUnit) (xs : List Bytes) → map (λ (p : Parameter). p.name) (map (parameter_by u) xs) ≡ xs
names_of_parameters u [] = refl
names_of_parameters u (x ∷ xs) = ap (λ ys. x ∷ ys) (names_of_parameters u xs)

apart_by : (xs : List (List ℕ)) → names.AreDistinct xs → AreApart xs
apart_by [] distinct = none_apart
apart_by (x ∷ xs) distinct = one_apart (λ y o same. first y o same) (apart_by xs (distinct_later x xs distinct))
  where
    first : (y : List ℕ) → IsIn y xs → x ≢ y
    first y o same = let found = at_in y xs o in let no : 0 ≡ suc found.index = distinct 0 (suc found.index) y (ap Some same) found.at in absurd (cc)

-- ## Bounds

counted_by : (ds : List Dimension) (bs : List Bounds) → length bs ≡ length ds → ((b : Bounds) (rest : List Bounds) → bs ≡ b ∷ rest → (n : ℕ) × (elements_of (b ∷ rest) ≡ Some n)) → is_some (count_by bs) ≡ has_shape ds
unfolding count_by has_shape
counted_by [] [] same counted = refl
counted_by [] (b ∷ bs) same counted = absurd (omega (arith, same))
counted_by (d ∷ ds) [] same counted = absurd (omega (arith, same))
counted_by (d ∷ ds) (b ∷ bs) same counted = ap is_some (counted b bs refl).1

no_shape : (ds : List Dimension) → ds ≡ [] → has_shape ds ≡ false
unfolding has_shape
no_shape ds none = ap has_shape none

-- ## A unit

module _ (us : List LoweredUnit) (j : ℕ) (u : LoweredUnit) where
  abbrev v : Inventory
  v = inventory_of us u

  pub own_storage : HasPlainStorage u.unit → HasOwnStorage u.unit v
  own_storage has = record {
    blocks = has.blocks;
    ties = has.ties;
    images = has.images;
    listed = λ i m at. (variable_of u.unit m, map_at (variable_of u.unit) u.unit.stored i m at, name_is u.unit m, has.sized m (in_at u.unit.stored i m at) ∙ ap bytes_in (sym (count_is u.unit m)));
    as_many = length-map u.unit.stored (variable_of u.unit);
    small = λ i m at. has.small m (in_at u.unit.stored i m at);
    first = λ i m at. own_place u.unit u.unit.stored i m has.distinct at;
    numbers = λ i m at. has.numbers m (in_at u.unit.stored i m at);
    wide = λ i m at. has.wide m (in_at u.unit.stored i m at);
    within = λ i m at. has.within m (in_at u.unit.stored i m at);
  }

  module _ (name : Bytes) (formals : List Formal) (entry : u.unit.entries ≡ record { name = name; formals = formals; start = 0 } ∷ []) where
    parameters_are : v.parameters ≡ map (parameter_by u) (named_formals formals)
    unfolding parameters_in formals_in
    parameters_are = ap (λ es. map (parameter_by u) (named_formals (formals_in es))) entry

    pub dummies_listed : dummies_named formals ≡ map (λ (p : Parameter). p.name) v.parameters
    dummies_listed = dummies_are formals ∙ sym (names_of_parameters u (named_formals formals)) ∙ ap (map (λ (p : Parameter). p.name)) (sym parameters_are)

    record IsOfDummy (p : Parameter) : Type 0 where
      dummy : Bytes
      among : IsIn dummy (named_formals formals)
      is : parameter_by u dummy ≡ p

    of_dummy : (p : Parameter) → IsIn p v.parameters → IsOfDummy p
    of_dummy p o = let found = in_map (parameter_by u) (named_formals formals) p (subst (IsIn p) parameters_are o) in record { dummy = found.from; among = found.among; is = found.is }

    pub parameters_apart : names.AreDistinct (named_formals formals) → AreApart (map (λ (p : Parameter). p.name) v.parameters)
    parameters_apart distinct = subst AreApart (sym (names_of_parameters u (named_formals formals)) ∙ ap (map (λ (p : Parameter). p.name)) (sym parameters_are)) (apart_by (named_formals formals) distinct)

    its_formals : named_formals (formals_in u.unit.entries) ≡ named_formals formals
    unfolding formals_in
    its_formals = ap (λ es. named_formals (formals_in es)) entry

    pub formals_apart : names.AreDistinct (named_formals formals) → AreApart (named_formals (formals_in u.unit.entries))
    formals_apart distinct = subst AreApart (sym its_formals) (apart_by (named_formals formals) distinct)

    module _ (has : HasPlainDummies us j u formals) where
      pub parameter_named : (p : Parameter) → IsIn p v.parameters → is_name p.name ≡ true
      parameter_named p o = let d = of_dummy p o in subst (λ (q : Parameter). is_name q.name ≡ true) d.is (has.named d.dummy d.among)

      -- dummies are of no other class
      dummy_class : (A : Type 0) (x : Bytes) → IsPlainDummy us j u x → ((u.unit.attribute x).class ≡ class.Dummy → A) → ((u.unit.attribute x).class ≡ class.DummyProcedure → A) → A
      dummy_class A x (plain.is_number own numeric wide its_bounds points) variable procedure = variable own
      dummy_class A x (plain.is_procedure own its_bounds points) variable procedure = procedure own

      pub parameter_class : (A : Type 0) (p : Parameter) → IsIn p v.parameters → ((u.unit.attribute p.name).class ≡ class.Dummy → A) → ((u.unit.attribute p.name).class ≡ class.DummyProcedure → A) → A
      parameter_class A p o variable procedure =
          let d = of_dummy p o in
          dummy_class A d.dummy (has.plain d.dummy d.among) (λ own. variable (ap (λ (q : Parameter). (u.unit.attribute q.name).class) (sym d.is) ∙ own)) (λ own. procedure (ap (λ (q : Parameter). (u.unit.attribute q.name).class) (sym d.is) ∙ own))

      -- ### Names

      number_points : (x : Bytes) → IsPlainDummy us j u x → (u.unit.attribute x).class ≡ class.Dummy → is_number_pointer (parameter_for (u.use_of x)) ≡ true
      number_points x (plain.is_number own numeric wide its_bounds points) is = points
      number_points x (plain.is_procedure own its_bounds points) is = let no : class.DummyProcedure ≡ class.Dummy = sym own ∙ is in absurd (cc)

      function_points : (x : Bytes) → IsPlainDummy us j u x → (u.unit.attribute x).class ≡ class.DummyProcedure → is_function_pointer (parameter_for (u.use_of x)) ≡ true
      function_points x (plain.is_number own numeric wide its_bounds points) is = let no : class.Dummy ≡ class.DummyProcedure = sym own ∙ is in absurd (cc)
      function_points x (plain.is_procedure own its_bounds points) is = points

      listed_parameter : (x : Bytes) (points : ParameterType → Bool) → IsIn x (named_formals formals) → points (parameter_for (u.use_of x)) ≡ true → IsParameter v x points
      listed_parameter x points among typed =
          let p = named_at u x (named_formals formals) among in
          record {
            place = p.index;
            one = parameter_by u x;
            placed = ap (position (λ (q : Parameter). bytes_eq x q.name)) parameters_are ∙ p.place;
            at = ap (λ ps. slice_get ps p.index) parameters_are ∙ map_at (parameter_by u) (named_formals formals) p.index x p.at;
            typed = typed;
          }

      -- ### Bounds

      pub pure_dimensions : (x : Bytes) → IsIn x (named_formals (formals_in u.unit.entries)) → is_adjustable (u.unit.attribute x) ≡ true → list_all dimension_is_pure (u.unit.attribute x).dimensions ≡ true
      unfolding facts_at
      pure_dimensions x among is = by (has.plain x (subst (IsIn x) its_formals among))
        where
          by_bounds : HasDummyBounds us j u x → list_all dimension_is_pure (u.unit.attribute x).dimensions ≡ true
          by_bounds (plain.constant constant fixed) = let no : false ≡ true = sym constant ∙ is in absurd (cc)
          by_bounds (plain.adjustable h) = (adjustable_parts (own_facts (program_units us) j u.unit) x h).pure

          by : IsPlainDummy us j u x → list_all dimension_is_pure (u.unit.attribute x).dimensions ≡ true
          by (plain.is_number own numeric wide its_bounds points) = by_bounds its_bounds
          by (plain.is_procedure own its_bounds points) = by_bounds its_bounds

      module _ (bounds : HasPlainBounds u.unit) where
        written : (x : Bytes) → is_adjustable (u.unit.attribute x) ≡ false → BoundsAreWritten (own_facts (program_units us) j u.unit) v x
        unfolding facts_at
        written x constant = record {
          unkept = none_there u.unit x (λ o adjustable. let no : false ≡ true = sym constant ∙ adjustable in absurd (cc));
          fits = λ k b at. bounds.fits x k b constant at;
          closed = λ k b at more. bounds.closed x k b constant at more;
        }

        dummy_bounds : (x : Bytes) → IsIn x (named_formals formals) → HasDummyBounds us j u x → DummyBounds (own_facts (program_units us) j u.unit) v x
        unfolding facts_at
        dummy_bounds x among (plain.constant constant fixed) = are_written fixed (written x constant)
        dummy_bounds x among (plain.adjustable is) = are_kept (bounds_are_kept (own_facts (program_units us) j u.unit) v refl x (subst (IsIn x) (sym its_formals) among) is)

        dummy_by : (x : Bytes) → IsIn x (named_formals formals) → IsPlainDummy us j u x → IsDummy (own_facts (program_units us) j u.unit) v (parameter_by u x)
        unfolding facts_at
        dummy_by x among (plain.is_number own numeric wide its_bounds points) = is_number own numeric wide (dummy_bounds x among its_bounds) points
        dummy_by x among (plain.is_procedure own its_bounds points) = is_procedure own (dummy_bounds x among its_bounds) points

        pub parameter_is : (i : ℕ) (p : Parameter) → slice_get v.parameters i ≡ Some p → IsDummy (own_facts (program_units us) j u.unit) v p
        parameter_is i p at = let d = of_dummy p (in_at v.parameters i p at) in subst (IsDummy (own_facts (program_units us) j u.unit) v) d.is (dummy_by d.dummy d.among (has.plain d.dummy d.among))

        -- only dummies have bounds that a call gives
        pub others_written : (x : Bytes) → (IsIn x (dummies_named formals) → ⊥) → BoundsAreWritten (own_facts (program_units us) j u.unit) v x
        others_written x other = by (is_adjustable (u.unit.attribute x)) refl
          where
            by : (t : Bool) → is_adjustable (u.unit.attribute x) ≡ t → BoundsAreWritten (own_facts (program_units us) j u.unit) v x
            by false constant = written x constant
            by true is = let own = bounds.adjustable x is in absurd (other (subst (IsIn x) (sym (dummies_are formals)) (has.variables x own.0 own.1)))

        pub values_kept : (i : ℕ) (one : KeptBound) → slice_get v.bounds i ≡ Some one → IsBoundValue (own_facts (program_units us) j u.unit) formals one.value
        unfolding facts_at formals_in
        values_kept i one at =
            subst (λ es. IsBoundValue (own_facts (program_units us) j u.unit) (formals_in es) one.value) entry
            (value_kept (own_facts (program_units us) j u.unit) v refl one (in_at v.bounds i one at))

      module _ (storage : HasPlainStorage u.unit) (bounds : HasPlainBounds u.unit) (result : HasPlainResult u.unit name) where
        stored_listed : (x : Bytes) → (u.unit.attribute x).class ≡ class.Stored → is_numeric (u.unit.attribute x).basic ≡ true → IsVariable v x (has_shape (u.unit.attribute x).dimensions)
        stored_listed x own numeric =
            let p = placed_at u.unit x u.unit.stored (storage.stored x own numeric) in
            record {
              place = p.index;
              one = variable_of u.unit p.member;
              placed = p.place;
              at = map_at (variable_of u.unit) u.unit.stored p.index p.member p.at;
              counted = ap is_some (count_is u.unit p.member) ∙ counted_by (u.unit.attribute p.member.name).dimensions (u.unit.attribute p.member.name).bounds (bounds.ranked p.member (in_at u.unit.stored p.index p.member p.at)) (λ b rest is. bounds.counted p.member b rest (in_at u.unit.stored p.index p.member p.at) is)
                  ∙ ap (λ y. has_shape (u.unit.attribute y).dimensions) p.called;
            }

        basic_is : u.unit.kind ≡ FunctionUnit → basic_given u.unit u.unit.kind ≡ Some (u.unit.attribute name).basic
        unfolding basic_given type_given
        basic_is function = ap (basic_given u.unit) function ∙ ap (type_given u.unit) entry

        returned_is : u.unit.kind ≡ FunctionUnit → v.returned ≡ Some (number_type_of (u.unit.attribute name).basic)
        unfolding returned_by
        returned_is function = ap returned_by (basic_is function)

        pub names_listed : NamesAreListed v (own_facts (program_units us) j u.unit)
        unfolding facts_at
        names_listed = record {
          stored = stored_listed;
          dummies = λ x own numeric. let among = has.variables x own numeric in listed_parameter x is_number_pointer among (number_points x (has.plain x among) own);
          procedures = λ x own. let among = has.procedures x own in listed_parameter x is_function_pointer among (function_points x (has.plain x among) own);
          results = λ x own numeric. (no_shape (u.unit.attribute x).dimensions (result.alone x own), (number_type_of (u.unit.attribute name).basic, returned_is (result.numeric x own).0));
        }

        pub result_is : u.unit.kind ≡ FunctionUnit → IsResult (own_facts (program_units us) j u.unit) v (record { name = name; formals = formals; start = 0 })
        unfolding facts_at result_given result_by
        result_is function = record {
          type = number_type_of (u.unit.attribute name).basic;
          returned = returned_is function;
          own = result.own function;
          numeric = λ x own. (result.numeric x own).1;
          gives = ap result_by (basic_is function);
        }

  pub no_result : u.unit.kind ≢ FunctionUnit → v.result ≡ result_type.Int
  unfolding result_given result_by basic_given
  no_result other = by u.unit.kind other
    where
      by : (k : UnitKind) → k ≢ FunctionUnit → result_by (basic_given u.unit k) ≡ result_type.Int
      by MainProgram differ = refl
      by SubroutineUnit differ = refl
      by FunctionUnit differ = absurd (differ refl)
      by BlockDataUnit differ = refl
