-- The C files of units that call each other are well formed.
use Rattle.std.specs.List.{list_all}
use Rattle.std.specs.Prelude.{◌≡◌, ◌≢◌, ℕ, ◌+◌, ◌*◌, nat_le, ℤ, Bool, true, false, ◌||◌, List, [], ◌∷◌, ◌++◌, map, length, Some, unwrap_or, slice_get, bytes_eq}
use Rattle.std.proofs.Common.{refl, sym, ap, ◌∙◌, subst, arith}
use Rattle.std.proofs.lemmas.Bool.{leb-true}
use Rattle.std.proofs.lemmas.List.{append_assoc}
use Rattle.main_file_texts.specs.f_tree.Values.{in_range}
use Rattle.main_file_texts.specs.f_tree.Facts.{ProgramUnit}
use Rattle.main_file_texts.specs.f_tree.Setting.{IsIn, first_in, later_in}
use Rattle.c_spelling.specs.c_tree.Drafts as linking
use Rattle.c_spelling.specs.c_tree.CWords.{is_among}
use Rattle.c_spelling.specs.c_tree.CLabels.{labels_meet}
use Rattle.c_spelling.specs.c_tree.CExpressionText.{Scope}
use Rattle.c_spelling.specs.c_tree.CDeclarationText.{IsLength, with_function}
use Rattle.c_spelling.specs.c_tree.CText.{no_names, ReadsFunction, WellFormed}
use Rattle.c_spelling.specs.c_tree.Linking.{declared_constants, file_scope}
use Rattle.c_spelling.proofs.c_laws.TokenSpellings.{and-first, and-second}
use Rattle.main_file_texts.specs.c_structure_laws.Fitting.{KnowsItems}
use Rattle.main_file_texts.specs.linking_laws.Linked as linked
use Rattle.main_file_texts.specs.linking_laws.Linked.{AreDistinct, routines_of, outside_of}
use Rattle.main_file_texts.proofs.linking_laws.BuiltCode.{built_fit}
use Rattle.main_file_texts.proofs.linking_laws.Places.{some_same, get_front, get_back, within, some_at}
use Rattle.main_file_texts.specs.main_file.MainFile.{temporary_names}
use Rattle.main_file_texts.proofs.main_programs.MainStorage.{map_back}
use Rattle.main_file_texts.proofs.main_translation_laws.Lists.{AreApart, none_apart, one_apart, at_in, in_either, InEither, in_one, in_other, apart_append}
use Rattle.unit_programs.specs.unit_file.UnitFile.{Variable, Inventory, WrittenUnit, constant_for, bound_name, unit_locals, unit_function, units_file, result_names, lasting_names, framed_names}
use Rattle.unit_programs.specs.unit_file.UnitNames.{constant_names, called_names}
use Rattle.unit_programs.specs.unit_file.UnitSavings.{savings_of}
use Rattle.unit_programs.specs.unit_sites.UnitSites.{UnitsOfFile, files_of}
use Rattle.unit_programs.specs.unit_places.UnitPlaces.{file_with}
use Rattle.unit_programs.specs.unit_file_laws.KnownUnits.{NamesDiffer, unit_writing}
use Rattle.unit_programs.specs.OwnStorage.{bytes_in, HasOwnStorage}
use Rattle.unit_programs.specs.TranslatedUnits.{Rendering, written_of, numbers_of, whole_text, IsTranslatedUnit, IsTranslatedSet}
use Rattle.unit_programs.proofs.Objects.{its_items}
use Rattle.main_file_texts.specs.WellFormedMains.{Agrees, AreSpelled, IsSpelled}
use Rattle.main_file_texts.proofs.Declared.{same_text, none_among, none_in_first, local_names, with_all, with_constants, constant_texts, parameter_names, with_params, with_functions, names_agree, around_units}
use Rattle.main_file_texts.proofs.SpelledStatements.{statements_are_spelled}
use Rattle.main_file_texts.proofs.MeetingLabels.{labels_do_meet}
use Rattle.main_file_texts.proofs.Declarations.{AreReadable, AllNew, all_new}
use Rattle.main_file_texts.proofs.Files.{apart_by, all_words, constants_named, declared_named, constant_fit}
use Rattle.unit_file_texts.specs.WellFormedUnits.{parameter_words, local_words, has_elements, is_short, IsSpellable, AreSpellable, AreOfOneFile, UnitFilesAreWellFormed}
use Rattle.unit_file_texts.proofs.UnitFieldless.{whole_items_fieldless}
use Rattle.unit_file_texts.proofs.UnitParts.{new_first, new_last, params_named, locals_readable, locals_named, params_of, scope_within, function_spelled, names_in, file_spelled}

-- ## Lists

all_hold : {A : Type 0} (p : A → Bool) (xs : List A) → list_all p xs ≡ true → (x : A) → IsIn x xs → p x ≡ true
all_hold p [] all x o = elim o [ ]
all_hold p (x ∷ xs) all _ first_in = and-first (p x) (list_all p xs) all
all_hold p (x ∷ xs) all y (later_in o) = all_hold p xs (and-second (p x) (list_all p xs) all) y o

in_front : (y : List ℕ) (names more : List (List ℕ)) → IsIn y names → IsIn y (names ++ more)
in_front y [] more o = elim o [ ]
in_front _ (x ∷ names) more first_in = first_in
in_front y (x ∷ names) more (later_in o) = later_in (in_front y names more o)

in_back : (y : List ℕ) (names more : List (List ℕ)) → IsIn y more → IsIn y (names ++ more)
in_back y [] more o = o
in_back y (x ∷ names) more o = later_in (in_back y names more o)

in_list : (x : List ℕ) (names : List (List ℕ)) → is_among x names ≡ true → IsIn x names
in_list x [] is = absurd (cc)
in_list x (y ∷ later) is = by (bytes_eq x y) refl is (in_list x later)
  where
    by : (b : Bool) → bytes_eq x y ≡ b → (b || is_among x later) ≡ true → (is_among x later ≡ true → IsIn x later) → IsIn x (y ∷ later)
    by true same h again = subst (λ z. IsIn x (z ∷ later)) (same_text x y same) first_in
    by false other h again = later_in (again h)

first_apart : (names more : List (List ℕ)) → AreApart (names ++ more) → AreApart names
first_apart [] more apart = none_apart
first_apart (x ∷ names) more (one_apart none later) = one_apart (λ y o same. none y (in_front y names more o) same) (first_apart names more later)

last_apart : (names more : List (List ℕ)) → AreApart (names ++ more) → AreApart more
last_apart [] more apart = apart
last_apart (x ∷ names) more (one_apart none later) = last_apart names more later

differ_between : (names more : List (List ℕ)) → AreApart (names ++ more) → (x y : List ℕ) → IsIn x names → IsIn y more → x ≢ y
differ_between [] more apart x y p o = elim p [ ]
differ_between (z ∷ names) more (one_apart none later) _ y first_in o = none y (in_back y names more o)
differ_between (z ∷ names) more (one_apart none later) x y (later_in p) o = differ_between names more later x y p o

none_between : (names more : List (List ℕ)) → AreApart (names ++ more) → (x : List ℕ) → is_among x names ≡ true → is_among x more ≡ false
none_between names more apart x is = none_among x more (λ y o. differ_between names more apart x y (in_list x names is) o)

at_back : {A : Type 0} (xs : List A) (y : A) (ys : List A) → slice_get (xs ++ y ∷ ys) (length xs) ≡ Some y
at_back [] y ys = refl
at_back (x ∷ xs) y ys = at_back xs y ys

functions_end : (scope : Scope) (names : List (List ℕ)) (name : List ℕ) → with_functions scope (names ++ name ∷ []) ≡ with_function name (with_functions scope names)
functions_end scope [] name = refl
functions_end scope (x ∷ names) name = functions_end (with_function x scope) names name

names_around : (before : List WrittenUnit) (w : WrittenUnit) (after : List WrittenUnit) → names_in (before ++ w ∷ after) ≡ (names_in before ++ w.inventory.name ∷ []) ++ names_in after
names_around [] w after = refl
names_around (z ∷ before) w after = ap (λ names. z.inventory.name ∷ names) (names_around before w after)

-- ## What a function declares

module _ (zs : List ℤ) (v : Inventory) (differ : NamesDiffer zs v) (calls : AreDistinct (called_names v)) where
  outside_apart : AreApart (called_names v ++ lasting_names v)
  outside_apart =
      apart_append (called_names v) (lasting_names v) (apart_by (called_names v) calls) (apart_by (lasting_names v) differ.lasting)
      (λ x y p q same. let one = at_in x (called_names v) p in let other = at_in y (lasting_names v) q in (differ.not_objects one.index x one.at).0 other.index (other.at ∙ ap Some (sym same)))

  framed_apart : AreApart (framed_names v ++ (called_names v ++ lasting_names v))
  framed_apart =
      apart_append (framed_names v) (called_names v ++ lasting_names v) (apart_by (framed_names v) differ.framed) outside_apart (λ x y p q same. either x y p (in_either y (called_names v) (lasting_names v) q) same)
    where
      either : (x y : List ℕ) → IsIn x (framed_names v) → InEither y (called_names v) (lasting_names v) → x ≢ y
      either x y p (in_one q) = λ same. let one = at_in x (framed_names v) p in let other = at_in y (called_names v) q in (differ.not_objects other.index y other.at).1 one.index (one.at ∙ ap Some same)
      either x y p (in_other q) = λ same. let one = at_in x (framed_names v) p in let other = at_in y (lasting_names v) q in differ.not_lasting one.index x one.at other.index (other.at ∙ ap Some (sym same))

  words_apart : AreApart (parameter_words v ++ local_words v)
  words_apart =
      subst AreApart
      (append_assoc (parameter_words v) (result_names v.returned ++ (temporary_names 1 v.temporaries ++ map bound_name v.bounds)) (called_names v ++ lasting_names v)
      ∙ ap (λ names. parameter_words v ++ names)
      (append_assoc (result_names v.returned) (temporary_names 1 v.temporaries ++ map bound_name v.bounds) (called_names v ++ lasting_names v)
      ∙ ap (λ names. result_names v.returned ++ names) (append_assoc (temporary_names 1 v.temporaries) (map bound_name v.bounds) (called_names v ++ lasting_names v))))
      framed_apart

length_is : (unit : ProgramUnit) (v : Inventory) → HasOwnStorage unit v → list_all has_elements v.variables ≡ true → (one : Variable) (n : ℕ) → IsIn one v.variables → one.count ≡ Some n → IsLength n
length_is unit v storage all one n o is =
    let there = at_in one v.variables o in
    let less = within v.variables there.index one there.at in
    let many = storage.as_many in
    let m = some_at unit.stored there.index (omega (arith, less, many)) in
    let l = storage.listed there.index m.0 m.1 in
    let same = some_same l.0 one (sym l.1 ∙ there.at) in
    let size : m.0.size ≡ 4 * n = l.3 ∙ ap (λ (x : Variable). bytes_in x.count) same ∙ ap bytes_in is in
    let small = storage.small there.index m.0 m.1 in
    record {
      some = leb-true 1 n (ap (λ count. nat_le 1 (unwrap_or count 1)) (sym is) ∙ all_hold has_elements v.variables all one o);
      fits = omega (arith, size, small);
    }

-- ## The functions

-- a unit of the file among all
pub stands_in : (rs : List Rendering) (f : UnitsOfFile) (these : List Rendering) → (of : AreOfOneFile rs f these) → (i : ℕ) (r : Rendering) → slice_get these i ≡ Some r → slice_get rs (length of.before + i) ≡ Some r
stands_in rs f these of i r at =
    ap (λ all. slice_get all (length of.before + i)) of.whole ∙ get_back of.before (these ++ of.behind) (length of.before + i) i r refl (get_front these of.behind i r at)

distinct_front : (names more : List (List ℕ)) → AreDistinct (names ++ more) → AreDistinct names
distinct_front names more distinct i j name at other = distinct i j name (get_front names more i name at) (get_front names more j name other)

distinct_back : (names more : List (List ℕ)) → AreDistinct (names ++ more) → AreDistinct more
distinct_back names more distinct i j name at other =
    let same : length names + i ≡ length names + j = distinct (length names + i) (length names + j) name (get_back names more (length names + i) i name refl at) (get_back names more (length names + j) j name refl other) in
    omega (arith, same)

names_split : (before these behind : List Rendering) → names_in (written_of (before ++ (these ++ behind))) ≡ names_in (written_of before) ++ (names_in (written_of these) ++ names_in (written_of behind))
names_split [] [] behind = refl
names_split [] (r ∷ these) behind = ap (λ names. r.written.inventory.name ∷ names) (names_split [] these behind)
names_split (r ∷ before) these behind = ap (λ names. r.written.inventory.name ∷ names) (names_split before these behind)

-- its functions are told apart as all are
part_distinct : (rs : List Rendering) (f : UnitsOfFile) (these : List Rendering) → AreOfOneFile rs f these → AreDistinct (names_in (written_of rs)) → AreDistinct (names_in (written_of these))
part_distinct rs f these of distinct =
    distinct_front (names_in (written_of these)) (names_in (written_of of.behind))
    (distinct_back (names_in (written_of of.before)) (names_in (written_of these) ++ names_in (written_of of.behind))
    (subst AreDistinct (ap (λ all. names_in (written_of all)) of.whole ∙ names_split of.before these of.behind) distinct))

module _ (fs : List UnitsOfFile) (rs : List Rendering) (is : IsTranslatedSet fs rs) (f : UnitsOfFile) (these : List Rendering) (of : AreOfOneFile rs f these) (spellable : AreSpellable f.constants these) where
  abbrev ws : List WrittenUnit
  ws = written_of these

  abbrev constants : List ℤ
  constants = f.constants

  abbrev of_constants : Scope
  of_constants = with_constants no_names (map constant_for constants)

  constant_words : constant_texts (map constant_for constants) ≡ constant_names constants
  constant_words = constants_named constants

  -- no constant has the name of a function
  no_function_named : (x : List ℕ) → IsIn x (constant_names constants) → is_among x (names_in ws) ≡ false
  no_function_named x o =
      let one = at_in x (constant_names constants) o in
      none_among x (names_in ws) (λ y p same. let other = at_in y (names_in ws) p in spellable.apart one.index x one.at other.index (other.at ∙ ap Some (sym same)))

  module _ (i : ℕ) (r : Rendering) (at : slice_get these i ≡ Some r) (names : List (List ℕ))
      (apart : (x : List ℕ) → is_among x (linked.names_of (declared_constants (map constant_for constants))) ≡ true → is_among x (names ++ r.written.inventory.name ∷ []) ≡ false) where
    abbrev v : Inventory
    v = r.written.inventory

    abbrev j : ℕ
    j = length of.before + i

    abbrev first_names : List (List ℕ)
    first_names = parameter_names (params_of r.written)

    abbrev later_names : List (List ℕ)
    later_names = local_names (unit_locals v)

    there : slice_get rs j ≡ Some r
    there = stands_in rs f these of i r at

    unit : IsTranslatedUnit rs j r
    unit = is.units j r there

    fine : IsSpellable r
    fine = spellable.functions i r at

    named : first_names ++ later_names ≡ parameter_words v ++ local_words v
    named = λ k. params_named v.parameters k ++ locals_named v k

    names_apart : AreApart (first_names ++ later_names)
    names_apart = subst AreApart (sym named) (words_apart r.site.constants v unit.built.differ fine.calls)

    names_new : AllNew [] (first_names ++ later_names)
    names_new = all_new [] (first_names ++ later_names) (λ name o. all_words (parameter_words v ++ local_words v) fine.names name (subst (IsIn name) named o)) names_apart (λ x y p q. elim q [ ])

    readable : AreReadable (unit_locals v)
    readable = locals_readable v (length_is r.unit v unit.storage fine.elements) (λ l o. all_hold is_short v.lists fine.outputs l o)

    -- what is in scope where the function is linked, with no other function of the file around it
    abbrev links_with : List ℤ → linking.Scope
    links_with zs =
        linked.scope_of (routines_of (files_of fs)) (file_scope (routines_of (files_of fs)) (outside_of (files_of fs)) r.site.bases.file (file_with zs [])) r.site.bases.function (unit_function r.written)

    abbrev links : linking.Scope
    links = links_with constants

    abbrev inner : Scope
    inner = scope_within (with_functions of_constants names) r.written

    known : KnowsItems links r.outline.names r.items
    known = subst (λ zs. KnowsItems (links_with zs) r.outline.names r.items) (of.constants i r at) ((its_items fs rs is j r there).known [])

    agrees : Agrees links inner
    agrees =
        subst (λ scope. Agrees links (with_all (with_params scope (params_of r.written)) (unit_locals v))) (functions_end of_constants names v.name)
        (names_agree (routines_of (files_of fs)) r.site.bases.function (linked.frame r.site.bases.function (unit_function r.written)) (params_of r.written) (unit_locals v)
        (file_scope (routines_of (files_of fs)) (outside_of (files_of fs)) r.site.bases.file (file_with constants [])) (with_functions of_constants (names ++ v.name ∷ []))
        (around_units r.site.bases.file (map constant_for constants) (names ++ v.name ∷ []) apart) (first_apart first_names later_names names_apart) (last_apart first_names later_names names_apart)
        (none_between first_names later_names names_apart))

    spelled : AreSpelled r.outline inner r.written.body
    spelled =
        statements_are_spelled r.outline links inner unit.built.built.turns 0 r.items r.written.body agrees fine.labels unit.built.built.statements known
        (whole_items_fieldless (unit_writing r.site r.written r.text.facts r.kind) (numbers_of rs) (whole_text r).position (savings_of v r.site.bases) (whole_text r).steps r.items unit.built.emitted)

    meet : labels_meet r.written.body ≡ true
    meet =
        labels_do_meet r.outline.label unit.built.built.alone r.items r.written.body unit.built.built.inside (built_fit links r.outline r.items (unit_function r.written) unit.built.built known).marks spelled.named

    one_spelled : IsSpelled (ReadsFunction (with_functions of_constants names) (unit_function r.written))
    one_spelled =
        function_spelled (with_functions of_constants names) r.written meet (new_first [] first_names later_names names_new) readable (new_last [] first_names later_names names_new) spelled.text

  -- ## The file

  each : (before : List WrittenUnit) (w : WrittenUnit) (after : List WrittenUnit) → ws ≡ before ++ w ∷ after → IsSpelled (ReadsFunction (with_functions of_constants (names_in before)) (unit_function w))
  each before w after same =
      let r = map_back (λ (q : Rendering). q.written) these (length before) w (ap (λ zs. slice_get zs (length before)) same ∙ at_back before w after) in
      subst (λ (z : WrittenUnit). IsSpelled (ReadsFunction (with_functions of_constants (names_in before)) (unit_function z))) r.2 (one_spelled (length before) r.0 r.1 (names_in before) (none_of r.0 r.2))
    where
      none_of : (r : Rendering) → r.written ≡ w → (x : List ℕ) → is_among x (linked.names_of (declared_constants (map constant_for constants))) ≡ true → is_among x (names_in before ++ r.written.inventory.name ∷ []) ≡ false
      none_of r there x among =
          subst (λ (z : WrittenUnit). is_among x (names_in before ++ z.inventory.name ∷ []) ≡ false) (sym there)
          (none_in_first x (names_in before ++ w.inventory.name ∷ []) (names_in after)
          (ap (is_among x) (sym (names_around before w after)) ∙ ap (λ zs. is_among x (names_in zs)) (sym same)
          ∙ no_function_named x (in_list x (constant_names constants) (ap (is_among x) (sym (declared_named (map constant_for constants) ∙ constant_words)) ∙ among))))

  constants_distinct : AreDistinct (constant_names constants)
  constants_distinct =
      let r = some_at these 0 of.some in
      subst (λ zs. AreDistinct (constant_names zs)) (of.constants 0 r.0 r.1) (is.units (length of.before + 0) r.0 (stands_in rs f these of 0 r.0 r.1)).built.differ.constants

  constants_fit : (i : ℕ) (z : ℤ) → slice_get constants i ≡ Some z → in_range z ≡ true
  constants_fit i z at =
      let r = some_at these 0 of.some in
      is.numbers (length of.before + 0) r.0 (stands_in rs f these of 0 r.0 r.1) i z (ap (λ zs. slice_get zs i) (of.constants 0 r.0 r.1) ∙ at)

  all_names_new : AllNew [] (constant_texts (map constant_for constants) ++ names_in ws)
  all_names_new =
      subst (λ names. AllNew [] (names ++ names_in ws)) (sym constant_words)
      (all_new [] (constant_names constants ++ names_in ws) (λ name o. all_words (constant_names constants ++ names_in ws) spellable.names name o)
      (apart_append (constant_names constants) (names_in ws) (apart_by (constant_names constants) constants_distinct) (apart_by (names_in ws) (part_distinct rs f these of is.differ))
      (λ x y p q same. let one = at_in x (constant_names constants) p in let other = at_in y (names_in ws) q in spellable.apart one.index x one.at other.index (other.at ∙ ap Some (sym same))))
      (λ x y p q. elim q [ ]))

  formed : WellFormed (units_file constants ws)
  formed = file_spelled constants ws (constant_fit constants (λ z o. let there = at_in z constants o in constants_fit there.index z there.at)) all_names_new each

pub unit_files_are_well_formed : UnitFilesAreWellFormed
unit_files_are_well_formed fs rs is f these of spellable = subst (λ units. WellFormed (units_file f.constants units)) of.written (formed fs rs is f these of spellable)
