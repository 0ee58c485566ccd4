-- What C asks besides of the functions of plain units, and of their files: names and labels are names of C, what is called is declared once, an array has an
-- element, and units of outputs have 32 bits. ANSI X3.9-1978, sections 2.2 and 5.1; C89, 3.1.2 and 3.5.
use Rattle.std.specs.List.{list_all}
use Rattle.std.specs.Prelude.{◌≡◌, ℕ, zero, suc, ◌+◌, ◌<◌, ◌≤◌, ◌^◌, nat_le, ℤ, Bool, true, false, ◌&&◌, List, [], ◌∷◌, ◌++◌, map, length, Option, Some, None, unwrap_or, slice_get}
use Rattle.std.proofs.Common.{refl, sym, ap, ◌∙◌, subst, arith}
use Rattle.fortran_totality.specs.f_tree.CNames.{variable_name, made_name, ConstantOf}
use Rattle.fortran_totality.specs.f_tree.CNames as c_names
use Rattle.fortran_totality.specs.f_tree.Facts.{Bounds, Formal, UnitKind, MainProgram, SubroutineUnit, FunctionUnit, BlockDataUnit, EntryPoint}
use Rattle.fortran_totality.specs.f_tree.Valuing.{elements_of}
use Rattle.fortran_totality.specs.f_tree.Setting.{IsIn, first_in, later_in}
use Rattle.fortran_totality.specs.f_tree.Values.{in_range}
use Rattle.plain_files.specs.l_core.Steps.{Starts, Step, Acts}
use Rattle.plain_files.specs.c_tree.declared.types.NumberType.{NumberType}
use Rattle.plain_files.specs.c_tree.CWords.{is_name}
use Rattle.plain_files.specs.c_tree.Flat.{Flat}
use Rattle.plain_files.specs.c_tree.Tokens.{begins_with, is_letter}
use Rattle.plain_files.proofs.c_laws.TokenSpellings.{and-first, and-second}
use Rattle.plain_files.specs.c_emit.Calls.{unit_of}
use Rattle.plain_files.specs.c_emit.Flats.{flat_of}
use Rattle.plain_files.specs.c_emit.Numbers.{Writing}
use Rattle.plain_files.specs.c_structure.Statements.{Outline}
use Rattle.plain_files.specs.faithful.Signatures.{named_formals}
use Rattle.plain_files.specs.faithful.StorageImage.{name_of_entries, function_name}
use Rattle.plain_files.specs.linking_laws.Linked.{AreDistinct}
use Rattle.plain_files.specs.main_file.MainFile.{Listing, Called, temporary_names, list_names}
use Rattle.plain_files.specs.main_translation.Contents.{count_by, variable_of, listings_from, calls_of}
use Rattle.plain_files.proofs.main_translation_laws.Lists.{InEither, in_one, in_other, in_either, in_map, in_part, in_at, at_in, distinct_by, none_by}
use Rattle.plain_files.proofs.main_translation_laws.Contents.{each_of, small_magnitude, listings_count}
use Rattle.plain_files.proofs.main_translation_laws.Storage.{name_is, count_is}
use Rattle.plain_files.proofs.main_file_texts.Words.{constant_word, variable_word}
use Rattle.plain_files.proofs.main_file_texts.Files.{label_word, started_fits, split, listing_fits, all_words, all_names, all_words_there, names_part, temporaries_words, lists_words}
use Rattle.plain_files.specs.plain_forms.SpellableNames.{has_element, is_spellable_name}
use Rattle.plain_files.proofs.Composed.{named}
use Rattle.plain_units.specs.procedure_emission.ProcedureItems.{Numbers, procedure_item}
use Rattle.plain_units.specs.unit_file.UnitFile.{Variable, Parameter, KeptBound, Inventory, bound_name, first_bound, result_names, lasting_names}
use Rattle.plain_units.specs.unit_file.UnitItems.{unit_items, whole_items}
use Rattle.plain_units.specs.unit_file.UnitSavings.{savings_of}
use Rattle.plain_units.specs.unit_file.UnitNames.{constant_names, called_names, own_names}
use Rattle.plain_files.proofs.linking_laws.Places.{some_at}
use Rattle.plain_units.specs.unit_sites.UnitSites.{UnitsOfFile, inventories}
use Rattle.plain_units.specs.unit_file_laws.KnownUnits.{unit_writing}
use Rattle.plain_units.specs.unit_forms.SpellableUnits.{is_called_well, is_spellable_unit}
use Rattle.plain_units.specs.unit_programs.TranslatedUnits.{Rendering, written_of, numbers_of}
use Rattle.plain_units.specs.unit_programs.TranslatedUnits.{whole_text as rendered_text}
use Rattle.plain_units.specs.unit_translation.behind_bounds.BehindBounds.{steps_behind}
use Rattle.plain_units.proofs.unit_programs.Objects.{whole_by}
use Rattle.plain_units.proofs.unit_programs.unit_file_laws.Passed.{savings_count}
use Rattle.plain_units.specs.unit_translation.UnitContents.{LoweredUnit, bounds_kept, whole_text, parameter_for, formals_in, parameters_in, procedures_in, inventory_of}
use Rattle.plain_units.specs.unit_translation.UnitBodies.{all_lowered}
use Rattle.plain_units.specs.unit_translation_laws.PlainUnits.{IsPlainUnit, ArePlainUnits}
use Rattle.plain_units.specs.unit_translation_laws.RenderedUnits.{AreRendered}
use Rattle.unit_file_texts.specs.WellFormedUnits.{parameter_words, local_words, has_elements, is_short, IsSpellable, AreSpellable, AreOfOneFile}
use Rattle.plain_units.proofs.unit_translation_laws.KeptBounds.{dummy_is, kept_in, place_below}
use Rattle.plain_units.proofs.unit_translation_laws.Listed.{pure_dimensions}
use Rattle.unit_file_texts.proofs.BoundWords.{bounds_are_named}
use Rattle.unit_file_texts.proofs.UnitTexts.{stands_in}
use Rattle.plain_unit_files.proofs.ToldApart.{called_well, formals_spelled, stored_spelled, kind_named}
use Rattle.plain_unit_files.proofs.Words.{closes, external_closes, constant_closes, external_word, main_word, main_closes}
use Rattle.plain_unit_files.proofs.Callees.{HaveOneEntry, names_in, all_callees, callees_of, called_are, called_apart}

each_told : {A : Type 0} (test : A → Bool) (xs : List A) → ((x : A) → IsIn x xs → test x ≡ true) → list_all test xs ≡ true
each_told test [] each = refl
each_told test (x ∷ xs) each = (λ i. each x first_in i && each_told test xs (λ y o. each y (later_in o)) i)

-- what has the function of a name
record IsRenderedAs (rs : List Rendering) (name : List ℕ) : Type 0 where
  from : Rendering
  among : IsIn from rs
  is : from.written.inventory.name ≡ name

rendered_in : (rs : List Rendering) (name : List ℕ) → IsIn name (own_names (inventories (written_of rs))) → IsRenderedAs rs name
rendered_in [] name o = elim o [ ]
rendered_in (r ∷ rs) _ first_in = record { from = r; among = first_in; is = refl }
rendered_in (r ∷ rs) name (later_in o) = let found = rendered_in rs name o in record { from = found.from; among = later_in found.among; is = found.is }

-- ## Units of outputs

unit_listings_fit : (numbers : Numbers) (w : Writing) (label : ℕ → Option ℕ) (n : ℕ) (steps : List Step) (items : List Flat) → unit_items numbers w label n steps ≡ Some items → (l : Listing) → IsIn l (listings_from n steps) → in_range l.unit ≡ true
unfolding listings_from unit_items procedure_item
unit_listings_fit numbers w label n [] items h l o = elim o [ ]
unit_listings_fit numbers w label n (Acts (Starts way layout controls) ps m ∷ later) items h l o =
    let s = split (flat_of w (λ k. k) label n (Acts (Starts way layout controls) ps m)) (unit_items numbers w label (suc n) later) items h in
    listing_fits n (unit_of ps) (listings_from (suc n) later) (started_fits w label n way layout controls ps m s.item s.item_is) (unit_listings_fit numbers w label (suc n) later s.later s.later_is) l o
unit_listings_fit numbers w label n (st ∷ later) items h l o =
    let s = split (procedure_item numbers w (λ k. k) label n st) (unit_items numbers w label (suc n) later) items h in unit_listings_fit numbers w label (suc n) later s.later s.later_is l o

-- ## Behind what is kept

many_behind : (first : ℕ) (steps : List Step) → length (steps_behind first steps) ≡ first + length steps
unfolding steps_behind
many_behind zero steps = let same : length steps ≡ 0 + length steps = omega arith in same
many_behind (suc first) steps = let rest = many_behind first steps in omega (arith, rest)

listings_behind : (first n m : ℕ) (steps : List Step) → m ≡ n + first → listings_from n (steps_behind first steps) ≡ listings_from m steps
unfolding listings_from steps_behind
listings_behind zero n m steps there = ap (λ k. listings_from k steps) {x = n} {y = m} (omega (arith, there))
listings_behind (suc first) n m steps there = listings_behind first (suc n) m steps (omega (arith, there))

-- the units of the outputs of a rendering have 32 bits
outputs_short : (numbers : Numbers) (x : Rendering) → whole_items numbers (unit_writing x.site x.written x.text.facts x.kind) (rendered_text x).position (savings_of x.written.inventory x.site.bases) (rendered_text x).steps ≡ Some x.items
    → list_all is_short (listings_from (length x.written.inventory.bounds) x.text.steps) ≡ true
outputs_short numbers x emitted =
    let w = unit_writing x.site x.written x.text.facts x.kind in
    let v = x.written.inventory in
    let first = length v.bounds in
    let whole = whole_by numbers w (rendered_text x).position first (savings_of v x.site.bases) x.text.steps x.items (savings_count (first_bound v x.site.bases) v.bounds) emitted in
    each_told is_short (listings_from first x.text.steps) (unit_listings_fit numbers w (rendered_text x).position first x.text.steps whole.later whole.emitted)

-- ## Arrays

element_told : (count : Option ℕ) → has_element count ≡ true → nat_le 1 (unwrap_or count 1) ≡ true
unfolding has_element
element_told None is = absurd (cc)
element_told (Some n) is = is

array_told : (bs : List Bounds) → has_element (elements_of bs) ≡ true → nat_le 1 (unwrap_or (count_by bs) 1) ≡ true
unfolding count_by
array_told [] is = refl
array_told (b ∷ bs) is = element_told (elements_of (b ∷ bs)) is

module _ (lfs : List (List LoweredUnit)) (plain : ArePlainUnits (all_lowered lfs)) (spelled : (j : ℕ) (u : LoweredUnit) → slice_get (all_lowered lfs) j ≡ Some u → is_spellable_unit u.unit ≡ true) where
  abbrev us : List LoweredUnit
  us = all_lowered lfs

  single : HaveOneEntry us
  single k u at = let p = plain.units k u at in (record { name = p.name; formals = p.formals; start = 0 }, p.entry)

  -- ## The function of a unit

  module _ (j : ℕ) (u : LoweredUnit) (at : slice_get us j ≡ Some u) where
    abbrev its : IsPlainUnit us j u
    its = plain.units j u at

    abbrev its_entry : EntryPoint
    its_entry = record { name = its.name; formals = its.formals; start = 0 }

    well : is_called_well u.unit.kind its.name ≡ true
    well = called_well u.unit its_entry its.entry (spelled j u at)

    external : function_name u.unit ≡ name_of_entries u.unit.entries → function_name u.unit ≡ c_names.external_name its.name
    external is = is ∙ ap name_of_entries its.entry

    function_word : is_name (function_name u.unit) ≡ true
    unfolding is_called_well
    function_word = by u.unit.kind refl well
      where
        called : function_name u.unit ≡ name_of_entries u.unit.entries → (begins_with is_letter its.name && c_names.is_name its.name) ≡ true → is_name (function_name u.unit) ≡ true
        called is both =
            ap is_name (external is) ∙ external_word its.name (and-first (begins_with is_letter its.name) (c_names.is_name its.name) both) (and-second (begins_with is_letter its.name) (c_names.is_name its.name) both)

        by : (k : UnitKind) → u.unit.kind ≡ k → is_called_well k its.name ≡ true → is_name (function_name u.unit) ≡ true
        by MainProgram is both = ap is_name (kind_named u.unit MainProgram is) ∙ main_word
        by SubroutineUnit is both = called (kind_named u.unit SubroutineUnit is) both
        by FunctionUnit is both = called (kind_named u.unit FunctionUnit is) both
        by BlockDataUnit is both = absurd (its.runs is)

    function_closes : closes (function_name u.unit) ≡ true
    function_closes = by u.unit.kind refl
      where
        by : (k : UnitKind) → u.unit.kind ≡ k → closes (function_name u.unit) ≡ true
        by MainProgram is = ap closes (kind_named u.unit MainProgram is) ∙ main_closes
        by SubroutineUnit is = ap closes (external (kind_named u.unit SubroutineUnit is)) ∙ external_closes its.name
        by FunctionUnit is = ap closes (external (kind_named u.unit FunctionUnit is)) ∙ external_closes its.name
        by BlockDataUnit is = absurd (its.runs is)

  -- ## What it declares

  module _ (j : ℕ) (u : LoweredUnit) (at : slice_get us j ≡ Some u) where
    abbrev one : IsPlainUnit us j u
    one = plain.units j u at

    abbrev v : Inventory
    v = inventory_of us u

    abbrev parameters_by : List Formal → List Parameter
    parameters_by formals = map (λ x. record { name = x; type = parameter_for (u.use_of x) }) (named_formals formals)

    parameters_are : parameters_in u ≡ parameters_by one.formals
    unfolding parameters_in formals_in
    parameters_are = ap (λ (entries : List EntryPoint). parameters_by (formals_in entries)) one.entry

    parameter_named : (name : List ℕ) → IsIn name (parameter_words v) → is_name name ≡ true
    parameter_named name o =
        let found = in_map (λ (p : Parameter). variable_name p.name) (parameters_by one.formals) name (subst (λ ps. IsIn name (map (λ (p : Parameter). variable_name p.name) ps)) parameters_are o) in
        let from = in_map (λ x. record { name = x; type = parameter_for (u.use_of x) }) (named_formals one.formals) found.from found.among in
        let letters = formals_spelled u.unit (record { name = one.name; formals = one.formals; start = 0 }) one.entry (spelled j u at) in
        subst (λ x. is_name x ≡ true) (ap (λ (p : Parameter). variable_name p.name) from.is ∙ found.is)
        (variable_word from.from (each_of (begins_with is_letter) (named_formals one.formals) from.from letters from.among) (one.dummies.named from.from from.among))

    result_named : (returned : Option NumberType) (name : List ℕ) → IsIn name (result_names returned) → is_name name ≡ true
    unfolding made_name
    result_named None name o = elim o [ ]
    result_named (Some type) _ first_in = refl
    result_named (Some type) name (later_in o) = elim o [ ]

    called_named : (name : List ℕ) → IsIn name (called_names v) → is_name name ≡ true
    called_named name o = by (in_either name (map (λ (call : Called). call.name) (calls_of (whole_text u).steps)) (names_in (all_callees us single (procedures_in (whole_text u)))) (subst (IsIn name) (called_are us single u) o))
      where
        by : InEither name (map (λ (call : Called). call.name) (calls_of (whole_text u).steps)) (names_in (all_callees us single (procedures_in (whole_text u)))) → is_name name ≡ true
        by (in_one p) = all_words all_names all_words_there name (in_part name (map (λ (call : Called). call.name) (calls_of (whole_text u).steps)) all_names (names_part (whole_text u).steps) p)
        by (in_other p) =
            let found = callees_of us single (procedures_in (whole_text u)) name p in
            let own = found.2 in ap is_name own.own ∙ function_word own.place own.unit own.at

    variable_named : (name : List ℕ) → IsIn name (map (λ (one : Variable). variable_name one.name) v.variables) → is_name name ≡ true
    unfolding is_spellable_name
    variable_named name o =
        let found = in_map (λ (one : Variable). variable_name one.name) v.variables name o in
        let from = in_map (variable_of u.unit) u.unit.stored found.from found.among in
        let called = ap (λ (x : Variable). x.name) (sym from.is) ∙ name_is u.unit from.from in
        let both = named u.unit (stored_spelled u.unit (spelled j u at)) from.from from.among in
        subst (λ x. is_name x ≡ true) (ap variable_name (sym called) ∙ found.is)
        (variable_word from.from.name (and-first (begins_with is_letter from.from.name) (has_element (elements_of (u.unit.attribute from.from.name).bounds)) both) (one.storage.named from.from from.among))

    lists_few : 1 + length (listings_from 0 (whole_text u).steps) ≤ 2 ^ 64
    lists_few = let few = listings_count 0 (whole_text u).steps in let fits = one.text.steps in omega (arith, few, fits)

    lasting_named : (name : List ℕ) → IsIn name (lasting_names v) → is_name name ≡ true
    lasting_named name o = by (in_either name (map (λ (one : Variable). variable_name one.name) v.variables) (list_names 1 v.lists) o)
      where
        by : InEither name (map (λ (one : Variable). variable_name one.name) v.variables) (list_names 1 v.lists) → is_name name ≡ true
        by (in_one p) = variable_named name p
        by (in_other p) = lists_words 1 v.lists lists_few name p

    -- what is kept of a dummy array goes by its name
    kept_small : (kept : KeptBound) → IsIn kept v.bounds → suc kept.place < 2 ^ 64
    kept_small kept o =
        let below = place_below u.unit kept (pure_dimensions us j u one.name one.formals one.entry one.dummies) o in
        let long = many_behind (length (bounds_kept u.unit)) u.text.steps in
        let fits = one.text.steps in omega (arith, below, long, fits)

    its_formals : named_formals (formals_in u.unit.entries) ≡ named_formals one.formals
    unfolding formals_in
    its_formals = ap (λ (entries : List EntryPoint). named_formals (formals_in entries)) one.entry

    kept_named : (kept : KeptBound) → IsIn kept v.bounds → is_name (bound_name kept) ≡ true
    kept_named kept o =
        let found = kept_in u.unit kept o in
        let among : IsIn found.array (named_formals one.formals) = subst (IsIn found.array) its_formals found.among in
        let dummy = dummy_is found.array found.index found.dimension kept found.bound in
        let letters = formals_spelled u.unit (record { name = one.name; formals = one.formals; start = 0 }) one.entry (spelled j u at) in
        bounds_are_named kept (subst (λ x. begins_with is_letter x ≡ true) (sym dummy) (each_of (begins_with is_letter) (named_formals one.formals) found.array letters among))
        (subst (λ x. c_names.is_name x ≡ true) (sym dummy) (one.dummies.named found.array among)) (kept_small kept o)

    bound_named : (name : List ℕ) → IsIn name (map bound_name v.bounds) → is_name name ≡ true
    bound_named name o = let found = in_map bound_name v.bounds name o in subst (λ x. is_name x ≡ true) found.is (kept_named found.from found.among)

    local_named : (name : List ℕ) → IsIn name (local_words v) → is_name name ≡ true
    local_named name o = first (in_either name (result_names v.returned) (temporary_names 1 v.temporaries ++ (map bound_name v.bounds ++ (called_names v ++ lasting_names v))) o)
      where
        fourth : InEither name (called_names v) (lasting_names v) → is_name name ≡ true
        fourth (in_one p) = called_named name p
        fourth (in_other p) = lasting_named name p

        third : InEither name (map bound_name v.bounds) (called_names v ++ lasting_names v) → is_name name ≡ true
        third (in_one p) = bound_named name p
        third (in_other p) = fourth (in_either name (called_names v) (lasting_names v) p)

        second : InEither name (temporary_names 1 v.temporaries) (map bound_name v.bounds ++ (called_names v ++ lasting_names v)) → is_name name ≡ true
        second (in_one p) = temporaries_words 1 v.temporaries one.text.temporaries name p
        second (in_other p) = third (in_either name (map bound_name v.bounds) (called_names v ++ lasting_names v) p)

        first : InEither name (result_names v.returned) (temporary_names 1 v.temporaries ++ (map bound_name v.bounds ++ (called_names v ++ lasting_names v))) → is_name name ≡ true
        first (in_one p) = result_named v.returned name p
        first (in_other p) = second (in_either name (temporary_names 1 v.temporaries) (map bound_name v.bounds ++ (called_names v ++ lasting_names v)) p)

    words_named : list_all is_name (parameter_words v ++ local_words v) ≡ true
    words_named = each_told is_name (parameter_words v ++ local_words v) (λ name o. by name (in_either name (parameter_words v) (local_words v) o))
      where
        by : (name : List ℕ) → InEither name (parameter_words v) (local_words v) → is_name name ≡ true
        by name (in_one p) = parameter_named name p
        by name (in_other p) = local_named name p

    calls_distinct : AreDistinct (called_names v)
    calls_distinct = distinct_by (called_names v) (called_apart us single u)

    elements_there : list_all has_elements v.variables ≡ true
    unfolding is_spellable_name
    elements_there = each_told has_elements v.variables (λ one o.
        let from = in_map (variable_of u.unit) u.unit.stored one o in
        let both = named u.unit (stored_spelled u.unit (spelled j u at)) from.from from.among in
        let count = ap (λ (x : Variable). x.count) (sym from.is) ∙ count_is u.unit from.from in
        subst (λ count. nat_le 1 (unwrap_or count 1) ≡ true) (sym count)
        (array_told (u.unit.attribute from.from.name).bounds (and-second (begins_with is_letter from.from.name) (has_element (elements_of (u.unit.attribute from.from.name).bounds)) both)))

  -- ## A file

  module _ (fs : List UnitsOfFile) (r : AreRendered lfs fs) (f : UnitsOfFile) (these : List Rendering) (of : AreOfOneFile r.renderings f these) where
    abbrev zs : List ℤ
    zs = f.constants

    abbrev place_of : ℕ → ℕ
    place_of i = length of.before + i

    there : (i : ℕ) (x : Rendering) → slice_get these i ≡ Some x → slice_get r.renderings (place_of i) ≡ Some x
    there i x at = stands_in r.renderings f these of i x at

    function_spelled : (i : ℕ) (x : Rendering) → slice_get these i ≡ Some x → IsSpellable x
    function_spelled i x at =
        let j = place_of i in
        let own = r.each j x (there i x at) in
        let u = own.unit in
        let text = (plain.units j u own.at).text in
        let first = length (bounds_kept u.unit) in
        let same : listings_from (length x.written.inventory.bounds) x.text.steps ≡ listings_from 0 (whole_text u).steps =
        (λ i. listings_from (length (own.inventory i).bounds) (own.text i).steps) ∙ sym (listings_behind first 0 first u.text.steps (omega arith)) in
        let short = subst (λ ls. list_all is_short ls ≡ true) same (outputs_short (numbers_of r.renderings) x (r.translated.units j x (there i x at)).built.emitted) in
        record {
          names = subst (λ (v : Inventory). list_all is_name (parameter_words v ++ local_words v) ≡ true) (sym own.inventory) (words_named j u own.at);
          labels = λ n name h. label_word (whole_text u) text.labels text.marks n name (ap (λ (o : Outline). o.label n) (sym own.outline) ∙ h);
          calls = subst (λ (v : Inventory). AreDistinct (called_names v)) (sym own.inventory) (calls_distinct j u own.at);
          elements = subst (λ (v : Inventory). list_all has_elements v.variables ≡ true) (sym own.inventory) (elements_there j u own.at);
          outputs = subst (λ (v : Inventory). list_all is_short v.lists ≡ true) (sym own.inventory) short;
        }

    -- the functions of the file are those of its units
    own_by : (test : List ℕ → Bool) → ((j : ℕ) (u : LoweredUnit) → slice_get us j ≡ Some u → test (function_name u.unit) ≡ true) → (name : List ℕ) → IsIn name (own_names (inventories (written_of these))) → test name ≡ true
    own_by test each name o = let found = rendered_in these name o in ap test (sym found.is) ∙ by found.from found.among
      where
        by : (x : Rendering) → IsIn x these → test x.written.inventory.name ≡ true
        by x p =
            let place = at_in x these p in
            let j = place_of place.index in
            let own = r.each j x (there place.index x place.at) in ap (λ (v : Inventory). test v.name) own.inventory ∙ each j own.unit own.at

    constant_small : (z : ℤ) → IsIn z zs → c_names.IsNumbered (ConstantOf z)
    constant_small z o =
        let place = at_in z zs o in
        let x = some_at these 0 of.some in
        small_magnitude z (r.translated.numbers (place_of 0) x.0 (there 0 x.0 x.1) place.index z (ap (λ constants. slice_get constants place.index) (of.constants 0 x.0 x.1) ∙ place.at))

    constant_named : (name : List ℕ) → IsIn name (constant_names zs) → is_name name ≡ true
    constant_named name o = let found = in_map (λ z. made_name (ConstantOf z)) zs name o in subst (λ x. is_name x ≡ true) found.is (constant_word found.from (constant_small found.from found.among))

    constant_open : (name : List ℕ) → IsIn name (constant_names zs) → closes name ≡ false
    constant_open name o = let found = in_map (λ z. made_name (ConstantOf z)) zs name o in subst (λ x. closes x ≡ false) found.is (constant_closes found.from (constant_small found.from found.among))

    file_named : (name : List ℕ) → InEither name (constant_names zs) (own_names (inventories (written_of these))) → is_name name ≡ true
    file_named name (in_one p) = constant_named name p
    file_named name (in_other p) = own_by is_name function_word name p

    pub file_is_spellable : AreSpellable zs these
    file_is_spellable = record {
      functions = function_spelled;
      names =
          each_told is_name (constant_names zs ++ own_names (inventories (written_of these)))
          (λ name o. file_named name (in_either name (constant_names zs) (own_names (inventories (written_of these))) o));
      apart = λ i name at.
          none_by name (own_names (inventories (written_of these)))
          (λ other o same. let no : true ≡ false = sym (own_by closes function_closes other o) ∙ ap closes (sym same) ∙ constant_open name (in_at (constant_names zs) i name at) in absurd (cc));
    }
