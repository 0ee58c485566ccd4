-- The laws of plain units, of their files and of printed texts, put together.
use Rattle.std.specs.Prelude.{◌≡◌, ℕ, zero, suc, ◌+◌, ◌<◌, ◌≤◌, true, List, [], ◌∷◌, ◌++◌, map, length, Some, slice_get}
use Rattle.std.proofs.Common.{refl, sym, ap, ◌∙◌, subst, arith}
use Rattle.std.proofs.lemmas.List.{map-append, length-map}
use Rattle.fortran_totality.specs.f_tree.declared.names.Options.{Options}
use Rattle.fortran_totality.specs.f_tree.declared.units.File.{File}
use Rattle.fortran_totality.specs.f_tree.declared.units.Unit.{Unit as GivenUnit}
use Rattle.fortran_totality.specs.f_tree.Attributes.{arrays_of}
use Rattle.fortran_totality.specs.f_tree.Facts.{ProgramUnit}
use Rattle.fortran_totality.specs.f_tree.Holding.{EachRunIsMeant}
use Rattle.fortran_totality.specs.f_tree.Lines.{unit_read}
use Rattle.fortran_totality.specs.f_tree.Meaning.{units_of}
use Rattle.fortran_totality.specs.f_tree.Setting.{IsIn, first_in, later_in, IsSetting}
use Rattle.fortran_totality.specs.f_tree.Uses.{uses_of_statements}
use Rattle.fortran_totality.specs.f_tree.Values.{Bytes}
use Rattle.fortran_totality.specs.f_tree.WellFormed.{AreWellFormed}
use Rattle.plain_files.specs.declaration_rows.GlobalRows.{all_units}
use Rattle.plain_files.proofs.declaration_laws.SetFits.{sets_formed}
use Rattle.plain_files.specs.c_text.Printed.{printed}
use Rattle.plain_files.specs.faithful.Faithful as faithful
use Rattle.plain_files.specs.faithful.Faithful.{SpellAll}
use Rattle.plain_files.specs.faithful.Signatures.{dummy_of}
use Rattle.plain_files.specs.faithful.StorageImage.{function_name}
use Rattle.plain_files.specs.linking_laws.Linked as names
use Rattle.plain_files.proofs.linking_laws.Places.{some_same, map_at}
use Rattle.plain_files.proofs.main_translation_laws.Lists.{at_in}
use Rattle.plain_units.specs.unit_forms.OwnSetting.{own_setting}
use Rattle.plain_units.specs.unit_forms.SpellableUnits.{is_spellable_unit}
use Rattle.plain_units.specs.unit_sites.UnitSites.{UnitsOfFile, file_for, files_of}
use Rattle.plain_units.specs.unit_programs.TranslatedUnits.{Rendering}
use Rattle.plain_units.specs.unit_translation.UnitContents.{LoweredUnit, program_units, inventory_of}
use Rattle.plain_units.specs.unit_translation.UnitBodies.{all_lowered}
use Rattle.plain_units.specs.unit_translation_laws.PlainUnits.{IsPlainUnit, ArePlainUnits}
use Rattle.plain_units.specs.unit_translation_laws.RenderedUnits.{AreRendered, PlainUnitsAreRendered}
use Rattle.unit_faithfulness.specs.UnitsFaithful.{AreOfFiles, no_files, one_file, AreMeant, EachUnitsSetIsFaithful}
use Rattle.unit_faithfulness.proofs.Faithfulness.{units_are as units_of_files}
use Rattle.unit_faithfulness.proofs.Written.{AreFilesFor, none_for, one_for, files_are}
use Rattle.unit_file_texts.proofs.UnitStrings.{unit_files_are_spelled}
use Rattle.plain_units.specs.PlainParts.{HasPlainParts, PlainUnitsAreTold}
use Rattle.plain_unit_files.specs.PlainUnitFiles.{IsFaultless, AreMadeOf, EachPlainUnitSetIsFaithful}
use Rattle.plain_unit_files.proofs.Parts.{ArePartsOf, no_part, one_part, parts_are}
use Rattle.plain_unit_files.proofs.ToldApart.{IsNamed, named_as, functions_differ}
use Rattle.plain_unit_files.proofs.Spelled.{file_is_spellable}

-- ## Units that are read

-- the unit that stands at a place of a list of what a function makes
record IsMadeAt {A B : Type 0} (f : A → B) (xs : List A) (j : ℕ) (y : B) : Type 0 where
  from : A
  at : slice_get xs j ≡ Some from
  is : f from ≡ y

made_at : {A B : Type 0} (f : A → B) (xs : List A) (j : ℕ) (y : B) → slice_get (map f xs) j ≡ Some y → IsMadeAt f xs j y
made_at f [] j y at = absurd (cc)
made_at f (x ∷ xs) zero y at = record { from = x; at = refl; is = some_same (f x) y at }
made_at f (x ∷ xs) (suc j) y at = let later = made_at f xs j y at in record { from = later.from; at = later.at; is = later.is }

-- a place in one list or in the other
data InParts {A : Type 0} (xs ys : List A) (j : ℕ) (x : A) : Type 0 where
  in_first : slice_get xs j ≡ Some x → InParts xs ys j x
  in_later : (k : ℕ) → j ≡ length xs + k → slice_get ys k ≡ Some x → InParts xs ys j x

parts_of : {A : Type 0} (xs ys : List A) (j : ℕ) (x : A) → slice_get (xs ++ ys) j ≡ Some x → InParts xs ys j x
parts_of [] ys j x at = in_later j (omega arith) at
parts_of (z ∷ xs) ys zero x at = in_first at
parts_of (z ∷ xs) ys (suc j) x at = by (parts_of xs ys j x at)
  where
    by : InParts xs ys j x → InParts (z ∷ xs) ys (suc j) x
    by (in_first first) = in_first first
    by (in_later k is later) = in_later k (omega (arith, is)) later

within_first : {A : Type 0} (xs : List A) (j : ℕ) (x : A) → slice_get xs j ≡ Some x → j < length xs
within_first [] j x at = absurd (cc)
within_first (z ∷ xs) zero x at = omega arith
within_first (z ∷ xs) (suc j) x at = let later = within_first xs j x at in omega (arith, later)

abbrev HasUses : GivenUnit → LoweredUnit → Type 0
HasUses given u = (x : Bytes) → u.use_of x ≡ (dummy_of (uses_of_statements (arrays_of given) given.statements) u.unit.attribute x).use_of

-- the units of all files have what those of each have
flat_uses : (options : Options) (trees : List File) (lfs : List (List LoweredUnit)) → AreOfFiles options trees lfs → (j : ℕ) (given : GivenUnit) (u : LoweredUnit) → slice_get (all_units trees) j ≡ Some given →
    slice_get (all_lowered lfs) j ≡ Some u → HasUses given u
unfolding all_units
flat_uses options _ _ no_files j given u at own = absurd (cc)
flat_uses options _ _ (one_file tree us trees lfs first later) j given u at own =
    by (λ k g v. flat_uses options trees lfs later k given u g v) (parts_of tree.units (all_units trees) j given at) (parts_of us (all_lowered lfs) j u own)
  where
    as_many : length tree.units ≡ length us
    as_many = sym (length-map tree.units (unit_read options)) ∙ ap length first.units ∙ length-map us (λ (one : LoweredUnit). one.unit)

    by : ((k : ℕ) → slice_get (all_units trees) k ≡ Some given → slice_get (all_lowered lfs) k ≡ Some u → HasUses given u) → InParts tree.units (all_units trees) j given → InParts us (all_lowered lfs) j u → HasUses given u
    by again (in_first g) (in_first v) = first.uses j given u g v
    by again (in_first g) (in_later k is v) = let below = within_first tree.units j given g in let many = as_many in absurd (let no : ⊥ = omega (arith, below, many, is) in no)
    by again (in_later k is g) (in_first v) = let below = within_first us j u v in let many = as_many in absurd (let no : ⊥ = omega (arith, below, many, is) in no)
    by again (in_later k is g) (in_later m same v) =
        let many = as_many in
        let here : m ≡ k = omega (arith, is, same, many) in again k g (ap (slice_get (all_lowered lfs)) (sym here) ∙ v)

flat_read : (options : Options) (trees : List File) (lfs : List (List LoweredUnit)) → AreOfFiles options trees lfs → map (unit_read options) (all_units trees) ≡ program_units (all_lowered lfs)
unfolding all_units
flat_read options _ _ no_files = refl
flat_read options _ _ (one_file tree us trees lfs first later) =
    map-append (unit_read options) tree.units (all_units trees)
    ∙ (λ i. first.units i ++ flat_read options trees lfs later i)
    ∙ sym (map-append (λ (u : LoweredUnit). u.unit) us (all_lowered lfs))

some_unit : (lfs : List (List LoweredUnit)) → 1 ≤ length lfs → ((us : List LoweredUnit) → IsIn us lfs → 1 ≤ length us) → 1 ≤ length (all_lowered lfs)
some_unit [] some filled = some
some_unit ([] ∷ lfs) some filled = absurd (let one : 1 ≤ 0 = filled [] first_in in let no : ⊥ = omega (arith, one) in no)
some_unit ((u ∷ us) ∷ lfs) some filled = omega arith

module _ (options : Options) (trees : List File) (lfs : List (List LoweredUnit)) (made : AreMadeOf options trees lfs) where
  abbrev us : List LoweredUnit
  us = all_lowered lfs

  abbrev givens : List GivenUnit
  givens = all_units trees

  units_are : map (unit_read options) givens ≡ program_units us
  units_are = flat_read options trees lfs made.of_files

  -- the unit of the files that is lowered, and the other way round
  given_at : (j : ℕ) (u : LoweredUnit) → slice_get us j ≡ Some u → IsMadeAt (unit_read options) givens j u.unit
  given_at j u at = made_at (unit_read options) givens j u.unit (ap (λ units. slice_get units j) units_are ∙ map_at (λ (one : LoweredUnit). one.unit) us j u at)

  lowered_at : (j : ℕ) (given : GivenUnit) → slice_get givens j ≡ Some given → IsMadeAt (λ (u : LoweredUnit). u.unit) us j (unit_read options given)
  lowered_at j given at = made_at (λ (u : LoweredUnit). u.unit) us j (unit_read options given) (ap (λ units. slice_get units j) (sym units_are) ∙ map_at (unit_read options) givens j given at)

  spelled_at : (j : ℕ) (u : LoweredUnit) → slice_get us j ≡ Some u → is_spellable_unit u.unit ≡ true
  spelled_at j u at = let own = given_at j u at in ap is_spellable_unit (sym own.is) ∙ made.spellable j own.from own.at

  module _ (told : PlainUnitsAreTold) where
    parts_at : (j : ℕ) (u : LoweredUnit) → slice_get us j ≡ Some u → HasPlainParts us j u
    parts_at j u at = let own = given_at j u at in told options own.from us j u (made.plain j own.from own.at) (sym own.is) (flat_uses options trees lfs made.of_files j own.from u own.at at)

    unit_at : (j : ℕ) (u : LoweredUnit) → slice_get us j ≡ Some u → IsPlainUnit us j u
    unit_at j u at = let parts = parts_at j u at in record {
      lowered = made.lowered j u at;
      text = made.short j u at;
      direct = parts.direct;
      ended = parts.ended;
      loops = parts.loops;
      runs = parts.runs;
      name = parts.name;
      formals = parts.formals;
      entry = parts.entry;
      main = parts.main;
      dummies = parts.dummies;
      result = parts.result;
      storage = parts.storage;
      bounds = parts.bounds;
    }

    named_at : (given : GivenUnit) → IsIn given givens → IsNamed given (function_name (unit_read options given))
    named_at given o =
        let place = at_in given givens o in
        let own = lowered_at place.index given place.at in
        let parts = parts_at place.index own.from own.at in
        subst (λ (unit : ProgramUnit). IsNamed given (function_name unit)) own.is
        (named_as options given own.from.unit own.is (record { name = parts.name; formals = parts.formals; start = 0 }) parts.entry (spelled_at place.index own.from own.at) parts.runs)

    -- ## Plain units

    differ : IsFaultless options trees → names.AreDistinct (map function_name (program_units us))
    differ faultless = subst (λ units. names.AreDistinct (map function_name units)) units_are (functions_differ options givens faultless.named named_at)

    pub plain : IsFaultless options trees → ArePlainUnits us
    plain faultless = record { units = unit_at; some = some_unit lfs made.some made.filled; differ = differ faultless }

  -- ## The set of the files

  meant : EachRunIsMeant → IsSetting (program_units us) (own_setting (program_units us)) → IsFaultless options trees → AreMeant us
  unfolding units_of
  meant runs setting faultless units n =
      let g = own_setting (program_units us) in
      let same = units_of_files options trees lfs made.of_files in
      let formed = sets_formed options (record { files = trees }) g (subst (λ S. IsSetting S g) (sym same) setting) faultless.declared in
      runs g (program_units us) units n (subst (λ S. AreWellFormed g S) same formed)

-- ## The texts

-- each file has a function, where each has a unit
filled_by : (all : List LoweredUnit) (lfs : List (List LoweredUnit)) (fs : List UnitsOfFile) → AreFilesFor all lfs fs → ((us : List LoweredUnit) → IsIn us lfs → 1 ≤ length us) → (f : UnitsOfFile) (k : ℕ) → slice_get fs k ≡ Some f → 1 ≤ length f.units
filled_by all _ _ none_for filled f k at = absurd (cc)
filled_by all _ _ (one_for us g lfs fs is rest) filled f zero at =
    let many : length g.units ≡ length us = sym (length-map g.units (λ w. w.inventory)) ∙ ap length is.inventories_are ∙ length-map us (inventory_of all) in
    let some : 1 ≤ length us = filled us first_in in
    subst (λ (h : UnitsOfFile). 1 ≤ length h.units) (some_same g f at) (omega (arith, many, some))
filled_by all _ _ (one_for us g lfs fs is rest) filled f (suc k) at = filled_by all lfs fs rest (λ vs o. filled vs (later_in o)) f k at

module _ (lfs : List (List LoweredUnit)) (fs : List UnitsOfFile) (plain : ArePlainUnits (all_lowered lfs)) (spelled : (j : ℕ) (u : LoweredUnit) → slice_get (all_lowered lfs) j ≡ Some u → is_spellable_unit u.unit ≡ true)
    (rendered : AreRendered lfs fs) where
  texts_spelled : (before : List Rendering) (files : List UnitsOfFile) → ArePartsOf rendered.renderings before files → SpellAll (map (λ f. printed (file_for f)) files) (files_of files)
  texts_spelled _ _ (no_part before) = faithful.none
  texts_spelled _ _ (one_part before f files part of later) =
      faithful.more (printed (file_for f)) (file_for f) (map (λ g. printed (file_for g)) files) (files_of files)
      (unit_files_are_spelled fs rendered.renderings rendered.translated f part of (file_is_spellable lfs plain spelled fs rendered f part of))
      (texts_spelled (before ++ part) files later)

-- ## The whole

-- the setting in which each name has a sequence of its own is one of theirs
abbrev pub OwnSettingsAreSettings : Type 0
OwnSettingsAreSettings = (us : List LoweredUnit) → ArePlainUnits us → IsSetting (program_units us) (own_setting (program_units us))

-- where plain units are told, translated and faithful, and each run of a well-formed set is meant
pub plain_unit_sets_are_faithful_by : PlainUnitsAreTold → EachUnitsSetIsFaithful → PlainUnitsAreRendered → OwnSettingsAreSettings → EachRunIsMeant → EachPlainUnitSetIsFaithful
plain_unit_sets_are_faithful_by told faithful_sets translated settings runs options trees lfs fs faultless made written =
    let units = plain options trees lfs made told faultless in
    let rendered = translated lfs fs units written in
    let parts = parts_are fs rendered.renderings rendered.translated (filled_by (all_lowered lfs) lfs fs (files_are lfs fs written) made.filled) in
    faithful_sets options trees lfs fs (map (λ f. printed (file_for f)) fs) made.of_files units written
    (texts_spelled lfs fs units (spelled_at options trees lfs made) rendered [] fs parts)
    (meant options trees lfs made runs (settings (all_lowered lfs) units) faultless)
