-- A source that is accepted for translation is accepted by the whole table, and a refusal that is no F99 is the first by it.
use Rattle.std.specs.Prelude.{◌≡◌, ℕ, suc, ◌+◌, ◌<◌, Bool, true, false, ◌&&◌, List, [], ◌∷◌, ◌++◌, length, Option, Some, None, if◌then◌else◌}
use Rattle.std.proofs.Common.{refl, subst}
use Rattle.std.proofs.lemmas.Bool.{and_parts}
use Rattle.plain_mains.specs.f_tree.declared.names.Class.{Class}
use Rattle.plain_mains.specs.f_tree.declared.names.Class.TheVariants as class
use Rattle.plain_mains.specs.f_tree.declared.names.Options.{Options}
use Rattle.plain_mains.specs.f_tree.declared.refusals.Refusal.{Refusal}
use Rattle.plain_mains.specs.f_tree.declared.units.File.{File}
use Rattle.plain_mains.specs.f_tree.declared.units.FileSet.{FileSet}
use Rattle.plain_mains.specs.f_tree.declared.units.Unit.{Unit as WrittenUnit}
use Rattle.plain_mains.specs.f_tree.Facts.{UnitKind, Member}
use Rattle.plain_mains.specs.f_tree.Setting.{IsIn}
use Rattle.plain_mains.specs.f_tree.Attributes.{from_all, bare, Described}
use Rattle.plain_mains.specs.f_tree.Lines.{size_of, is_stored, common_in, equivalence_in, data_in, unit_kind, program_of, with_ties, unit_read}
use Rattle.source_verdict.specs.declaration_rows.GlobalRows.{all_units}
use Rattle.source_verdict.specs.declaration_rows.SharedStorageRows.{Before, behind_unit, storage_rows_from, units_storage_rows}
use Rattle.source_verdict.specs.declaration_rows.PlacingRows.{placing_of}
use Rattle.source_verdict.specs.declaration_rows.Verdicts.{storage_faults_of, storage_faults, shared_faults}
use Rattle.source_verdict.specs.source_acceptance.SourceFiles.{Source, SpellsSource}
use Rattle.source_verdict.specs.source_acceptance.Acceptance as table
use Rattle.source_verdict.specs.source_acceptance.Acceptance.{tree_faults}
use Rattle.plain_mains.specs.plain_forms.PlainUnits.{has_none, has_own_storage, has_plain_lines, has_constant_bounds, is_plain_variable}
use Rattle.plain_mains.proofs.PlainUnits.{none_is}
use Rattle.plain_mains.proofs.StoredNames.{TellsStored, told_member}
use Rattle.source_verdict.specs.unit_forms.PlainProcedures.{may_run, heading_fits, has_no_entries, is_plain_as, is_plain_name, each_name_is_plain, has_plain_heading, is_plain_unit}
use Rattle.source_verdict.specs.unit_translation.UnitContents.{LoweredUnit}
use Rattle.source_verdict.specs.translated_files.TranslatedFiles.{passes_tests, lowered_at, lowered_before, lowered_from, files_before, lowered_files, form_row, row_unless, rows_of_lowering, rows_behind, units_not_translated, files_without_units, files_not_translated}
use Rattle.source_verdict.specs.SourceRows.{Translation, Cards, Syntax, Nesting, Declarations, IsAccepted}
use Rattle.source_verdict.proofs.EarlyPhases.{cards_down, syntax_down, nests_down, accepted_forms, accepted_sharing}
use Rattle.source_verdict.proofs.OneSet.{one_set}
use Rattle.acceptance_laws.specs.WholeTable.{EachTranslatedSourceIsAccepted, EachEarlierRefusalIsFirst}
use Rattle.acceptance_laws.proofs.OwnStorage.{both_none, no_row_of_storage, no_row_of_shared_storage}
use Rattle.acceptance_laws.proofs.Phases.{declarations_down, by_phase}

-- ## A plain unit

record SharesNothing (u : WrittenUnit) : Type 0 where
  common : from_all common_in u.statements ≡ []
  tied : from_all equivalence_in u.statements ≡ []
  given : from_all data_in u.statements ≡ []
  plain : each_name_is_plain u ≡ true

shares_nothing : (options : Options) (u : WrittenUnit) → is_plain_unit options u ≡ true → SharesNothing u
unfolding is_plain_unit has_own_storage
shares_nothing options u is =
    let behind = (and_parts (may_run (unit_kind u)) _ is).1 in
    let heading = (and_parts (heading_fits (unit_kind u) u.dummies) _ behind).1 in
    let entries = (and_parts (has_no_entries u) _ heading).1 in
    let storage = and_parts (has_none (from_all common_in u.statements) && (has_none (from_all equivalence_in u.statements) && has_none (from_all data_in u.statements))) _ entries in
    let names = (and_parts (has_plain_heading u) _ storage.1).1 in
    let common = and_parts (has_none (from_all common_in u.statements)) _ storage.0 in
    let tied = and_parts (has_none (from_all equivalence_in u.statements)) (has_none (from_all data_in u.statements)) common.1 in
    record {
      common = none_is (from_all common_in u.statements) common.0;
      tied = none_is (from_all equivalence_in u.statements) tied.0;
      given = none_is (from_all data_in u.statements) tied.1;
      plain = (and_parts (has_plain_lines (unit_read options u)) (each_name_is_plain u) names).1;
    }

variable_as : (kind : UnitKind) (k : Class) (d : Described) → is_stored (bare k None) ≡ true → is_plain_as kind k d ≡ true → (has_constant_bounds d.attribute && is_plain_variable d) ≡ true
unfolding is_stored bare is_plain_as
variable_as kind class.Stored d stored plain = plain
variable_as kind class.Dummy d stored plain = absurd (cc)
variable_as kind class.Result d stored plain = absurd (cc)
variable_as kind class.Constant d stored plain = absurd (cc)
variable_as kind class.Procedure d stored plain = absurd (cc)
variable_as kind class.DummyProcedure d stored plain = absurd (cc)
variable_as kind class.StatementFunction d stored plain = absurd (cc)
variable_as kind class.Intrinsic d stored plain = absurd (cc)
variable_as kind class.Unit d stored plain = absurd (cc)

tells_stored : (kind : UnitKind) → TellsStored (is_plain_name kind)
unfolding is_plain_name is_stored bare
tells_stored kind d plain stored = variable_as kind d.attribute.class d stored plain

small_names : (options : Options) (u : WrittenUnit) → each_name_is_plain u ≡ true → (m : Member) → IsIn m (unit_read options u).stored → size_of ((unit_read options u).attribute m.name) < 67108865
unfolding unit_read with_ties program_of each_name_is_plain
small_names options u plain m among = (told_member (is_plain_name (unit_kind u)) (tells_stored (unit_kind u)) u plain m among).bounded

-- ## The units of files whose forms are all translated

pub data ArePlain (options : Options) : List WrittenUnit → Type 0 where
  no_units : ArePlain options []
  one_unit : (u : WrittenUnit) (us : List WrittenUnit) → is_plain_unit options u ≡ true → ArePlain options us → ArePlain options (u ∷ us)

passed_by : {A : Type 0} (t : Bool) (x : Option A) (y : A) → (if t then x else None) ≡ Some y → t ≡ true
passed_by true x y is = refl
passed_by false x y is = absurd (cc)

-- a unit that is lowered is plain
plain_at : (options : Options) (units : List WrittenUnit) (j : ℕ) (u : WrittenUnit) (lowered : LoweredUnit) → lowered_at options units j u ≡ Some lowered → is_plain_unit options u ≡ true
unfolding lowered_at passes_tests
plain_at options units j u lowered is = (and_parts (is_plain_unit options u) _ (passed_by _ _ lowered is)).0

plain_unless : (options : Options) (units : List WrittenUnit) (j : ℕ) (u : WrittenUnit) (found : Option LoweredUnit) → lowered_at options units j u ≡ found →
    row_unless found (form_row u u.statements) ≡ [] → is_plain_unit options u ≡ true
unfolding row_unless
plain_unless options units j u None is none = absurd (cc)
plain_unless options units j u (Some lowered) is none = plain_at options units j u lowered is

-- units of which none has a row are plain
none_refused : (options : Options) (units : List WrittenUnit) (j : ℕ) (us : List WrittenUnit) → rows_of_lowering options units j us ≡ [] → ArePlain options us
unfolding rows_of_lowering
none_refused options units j [] none = no_units
none_refused options units j (u ∷ us) none =
    let parts = both_none (row_unless (lowered_at options units j u) (form_row u u.statements)) (rows_of_lowering options units (suc j) us) none in
    one_unit u us (plain_unless options units j u (lowered_at options units j u) refl parts.one) (none_refused options units (suc j) us parts.other)

-- and so are units that are all lowered
both_lowered : (options : Options) (units : List WrittenUnit) (j : ℕ) (u : WrittenUnit) (us : List WrittenUnit) (found : Option LoweredUnit) (behind : Option (List LoweredUnit))
    (all : List LoweredUnit) → lowered_at options units j u ≡ found → ((later : List LoweredUnit) → behind ≡ Some later → ArePlain options us) →
    lowered_before found behind ≡ Some all → ArePlain options (u ∷ us)
unfolding lowered_before
both_lowered options units j u us None behind all is others whole = absurd (cc)
both_lowered options units j u us (Some lowered) None all is others whole = absurd (cc)
both_lowered options units j u us (Some lowered) (Some later) all is others whole = one_unit u us (plain_at options units j u lowered is) (others later refl)

all_lowered : (options : Options) (units : List WrittenUnit) (j : ℕ) (us : List WrittenUnit) (all : List LoweredUnit) → lowered_from options units j us ≡ Some all → ArePlain options us
unfolding lowered_from
all_lowered options units j [] all whole = no_units
all_lowered options units j (u ∷ us) all whole =
    both_lowered options units j u us (lowered_at options units j u) (lowered_from options units (suc j) us) all refl
    (λ later is. all_lowered options units (suc j) us later is) whole

plain_both : (options : Options) (us vs : List WrittenUnit) → ArePlain options us → ArePlain options vs → ArePlain options (us ++ vs)
plain_both options _ vs no_units others = others
plain_both options _ vs (one_unit u us plain later) others = one_unit u (us ++ vs) plain (plain_both options us vs later others)

-- the units of files that are all lowered
both_files : (options : Options) (units : List WrittenUnit) (j : ℕ) (us vs : List WrittenUnit) (found : Option (List LoweredUnit)) (behind : Option (List (List LoweredUnit))) (lfs : List (List LoweredUnit)) →
    lowered_from options units j us ≡ found → ((later : List (List LoweredUnit)) → behind ≡ Some later → ArePlain options vs) → files_before found behind ≡ Some lfs → ArePlain options (us ++ vs)
unfolding files_before
both_files options units j us vs None behind lfs is others whole = absurd (cc)
both_files options units j us vs (Some all) None lfs is others whole = absurd (cc)
both_files options units j us vs (Some all) (Some later) lfs is others whole = plain_both options us vs (all_lowered options units j us all is) (others later refl)

files_lowered : (options : Options) (units : List WrittenUnit) (j : ℕ) (fs : List File) (lfs : List (List LoweredUnit)) → lowered_files options units j fs ≡ Some lfs → ArePlain options (all_units fs)
unfolding lowered_files all_units
files_lowered options units j [] lfs whole = no_units
files_lowered options units j (f ∷ fs) lfs whole =
    both_files options units j f.units (all_units fs) (lowered_from options units j f.units) (lowered_files options units (j + length f.units) fs) lfs refl
    (λ later is. files_lowered options units (j + length f.units) fs later is) whole

either_lowered : (options : Options) (fs : List File) (found : Option (List (List LoweredUnit))) → lowered_files options (all_units fs) 0 fs ≡ found →
    rows_behind found (rows_of_lowering options (all_units fs) 0 (all_units fs)) fs ≡ [] → ArePlain options (all_units fs)
unfolding rows_behind
either_lowered options fs None is none = none_refused options (all_units fs) 0 (all_units fs) none
either_lowered options fs (Some lfs) is none = files_lowered options (all_units fs) 0 fs lfs is

plain_units_of : (options : Options) (fs : List File) → units_not_translated options fs ≡ [] → ArePlain options (all_units fs)
unfolding units_not_translated
plain_units_of options fs none = either_lowered options fs (lowered_files options (all_units fs) 0 fs) refl none

pub plain_units : (options : Options) (fs : List File) → files_not_translated options fs ≡ [] → ArePlain options (all_units fs)
unfolding files_not_translated
plain_units options fs none = plain_units_of options fs (both_none (files_without_units 0 fs) (units_not_translated options fs) none).other

no_storage_rows : (options : Options) (us : List WrittenUnit) → ArePlain options us → storage_faults_of options us ≡ []
unfolding storage_faults_of
no_storage_rows options _ no_units = refl
no_storage_rows options _ (one_unit u us plain others) =
    let shares = shares_nothing options u plain in
    (λ i. no_row_of_storage u (unit_read options u) shares.common shares.tied shares.given i ++ no_storage_rows options us others i)

no_shared_rows : (options : Options) (us : List WrittenUnit) (before : Before) → ArePlain options us → storage_rows_from options before us ≡ []
unfolding storage_rows_from
no_shared_rows options _ before no_units = refl
no_shared_rows options _ before (one_unit u us plain others) =
    let shares = shares_nothing options u plain in
    let later = behind_unit u (unit_read options u) (placing_of u (unit_read options u)) before in
    (λ i. no_row_of_shared_storage options u before shares.common shares.tied shares.given (small_names options u shares.plain) i
    ++ no_shared_rows options us later others i)

-- no row of storage, and none of storage that is shared
pub no_rows_of_storage : (options : Options) (set : FileSet) → files_not_translated options set.files ≡ [] →
    (storage_faults options set ≡ []) × (units_storage_rows options (all_units set.files) ≡ [])
unfolding storage_faults units_storage_rows
no_rows_of_storage options set none =
    let plain = plain_units options set.files none in
    (no_storage_rows options (all_units set.files) plain, no_shared_rows options (all_units set.files) _ plain)

-- ## The whole

none_there : (rs : List Refusal) (r : Refusal) → rs ≡ [] → IsIn r rs → ⊥
none_there rs r none among = elim (subst (IsIn r) none among) [ ]

record HasNoFurtherRow (options : Options) (set : FileSet) : Type 0 where
  storage : storage_faults options set ≡ []
  shared : shared_faults options set ≡ []

further_of : (options : Options) (source : Source) (set : FileSet) → IsAccepted options source set → HasNoFurtherRow options set
unfolding shared_faults
further_of options source set accepted =
    let rows = no_rows_of_storage options set (accepted_forms options source set accepted) in
    record { storage = rows.0; shared = (λ i. accepted_sharing Translation options source set accepted i ++ rows.1 i) }

no_storage : (options : Options) (source : Source) (set : FileSet) (r : Refusal) → SpellsSource source set → HasNoFurtherRow options set → table.Fault options source table.Storage r → ⊥
unfolding tree_faults
no_storage options source set r spelled none (table.of_trees _ other _ spells among) =
    none_there (storage_faults options other) r (subst (λ s. storage_faults options s ≡ []) (one_set source set other spelled spells) none.storage) among

no_sharing : (options : Options) (source : Source) (set : FileSet) (r : Refusal) → SpellsSource source set → HasNoFurtherRow options set → table.Fault options source table.Sharing r → ⊥
unfolding tree_faults
no_sharing options source set r spelled none (table.of_trees _ other _ spells among) =
    none_there (shared_faults options other) r (subst (λ s. shared_faults options s ≡ []) (one_set source set other spelled spells) none.shared) among

pub accepted_by_all : EachTranslatedSourceIsAccepted
accepted_by_all options source set accepted = record { whole = accepted.whole; spelled = accepted.spelled; sound = sound }
  where
    further : HasNoFurtherRow options set
    further = further_of options source set accepted

    sound : (phase : table.Phase) (r : Refusal) → table.Fault options source phase r → ⊥
    sound table.Cards r h = accepted.sound Cards r (cards_down Translation options source r h)
    sound table.Syntax r h = accepted.sound Syntax r (syntax_down Translation options source r h)
    sound table.Nesting r h = accepted.sound Nesting r (nests_down Translation options source r h)
    sound table.Declarations r h = accepted.sound Declarations r (declarations_down options source r h)
    sound table.Storage r h = no_storage options source set r accepted.spelled further h
    sound table.Sharing r h = no_sharing options source set r accepted.spelled further h

-- a refusal of an earlier phase than forms, or of what units share
pub refused_first : EachEarlierRefusalIsFirst
refused_first options source r other first = by_phase options source r first other (λ set spells none. no_rows_of_storage options set none) first.phase refl
