-- The phases that the verdict of a translation and the whole table have in common, and that a first refusal of one is a first refusal of the other.
use Rattle.std.specs.Prelude.{◌≡◌, ◌≢◌, ℕ, suc, ◌<◌, ℤ, Bool, true, false, List, [], ◌∷◌, ◌++◌, Option, Some, None, if◌then◌else◌}
use Rattle.std.proofs.Common.{refl, sym, subst, arith}
use Rattle.plain_mains.specs.f_tree.declared.names.Options.{Options}
use Rattle.plain_mains.specs.f_tree.declared.refusals.Kind.TheVariants.{NotBuiltYet}
use Rattle.plain_mains.specs.f_tree.declared.refusals.Refusal.{Refusal}
use Rattle.plain_mains.specs.f_tree.declared.statements.Stmt.{Stmt}
use Rattle.plain_mains.specs.f_tree.declared.units.File.{File}
use Rattle.plain_mains.specs.f_tree.declared.units.FileSet.{FileSet}
use Rattle.plain_mains.specs.f_tree.declared.units.Unit.{Unit as WrittenUnit}
use Rattle.plain_mains.specs.f_tree.RefusalRows.{IsNotAfter}
use Rattle.plain_mains.specs.f_tree.Setting.{IsIn, first_in, later_in}
use Rattle.source_verdict.specs.declaration_rows.GlobalRows.{all_units, units_global_rows}
use Rattle.source_verdict.specs.declaration_rows.SetRows.{set_faults}
use Rattle.source_verdict.specs.declaration_rows.SharedStorageRows.{units_storage_rows}
use Rattle.source_verdict.specs.declaration_rows.Verdicts.{storage_faults, shared_faults}
use Rattle.source_verdict.specs.source_acceptance.SourceFiles.{Source, SpellsSource}
use Rattle.source_verdict.specs.source_acceptance.Acceptance as table
use Rattle.source_verdict.specs.source_acceptance.Acceptance.{tree_faults}
use Rattle.source_verdict.specs.unit_translation.UnitContents.{LoweredUnit, constants_passed}
use Rattle.source_verdict.specs.unit_translation.UnitBodies.{all_lowered}
use Rattle.source_verdict.specs.named_units.NamedUnits.{named_body_of}
use Rattle.source_verdict.specs.translated_files.TranslatedFiles.{lowered_at, lowered_files, is_translated_form, form_row, row_unless, rows_of_lowering, rows_of_bodies, rows_of_files, rows_behind, units_not_translated, row_of_none, files_without_units, files_not_translated}
use Rattle.source_verdict.specs.SourceRows.{Translation, Phase, Cards, Syntax, Nesting, Declarations, Forms, Sharing, place_of, Fault, of_declarations, of_forms, of_sharing, IsFirstRefusal}
use Rattle.source_verdict.proofs.EarlyPhases.{cards_down, syntax_down, nests_down, cards_up, syntax_up, nests_up, is_empty}

-- ## Declarations

declared_tree : (options : Options) (set : FileSet) (r : Refusal) → IsIn r (set_faults options set) → IsIn r (tree_faults table.Declarations options set)
unfolding tree_faults
declared_tree options set r among = among

declared_set : (options : Options) (set : FileSet) (r : Refusal) → IsIn r (tree_faults table.Declarations options set) → IsIn r (set_faults options set)
unfolding tree_faults
declared_set options set r among = among

pub declarations_up : (options : Options) (source : Source) (r : Refusal) → Fault options source Declarations r → table.Fault options source table.Declarations r
declarations_up options source r (of_declarations set _ spells among) = table.of_trees table.Declarations set r spells (declared_tree options set r among)

pub declarations_down : (options : Options) (source : Source) (r : Refusal) → table.Fault options source table.Declarations r → Fault options source Declarations r
declarations_down options source r (table.of_trees _ set _ spells among) = of_declarations set r spells (declared_set options set r among)

-- ## Forms that are not translated

pub in_either : {A : Type 0} {P : Type 0} (x : A) (xs ys : List A) → (IsIn x xs → P) → (IsIn x ys → P) → IsIn x (xs ++ ys) → P
in_either x [] ys one other among = other among
in_either x (_ ∷ xs) ys one other first_in = one first_in
in_either x (y ∷ xs) ys one other (later_in among) = in_either x xs ys (λ its. one (later_in its)) other among

abbrev IsForm : Refusal → Type 0
IsForm r = r.kind ≡ NotBuiltYet

either_is : (t : Bool) (r q : Refusal) → IsForm r → IsForm q → IsForm (if t then r else q)
either_is true r q one other = one
either_is false r q one other = other

form_row_is : (u : WrittenUnit) (ss : List Stmt) → IsForm (form_row u ss)
unfolding form_row
form_row_is u [] = refl
form_row_is u (s ∷ ss) = either_is (is_translated_form s.body) (form_row u ss) _ (form_row_is u ss) refl

row_unless_is : {A : Type 0} (found : Option A) (r q : Refusal) → IsForm r → IsIn q (row_unless found r) → IsForm q
unfolding row_unless
row_unless_is None r _ is first_in = is
row_unless_is None r q is (later_in among) = elim among [ ]
row_unless_is (Some found) r q is among = elim among [ ]

lowering_is : (options : Options) (units : List WrittenUnit) (j : ℕ) (us : List WrittenUnit) (q : Refusal) → IsIn q (rows_of_lowering options units j us) → IsForm q
unfolding rows_of_lowering
lowering_is options units j [] q among = elim among [ ]
lowering_is options units j (u ∷ us) q among =
    in_either q (row_unless (lowered_at options units j u) (form_row u u.statements)) (rows_of_lowering options units (suc j) us)
    (row_unless_is (lowered_at options units j u) (form_row u u.statements) q (form_row_is u u.statements)) (lowering_is options units (suc j) us q) among

bodies_are : (constants : List ℤ) (all ls : List LoweredUnit) (us : List WrittenUnit) (q : Refusal) → IsIn q (rows_of_bodies constants all ls us) → IsForm q
unfolding rows_of_bodies
bodies_are constants all [] us q among = elim among [ ]
bodies_are constants all (l ∷ ls) [] q among = elim among [ ]
bodies_are constants all (l ∷ ls) (u ∷ us) q among =
    in_either q (row_unless (named_body_of constants all l) (form_row u u.statements)) (rows_of_bodies constants all ls us)
    (row_unless_is (named_body_of constants all l) (form_row u u.statements) q (form_row_is u u.statements)) (bodies_are constants all ls us q) among

functions_are : (all : List LoweredUnit) (lfs : List (List LoweredUnit)) (fs : List File) (q : Refusal) → IsIn q (rows_of_files all lfs fs) → IsForm q
unfolding rows_of_files
functions_are all [] fs q among = elim among [ ]
functions_are all (us ∷ lfs) [] q among = elim among [ ]
functions_are all (us ∷ lfs) (f ∷ fs) q among =
    in_either q (rows_of_bodies (constants_passed us) all us f.units) (rows_of_files all lfs fs) (bodies_are (constants_passed us) all us f.units q) (functions_are all lfs fs q) among

either_row_is : (options : Options) (us : List WrittenUnit) (fs : List File) (found : Option (List (List LoweredUnit))) (q : Refusal) → IsIn q (rows_behind found (rows_of_lowering options us 0 us) fs) → IsForm q
unfolding rows_behind
either_row_is options us fs None q among = lowering_is options us 0 us q among
either_row_is options us fs (Some lfs) q among = functions_are (all_lowered lfs) lfs fs q among

units_are : (options : Options) (fs : List File) (q : Refusal) → IsIn q (units_not_translated options fs) → IsForm q
unfolding units_not_translated
units_are options fs q among = either_row_is options (all_units fs) fs (lowered_files options (all_units fs) 0 fs) q among

without_is : (k : ℕ) (us : List WrittenUnit) (q : Refusal) → IsIn q (row_of_none k us) → IsForm q
unfolding row_of_none
without_is k [] _ first_in = refl
without_is k [] q (later_in among) = elim among [ ]
without_is k (u ∷ us) q among = elim among [ ]

without_are : (k : ℕ) (fs : List File) (q : Refusal) → IsIn q (files_without_units k fs) → IsForm q
unfolding files_without_units
without_are k [] q among = elim among [ ]
without_are k (f ∷ fs) q among = in_either q (row_of_none k f.units) (files_without_units (suc k) fs) (without_is k f.units q) (without_are (suc k) fs q) among

files_are : (options : Options) (fs : List File) (q : Refusal) → IsIn q (files_not_translated options fs) → IsForm q
unfolding files_not_translated
files_are options fs q among = in_either q (files_without_units 0 fs) (units_not_translated options fs) (without_are 0 fs q) (units_are options fs q) among

forms_are : (options : Options) (source : Source) (r : Refusal) → Fault options source Forms r → IsForm r
forms_are options source r (of_forms translated set _ spells among) = files_are options set.files r among

-- ## First refusals

-- what is said of a source whose forms are all translated: it breaks no row of storage, and of what units share those alone that are judged
abbrev pub SharesNoStorage : Options → Source → Type 0
SharesNoStorage options source = (set : FileSet) → SpellsSource source set → files_not_translated options set.files ≡ [] →
    (storage_faults options set ≡ []) × (units_storage_rows options (all_units set.files) ≡ [])

in_front : {A : Type 0} (x : A) (xs ys : List A) → IsIn x xs → IsIn x (xs ++ ys)
in_front x [] ys among = elim among [ ]
in_front x (_ ∷ xs) ys first_in = first_in
in_front x (y ∷ xs) ys (later_in among) = later_in (in_front x xs ys among)

none_in : (q : Refusal) (rs : List Refusal) → rs ≡ [] → IsIn q rs → ⊥
none_in q rs none among = elim (subst (IsIn q) none among) [ ]

shared_tree : (options : Options) (set : FileSet) (r : Refusal) → IsIn r (units_global_rows (all_units set.files)) → IsIn r (tree_faults table.Sharing options set)
unfolding tree_faults shared_faults
shared_tree options set r among = in_front r (units_global_rows (all_units set.files)) (units_storage_rows options (all_units set.files)) among

shared_names : (options : Options) (set : FileSet) (r : Refusal) → units_storage_rows options (all_units set.files) ≡ [] →
    IsIn r (tree_faults table.Sharing options set) → IsIn r (units_global_rows (all_units set.files))
unfolding tree_faults shared_faults
shared_names options set r none among =
    in_either r (units_global_rows (all_units set.files)) (units_storage_rows options (all_units set.files)) (λ its. its)
    (λ its. absurd (none_in r (units_storage_rows options (all_units set.files)) none its)) among

stored_badly : (options : Options) (set : FileSet) (r : Refusal) → storage_faults options set ≡ [] → IsIn r (tree_faults table.Storage options set) → ⊥
unfolding tree_faults
stored_badly options set r none among = none_in r (storage_faults options set) none among

module _ (options : Options) (source : Source) (r : Refusal) (first : IsFirstRefusal options source r) where
  holds_at : (phase : Phase) → first.phase ≡ phase → Fault options source phase r
  holds_at phase is = subst (λ p. Fault options source p r) is first.holds

  least_at : (phase : Phase) → first.phase ≡ phase → (q : Refusal) → Fault options source phase q → IsNotAfter r q
  least_at phase is = subst (λ p. (q : Refusal) → Fault options source p q → IsNotAfter r q) is first.least

  clear_at : (phase earlier : Phase) → first.phase ≡ phase → place_of earlier < place_of phase → (q : Refusal) → Fault options source earlier q → ⊥
  clear_at phase earlier is before q h = first.read earlier q (subst (λ p. place_of earlier < place_of p) (sym is) before) h

  by_cards : first.phase ≡ Cards → table.IsFirstRefusal options source r
  unfolding table.place_of
  by_cards is = record {
    phase = table.Cards;
    read = λ earlier q before h. absurd (let below : table.place_of earlier < 0 = before in omega (arith, below));
    holds = cards_up Translation options source r (holds_at Cards is);
    least = λ q h. least_at Cards is q (cards_down Translation options source q h);
  }

  before_syntax : first.phase ≡ Syntax → table.IsRead options source table.Syntax
  unfolding table.place_of place_of
  before_syntax is table.Cards q before h = clear_at Syntax Cards is (omega arith) q (cards_down Translation options source q h)
  before_syntax is table.Syntax q before h = absurd (omega (arith, before))
  before_syntax is table.Nesting q before h = absurd (omega (arith, before))
  before_syntax is table.Declarations q before h = absurd (omega (arith, before))
  before_syntax is table.Storage q before h = absurd (omega (arith, before))
  before_syntax is table.Sharing q before h = absurd (omega (arith, before))

  by_syntax : first.phase ≡ Syntax → table.IsFirstRefusal options source r
  by_syntax is = record {
    phase = table.Syntax;
    read = before_syntax is;
    holds = syntax_up Translation options source r (holds_at Syntax is);
    least = λ q h. least_at Syntax is q (syntax_down Translation options source q h);
  }

  before_nests : first.phase ≡ Nesting → table.IsRead options source table.Nesting
  unfolding table.place_of place_of
  before_nests is table.Cards q before h = clear_at Nesting Cards is (omega arith) q (cards_down Translation options source q h)
  before_nests is table.Syntax q before h = clear_at Nesting Syntax is (omega arith) q (syntax_down Translation options source q h)
  before_nests is table.Nesting q before h = absurd (omega (arith, before))
  before_nests is table.Declarations q before h = absurd (omega (arith, before))
  before_nests is table.Storage q before h = absurd (omega (arith, before))
  before_nests is table.Sharing q before h = absurd (omega (arith, before))

  by_nests : first.phase ≡ Nesting → table.IsFirstRefusal options source r
  by_nests is = record {
    phase = table.Nesting;
    read = before_nests is;
    holds = nests_up Translation options source r (holds_at Nesting is);
    least = λ q h. least_at Nesting is q (nests_down Translation options source q h);
  }

  before_declarations : first.phase ≡ Declarations → table.IsRead options source table.Declarations
  unfolding table.place_of place_of
  before_declarations is table.Cards q before h = clear_at Declarations Cards is (omega arith) q (cards_down Translation options source q h)
  before_declarations is table.Syntax q before h = clear_at Declarations Syntax is (omega arith) q (syntax_down Translation options source q h)
  before_declarations is table.Nesting q before h = clear_at Declarations Nesting is (omega arith) q (nests_down Translation options source q h)
  before_declarations is table.Declarations q before h = absurd (omega (arith, before))
  before_declarations is table.Storage q before h = absurd (omega (arith, before))
  before_declarations is table.Sharing q before h = absurd (omega (arith, before))

  by_declarations : first.phase ≡ Declarations → table.IsFirstRefusal options source r
  by_declarations is = record {
    phase = table.Declarations;
    read = before_declarations is;
    holds = declarations_up options source r (holds_at Declarations is);
    least = λ q h. least_at Declarations is q (declarations_down options source q h);
  }

  no_form : first.phase ≡ Sharing → (set : FileSet) → SpellsSource source set → files_not_translated options set.files ≡ []
  unfolding place_of
  no_form is set spells = is_empty (files_not_translated options set.files) (λ q among. clear_at Sharing Forms is (omega arith) q (of_forms refl set q spells among))

  no_stored : first.phase ≡ Sharing → SharesNoStorage options source → (q : Refusal) → table.Fault options source table.Storage q → ⊥
  no_stored is none q (table.of_trees _ set _ spells among) = stored_badly options set q (none set spells (no_form is set spells)).0 among

  before_sharing : first.phase ≡ Sharing → SharesNoStorage options source → table.IsRead options source table.Sharing
  unfolding table.place_of place_of
  before_sharing is none table.Cards q before h = clear_at Sharing Cards is (omega arith) q (cards_down Translation options source q h)
  before_sharing is none table.Syntax q before h = clear_at Sharing Syntax is (omega arith) q (syntax_down Translation options source q h)
  before_sharing is none table.Nesting q before h = clear_at Sharing Nesting is (omega arith) q (nests_down Translation options source q h)
  before_sharing is none table.Declarations q before h = clear_at Sharing Declarations is (omega arith) q (declarations_down options source q h)
  before_sharing is none table.Storage q before h = no_stored is none q h
  before_sharing is none table.Sharing q before h = absurd (omega (arith, before))

  shared_up : (q : Refusal) → Fault options source Sharing q → table.Fault options source table.Sharing q
  shared_up q (of_sharing set _ spells among) = table.of_trees table.Sharing set q spells (shared_tree options set q among)

  shared_down : first.phase ≡ Sharing → SharesNoStorage options source → (q : Refusal) → table.Fault options source table.Sharing q → Fault options source Sharing q
  shared_down is none q (table.of_trees _ set _ spells among) =
      of_sharing set q spells (shared_names options set q (none set spells (no_form is set spells)).1 among)

  by_sharing : first.phase ≡ Sharing → SharesNoStorage options source → table.IsFirstRefusal options source r
  by_sharing is none = record {
    phase = table.Sharing;
    read = before_sharing is none;
    holds = shared_up r (holds_at Sharing is);
    least = λ q h. least_at Sharing is q (shared_down is none q h);
  }

  pub by_phase : r.kind ≢ NotBuiltYet → SharesNoStorage options source → (phase : Phase) → first.phase ≡ phase → table.IsFirstRefusal options source r
  by_phase other none Cards is = by_cards is
  by_phase other none Syntax is = by_syntax is
  by_phase other none Nesting is = by_nests is
  by_phase other none Declarations is = by_declarations is
  by_phase other none Forms is = absurd (other (forms_are options source r (holds_at Forms is)))
  by_phase other none Sharing is = by_sharing is none
