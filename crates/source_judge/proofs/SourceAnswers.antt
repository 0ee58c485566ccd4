-- What the judge answers, from what the reader of the source gives, the first row of declarations, and the first of what units share.
use Rattle.std.specs.Prelude.{◌≡◌, ℕ, List, Option, Some, None, Result, Ok, Err}
use Rattle.std.proofs.Common.{refl, sym, ap, ◌∙◌, subst}
use Rattle.f_tree.specs.declared.names.Options.{Options}
use Rattle.f_tree.specs.declared.refusals.Fail.{Fail}
use Rattle.f_tree.specs.declared.refusals.Fail.TheVariants as fail
use Rattle.f_tree.specs.declared.refusals.Refusal.{Refusal}
use Rattle.f_tree.specs.declared.units.File.{File}
use Rattle.f_tree.specs.declared.units.FileSet.{FileSet}
use Rattle.set_judge.specs.declaration_rows.GlobalRows.{all_units, units_global_rows}
use Rattle.set_judge.specs.declaration_rows.SetRows.{files_rows, set_faults}
use Rattle.set_judge.specs.declaration_rows.Verdicts.{first_of}
use Rattle.source_reader.specs.source_acceptance.SourceFiles.{Source}
use Rattle.source_reader.specs.source_verdict.SourceRows.{Purpose, Translation, Checking, IsFirstRefusalFor}
use Rattle.source_reader.specs.source_verdict.Fronts.{IsFirstOfAllFor}
use Rattle.source_reader.proofs.source_verdict.EarlyPhases.{early_refusal, IsSpelledClear, declarations_refused, sharing_refused, set_accepted, no_others}
use Rattle.source_reader.specs.SourceReading.{entries}
use Rattle.source_reader.specs.Sources.{source_of, IsSet, IsSourceRead}
use Rattle.source_reader.specs.Trees.{IsUnless}
use Rattle.source_judge.specs.JudgedSource.{IsWellDeclared, IsDeclaredSet, IsSourceDeclared, IsApart, IsSourceJudged}

pub clear_of : (options : Options) (source : Source) (set : FileSet) → IsSet options source set → IsSpelledClear options source set
clear_of options source set is = record { whole = is.whole; spells = is.spells; cards = is.cards; rows = is.statements; nests = is.nests }

-- a refusal of the source with the files that are given is one of each source with these: it has no others
pub refused_for : (purpose : Purpose) (options : Options) (files names included : List (List ℕ)) (set : FileSet) (r : Refusal) →
    IsSet options (source_of files names included) set → IsFirstRefusalFor purpose options (source_of files names included) r →
    IsFirstOfAllFor purpose options files (entries names included) r
refused_for purpose options files names included set r is first = λ source of.
    subst (λ s. IsFirstRefusalFor purpose options s r) (no_others files (entries names included) source is.whole of) first

-- UP TO DECLARATIONS
pub read_refused : (options : Options) (files names included : List (List ℕ)) (why : Fail) → IsSourceRead options files names included (Err why) →
    IsSourceDeclared options files names included (Err why)
read_refused options files names included (fail.Refused r) is = λ purpose source of.
    let early = is source of in early_refusal purpose options source r early.first early.early
read_refused options files names included fail.NoMemory is = tt

rows_of_set : (options : Options) (set : FileSet) → set_faults options set ≡ files_rows options set.files
unfolding set_faults
rows_of_set options set = refl

row_found : (options : Options) (set : FileSet) (trees : List File) (found : Option Refusal) → found ≡ first_of (files_rows options trees) → trees ≡ set.files →
    first_of (set_faults options set) ≡ found
row_found options set trees found is same = ap first_of (rows_of_set options set) ∙ (ap (λ fs. first_of (files_rows options fs)) (sym same) ∙ sym is)

pub well_declared_by : (options : Options) (set : FileSet) (trees : List File) (found : Option Refusal) (answer : Result FileSet Fail) →
    found ≡ first_of (files_rows options trees) → trees ≡ set.files → IsUnless found set answer → IsWellDeclared options set answer
well_declared_by options set trees (Some r) answer is same given = subst (IsWellDeclared options set) (sym given) (row_found options set trees (Some r) is same)
well_declared_by options set trees None answer is same given = subst (IsWellDeclared options set) (sym given) (refl, row_found options set trees None is same)

pub declared_by : (options : Options) (files names included : List (List ℕ)) (set : FileSet) (answer : Result FileSet Fail) → IsSet options (source_of files names included) set →
    IsWellDeclared options set answer → IsSourceDeclared options files names included answer
declared_by options files names included set (Ok same) is none =
    subst (λ s. IsSourceDeclared options files names included (Ok s)) (sym none.0) (record { read = is; declared = none.1 })
declared_by options files names included set (Err (fail.Refused r)) is row = λ purpose.
    refused_for purpose options files names included set r is
    (declarations_refused purpose options (source_of files names included) set r (clear_of options (source_of files names included) set is) row)
declared_by options files names included set (Err fail.NoMemory) is nothing = tt

-- ALL PHASES
-- no form is judged for checking
unjudged : {A : Type 0} → Checking ≡ Translation → A
unjudged same = absurd (cc)

pub apart_by : (set : FileSet) (trees : List File) (found : Option Refusal) (answer : Result FileSet Fail) → found ≡ first_of (units_global_rows (all_units trees)) →
    trees ≡ set.files → IsUnless found set answer → IsApart set answer
apart_by set trees (Some r) answer is same given =
    subst (IsApart set) (sym given) (ap (λ fs. first_of (units_global_rows (all_units fs))) (sym same) ∙ sym is)
apart_by set trees None answer is same given =
    subst (IsApart set) (sym given) (refl, ap (λ fs. first_of (units_global_rows (all_units fs))) (sym same) ∙ sym is)

pub not_declared : (options : Options) (files names included : List (List ℕ)) (why : Fail) → IsSourceDeclared options files names included (Err why) →
    IsSourceJudged options files names included (Err why)
not_declared options files names included (fail.Refused r) is = is Checking
not_declared options files names included fail.NoMemory is = tt

pub judged_apart : (options : Options) (files names included : List (List ℕ)) (set : FileSet) (answer : Result FileSet Fail) →
    IsDeclaredSet options (source_of files names included) set → IsApart set answer → IsSourceJudged options files names included answer
judged_apart options files names included set (Ok same) is apart =
    subst (λ s. IsSourceJudged options files names included (Ok s)) (sym apart.0)
    (set_accepted Checking options (source_of files names included) set (clear_of options (source_of files names included) set is.read) is.declared
    (λ judged. unjudged judged) apart.1)
judged_apart options files names included set (Err (fail.Refused r)) is row =
    refused_for Checking options files names included set r is.read
    (sharing_refused Checking options (source_of files names included) set r (clear_of options (source_of files names included) set is.read) is.declared
    (λ judged. unjudged judged) row)
judged_apart options files names included set (Err fail.NoMemory) is nothing = tt
