-- What the translator answers for a source whose files were read.
use Rattle.std.specs.Prelude.{◌≡◌, ℕ, Bool, List, map, slice_get, Some, Result, Ok, Err}
use Rattle.std.specs.List.{flat_map}
use Rattle.f2c_outside.specs.declared.shelves.Place.{Place}
use Rattle.f2c_outside.specs.declared.shelves.Place.TheVariants.{File as FileNamed}
use Rattle.f2c_outside.specs.Shelf.{ShelfState}
use Rattle.f_tree.specs.declared.refusals.Refusal.{Refusal}
use Rattle.f_tree.specs.declared.names.Options.{Options}
use Rattle.f_tree.specs.declared.refusals.Fail.{Fail}
use Rattle.f_tree.specs.declared.refusals.Fail.TheVariants as fail
use Rattle.source_files.specs.source_reader.SourceReading.{entries}
use Rattle.source_files.specs.source_reader.Sources.{source_of}
use Rattle.source_files.specs.source_verdict.Fronts.{IsFirstOfAll}
use Rattle.source_files.specs.SourceOnShelf.{name_of_file}
use Rattle.translate_command.specs.declared.failing.TranslateFail.{TranslateFail}
use Rattle.translate_command.specs.declared.failing.TranslateFail.TheVariants.{NotThere, Unread, Refused, NotPrototype, Unwritten, NoMemory}
use Rattle.translate_command.specs.TranslatedTexts.{AreOutputsOf}
use Rattle.translate_command.specs.OldPrototypes.{AreCompared, AreNotCompared}
use Rattle.translate_command.specs.declared.job.Job.{Job}
use Rattle.translate_command.specs.declared.texts.Made.{Made}
use Rattle.c_tree.specs.declared.file.CFile.{CFile}
use Rattle.source_files.specs.SourceReads.{IsFailedAmong}
use Rattle.prototype_outputs.specs.Outputs.{tree_outputs}
use Rattle.prototype_outputs.specs.prototypes.TreePrototypes.{tree_prototypes}
use Rattle.prototype_outputs.specs.Forms.{AreFiles, IsFirstBad}
use Rattle.translate_command.specs.WrittenTexts.{AreWritten, AreUnwritten}
use Rattle.shelf_texts.specs.ShelfLoops.{IsKept}

-- what is made of C trees
pub record AreMadeOf (prototypes : Bool) (trees : List CFile) (made : Made) : Type 0 where
  pub outputs : made.outputs ≡ flat_map (tree_outputs prototypes) trees
  pub lists : made.lists ≡ map tree_prototypes trees

-- what is made for a source whose files were read
pub record AreMadeFor (options : Options) (prototypes : Bool) (files names included : List (List ℕ)) (made : Made) : Type 0 where
  pub texts : List (List ℕ)
  pub are : AreOutputsOf options prototypes (source_of files names included) texts made.outputs made.lists

-- why it has none: the first refusal, or want of memory
abbrev pub IsRefusedFor : Options → List (List ℕ) → List (List ℕ) → List (List ℕ) → Fail → Type 0
IsRefusedFor options files names included (fail.Refused refusal) = IsFirstOfAll options files (entries names included) refusal
IsRefusedFor options files names included fail.NoMemory = Unit {0}

-- a refusal with the name of its file, or want of memory for the name
abbrev pub IsRefusedIn : List Place → List (List ℕ) → Refusal → TranslateFail → Type 0
IsRefusedIn froms names refusal (Refused other name) = (other ≡ refusal) × (name ≡ name_of_file froms names refusal.file)
IsRefusedIn froms names refusal NoMemory = Unit {0}
IsRefusedIn froms names refusal (NotThere name) = ⊥
IsRefusedIn froms names refusal (Unread place) = ⊥
IsRefusedIn froms names refusal (NotPrototype name line) = ⊥
IsRefusedIn froms names refusal (Unwritten place) = ⊥

-- further prototype files were checked for their form, of which these are the texts that were read, in the order of their places; or the first is none,
-- or there was no memory
abbrev pub IsFormFail : List Place → List (List ℕ) → TranslateFail → Type 0
IsFormFail forms texts (NotPrototype name line) = (number : ℕ) × (slice_get forms number ≡ Some (FileNamed name)) × IsFirstBad texts number line
IsFormFail forms texts NoMemory = Unit {0}
IsFormFail forms texts (NotThere name) = ⊥
IsFormFail forms texts (Unread place) = ⊥
IsFormFail forms texts (Refused refusal name) = ⊥
IsFormFail forms texts (Unwritten place) = ⊥

-- that the text of a place is no prototype file for a line, or want of memory for its name
abbrev pub IsBadPlace : Place → ℕ → TranslateFail → Type 0
IsBadPlace place line (NotPrototype name other) = (place ≡ FileNamed name) × (other ≡ line)
IsBadPlace place line NoMemory = Unit {0}
IsBadPlace place line (NotThere name) = ⊥
IsBadPlace place line (Unread other) = ⊥
IsBadPlace place line (Refused refusal name) = ⊥
IsBadPlace place line (Unwritten other) = ⊥

-- outputs were written, and the answer is that of the comparison before; or writing failed
abbrev pub AreOutputsWritten : List Place → List (List ℕ) → Bool → ShelfState → ShelfState → Result Bool TranslateFail → Type 0
AreOutputsWritten tos outputs same b a (Ok answer) = (answer ≡ same) × AreWritten tos outputs b a
AreOutputsWritten tos outputs same b a (Err (Unwritten place)) = AreUnwritten tos outputs place b a
AreOutputsWritten tos outputs same b a (Err (NotThere name)) = ⊥
AreOutputsWritten tos outputs same b a (Err (Unread place)) = ⊥
AreOutputsWritten tos outputs same b a (Err (Refused refusal name)) = ⊥
AreOutputsWritten tos outputs same b a (Err (NotPrototype name line)) = ⊥
AreOutputsWritten tos outputs same b a (Err NoMemory) = ⊥

-- old prototype files were compared, and then the outputs written
pub data ArePut (olds : List Place) (made : Made) (tos : List Place) (b a : ShelfState) (result : Result Bool TranslateFail) : Type 0 where
  put : (same : Bool) (middle : ShelfState) → AreCompared olds made.lists same b middle → AreOutputsWritten tos made.outputs same middle a result
      → ArePut olds made tos b a result
  not_compared : (why : TranslateFail) → result ≡ Err why → AreNotCompared olds b a why → ArePut olds made tos b a result

-- the outputs of a source were written, behind the comparison
pub record WrittenFor (options : Options) (job : Job) (files names included forms : List (List ℕ)) (tos : List Place) (same : Bool) (b a : ShelfState) : Type 0 where
  pub made : Made
  pub for_source : AreMadeFor options job.prototypes files names included made
  pub forms_are : AreFiles forms
  pub middle : ShelfState
  pub compared : AreCompared job.olds made.lists same b middle
  pub written : AreWritten tos made.outputs middle a

pub record UnwrittenFor (options : Options) (job : Job) (files names included forms : List (List ℕ)) (tos : List Place) (place : Place) (b a : ShelfState) : Type 0 where
  pub made : Made
  pub for_source : AreMadeFor options job.prototypes files names included made
  pub forms_are : AreFiles forms
  pub middle : ShelfState
  pub kept : IsKept b middle
  pub unwritten : AreUnwritten tos made.outputs place middle a

-- a source whose files were read was translated onto places, or refused, or a further prototype file is none
abbrev pub TranslatedSource : Options → Job → List (List ℕ) → List (List ℕ) → List (List ℕ) → List (List ℕ) → List Place → ShelfState → ShelfState →
    Result Bool TranslateFail → Type 0
TranslatedSource options job files names included forms tos b a (Ok same) = WrittenFor options job files names included forms tos same b a
TranslatedSource options job files names included forms tos b a (Err (Unwritten place)) = UnwrittenFor options job files names included forms tos place b a
TranslatedSource options job files names included forms tos b a (Err (Refused refusal name)) =
    IsFirstOfAll options files (entries names included) refusal × (name ≡ name_of_file job.froms names refusal.file) × IsKept b a
TranslatedSource options job files names included forms tos b a (Err (NotPrototype name line)) =
    (made : Made) × AreMadeFor options job.prototypes files names included made × IsFormFail job.forms forms (NotPrototype name line) × IsKept b a
TranslatedSource options job files names included forms tos b a (Err (Unread place)) = IsFailedAmong job.olds place b a
TranslatedSource options job files names included forms tos b a (Err NoMemory) = IsKept b a
TranslatedSource options job files names included forms tos b a (Err (NotThere name)) = ⊥
