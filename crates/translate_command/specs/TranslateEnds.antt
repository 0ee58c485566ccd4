-- How a translation of what some places hold onto others ends.
use Rattle.std.specs.Prelude.{◌≡◌, ℕ, ◌≤◌, Bool, List, ◌∷◌, ◌++◌, Option, option_map, Result, Ok, Err, IfSome}
use Rattle.std.specs.Bool.{Decides}
use Rattle.f2c_outside.specs.declared.shelves.Place.{Place}
use Rattle.f2c_outside.specs.declared.shelves.Place.TheVariants.{File as FileNamed}
use Rattle.f2c_outside.specs.Shelf.{ShelfState, Contents, bytes_of}
use Rattle.f_tree.specs.declared.names.Options.{Options}
use Rattle.f_tree.specs.declared.refusals.Refusal.{Refusal}
use Rattle.source_files.specs.source_acceptance.SourceFiles.{Source}
use Rattle.source_files.specs.SourceOnShelf.{mentions, files_on, HasPlaces, AreThere, source_on, IsAccepted}
use Rattle.source_files.specs.SourceReads.{IsAwayAmong, IsFailedAmong}
use Rattle.source_files.specs.SourceEnds.{EndedRefused, EndedNotThere, EndedUnread}
use Rattle.translate_command.specs.declared.failing.TranslateFail.{TranslateFail}
use Rattle.translate_command.specs.declared.failing.TranslateFail.TheVariants.{NotThere, Unread, Refused, NotPrototype, Unwritten, NoMemory}
use Rattle.translate_command.specs.TranslatedTexts.{AreOutputsOf, IsTranslated}
use Rattle.translate_command.specs.OldPrototypes.{AllHaveStill}
use Rattle.translate_command.specs.declared.job.Job.{Job}
use Rattle.prototype_outputs.specs.prototypes.declared.prototype.Prototype.{Prototype}
use Rattle.prototype_outputs.specs.prototypes.PrototypeText.{RefusedLine}
use Rattle.prototype_outputs.specs.Forms.{AreFiles}
use Rattle.translate_command.specs.WrittenTexts.{all_written, AreUnwritten}
use Rattle.shelf_texts.specs.ShelfLoops.{IsKept}

-- a source was read and accepted, its outputs stand in `tos`, and no count rose; where the shelf tells, it is that of the job, and so are the prototype
-- files; `same` says that each old prototype file was there and had its prototypes
pub record EndedDone (options : Options) (job : Job) (tos : List Place) (same : Bool) (b a : ShelfState) : Type 0 where
  pub source : Source
  pub texts : List (List ℕ)
  pub outputs : List (List ℕ)
  pub lists : List (List Prototype)
  pub made : AreOutputsOf options job.prototypes source texts outputs lists
  pub whole : IfSome b.told (λ contents. source ≡ source_on contents job.froms)
  pub quiet : a.faults ≡ b.faults
  pub translated : IfSome b.told (IsTranslated options job texts outputs lists)
  pub compared : IfSome b.told (λ contents. Decides same (AllHaveStill job.olds lists contents))
  pub later : b.faults ≤ a.faults
  pub written : a.told ≡ option_map (all_written tos outputs) b.told

-- a source was read and accepted, and writing its outputs failed; where the shelf tells, it is that of the job
pub record EndedUnwritten (options : Options) (job : Job) (tos : List Place) (place : Place) (b a : ShelfState) : Type 0 where
  pub source : Source
  pub texts : List (List ℕ)
  pub outputs : List (List ℕ)
  pub lists : List (List Prototype)
  pub made : AreOutputsOf options job.prototypes source texts outputs lists
  pub whole : IfSome b.told (λ contents. source ≡ source_on contents job.froms)
  pub translated : IfSome b.told (IsTranslated options job texts outputs lists)
  pub unwritten : AreUnwritten tos outputs place b a

-- the source has a first refusal; the prototype files that are to be checked are there
pub record EndedRefusedSet (options : Options) (job : Job) (refusal : Refusal) (name : Option (List ℕ)) (b a : ShelfState) : Type 0 where
  pub refused : EndedRefused options job.froms refusal name b a
  pub forms_there : IfSome b.told (HasPlaces job.forms)

-- the source is accepted, and the file with this name is the first of the prototype files that is none, for this line
pub record IsBadForm (options : Options) (job : Job) (name : List ℕ) (line : ℕ) (contents : Contents) : Type 0 where
  pub there : HasPlaces job.froms contents
  pub included : AreThere (mentions (files_on contents job.froms)) contents
  pub accepted : IsAccepted options (source_on contents job.froms)
  pub forms_there : HasPlaces job.forms contents
  pub before : List Place
  pub behind : List Place
  pub is : job.forms ≡ before ++ FileNamed name ∷ behind
  pub others : AreFiles (files_on contents before)
  pub refused : RefusedLine (bytes_of (FileNamed name) contents) line

pub record EndedNotPrototype (options : Options) (job : Job) (name : List ℕ) (line : ℕ) (b a : ShelfState) : Type 0 where
  pub kept : IsKept b a
  pub bad : IfSome b.told (IsBadForm options job name line)

-- a file that is read is not there: one of the source, or else a prototype file that is to be checked
pub data EndedAway (options : Options) (job : Job) (name : List ℕ) (b a : ShelfState) : Type 0 where
  source_away : EndedNotThere options job.froms name b a → EndedAway options job name b a
  form_away : IsAwayAmong job.forms name b a → EndedAway options job name b a

-- the shelf failed while one was being read, or an old prototype file
pub data EndedFailed (job : Job) (place : Place) (b a : ShelfState) : Type 0 where
  source_failed : EndedUnread job.froms place b a → EndedFailed job place b a
  form_failed : IsFailedAmong job.forms place b a → EndedFailed job place b a
  old_failed : IsFailedAmong job.olds place b a → EndedFailed job place b a

-- how a translation ends
abbrev pub TranslateEnded : Options → Job → List Place → ShelfState → ShelfState → Result Bool TranslateFail → Type 0
TranslateEnded options job tos b a (Ok same) = EndedDone options job tos same b a
TranslateEnded options job tos b a (Err (Refused refusal name)) = EndedRefusedSet options job refusal name b a
TranslateEnded options job tos b a (Err (NotPrototype name line)) = EndedNotPrototype options job name line b a
TranslateEnded options job tos b a (Err (NotThere name)) = EndedAway options job name b a
TranslateEnded options job tos b a (Err (Unread place)) = EndedFailed job place b a
TranslateEnded options job tos b a (Err (Unwritten place)) = EndedUnwritten options job tos place b a
TranslateEnded options job tos b a (Err NoMemory) = IsKept b a
