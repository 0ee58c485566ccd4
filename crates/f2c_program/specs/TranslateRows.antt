-- How a translation of what some places hold onto others ends with each outcome, and what each exit status then says.
use Rattle.std.specs.Prelude.{◌≡◌, ℕ, ◌⊎◌, Bool, true, false, List, [], take, slice_get, Option, Some, IfSome, if◌then◌else◌}
use Rattle.std.specs.Bool.{Decides}
use Rattle.f2c_outside.specs.declared.shelves.Place.{Place}
use Rattle.f2c_outside.specs.Shelf.{ShelfState, Contents, Rose, Quiet, Lacks, begun, added}
use Rattle.f_tree.specs.declared.names.Options.{Options}
use Rattle.f_tree.specs.declared.refusals.Refusal.{Refusal}
use Rattle.check_command.specs.source_verdict.SourceRows.{IsFirstRefusal}
use Rattle.outcomes.specs.declared.outcome.Outcome.{Outcome}
use Rattle.outcomes.specs.declared.outcome.Outcome.TheVariants.{Done, Disagree, Changed, Refused, NotPrototype, BadWord, NotThere, Unread, Unwritten, NoFreeName, NoMemory}
use Rattle.outcomes.specs.Lines.{shown, refusal_line, not_prototype_line, not_there_line, shelf_fault_line, no_memory_line}
use Rattle.check_command.specs.source_files.SourceOnShelf.{mentions, name_of_file, files_on, source_on, IsAccepted, IsRefused, IsMissing, IsFirstAway}
use Rattle.check_command.specs.source_files.SourceReads.{IsPlaceAmong}
use Rattle.check_command.specs.source_files.SourceEnds.{IsOfSource}
use Rattle.translate_command.specs.TranslatedTexts.{IsTranslated}
use Rattle.translate_command.specs.WrittenTexts.{all_written}
use Rattle.translate_command.specs.TranslateEnds.{EndedDone, EndedUnwritten, EndedRefusedSet, IsBadForm, EndedNotPrototype, EndedAway, EndedFailed}
use Rattle.translate_command.specs.OldPrototypes.{AllHaveStill}
use Rattle.translate_command.specs.declared.job.Job.{Job}
use Rattle.translate_command.specs.prototype_outputs.prototypes.declared.prototype.Prototype.{Prototype}
use Rattle.translate_command.specs.prototype_outputs.Forms.{AreFiles}
use Rattle.command_words.specs.declared.command.Translation.{Translation}
use Rattle.output_names.specs.WordPlaces.{inputs_of, prototypes_named, prototype_outputs}
use Rattle.shelf_texts.specs.ShelfLoops.{Both, IsKept, IsFront}
use Rattle.shelf_texts.specs.Messages.{Gained}

-- the files that words name for a translation: those of FORTRAN, or Input, the prototype files to be checked, and where prototypes are compared the old ones
abbrev pub job_of : List (List ℕ) → Translation → Job
job_of words asked = record {
  froms = inputs_of words;
  forms = prototypes_named words;
  prototypes = asked.prototypes;
  olds = if asked.compared then prototype_outputs words else [];
}

-- how a translation ends with each outcome
abbrev pub TranslateEnded : Options → Job → List Place → ShelfState → ShelfState → Outcome → Type 0
TranslateEnded options job tos b a Done = EndedDone options job tos true b a
TranslateEnded options job tos b a Changed = EndedDone options job tos false b a
TranslateEnded options job tos b a (Refused refusal name) = EndedRefusedSet options job refusal name b a
TranslateEnded options job tos b a (NotPrototype name line) = EndedNotPrototype options job name line b a
TranslateEnded options job tos b a Disagree = ⊥
TranslateEnded options job tos b a (BadWord number) = ⊥
TranslateEnded options job tos b a (NoFreeName number) = ⊥
TranslateEnded options job tos b a (NotThere name) = EndedAway options job name b a
TranslateEnded options job tos b a (Unread place) = EndedFailed job place b a
TranslateEnded options job tos b a (Unwritten place) = EndedUnwritten options job tos place b a
TranslateEnded options job tos b a NoMemory = IsKept b a

-- ## What each status says

-- status 1: there is a first refusal, its line is on Fault and names its file, and nothing else changed
pub record RefusedRow (options : Options) (froms : List Place) (before after : ℕ) (b a : Contents) : Type 0 where
  pub refusal : Refusal
  pub name : Option (List ℕ)
  pub first : IsFirstRefusal options (source_on b froms) refusal
  pub named : name ≡ name_of_file froms (mentions (files_on b froms)) refusal.file
  pub said : Gained (refusal_line name refusal) before after b a

-- or a prototype file is none: the line on Fault names the first and its line, and nothing else changed
pub record NotPrototypeRow (options : Options) (job : Job) (before after : ℕ) (b a : Contents) : Type 0 where
  pub name : List ℕ
  pub line : ℕ
  pub bad : IsBadForm options job name line b
  pub said : Gained (not_prototype_line name line) before after b a

pub data NotAcceptedRow (options : Options) (job : Job) (before after : ℕ) (b a : Contents) : Type 0 where
  refused : RefusedRow options job.froms before after b a → NotAcceptedRow options job before after b a
  not_prototype : NotPrototypeRow options job before after b a → NotAcceptedRow options job before after b a

-- statuses 0 and 4: the source is accepted, and each prototype file is one; the outputs stand in their places, and nothing else changed; and each old prototype
-- file was there and had the prototypes of its file, or one was not there, or none, or had others
pub record TranslatedRow (options : Options) (job : Job) (tos : List Place) (same : Bool) (b a : Contents) : Type 0 where
  pub texts : List (List ℕ)
  pub outputs : List (List ℕ)
  pub lists : List (List Prototype)
  pub translated : IsTranslated options job texts outputs lists b
  pub compared : Decides same (AllHaveStill job.olds lists b)
  pub written : a ≡ all_written tos outputs b

-- status 3 where an input is not there: the line on Fault names the first, and nothing else changed
pub record AwayRow (froms : List Place) (before after : ℕ) (b a : Contents) : Type 0 where
  pub place : Place
  pub first : IsFirstAway froms place b
  pub said : Gained (not_there_line (shown place)) before after b a

-- status 3 where a file that is included is not there: the line on Fault names it, and nothing else changed
pub record MissingRow (options : Options) (froms : List Place) (before after : ℕ) (b a : Contents) : Type 0 where
  pub name : List ℕ
  pub missing : IsMissing options froms name b
  pub said : Gained (not_there_line name) before after b a

-- status 3 where reading a prototype file failed, one that is checked or compared: the count rose, the line on Fault names it, and nothing else changed
pub record PrototypeUnreadRow (places : List Place) (before after : ℕ) (b a : Contents) : Type 0 where
  pub place : Place
  pub among : IsPlaceAmong places place
  pub rose : Rose before after
  pub said : Gained (shelf_fault_line place) before after b a

-- status 3 where reading failed: the count rose, the line on Fault names the place that was being read, and nothing else changed
pub record UnreadRow (froms : List Place) (before after : ℕ) (b a : Contents) : Type 0 where
  pub place : Place
  pub of_source : IsOfSource froms b place
  pub rose : Rose before after
  pub said : Gained (shelf_fault_line place) before after b a

-- status 3 while the outputs were written: the source is accepted, the outputs before the one that failed hold their translations, it is unchanged or
-- holds a front of its own, those behind it are unchanged, the count rose, and the line on Fault names it
pub record UnwrittenRow (options : Options) (job : Job) (tos : List Place) (before after : ℕ) (b a : Contents) : Type 0 where
  pub texts : List (List ℕ)
  pub outputs : List (List ℕ)
  pub lists : List (List Prototype)
  pub translated : IsTranslated options job texts outputs lists b
  pub number : ℕ
  pub to : Place
  pub text : List ℕ
  pub to_is : slice_get tos number ≡ Some to
  pub text_is : slice_get outputs number ≡ Some text
  pub middle : Contents
  pub front :
      let earlier = all_written (take number tos) (take number outputs) b in
      (middle ≡ earlier) ⊎ ((part : List ℕ) × IsFront part text × (middle ≡ added to part (begun to earlier)))
  pub rose : Rose before after
  pub said : Gained (shelf_fault_line to) before after middle a

-- status 3: an input or a file that one includes is not there, or reading failed, and the line on Fault names it and nothing else changed; or
-- writing failed
pub data FaultRow (options : Options) (job : Job) (tos : List Place) (before after : ℕ) (b a : Contents) : Type 0 where
  not_there : AwayRow job.froms before after b a → FaultRow options job tos before after b a
  included_not_there : MissingRow options job.froms before after b a → FaultRow options job tos before after b a
  prototype_not_there : AwayRow job.forms before after b a → FaultRow options job tos before after b a
  unread : UnreadRow job.froms before after b a → FaultRow options job tos before after b a
  prototype_unread : PrototypeUnreadRow job.forms before after b a → FaultRow options job tos before after b a
  old_unread : PrototypeUnreadRow job.olds before after b a → FaultRow options job tos before after b a
  unwritten : UnwrittenRow options job tos before after b a → FaultRow options job tos before after b a

-- a file of the source is not there
pub data HasMissing (options : Options) (froms : List Place) (contents : Contents) : Type 0 where
  lacks_place : (place : Place) → IsPlaceAmong froms place → Lacks place contents → HasMissing options froms contents
  lacks_included : (name : List ℕ) → IsMissing options froms name contents → HasMissing options froms contents

-- a file of the job is not there: one of the source, or a prototype file that is to be checked
pub data JobLacks (options : Options) (job : Job) (contents : Contents) : Type 0 where
  of_source : HasMissing options job.froms contents → JobLacks options job contents
  of_forms : (place : Place) → IsPlaceAmong job.forms place → Lacks place contents → JobLacks options job contents

-- what each exit status of a translation says, where the shelf goes from `b` to `a`
pub record TranslateRows (options : Options) (job : Job) (tos : List Place) (b a : ShelfState) (status : ℕ) : Type 0 where
  pub statuses : (status ≡ 0) ⊎ ((status ≡ 1) ⊎ ((status ≡ 3) ⊎ ((status ≡ 4) ⊎ (status ≡ 5))))
  -- 1 only where there is a first refusal, or else a prototype file that is none, and the line names it
  pub refused_only : status ≡ 1 → Both b.told a.told (NotAcceptedRow options job b.faults a.faults)
  -- 1 where there is a first refusal, unless a file is missing, the shelf failed or memory ran out
  pub refused_where : IfSome b.told (λ contents. (refusal : Refusal) → IsRefused options job.froms refusal contents
      → (status ≡ 1) ⊎ ((status ≡ 3) ⊎ (status ≡ 5)))
  -- and where a prototype file is none, likewise
  pub bad_where : IfSome b.told (λ contents. (name : List ℕ) (line : ℕ) → IsBadForm options job name line contents
      → (status ≡ 1) ⊎ ((status ≡ 3) ⊎ (status ≡ 5)))
  -- 3 only where the count rose or a file is missing; where the shelf does not tell, it may be either
  pub fault_or_missing : status ≡ 3 → Rose b.faults a.faults ⊎ IfSome b.told (JobLacks options job)
  -- 0 only where each old prototype file has its prototypes, and 4 only where one has not
  pub translated : status ≡ 0 → Both b.told a.told (TranslatedRow options job tos true)
  pub changed : status ≡ 4 → Both b.told a.told (TranslatedRow options job tos false)
  -- 0 and 4 only where no count rose in the call
  pub quiet : status ≡ 0 → a.faults ≡ b.faults
  pub quiet_changed : status ≡ 4 → a.faults ≡ b.faults
  -- where no count rises and no file is missing, an accepted source is translated where its prototype files are in form, or memory ran out
  pub complete : Quiet b.faults a.faults → IfSome b.told (λ contents. (JobLacks options job contents → ⊥)
      → IsAccepted options (source_on contents job.froms) → AreFiles (files_on contents job.forms) → (status ≡ 0) ⊎ ((status ≡ 4) ⊎ (status ≡ 5)))
  -- where no count rises and no file is missing, a refused source is refused, or memory ran out
  pub complete_refused : Quiet b.faults a.faults → IfSome b.told (λ contents. (JobLacks options job contents → ⊥)
      → (refusal : Refusal) → IsRefused options job.froms refusal contents → (status ≡ 1) ⊎ (status ≡ 5))
  -- and so is a prototype file that is none
  pub complete_bad : Quiet b.faults a.faults → IfSome b.told (λ contents. (JobLacks options job contents → ⊥)
      → (name : List ℕ) (line : ℕ) → IsBadForm options job name line contents → (status ≡ 1) ⊎ (status ≡ 5))
  -- where no count rises and a file is missing, that is said, or memory ran out
  pub complete_missing : Quiet b.faults a.faults → IfSome b.told (λ contents. JobLacks options job contents → (status ≡ 3) ⊎ (status ≡ 5))
  pub fault : status ≡ 3 → Both b.told a.told (FaultRow options job tos b.faults a.faults)
  -- want of memory changes nothing but Fault, which has its line
  pub no_memory : status ≡ 5 → Both b.told a.told (Gained no_memory_line b.faults a.faults)
