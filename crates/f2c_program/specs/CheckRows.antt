-- How a check of the calls of what some places hold ends with each outcome, and what each exit status then says.
use Rattle.std.specs.Prelude.{◌≡◌, ℕ, ◌⊎◌, List, Option, IfSome}
use Rattle.f2c_outside.specs.declared.shelves.Place.{Place}
use Rattle.f2c_outside.specs.declared.shelves.Place.TheVariants.{Output}
use Rattle.f2c_outside.specs.Shelf.{ShelfState, Contents, Rose, Lacks, added}
use Rattle.f_tree.specs.declared.names.Options.{Options}
use Rattle.f_tree.specs.declared.refusals.Refusal.{Refusal}
use Rattle.f_tree.specs.declared.units.FileSet.{FileSet}
use Rattle.f_tree.specs.run_state.Units.{Units}
use Rattle.f_tree.specs.Setting.{Setting, IsSetting}
use Rattle.f_tree.specs.Meaning.{units_of, ftn}
use Rattle.checked_sources.specs.agreeing_runs.Mismatches.{IsMismatched}
use Rattle.check_command.specs.call_shapes.declared.findings.Finding.{Finding}
use Rattle.check_command.specs.call_lines.FindingLines.{finding_lines}
use Rattle.check_command.specs.source_verdict.SourceRows.{Checking, IsAcceptedFor}
use Rattle.check_command.specs.source_files.SourceOnShelf.{mentions, name_of_file, files_on, source_on, IsRefusedFor}
use Rattle.check_command.specs.source_files.SourceReads.{IsPlaceAmong}
use Rattle.check_command.specs.source_files.SourceEnds.{EndedRefusedFor}
use Rattle.check_command.specs.declared.checked.Checked.{Checked}
use Rattle.check_command.specs.declared.checked.Checked.TheVariants.{Agreeing, Disagreeing}
use Rattle.check_command.specs.Listing.{answer_of}
use Rattle.check_command.specs.CheckEnds.{AreFoundOn, IsBadOn, EndedListed, EndedUnlisted, EndedNotPrototype, EndedAway, EndedFailed}
use Rattle.outcomes.specs.declared.outcome.Outcome.{Outcome}
use Rattle.outcomes.specs.declared.outcome.Outcome.TheVariants.{Done, Disagree, Changed, Refused, NotPrototype, BadWord, NotThere, Unread, Unwritten, NoFreeName, NoMemory}
use Rattle.outcomes.specs.Lines.{refusal_line, not_prototype_line, shelf_fault_line, no_memory_line}
use Rattle.shelf_texts.specs.ShelfLoops.{Both, IsKept, IsFront}
use Rattle.shelf_texts.specs.Messages.{Gained}
use Rattle.f2c_program.specs.TranslateRows.{AwayRow, MissingRow, UnreadRow, PrototypeUnreadRow, HasMissing}

-- how a check ends with each outcome
abbrev pub CheckEnded : Options → List Place → List Place → ShelfState → ShelfState → Outcome → Type 0
CheckEnded options froms prototypes b a Done = EndedListed options froms prototypes Agreeing b a
CheckEnded options froms prototypes b a Disagree = EndedListed options froms prototypes Disagreeing b a
CheckEnded options froms prototypes b a Changed = ⊥
CheckEnded options froms prototypes b a (Refused refusal name) = EndedRefusedFor Checking options froms refusal name b a
CheckEnded options froms prototypes b a (NotPrototype name line) = EndedNotPrototype options froms prototypes name line b a
CheckEnded options froms prototypes b a (BadWord number) = ⊥
CheckEnded options froms prototypes b a (NotThere name) = EndedAway options froms prototypes name b a
CheckEnded options froms prototypes b a (Unread place) = EndedFailed froms prototypes place b a
CheckEnded options froms prototypes b a (Unwritten place) = EndedUnlisted options froms prototypes place b a
CheckEnded options froms prototypes b a (NoFreeName number) = ⊥
CheckEnded options froms prototypes b a NoMemory = IsKept b a

-- ## What each status says

-- statuses 0 and 11: the set is accepted for checking and the prototype files are that, each call that disagrees has its line on Output, of which there
-- is one at least or none, and nothing else changed
pub record ListedRow (options : Options) (froms prototypes : List Place) (checked : Checked) (b a : Contents) : Type 0 where
  pub names : List (List ℕ)
  pub findings : List Finding
  pub found : AreFoundOn options froms prototypes names findings b
  pub answer : checked ≡ answer_of findings
  pub listed : a ≡ added Output (finding_lines names findings) b

-- status 0: the set is accepted for checking, and in no run of it, over any units, does a call by a name that is no dummy procedure differ from the
-- procedure of the set that it calls, in kind, in the type of its result, or in the number of its arguments or the kind or type of one
pub record RunsAgree (options : Options) (froms : List Place) (contents : Contents) : Type 0 where
  pub set : FileSet
  pub accepted : IsAcceptedFor Checking options (source_on contents froms) set
  pub agree : (g : Setting) (units : Units) (n : ℕ) → IsSetting (units_of options set) g →
      IsMismatched g (units_of options set) (ftn g (units_of options set) units n) → ⊥

-- status 1: the set has a first refusal, its line is on Fault and names its file, and nothing else changed
pub record RefusedSetRow (options : Options) (froms : List Place) (before after : ℕ) (b a : Contents) : Type 0 where
  pub refusal : Refusal
  pub name : Option (List ℕ)
  pub first : IsRefusedFor Checking options froms refusal b
  pub named : name ≡ name_of_file froms (mentions (files_on b froms)) refusal.file
  pub said : Gained (refusal_line name refusal) before after b a

-- or a prototype file is none: the line on Fault names the first and its line, and nothing else changed
pub record NotPrototypeRow (options : Options) (froms prototypes : List Place) (before after : ℕ) (b a : Contents) : Type 0 where
  pub name : List ℕ
  pub line : ℕ
  pub bad : IsBadOn options froms prototypes name line b
  pub said : Gained (not_prototype_line name line) before after b a

pub data CheckRefusedRow (options : Options) (froms prototypes : List Place) (before after : ℕ) (b a : Contents) : Type 0 where
  refused : RefusedSetRow options froms before after b a → CheckRefusedRow options froms prototypes before after b a
  not_prototype : NotPrototypeRow options froms prototypes before after b a → CheckRefusedRow options froms prototypes before after b a

-- status 3 where writing failed: Output is unchanged or has gained a front of the lines, the count rose, and the line on Fault says so
pub record UnlistedRow (options : Options) (froms prototypes : List Place) (before after : ℕ) (b a : Contents) : Type 0 where
  pub names : List (List ℕ)
  pub findings : List Finding
  pub found : AreFoundOn options froms prototypes names findings b
  pub part : List ℕ
  pub front : IsFront part (finding_lines names findings)
  pub rose : Rose before after
  pub said : Gained (shelf_fault_line Output) before after (added Output part b) a

-- status 3: a file that is read is not there, or reading one failed, and the line on Fault names it and nothing else changed; or writing failed
pub data CheckFaultRow (options : Options) (froms prototypes : List Place) (before after : ℕ) (b a : Contents) : Type 0 where
  not_there : AwayRow froms before after b a → CheckFaultRow options froms prototypes before after b a
  included_not_there : MissingRow options froms before after b a → CheckFaultRow options froms prototypes before after b a
  prototype_not_there : AwayRow prototypes before after b a → CheckFaultRow options froms prototypes before after b a
  unread : UnreadRow froms before after b a → CheckFaultRow options froms prototypes before after b a
  prototype_unread : PrototypeUnreadRow prototypes before after b a → CheckFaultRow options froms prototypes before after b a
  unwritten : UnlistedRow options froms prototypes before after b a → CheckFaultRow options froms prototypes before after b a

-- a file that is read is not there
pub data LacksFile (options : Options) (froms prototypes : List Place) (contents : Contents) : Type 0 where
  of_source : HasMissing options froms contents → LacksFile options froms prototypes contents
  of_prototypes : (place : Place) → IsPlaceAmong prototypes place → Lacks place contents → LacksFile options froms prototypes contents

-- what each exit status of a check says, where the shelf goes from `b` to `a`
pub record CheckRows (options : Options) (froms prototypes : List Place) (b a : ShelfState) (status : ℕ) : Type 0 where
  pub statuses : (status ≡ 0) ⊎ ((status ≡ 1) ⊎ ((status ≡ 3) ⊎ ((status ≡ 5) ⊎ (status ≡ 11))))
  pub agreeing : status ≡ 0 → Both b.told a.told (ListedRow options froms prototypes Agreeing)
  pub runs_agree : status ≡ 0 → IfSome b.told (RunsAgree options froms)
  pub disagreeing : status ≡ 11 → Both b.told a.told (ListedRow options froms prototypes Disagreeing)
  -- 0 and 11 only where no count rose in the call
  pub quiet : (status ≡ 0) ⊎ (status ≡ 11) → a.faults ≡ b.faults
  -- 1 only where there is a first refusal, or a prototype file is none
  pub refused : status ≡ 1 → Both b.told a.told (CheckRefusedRow options froms prototypes b.faults a.faults)
  -- 3 only where the count rose or a file is missing; where the shelf does not tell, it may be either
  pub fault_or_missing : status ≡ 3 → Rose b.faults a.faults ⊎ IfSome b.told (LacksFile options froms prototypes)
  pub fault : status ≡ 3 → Both b.told a.told (CheckFaultRow options froms prototypes b.faults a.faults)
  -- want of memory changes nothing but Fault, which has its line
  pub no_memory : status ≡ 5 → Both b.told a.told (Gained no_memory_line b.faults a.faults)
