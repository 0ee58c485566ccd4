-- The exit status of each outcome, and the outcomes where a file is not there.
use Rattle.std.specs.Prelude.{◌≡◌, ℕ, List}
use Rattle.outcomes.specs.declared.outcome.Outcome.{Outcome}
use Rattle.outcomes.specs.declared.outcome.Outcome.TheVariants.{Done, Disagree, Changed, Refused, NotPrototype, BadWord, NotThere, Unread, Unwritten, NoFreeName, NoMemory}

abbrev pub status_of : Outcome → ℕ
status_of Done = 0
status_of (Refused refusal name) = 1
status_of (NotPrototype name line) = 1
status_of (BadWord number) = 2
status_of (NotThere name) = 3
status_of (Unread place) = 3
status_of (Unwritten place) = 3
status_of Changed = 4
status_of NoMemory = 5
status_of Disagree = 11
status_of (NoFreeName number) = 13

-- the outcomes of a command that did its work, which write no line
abbrev pub IsSilent : Outcome → Type 0
IsSilent Done = Unit {0}
IsSilent Disagree = Unit {0}
IsSilent Changed = Unit {0}
IsSilent (Refused refusal name) = ⊥
IsSilent (NotPrototype name line) = ⊥
IsSilent (BadWord number) = ⊥
IsSilent (NotThere name) = ⊥
IsSilent (Unread place) = ⊥
IsSilent (Unwritten place) = ⊥
IsSilent (NoFreeName number) = ⊥
IsSilent NoMemory = ⊥

-- that a file of this name is not there, or want of memory for the name
abbrev pub IsNotThereOrNoMemory : List ℕ → Outcome → Type 0
IsNotThereOrNoMemory name (NotThere other) = other ≡ name
IsNotThereOrNoMemory name NoMemory = Unit {0}
IsNotThereOrNoMemory name Done = ⊥
IsNotThereOrNoMemory name Disagree = ⊥
IsNotThereOrNoMemory name Changed = ⊥
IsNotThereOrNoMemory name (Refused refusal other) = ⊥
IsNotThereOrNoMemory name (NotPrototype other line) = ⊥
IsNotThereOrNoMemory name (BadWord number) = ⊥
IsNotThereOrNoMemory name (Unread place) = ⊥
IsNotThereOrNoMemory name (Unwritten place) = ⊥
IsNotThereOrNoMemory name (NoFreeName number) = ⊥
