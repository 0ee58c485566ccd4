-- A shelf in memory.
use Rattle.std.specs.Prelude.{◌≡◌, ℕ, ◌+◌, ◌<◌, ◌≤◌, ◌↔◌, List, [], ◌∷◌, ◌++◌, length, Option, Some, None, Result, IsErrOf, IsTrue, if◌then◌else◌, bytes_eq, slice_get}
use Rattle.f2c_outside.specs.Shelf.{Contents, Active, Idle, Reads, Writes, ShelfState, Rose, Lacks, bytes_of, begun, added}
use Rattle.f2c_outside.specs.Plan.{Plan, next_fails, after_call}
use Rattle.f2c_outside.specs.declared.shelves.Place.{Place}
use Rattle.f2c_outside.specs.declared.shelves.Place.TheVariants as place
use Rattle.f2c_outside.specs.declared.shelves.ShelfFault.{ShelfFault}
use Rattle.f2c_outside.specs.declared.shelves.ShelfFault.TheVariants.{Failed}
use Rattle.f2c_outside.specs.declared.memory_shelf.Opened.{Opened}
use Rattle.f2c_outside.specs.declared.memory_shelf.Opened.TheVariants as opened

-- a file under its name
pub record Named : Type 0 where
  pub name : List ℕ
  pub bytes : List ℕ

-- the files in the order in which they were made, of which the last of a name counts; the three streams;
-- the active place and, where it is read, the bytes left of it; the calls that are to fail; and how often
-- a call failed for want of memory
pub record Memory : Type 0 where
  pub files : List Named
  pub input : List ℕ
  pub output : List ℕ
  pub fault : List ℕ
  pub active : Active
  pub left : List ℕ
  pub plan : Plan
  pub starved : ℕ

-- the later of two texts, where there is one
abbrev pub later_of : Option (List ℕ) → Option (List ℕ) → Option (List ℕ)
later_of older None = older
later_of older (Some text) = Some text

-- the last file of a name
abbrev pub file_of : List Named → List ℕ → Option (List ℕ)
file_of [] asked = None
file_of (first ∷ rest) asked = later_of (if bytes_eq asked first.name then Some first.bytes else None) (file_of rest asked)

-- the name of the last file
abbrev pub last_name : List ℕ → List Named → List ℕ
last_name before [] = before
last_name before (first ∷ rest) = last_name first.name rest

abbrev pub name_of : Option Named → List ℕ
name_of None = []
name_of (Some file) = file.name

abbrev pub text_of : Option Named → List ℕ
text_of None = []
text_of (Some file) = file.bytes

-- the place that is open
abbrev pub active_of : Opened → List Named → Active
active_of opened.Nothing files = Idle
active_of opened.Input files = Reads place.Input
active_of (opened.File number) files = Reads (place.File (name_of (slice_get files number)))
active_of opened.Output files = Writes place.Output
active_of opened.Fault files = Writes place.Fault
active_of opened.Last files = Writes (place.File (last_name [] files))

-- the text that is being read; none where nothing is
abbrev pub text_read : Opened → List ℕ → List Named → List ℕ
text_read opened.Input input files = input
text_read (opened.File number) input files = text_of (slice_get files number)
text_read opened.Nothing input files = []
text_read opened.Output input files = []
text_read opened.Fault input files = []
text_read opened.Last input files = []

-- a file that is read is there, and one that is written is the last
abbrev pub IsOpen : Opened → List Named → Type 0
IsOpen (opened.File number) files = number < length files
IsOpen opened.Last files = 0 < length files
IsOpen opened.Nothing files = Unit {0}
IsOpen opened.Input files = Unit {0}
IsOpen opened.Output files = Unit {0}
IsOpen opened.Fault files = Unit {0}

-- what the memory holds
abbrev pub contents_of : Memory → Contents
contents_of m = record { files = file_of m.files; input = m.input; output = m.output; fault = m.fault }

-- a shelf in memory tells everything, and its faults are those that were planned and those of want of memory
abbrev pub state_of : Memory → ShelfState
state_of m =
    record { told = Some (contents_of m); left = Some m.left; active = m.active; faults = m.plan.planned + m.starved }

-- a shelf without files and with empty streams
abbrev pub empty_memory : Memory
empty_memory =
    record {
      files = [];
      input = [];
      output = [];
      fault = [];
      active = Idle;
      left = [];
      plan = record { fails = []; calls = 0; planned = 0 };
      starved = 0;
    }

-- the last of the files of a name stands at this number
pub record IsNewestAt (number : ℕ) (files : List Named) (name : List ℕ) : Type 0 where
  pub within : number < length files
  pub named : name_of (slice_get files number) ≡ name
  pub text : file_of files name ≡ Some (text_of (slice_get files number))

-- the number of the last of the files of a name, or `None` where no file has it
abbrev pub IsNewest : Option ℕ → List Named → List ℕ → Type 0
IsNewest None files name = file_of files name ≡ None
IsNewest (Some number) files name = IsNewestAt number files name

-- a call that takes no memory: it fails exactly where its number is among those that are to fail
pub record Counted {T : Type 0} (b a : Memory) (result : Result T ShelfFault) : Type 0 where
  pub plan : a.plan ≡ after_call b.plan
  pub starved : a.starved ≡ b.starved
  pub failed : IsErrOf result Failed ↔ IsTrue (next_fails b.plan)

-- a call that may want memory: it fails where its number is among those that are to fail, and where memory
-- was refused, and nowhere else
pub record CountedGrowth {T : Type 0} (b a : Memory) (result : Result T ShelfFault) : Type 0 where
  pub plan : a.plan ≡ after_call b.plan
  pub later : b.starved ≤ a.starved
  pub planned : IsTrue (next_fails b.plan) → IsErrOf result Failed
  pub starved : b.starved < a.starved → IsErrOf result Failed
  pub only : IsErrOf result Failed → ¬ IsTrue (next_fails b.plan) → Rose b.starved a.starved

-- the contents of a memory with these files and streams
abbrev pub held : List Named → (input output fault : List ℕ) → Contents
held files input output fault = record { files = file_of files; input = input; output = output; fault = fault }

-- a place that can be read now, opened
pub record IsSourceOf (place : Place) (files : List Named) (into : Opened) : Type 0 where
  pub active : active_of into files ≡ Reads place
  pub sound : IsOpen into files
  pub text : (input output fault : List ℕ) → text_read into input files ≡ bytes_of place (held files input output fault)
  pub there : (input output fault : List ℕ) → ¬ Lacks place (held files input output fault)

-- a place that can be written now, opened: a file is made anew, empty
pub record IsTargetOf (place : Place) (before after : List Named) (into : Opened) : Type 0 where
  pub active : active_of into after ≡ Writes place
  pub sound : IsOpen into after
  pub text : (input : List ℕ) → text_read into input after ≡ []
  pub begins : (input output fault : List ℕ) → held after input output fault ≡ begun place (held before input output fault)

-- the last file with a piece behind its bytes
pub record IsGrown (piece : List ℕ) (before after : List Named) : Type 0 where
  pub front : List Named
  pub last : Named
  pub was : before ≡ front ++ last ∷ []
  pub is : after ≡ front ++ record last { bytes = last.bytes ++ piece } ∷ []

-- the files lack the name of this place
abbrev pub LacksIn : Place → List Named → Type 0
LacksIn place files = (input output fault : List ℕ) → Lacks place (held files input output fault)

-- the memory with a new file, and nothing active
abbrev pub with_new_file : List ℕ → List ℕ → Memory → Memory
with_new_file name bytes m =
    record m { files = m.files ++ record { name = name; bytes = bytes } ∷ []; active = Idle; left = [] }

-- the memory with another Input, and nothing active
abbrev pub with_input : List ℕ → Memory → Memory
with_input bytes m = record m { input = bytes; active = Idle; left = [] }

-- a piece went behind what the opened place holds
pub record IsExtended (into : Opened) (piece : List ℕ) (before after : List Named) (output output' fault fault' : List ℕ) : Type 0 where
  pub active : active_of into after ≡ active_of into before
  pub sound : IsOpen into after
  pub text : (input : List ℕ) → text_read into input after ≡ text_read into input before
  pub put :
      (place : Place)
      → active_of into before ≡ Writes place
      → (input : List ℕ)
      → held after input output' fault' ≡ added place piece (held before input output fault)
