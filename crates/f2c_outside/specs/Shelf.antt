-- What a shelf holds, and what each of its calls does to it.
-- A shelf keeps the files of a translation or a run and its three streams. Where it tells what it holds,
-- the contents before a call decide the contents after it; where it does not, only the count of faults
-- and the active place are known.
use Rattle.std.specs.Prelude.{◌≡◌, ℕ, ◌+◌, ◌^◌, ◌<◌, ◌≤◌, ◌↔◌, List, [], ◌++◌, length, take, drop, Option, Some, None, option_map, Result, Bool, IsTrue, IsSome, IfSome, IfOk, OnOk, OnErr, IsErr, IsErrOf, if◌then◌else◌, bytes_eq}
use Rattle.f2c_outside.specs.declared.shelves.Place.{Place}
use Rattle.f2c_outside.specs.declared.shelves.Place.TheVariants.{Input, Output, Fault, File}
use Rattle.f2c_outside.specs.declared.shelves.ShelfFault.{ShelfFault}
use Rattle.f2c_outside.specs.declared.shelves.ShelfFault.TheVariants.{Failed, Missing}

-- the files by name, the bytes of Input, and the bytes that were put on Output and on Fault
pub record Contents : Type 0 where
  pub files : List ℕ → Option (List ℕ)
  pub input : List ℕ
  pub output : List ℕ
  pub fault : List ℕ

-- the place that is being read or written now, if any
pub data Active : Type 0 where
  Idle : Active
  Reads : Place → Active
  Writes : Place → Active

-- what is known of a shelf: its contents and the bytes left of the place that is being read, each where
-- the shelf tells them, the active place, and how many of its calls have failed
pub record ShelfState : Type 0 where
  pub told : Option Contents
  pub left : Option (List ℕ)
  pub active : Active
  pub faults : ℕ

-- a count rose in between; one that stands at the end of its type says nothing
abbrev pub Rose : ℕ → ℕ → Type 0
Rose before after = after + 1 < 2 ^ 64 → before < after

-- a count did not rise in between
pub record Quiet (before after : ℕ) : Type 0 where
  pub below : after + 1 < 2 ^ 64
  pub same : after ≡ before

-- a count never falls
abbrev pub Later : ℕ → ℕ → Type 0
Later before after = before ≤ after

abbrev pub IsFile : Place → Type 0
IsFile (File name) = Unit {0}
IsFile Input = ⊥
IsFile Output = ⊥
IsFile Fault = ⊥

-- what can be read: Input and every file
abbrev pub IsSource : Place → Type 0
IsSource Input = Unit {0}
IsSource (File name) = Unit {0}
IsSource Output = ⊥
IsSource Fault = ⊥

-- what can be written: Output, Fault and every file
abbrev pub IsTarget : Place → Type 0
IsTarget Output = Unit {0}
IsTarget Fault = Unit {0}
IsTarget (File name) = Unit {0}
IsTarget Input = ⊥

abbrev pub IsReading : Active → Type 0
IsReading (Reads place) = Unit {0}
IsReading Idle = ⊥
IsReading (Writes place) = ⊥

abbrev pub IsWriting : Active → Type 0
IsWriting (Writes place) = Unit {0}
IsWriting Idle = ⊥
IsWriting (Reads place) = ⊥

-- the files lack the name of this place
abbrev pub Lacks : Place → Contents → Type 0
Lacks (File name) contents = contents.files name ≡ None
Lacks Input contents = ⊥
Lacks Output contents = ⊥
Lacks Fault contents = ⊥

-- the bytes that stand in an optional text, none where there is no text
abbrev pub text_or_none : Option (List ℕ) → List ℕ
text_or_none (Some bytes) = bytes
text_or_none None = []

-- the bytes that a place holds
abbrev pub bytes_of : Place → Contents → List ℕ
bytes_of Input contents = contents.input
bytes_of Output contents = contents.output
bytes_of Fault contents = contents.fault
bytes_of (File name) contents = text_or_none (contents.files name)

-- the files with another text under one name
abbrev pub with_file : List ℕ → Option (List ℕ) → (List ℕ → Option (List ℕ)) → List ℕ → Option (List ℕ)
with_file name text files asked = if bytes_eq asked name then text else files asked

-- the contents once writing has been started there: a file is made empty, Output and Fault keep what they hold
abbrev pub begun : Place → Contents → Contents
begun (File name) contents = record contents { files = with_file name (Some []) contents.files }
begun Input contents = contents
begun Output contents = contents
begun Fault contents = contents

-- the contents with some bytes put behind what a place holds; a file that is absent stays absent
abbrev pub added : Place → List ℕ → Contents → Contents
added (File name) bytes contents =
    record contents { files = with_file name (option_map (λ text. text ++ bytes) (contents.files name)) contents.files }
added Output bytes contents = record contents { output = contents.output ++ bytes }
added Fault bytes contents = record contents { fault = contents.fault ++ bytes }
added Input bytes contents = contents

-- the count never falls; a call answers `Failed` only where it rose, and a call that does its work leaves it
pub record HasCause {T : Type 0} (before after : ℕ) (result : Result T ShelfFault) : Type 0 where
  pub later : before ≤ after
  pub failed : IsErrOf result Failed → Rose before after
  pub quiet : OnOk result (after ≡ before)

-- `start_read` of a place: `Missing` comes for a file alone, and exactly where the call does not fail and
-- the files lack the name
pub record StartedRead {T : Type 0} (place : Place) (b a : ShelfState) (result : Result T ShelfFault) : Type 0 where
  pub same : a.told ≡ b.told
  pub ok : OnOk result ((a.active ≡ Reads place) × (a.left ≡ option_map (bytes_of place) b.told))
  pub err : OnErr result (a.active ≡ Idle)
  pub missing : IsErrOf result Missing → IsFile place × (a.faults ≡ b.faults) × IfSome b.told (Lacks place)
  pub there : IfSome b.told (λ contents. Lacks place contents → IsErr result)

-- n bytes went from the front of the bytes left to the front of the slice
pub record IsTaken (n : ℕ) (b a : ShelfState) (old new : List ℕ) : Type 0 where
  pub left : a.left ≡ option_map (drop n) b.left
  pub within : IfSome b.left (λ rest. n ≤ length rest)
  pub front : IfSome b.left (λ rest. new ≡ take n rest ++ drop n old)
  pub some : IfSome b.left (λ rest. 0 < length old → 0 < length rest → 0 < n)

-- `take` into a slice that held `old` and now holds `new`: no more bytes than the slice has, all of them
-- the first ones that were left, and none only at the end of the place
pub record Took (b a : ShelfState) (old new : List ℕ) (result : Result ℕ ShelfFault) : Type 0 where
  pub same : a.told ≡ b.told
  pub active : a.active ≡ b.active
  pub idle : IfOk result (λ n. ¬ IsReading b.active → n ≡ 0)
  pub fits : IfOk result (λ n. n ≤ length old)
  pub taken : IfOk result (λ n. IsReading b.active → IsTaken n b a old new)
  pub kept : OnErr result (a.left ≡ b.left)
  pub not_missing : ¬ IsErrOf result Missing

-- `start_write` of a place
pub record StartedWrite {T : Type 0} (place : Place) (b a : ShelfState) (result : Result T ShelfFault) : Type 0 where
  pub ok : OnOk result ((a.active ≡ Writes place) × (a.told ≡ option_map (begun place) b.told))
  pub err : OnErr result ((a.active ≡ Idle) × (a.told ≡ b.told))
  pub not_missing : ¬ IsErrOf result Missing

-- the first n bytes of a piece went behind what the place that is being written holds
pub record IsPut (n : ℕ) (piece : List ℕ) (b a : ShelfState) : Type 0 where
  pub fits : n ≤ length piece
  pub put : (place : Place) → b.active ≡ Writes place → a.told ≡ option_map (added place (take n piece)) b.told

-- `put` of a piece: it answers how many bytes went out, at least one of a piece that is not empty; where
-- it fails, a front of the piece went out, maybe none of it
pub record Put (piece : List ℕ) (b a : ShelfState) (result : Result ℕ ShelfFault) : Type 0 where
  pub active : a.active ≡ b.active
  pub ok : IfOk result (λ n. IsPut n piece b a)
  pub some : IfOk result (λ n. 0 < length piece → 0 < n)
  pub err : OnErr result ((n : ℕ) × IsPut n piece b a)
  pub not_missing : ¬ IsErrOf result Missing

-- `stop` ends what is active, also where it fails
pub record Stopped {T : Type 0} (b a : ShelfState) (result : Result T ShelfFault) : Type 0 where
  pub same : a.told ≡ b.told
  pub idle : a.active ≡ Idle
  pub not_missing : ¬ IsErrOf result Missing

-- `is_there` of a name: true exactly where the files have it
pub record Asked (name : List ℕ) (b a : ShelfState) (result : Result Bool ShelfFault) : Type 0 where
  pub same : a.told ≡ b.told
  pub active : a.active ≡ b.active
  pub left : a.left ≡ b.left
  pub answer : IfOk result (λ there. IfSome b.told (λ contents. IsTrue there ↔ IsSome (contents.files name)))
  pub not_missing : ¬ IsErrOf result Missing
