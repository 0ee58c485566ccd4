-- When a transfer in progress of the FORTRAN run and one of the C run agree: the same kind and medium, formats that give the same
-- edits, the same record in the making or being read, and the same values so far. ANSI X3.9-1978, sections 12.8, 12.9 and 13.
use Rattle.std.specs.Prelude.{◌≡◌, ℕ, ℤ, List, [], ◌∷◌, length, Option, Some, None}
use Rattle.c_tree.specs.edit_meaning.Formats.{Format, edits_for}
use Rattle.c_tree.specs.edit_meaning.TakenRecords.{Input as Taken, input, input_start}
use Rattle.c_tree.specs.edit_meaning.Transfers.{transferred}
use Rattle.f_tree.specs.Values.{Spot}
use Rattle.f_tree.specs.Facts.{Direction, Input, Output, Layout, Listed, Labelled, Computed}
use Rattle.f_tree.specs.Records.{record_count}
use Rattle.f_tree.specs.World as fortran
use Rattle.c_tree.specs.World as c
use Rattle.faithful.specs.StorageImage.{Homes}

-- both write or both read
pub data SameDirection : Direction → c.Direction → Type 0 where
  outputs : SameDirection Output c.Output
  inputs : SameDirection Input c.Input

-- both are list-directed, or both have a format, which gives one list of edits; a text in it counts by its characters
pub data SameLayout : Layout → Format → c.Layout → Type 0 where
  listed : (format : Format) → SameLayout Listed format c.Listed
  labelled : (label : ℕ) (format : Format) → SameLayout (Labelled label) format (c.Formatted format)
  computed : (format : Format) → SameLayout Computed format (c.Formatted format)

-- an internal file stands where the image puts it: its first record, the length of each, how many there are, and how many are behind
pub record SameFile (homes : Homes) (place : Spot) (behind : ℕ) (file : c.InternalFile) : Type 0 where
  pub object : homes place.sequence ≡ Some file.object
  pub offset : place.first ≡ file.offset
  pub size : place.width ≡ file.size
  pub count : record_count place ≡ file.count
  pub position : behind ≡ file.position

-- both are on one unit, or both on the same internal file
pub data SameMedium (homes : Homes) (behind : ℕ) : fortran.Medium → c.Medium → Type 0 where
  on_unit : (unit : ℤ) → SameMedium homes behind (fortran.External unit) (c.Unit unit)
  in_file : (place : Spot) (file : c.InternalFile) → SameFile homes place behind file → SameMedium homes behind (fortran.Internal place) (c.Internal file)

-- how far a formatted input has come: its items over the records read so far
abbrev pub taken_so_far : fortran.Transfer → Taken
taken_so_far transfer = transferred input transfer.format transfer.wants (input_start transfer.lines transfer.zeros)

-- formatted input: the values so far, the edits that are left of the pass, the record being read, the place in it, and how blanks are read
pub record SameCourse (one : fortran.Transfer) (other : c.Transfer) : Type 0 where
  pub values : one.taken ≡ other.received
  pub left : (edits_for one.format (length one.wants)).left ≡ other.course.left
  pub line : (taken_so_far one).line ≡ other.course.state.line
  pub before : (taken_so_far one).before ≡ other.course.state.before
  pub zeros : (taken_so_far one).zeros ≡ other.course.state.zeros
  pub goes_on : other.course.state.halted ≡ None

-- the record being read is the last of those that were read
unfoldable pub last_read : List (List ℕ) → Option (List ℕ)
last_read [] = None
last_read (line ∷ []) = Some line
last_read (line ∷ later ∷ lines) = last_read (later ∷ lines)

-- list-directed input: the values so far, the record being read with the place in it, and whether a slash was met
pub record SamePlace (one : fortran.Transfer) (other : c.Transfer) : Type 0 where
  pub values : one.taken ≡ other.received
  pub line : last_read one.lines ≡ Some other.line
  pub place : one.place ≡ other.place
  pub slashed : one.slashed ≡ other.slashed

-- output: the values so far, which make the record in the making, and how many records of them are written
pub record SameValues (one : fortran.Transfer) (other : c.Transfer) : Type 0 where
  pub values : one.values ≡ other.values
  pub written : one.written ≡ other.written

abbrev pub SameProgress : Direction → Layout → fortran.Transfer → c.Transfer → Type 0
SameProgress Output layout one other = SameValues one other
SameProgress Input Listed one other = SamePlace one other
SameProgress Input layout one other = SameCourse one other

pub record Agree (homes : Homes) (one : fortran.Transfer) (other : c.Transfer) : Type 0 where
  pub direction : SameDirection one.direction other.direction
  pub layout : SameLayout one.layout one.format other.layout
  pub medium : SameMedium homes one.written one.medium other.medium
  pub progress : SameProgress one.direction one.layout one other

-- neither state has a transfer in progress, or both have and the two agree
pub data SameTransfer (homes : Homes) : Option fortran.Transfer → Option c.Transfer → Type 0 where
  neither : SameTransfer homes None None
  both : (one : fortran.Transfer) (other : c.Transfer) → Agree homes one other → SameTransfer homes (Some one) (Some other)
