-- The rows of storage that the units of a set break together: F50, F53 and F54. ANSI X3.9-1978, sections 8.3.4 (lengths of blocks), 16 (block
-- data) and 17.1.
use Rattle.std.specs.Prelude.{ℕ, ◌+◌, nat_eq, nat_lt, ℤ, ◌-ℤ◌, nat_abs, max, Bool, true, not, List, [], ◌∷◌, ◌++◌, bytes_eq, Option, Some, None, if◌then◌else◌}
use Rattle.std.specs.List.{list_any}
use Rattle.fortran_text.specs.f_tree.declared.names.Options.{Options}
use Rattle.fortran_text.specs.f_tree.declared.refusals.Kind.TheVariants.{CommonLengthsDiffer, StorageTooLarge, CommonInitialisedTwice}
use Rattle.fortran_text.specs.f_tree.declared.refusals.Refusal.{Refusal}
use Rattle.fortran_text.specs.f_tree.declared.statements.Body.{Body}
use Rattle.fortran_text.specs.f_tree.declared.statements.Stmt.{Stmt}
use Rattle.fortran_text.specs.f_tree.declared.units.Unit.{Unit as WrittenUnit}
use Rattle.fortran_text.specs.f_tree.Values.{Bytes}
use Rattle.fortran_text.specs.f_tree.Facts.{Member, Block, ProgramUnit}
use Rattle.fortran_text.specs.f_tree.Attributes.{option_list}
use Rattle.fortran_text.specs.f_tree.Lines.{Naming, size_of, is_stored, unit_read, common_in, data_in}
use Rattle.fortran_text.specs.f_tree.Uses.{is_among}
use Rattle.declaration_rows.specs.Judgement.{unless}
use Rattle.declaration_rows.specs.NameRows.{stood, at_first, mentions}
use Rattle.declaration_rows.specs.GlobalRows.{block_names}
use Rattle.declaration_rows.specs.PlacingRows.{Placing, Reached, reached_from, first_items, first_among, start_by, placing_of}
use Rattle.declaration_rows.specs.DataRows.{blocks_with, names_filled}

-- How far the names that share storage go, from the beginning of their sequence.
unfoldable pub furthest : Naming → ℤ → ℕ → List Reached → ℕ
furthest names start size [] = size
furthest names start size (r ∷ rs) = furthest names start (max size (nat_abs (r.by -ℤ start) + size_of (names r.name))) rs

-- The length of the sequence in which a name stands, in character units, so far as one unit says.
unfoldable pub length_in : Naming → Placing → Bytes → ℕ
length_in names p x =
    let rs = reached_from p.equations x in furthest names (start_by (first_among (first_items p.blocks) rs) rs) 0 rs

-- BLOCKS of a unit by name, with their lengths.
pub record Measured : Type 0 where
  pub name : Bytes
  pub size : ℕ

unfoldable pub measured_as : Option Bytes → ℕ → List Measured
measured_as None size = []
measured_as (Some x) size = record { name = x; size = size } ∷ []

unfoldable pub length_of_block : Naming → Placing → List Member → ℕ
length_of_block names p [] = 0
length_of_block names p (m ∷ ms) = length_in names p m.name

unfoldable pub measured_blocks : Naming → Placing → List Block → List Measured
measured_blocks names p [] = []
measured_blocks names p (b ∷ bs) = measured_as b.name (length_of_block names p b.members) ++ measured_blocks names p bs

unfoldable pub size_among : Bytes → List Measured → Option ℕ
size_among x [] = None
size_among x (m ∷ ms) = if bytes_eq m.name x then Some m.size else size_among x ms

-- F50: a named block has the length that it has in the first unit that has it
unfoldable pub has_length : Option ℕ → ℕ → Bool
has_length None size = true
has_length (Some before) size = nat_eq before size

unfoldable pub names_block : Bytes → Body → Bool
names_block x b = is_among x (block_names (common_in b))

unfoldable pub length_rows : WrittenUnit → List Measured → List Measured → List Refusal
length_rows u before [] = []
length_rows u before (m ∷ ms) =
    at_first u (names_block m.name) u.statements (unless (has_length (size_among m.name before) m.size) CommonLengthsDiffer) ++ length_rows u before ms

-- F53: a sequence of more than 67,108,864 character units, at the first statement with a name of it
unfoldable pub most_storage : ℕ
most_storage = 67108864

unfoldable pub size_rows : WrittenUnit → Naming → Placing → List Member → List Refusal
size_rows u names p [] = []
size_rows u names p (m ∷ ms) =
    at_first u (mentions u m.name) u.statements (unless (not (nat_lt most_storage (length_in names p m.name))) StorageTooLarge) ++ size_rows u names p ms

-- F54: a named block to which an earlier unit gives values, at the first DATA statement that gives it some
unfoldable pub names_of_blocks : List Block → List Bytes
names_of_blocks [] = []
names_of_blocks (b ∷ bs) = option_list b.name ++ names_of_blocks bs

unfoldable pub filled_blocks : Naming → Placing → List Bytes → List Bytes
filled_blocks names p [] = []
filled_blocks names p (x ∷ xs) = (if is_stored (names x) then names_of_blocks (blocks_with p x p.blocks) else []) ++ filled_blocks names p xs

unfoldable pub filled_rows : Naming → Placing → List Bytes → List Stmt → List Refusal
filled_rows names p before [] = []
filled_rows names p before (s ∷ ss) =
    stood s (unless (not (list_any (λ x. is_among x before) (filled_blocks names p (names_filled (data_in s.body))))) CommonInitialisedTwice) ++ filled_rows names p before ss

unfoldable pub filled_in : Naming → Placing → List Stmt → List Bytes
filled_in names p [] = []
filled_in names p (s ∷ ss) = filled_blocks names p (names_filled (data_in s.body)) ++ filled_in names p ss

-- EACH UNIT behind those before it.
pub record Before : Type 0 where
  pub blocks : List Measured
  pub filled : List Bytes

unfoldable pub unit_storage_rows : WrittenUnit → ProgramUnit → Placing → Before → List Refusal
unit_storage_rows u p placing before =
    length_rows u before.blocks (measured_blocks p.attribute placing placing.blocks) ++
    (size_rows u p.attribute placing p.stored ++ filled_rows p.attribute placing before.filled u.statements)

unfoldable pub behind_unit : WrittenUnit → ProgramUnit → Placing → Before → Before
behind_unit u p placing before = record {
  blocks = before.blocks ++ measured_blocks p.attribute placing placing.blocks;
  filled = before.filled ++ filled_in p.attribute placing u.statements;
}

unfoldable pub storage_rows_from : Options → Before → List WrittenUnit → List Refusal
storage_rows_from options before [] = []
storage_rows_from options before (u ∷ us) =
    let p = unit_read options u in
    let placing = placing_of u p in
    unit_storage_rows u p placing before ++ storage_rows_from options (behind_unit u p placing before) us

unfoldable pub units_storage_rows : Options → List WrittenUnit → List Refusal
units_storage_rows options us = storage_rows_from options (record { blocks = []; filled = [] }) us

unfoldable pub shared_storage_rows_opened : Unit {0}
unfolding furthest length_in measured_as length_of_block measured_blocks size_among has_length names_block length_rows most_storage size_rows names_of_blocks filled_blocks filled_rows filled_in unit_storage_rows behind_unit storage_rows_from units_storage_rows
shared_storage_rows_opened = tt
