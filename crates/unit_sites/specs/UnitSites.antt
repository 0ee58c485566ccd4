-- The C files of the units of several FORTRAN files, one for each, and where the function of each unit stands among them: the constants of its file,
-- and from which numbers on the objects of its file and its own objects stand among those of the program. ANSI X3.9-1978, sections 2.4 and 3.5;
-- C89, 3.1.2.2 and 3.7.
use Rattle.std.specs.Prelude.{ℕ, ◌+◌, ℤ, List, [], ◌∷◌, ◌++◌, map, length}
use Rattle.unit_file.specs.c_tree.declared.file.CFile.{CFile}
use Rattle.unit_file.specs.UnitFile.{Inventory, Bases, WrittenUnit, units_file, object_count}

-- ## The files

-- the functions of the units of a file, and the constants of that
pub record UnitsOfFile : Type 0 where
  pub constants : List ℤ
  pub units : List WrittenUnit

abbrev pub file_for : UnitsOfFile → CFile
file_for f = units_file f.constants f.units

abbrev pub files_of : List UnitsOfFile → List CFile
files_of fs = map file_for fs

-- the units of all files, in their order
abbrev pub all_units : List UnitsOfFile → List WrittenUnit
all_units [] = []
all_units (f ∷ fs) = f.units ++ all_units fs

abbrev pub inventories : List WrittenUnit → List Inventory
inventories ws = map (λ (w : WrittenUnit). w.inventory) ws

-- ## Where they stand

-- what the functions of a file have, and its constants
pub record FileContents : Type 0 where
  pub constants : List ℤ
  pub inventories : List Inventory

abbrev pub contents_of : UnitsOfFile → FileContents
contents_of f = record { constants = f.constants; inventories = inventories f.units }

abbrev pub all_inventories : List FileContents → List Inventory
all_inventories [] = []
all_inventories (f ∷ fs) = f.inventories ++ all_inventories fs

-- the constants of the file of a unit, how many functions the program has, and where the objects of the file and those of the function begin
pub record Site : Type 0 where
  pub constants : List ℤ
  pub bases : Bases

-- the functions of a file, whose objects stand one behind the other from a number on
abbrev pub sites_in : ℕ → ℕ → List ℤ → ℕ → List Inventory → List Site
sites_in own file constants function [] = []
sites_in own file constants function (v ∷ vs) =
    record { constants = constants; bases = record { own = own; file = file; function = function } } ∷ sites_in own file constants (function + object_count v) vs

-- the number behind the objects of functions
abbrev pub behind : ℕ → List Inventory → ℕ
behind function [] = function
behind function (v ∷ vs) = behind (function + object_count v) vs

-- in each file the constants stand before the objects of its functions, and the files one behind the other
abbrev pub sites_from : ℕ → ℕ → List FileContents → List Site
sites_from own first [] = []
sites_from own first (f ∷ fs) =
    sites_in own first f.constants (first + length f.constants) f.inventories ++ sites_from own (behind (first + length f.constants) f.inventories) fs

abbrev pub sites : List FileContents → List Site
sites fs = sites_from (length (all_inventories fs)) 0 fs

-- a site for each unit of the files, in their order
abbrev pub sites_of : List UnitsOfFile → List Site
sites_of fs = sites (map contents_of fs)
