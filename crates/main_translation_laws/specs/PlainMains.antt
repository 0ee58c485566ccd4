-- That a main program of numbers with storage of its own runs as the C file that is made for it, where its text is emitted and has a structure.
-- ANSI X3.9-1978, sections 2.4, 5, 14 and 17.1; C89, 3.6 and 3.7.
use Rattle.std.specs.Prelude.{◌≡◌, ℕ, suc, ◌+◌, ◌<◌, ◌≤◌, ◌^◌, ℤ, true, List, [], ◌∷◌, length, Some, slice_get, ◌&&◌}
use Rattle.main_programs.specs.run_state.Units.{Units}
use Rattle.main_programs.specs.f_tree.Values.{Bytes, NoMeaning}
use Rattle.main_programs.specs.f_tree.CNames.{is_name}
use Rattle.main_programs.specs.f_tree.Facts.{Bounds, Member, MainProgram, ProgramUnit}
use Rattle.main_programs.specs.f_tree.Setting.{IsIn, IsMember, AreDistinct}
use Rattle.main_programs.specs.f_tree.Valuing.{elements_of, extent_of}
use Rattle.main_programs.specs.f_tree.Meaning.{ftn, act_of}
use Rattle.main_programs.specs.l_core.Steps.{Halt, Text}
use Rattle.main_programs.specs.lowering.Units.{lowered_unit}
use Rattle.main_programs.specs.lowering_laws.Layout.{are_direct, has_end, LoopsFit}
use Rattle.main_programs.specs.c_tree.declared.statement.CStmt.{CStmt}
use Rattle.main_programs.specs.c_emit.Numbers.{is_numeric, is_variable}
use Rattle.main_programs.specs.c_emit_laws.EmittedNumbers.{BoundFits}
use Rattle.main_programs.specs.faithful.Faithful.{SameRuns}
use Rattle.main_programs.specs.faithful.UnitsAtStart.{AreBytes}
use Rattle.main_programs.specs.main_file.MainFile.{main_file}
use Rattle.main_programs.specs.main_translation.Contents.{count_by, temporaries_in, inventory_of}
use Rattle.main_programs.specs.main_translation.Outlined.{labels_in, body_of}
use Rattle.main_programs.specs.MainRuns.{plain_setting, plain_facts, bytes_in}

-- A main program whose names are integers and logicals, each with storage of its own: no COMMON, EQUIVALENCE or DATA (8.2, 8.3, 9).
pub record IsPlainMain (unit : ProgramUnit) : Type 0 where
  pub kind : unit.kind ≡ MainProgram
  pub name : Bytes
  pub entry : unit.entries ≡ record { name = name; formals = []; start = 0 } ∷ []
  pub blocks : unit.blocks ≡ []
  pub ties : unit.ties ≡ []
  pub images : unit.images ≡ []
  -- its statements are lowered, END stands last, and its loops are nested and entered by their DO alone
  pub direct : are_direct unit.lines ≡ true
  pub ended : has_end unit.lines ≡ true
  pub loops : LoopsFit unit
  -- each variable of numbers is stored, under its name alone
  pub stored : (x : Bytes) → is_variable (unit.attribute x).class && is_numeric (unit.attribute x).basic ≡ true → IsMember x unit.stored
  pub distinct : AreDistinct unit.stored
  pub named : (m : Member) → IsIn m unit.stored → is_name m.name ≡ true
  pub numbers : (m : Member) → IsIn m unit.stored → is_numeric (unit.attribute m.name).basic ≡ true
  pub wide : (m : Member) → IsIn m unit.stored → (unit.attribute m.name).width ≡ Some 4
  pub sized : (m : Member) → IsIn m unit.stored → m.size ≡ bytes_in (count_by (unit.attribute m.name).bounds)
  pub within : (m : Member) → IsIn m unit.stored → extent_of (elements_of (unit.attribute m.name).bounds) 4 ≤ m.size
  pub small : (m : Member) → IsIn m unit.stored → m.size < 2147483648
  -- bounds are constant, one for each dimension, and have 32 bits
  pub ranked : (x : Bytes) → length (unit.attribute x).bounds ≡ length (unit.attribute x).dimensions
  pub counted : (x : Bytes) (b : Bounds) (bs : List Bounds) → (unit.attribute x).bounds ≡ b ∷ bs → (n : ℕ) × (elements_of (b ∷ bs) ≡ Some n)
  pub fits : (x : Bytes) (k : ℕ) (b : Bounds) → slice_get (unit.attribute x).bounds k ≡ Some b → BoundFits b
  pub closed : (x : Bytes) (k : ℕ) (b : Bounds) → slice_get (unit.attribute x).bounds k ≡ Some b → suc k < length (unit.attribute x).bounds → (last : ℤ) × (b.upper ≡ Some last)

-- a text that fits into memory; what its STOP statements write is bytes
pub record IsPlainText (u : Text) : Type 0 where
  pub steps : 1 + length u.steps ≤ 2 ^ 64
  pub temporaries : 1 + temporaries_in u.steps ≤ 2 ^ 64
  pub marks : 1 + length u.marks ≤ 2 ^ 64
  pub labels : (label : ℕ) → IsIn label (labels_in u.steps) → label < 2 ^ 64
  pub stops : (n : ℕ) (text : Bytes) → slice_get u.steps n ≡ Some (Halt text) → AreBytes text × (length text < 2147483648)

-- LAW
abbrev pub PlainMainsRunAlike : Type 0
PlainMainsRunAlike = (unit : ProgramUnit) (u : Text) (body : List CStmt) → IsPlainMain unit → lowered_unit (plain_facts unit) ≡ Some u → IsPlainText u → body_of unit u ≡ Some body → (units : Units) (n : ℕ) →
    (act_of (ftn (plain_setting unit) (unit ∷ []) units n) ≡ Some NoMeaning → ⊥) → SameRuns (unit ∷ []) (plain_setting unit) (main_file (inventory_of unit u) body ∷ []) units n
