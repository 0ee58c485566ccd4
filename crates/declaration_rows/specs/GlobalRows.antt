-- Which names of a set of files stand for two things (F51), and which main program is one too many (F52). ANSI X3.9-1978, sections 2.4
-- (one main program), 18.1 (global names): program units, entries and common blocks.
use Rattle.std.specs.Prelude.{ℕ, Bool, true, false, not, ◌&&◌, ◌||◌, List, [], ◌∷◌, ◌++◌, map, bytes_eq}
use Rattle.std.specs.List.{list_any}
use Rattle.fortran_text.specs.f_tree.declared.refusals.Kind.{Kind}
use Rattle.fortran_text.specs.f_tree.declared.refusals.Kind.TheVariants.{GlobalNameTwice, TwoMainPrograms}
use Rattle.fortran_text.specs.f_tree.declared.refusals.Refusal.{Refusal}
use Rattle.fortran_text.specs.f_tree.declared.statements.CommonGroup.{CommonGroup}
use Rattle.fortran_text.specs.f_tree.declared.statements.UnitKind.TheVariants as kind
use Rattle.fortran_text.specs.f_tree.declared.statements.Stmt.{Stmt}
use Rattle.fortran_text.specs.f_tree.declared.units.Unit.{Unit as WrittenUnit}
use Rattle.fortran_text.specs.f_tree.declared.units.File.{File}
use Rattle.fortran_text.specs.f_tree.Values.{Bytes}
use Rattle.fortran_text.specs.f_tree.Attributes.{option_list, entry_names_in}
use Rattle.fortran_text.specs.f_tree.Lines.{common_in}
use Rattle.declaration_rows.specs.Judgement.{unless}

-- a global name where it stands: that of a unit or an entry, or that of a common block
pub record Global : Type 0 where
  pub name : Bytes
  pub is_block : Bool
  pub file : ℕ
  pub card : ℕ

unfoldable pub global_at : Stmt → Bool → Bytes → Global
global_at s is_block x = record { name = x; is_block = is_block; file = s.file; card = s.card }

unfoldable pub block_names : List CommonGroup → List Bytes
block_names [] = []
block_names (g ∷ gs) = option_list g.block ++ block_names gs

unfoldable pub globals_of_statements : List Stmt → List Global
globals_of_statements [] = []
globals_of_statements (s ∷ ss) =
    map (global_at s false) (entry_names_in s.body) ++ (map (global_at s true) (block_names (common_in s.body)) ++ globals_of_statements ss)

unfoldable pub globals_of_unit : WrittenUnit → List Global
globals_of_unit u =
    map (λ x. record { name = x; is_block = false; file = u.file; card = u.card }) (option_list u.name) ++ globals_of_statements u.statements

unfoldable pub all_units : List File → List WrittenUnit
all_units [] = []
all_units (f ∷ fs) = f.units ++ all_units fs

unfoldable pub globals_of : List WrittenUnit → List Global
globals_of [] = []
globals_of (u ∷ us) = globals_of_unit u ++ globals_of us

-- one name of two things: a block may stand in many units
unfoldable pub clashes : Global → Global → Bool
clashes g h = bytes_eq g.name h.name && not (g.is_block && h.is_block)

unfoldable pub refused_at : ℕ → ℕ → Kind → Refusal
refused_at file card kind = record { file = file; card = card; kind = kind }

-- each behind those before it
unfoldable pub global_rows : List Global → List Global → List Refusal
global_rows before [] = []
global_rows before (g ∷ gs) =
    map (refused_at g.file g.card) (unless (not (list_any (clashes g) before)) GlobalNameTwice) ++ global_rows (g ∷ before) gs

unfoldable pub is_main_program : WrittenUnit → Bool
is_main_program u = elim u.kind [ kind.Main ↦ true | _ ↦ false ]

unfoldable pub main_rows : Bool → List WrittenUnit → List Refusal
main_rows found [] = []
main_rows found (u ∷ us) =
    map (refused_at u.file u.card) (unless (not (found && is_main_program u)) TwoMainPrograms) ++ main_rows (found || is_main_program u) us

unfoldable pub units_global_rows : List WrittenUnit → List Refusal
units_global_rows us = global_rows [] (globals_of us) ++ main_rows false us

unfoldable pub global_rows_opened : Unit {0}
unfolding global_at block_names globals_of_statements globals_of_unit all_units globals_of clashes refused_at global_rows is_main_program main_rows units_global_rows
global_rows_opened = tt
