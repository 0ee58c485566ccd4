-- That the C function of a unit keeps the loops of the unit: its `for`s and its `do`s are those of DO statements and of implied DOs, and its `goto`s and `case`s
-- name the labels that the statements name, those of entries, and made labels, of which there is at most one for each transfer and each DO WHILE; those of
-- entries and the made ones they name from before alone, but for one made label for each DO WHILE.
-- ANSI X3.9-1978, sections 2.4, 11.1 to 11.4, 11.10 and 12.8.2.3; MIL-STD-1753 for DO WHILE; C89, 3.6.4.2, 3.6.5.2, 3.6.5.3 and 3.6.6.1.
use Rattle.std.specs.List.{list_all}
use Rattle.std.specs.Prelude.{◌≡◌, ℕ, ◌+◌, ◌≤◌, true, ◌||◌, List, length, Option, Some, slice_get, if◌then◌else◌}
use Rattle.translated_files.specs.f_tree.declared.names.Options.{Options}
use Rattle.translated_files.specs.f_tree.declared.units.File.{File}
use Rattle.translated_files.specs.f_tree.declared.units.Unit.{Unit as GivenUnit}
use Rattle.translated_files.specs.f_tree.CNames.{is_among}
use Rattle.translated_files.specs.f_tree.Lines.{unit_read}
use Rattle.translated_files.specs.f_tree.Setting.{IsIn}
use Rattle.translated_files.specs.c_tree.CLabels.{labels_of_all}
use Rattle.translated_files.specs.c_tree.declared.file.CFile.{CFile}
use Rattle.translated_files.specs.c_tree.declared.file.CFunction.{CFunction}
use Rattle.translated_files.specs.c_tree.declared.statement.CStmt.{CStmt}
use Rattle.translated_files.specs.faithful.StorageImage.{function_name}
use Rattle.translated_files.specs.TranslatedFiles.{files_of}
use Rattle.loop_marks.specs.c_loops.Loops.{loops_of_all}
use Rattle.kept_loops.specs.NamedAhead.{mentions_of_all, named_ahead}
use Rattle.kept_loops.specs.SourceLoops.{do_statements, do_whiles, transfers, implied_dos, statement_labels, made_labels, labels_allowed}

-- each `goto` and each `case` stands before the label that it names, unless that is of a statement of the unit, or among some made labels
pub record ForwardJumps (u : GivenUnit) (body : List CStmt) : Type 0 where
  pub behind : List (List ℕ)
  pub made : list_all (is_among (made_labels (transfers u + do_whiles u))) behind ≡ true
  -- at most one for each DO WHILE
  pub few : length behind ≤ do_whiles u
  pub ahead : named_ahead (λ label. is_among (statement_labels u) label || is_among behind label) (mentions_of_all body) ≡ true

pub record KeepsLoops (options : Options) (u : GivenUnit) (f : CFunction) : Type 0 where
  -- a `for` for each DO statement, unless the ranges of loops are run at least once, and for each implied DO of a transfer
  pub fors : (loops_of_all f.body).fors ≡ (if options.onetrip then 0 else do_statements u) + implied_dos u
  -- where they are, a `do` for each DO statement
  pub dos : (loops_of_all f.body).dos ≡ (if options.onetrip then do_statements u else 0)
  -- the labels that `goto` and `case` name
  pub labels : list_all (is_among (labels_allowed u)) (labels_of_all f.body).named ≡ true
  -- and where they stand
  pub forward : ForwardJumps u f.body

-- the function of a unit, among those of its C file
pub record HasFunction (options : Options) (u : GivenUnit) (c : CFile) : Type 0 where
  pub function : CFunction
  pub among : IsIn function c.functions
  pub named : function.name ≡ function_name (unit_read options u)
  pub keeps : KeepsLoops options u function

-- each unit of a FORTRAN file has its function in the C file that stands at the same place
pub record HasFunctions (options : Options) (file : File) (found : Option CFile) : Type 0 where
  pub text : CFile
  pub there : found ≡ Some text
  pub functions : (u : GivenUnit) → IsIn u file.units → HasFunction options u text

-- the C files of some FORTRAN files, if they have them, keep the loops of their units
abbrev pub KeepTheirLoops : Options → List File → Type 0
KeepTheirLoops options files = (cs : List CFile) → files_of options files ≡ Some cs → (k : ℕ) (file : File) → slice_get files k ≡ Some file → HasFunctions options file (slice_get cs k)

-- LAW
abbrev pub EachTranslationKeepsLoops : Type 0
EachTranslationKeepsLoops = (options : Options) (files : List File) → KeepTheirLoops options files
