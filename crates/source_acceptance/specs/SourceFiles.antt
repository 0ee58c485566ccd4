-- The files of a source and the files that they include. MIL-STD-1753: INCLUDE. Files are numbered from 0; those that are included are numbered
-- behind the others, in the order in which they are first mentioned.
use Rattle.std.specs.Prelude.{◌≡◌, ℕ, suc, ◌+◌, nat_lt, false, List, [], ◌∷◌, ◌++◌, length, bytes_eq, Option, Some, None, if◌then◌else◌}
use Rattle.declaration_rows.specs.f_tree.declared.units.File.{File}
use Rattle.declaration_rows.specs.f_tree.declared.units.FileSet.{FileSet}
use Rattle.declaration_rows.specs.f_tree.declared.units.Part.{Part}
use Rattle.declaration_rows.specs.f_tree.Uses.{is_among}
use Rattle.declaration_rows.specs.fortran_text.FirstFault.{most_cards}
use Rattle.declaration_rows.specs.fortran_text.StatementsOfFile.{file_cards}
use Rattle.declaration_rows.specs.fortran_text.declared.source.Statement.{Statement}
use Rattle.fortran_grammar.specs.fortran_lexemes.KindsOfStatements.{kind_of_statement}
use Rattle.fortran_grammar.specs.fortran_lexemes.Lexemes.{Lexemes, Quoted, Word}
use Rattle.fortran_grammar.specs.fortran_lexemes.declared.kinds.StmtKind.{StmtKind}
use Rattle.fortran_grammar.specs.fortran_lexemes.declared.kinds.StmtKind.TheVariants as kind
use Rattle.fortran_grammar.specs.UnitsOfFile.{is_labelled, pieces_of, may_stand, SpellsFile}
use Rattle.fortran_grammar.specs.IncludedFiles.{SpellsPart, file_with_parts}

-- A file that is included, by its name.
pub record Included : Type 0 where
  pub name : List ℕ
  pub bytes : List ℕ

-- The bytes of the files that are named for translation, and of those that they include.
pub record Source : Type 0 where
  pub files : List (List ℕ)
  pub included : List Included

-- The name of the file that a statement includes, where it is an INCLUDE statement in its grammar.
unfoldable pub quoted_name : Lexemes → Option (List ℕ)
quoted_name (Word kind.Include ∷ Quoted name ∷ []) = Some name
quoted_name pieces = None

unfoldable pub name_by : Option StmtKind → Statement → Option (List ℕ)
name_by (Some kind.Include) s = if may_stand kind.Include s then quoted_name (pieces_of kind.Include s) else None
name_by other s = None

unfoldable pub included_name : Statement → Option (List ℕ)
included_name s = name_by (kind_of_statement false (is_labelled s) s.text) s

unfoldable pub names_in : List Statement → List (List ℕ)
names_in [] = []
names_in (s ∷ ss) = elim (included_name s) [ None ↦ names_in ss | Some name ↦ name ∷ names_in ss ]

-- The statements of a file by its number.
unfoldable pub statements_in : ℕ → List ℕ → List Statement
statements_in file bytes = (file_cards file bytes).statements

unfoldable pub mentioned_from : ℕ → List (List ℕ) → List (List ℕ)
mentioned_from file [] = []
mentioned_from file (bytes ∷ more) = names_in (statements_in file bytes) ++ mentioned_from (suc file) more

unfoldable pub first_mentions : List (List ℕ) → List (List ℕ) → List (List ℕ)
first_mentions seen [] = []
first_mentions seen (name ∷ more) = if is_among name seen then first_mentions seen more else name ∷ first_mentions (name ∷ seen) more

unfoldable pub names_of : List Included → List (List ℕ)
names_of [] = []
names_of (i ∷ is) = i.name ∷ names_of is

-- The source has each file that is included once, in the order of first mention.
pub record IsWhole (source : Source) : Type 0 where
  pub included : names_of source.included ≡ first_mentions [] (mentioned_from 0 source.files)

-- F07 of INCLUDE: the statement at which the cards of the file and of the files included up to it pass the greatest number. An included file
-- counts once for each mention; one that is refused itself counts nothing, which is told by the test.
unfoldable pub cards_of_included : (List ℕ → ℕ) → List ℕ → List Included → ℕ
cards_of_included counted name [] = 0
cards_of_included counted name (i ∷ is) = if bytes_eq i.name name then counted i.bytes else cards_of_included counted name is

unfoldable pub passes_at : (List ℕ → ℕ) → List Included → ℕ → List Statement → Option ℕ
passes_at counted included sum [] = None
passes_at counted included sum (s ∷ ss) = elim (included_name s) [
  | None ↦ passes_at counted included sum ss
  | Some name ↦
      let now = sum + cards_of_included counted name included in
      let later = passes_at counted included now ss in
      if nat_lt most_cards now then Some s.card else later
]

-- What the files of a source spell: a tree for each file and a part for each that is included.
pub data SpellFiles : ℕ → List (List ℕ) → List File → Type 0 where
  no_files : (file : ℕ) → SpellFiles file [] []
  one_file : (file : ℕ) (bytes : List ℕ) (more : List (List ℕ)) (tree : File) (trees : List File) → SpellsFile (statements_in file bytes) tree
      → SpellFiles (suc file) more trees → SpellFiles file (bytes ∷ more) (tree ∷ trees)

pub data SpellParts : ℕ → List Included → List Part → Type 0 where
  no_parts : (file : ℕ) → SpellParts file [] []
  one_part : (file : ℕ) (i : Included) (more : List Included) (part : Part) (parts : List Part)
      → SpellsPart i.name (statements_in file i.bytes) part → SpellParts (suc file) more parts → SpellParts file (i ∷ more) (part ∷ parts)

unfoldable pub files_with_parts : List Part → List File → List File
files_with_parts parts [] = []
files_with_parts parts (tree ∷ trees) = file_with_parts parts tree ∷ files_with_parts parts trees

-- The source spells the set of trees in which the included statements stand in their places.
pub record SpellsSource (source : Source) (set : FileSet) : Type 0 where
  pub trees : List File
  pub parts : List Part
  pub files_spell : SpellFiles 0 source.files trees
  pub parts_spell : SpellParts (length source.files) source.included parts
  pub set_is : set.files ≡ files_with_parts parts trees
