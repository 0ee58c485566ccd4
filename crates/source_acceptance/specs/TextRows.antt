-- The rows of refusals of the cards and of the statements of a source. ANSI X3.9-1978, sections 3 to 16; MIL-STD-1753: INCLUDE.
use Rattle.std.specs.Prelude.{◌≡◌, ℕ, ◌+◌, Bool, true, false, List, length, Some, slice_get}
use Rattle.declaration_rows.specs.f_tree.declared.names.Options.{Options}
use Rattle.declaration_rows.specs.f_tree.declared.refusals.Kind.{Kind}
use Rattle.declaration_rows.specs.f_tree.declared.refusals.Kind.TheVariants.{FileTooLong, EndOrIncludeInAnIncludedFile}
use Rattle.declaration_rows.specs.f_tree.declared.refusals.Refusal.{Refusal}
use Rattle.declaration_rows.specs.f_tree.Setting.{IsIn}
use Rattle.declaration_rows.specs.fortran_text.CharactersOfText.{is_end}
use Rattle.declaration_rows.specs.fortran_text.FirstFault.{FaultOfCards, FaultOfFile, IsSound}
use Rattle.declaration_rows.specs.fortran_text.StatementsOfFile.{file_cards}
use Rattle.declaration_rows.specs.fortran_text.declared.source.Statement.{Statement}
use Rattle.fortran_grammar.specs.SyntaxRows.{FaultOfStatements}
use Rattle.source_acceptance.specs.SourceFiles.{Included, Source, included_name, statements_in, passes_at}

-- A file of the source by its number, and one that is included.
abbrev pub HasFile : Source → ℕ → List ℕ → Type 0
HasFile source file bytes = slice_get source.files file ≡ Some bytes

pub record HasIncluded (source : Source) (file : ℕ) (bytes : List ℕ) : Type 0 where
  pub place : ℕ
  pub entry : Included
  pub is : slice_get source.included place ≡ Some entry
  pub file_is : file ≡ length source.files + place
  pub bytes_are : bytes ≡ entry.bytes

-- The cards of an included file count where it has none of F01 to F05 and F07.
pub record Counts (refused : Bool) (counted : List ℕ → ℕ) : Type 0 where
  pub sound : (bytes : List ℕ) → IsSound (FaultOfCards refused bytes) → counted bytes ≡ (file_cards 0 bytes).cards
  pub unsound : (bytes : List ℕ) (card : ℕ) (kind : Kind) → FaultOfCards refused bytes card kind → counted bytes ≡ 0

-- F47: an END or INCLUDE statement in an included file.
pub data EndsOrIncludes (s : Statement) : Type 0 where
  ends : is_end s.text ≡ true → EndsOrIncludes s
  includes : (name : List ℕ) → included_name s ≡ Some name → EndsOrIncludes s

-- The rows of the cards of a source.
pub data CardFault (options : Options) (source : Source) (r : Refusal) : Type 0 where
  of_file : (bytes : List ℕ) → HasFile source r.file bytes → FaultOfFile options.long_cards bytes r.card r.kind → CardFault options source r
  of_included : (bytes : List ℕ) → HasIncluded source r.file bytes → FaultOfCards options.long_cards bytes r.card r.kind → CardFault options source r
  -- judged only in a file that has none of F01 to F07
  too_many_included : (bytes : List ℕ) (counted : List ℕ → ℕ) → HasFile source r.file bytes → IsSound (FaultOfFile options.long_cards bytes)
      → Counts options.long_cards counted
      → passes_at counted source.included (file_cards r.file bytes).cards (statements_in r.file bytes) ≡ Some r.card → r.kind ≡ FileTooLong
      → CardFault options source r
  -- judged only in an included file that has none of F01 to F05 and F07
  end_or_include : (bytes : List ℕ) (s : Statement) → HasIncluded source r.file bytes → IsSound (FaultOfCards options.long_cards bytes)
      → IsIn s (statements_in r.file bytes) → EndsOrIncludes s → r.card ≡ s.card → r.kind ≡ EndOrIncludeInAnIncludedFile → CardFault options source r

-- The rows of the statements of a source.
pub data SyntaxFault (source : Source) (r : Refusal) : Type 0 where
  of_file : (bytes : List ℕ) → HasFile source r.file bytes → FaultOfStatements true (statements_in r.file bytes) r.file r.card r.kind → SyntaxFault source r
  of_included : (bytes : List ℕ) → HasIncluded source r.file bytes → FaultOfStatements false (statements_in r.file bytes) r.file r.card r.kind
      → SyntaxFault source r
