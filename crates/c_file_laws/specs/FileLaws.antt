-- The laws of the readers of external objects, of constants, of functions and of files (C89, 3.7).
use Rattle.std.specs.Prelude.{◌≡◌, ◌≤◌, ℕ, List, [], ◌∷◌, ◌++◌, length, Some, None, Ok, Err}
use Rattle.c_file_readers.specs.c_tree.declared.file.CConstant.{CConstant}
use Rattle.c_file_readers.specs.c_tree.declared.file.CFunction.{CFunction}
use Rattle.c_file_readers.specs.c_tree.declared.file.CFile.{CFile}
use Rattle.c_file_readers.specs.c_tree.Tokens.{Placed, AreTokensOf, last_line}
use Rattle.c_file_readers.specs.c_tree.CExpressionText.{Scope}
use Rattle.c_file_readers.specs.c_tree.CDeclarationText.{ReadsObject, IsNew}
use Rattle.c_file_readers.specs.c_tree.CText.{ReadsFunction, ReadsConstant, ReadsFile, kinds, CText, Begins, IsRefusedAt, RefusedLine}
use Rattle.c_file_readers.specs.c_readers.Readers.{Tokens, Outcome}
use Rattle.c_file_readers.specs.c_readers.DeclarationReader.{is_new}
use Rattle.c_file_readers.specs.grammar.Exactness.{Good, Exact, Eventually}
use Rattle.c_statement_laws.specs.c_grammar_laws.ExpressionLaws.{Anything}
use Rattle.c_statement_laws.specs.StatementLaws.{InOrder}
use Rattle.c_file_readers.specs.ObjectReader.{Named, an_object, a_constant}
use Rattle.c_file_readers.specs.FileReader.{a_function, a_file}

-- ## Parts of a file

-- An external object of a name that is new.
pub record ObjectNew (here : List (List ℕ)) (made : Named) (p q : Tokens) : Type 0 where
  pub reads : ReadsObject made.0 made.1 p q
  pub fresh : IsNew made.1 here

-- A constant of a name that is new.
pub record ConstantNew (here : List (List ℕ)) (one : CConstant) (p q : Tokens) : Type 0 where
  pub reads : ReadsConstant one p q
  pub fresh : IsNew one.name here

-- A function of a name that is new.
pub record FunctionNew (scope : Scope) (here : List (List ℕ)) (one : CFunction) (p q : Tokens) : Type 0 where
  pub reads : ReadsFunction scope one p q
  pub fresh : IsNew one.name here

-- The readers judge all tokens.
abbrev pub GoodObjects : Type 0
GoodObjects = (here : List (List ℕ)) (nests : ℕ) → Good nests (ObjectNew here) (an_object (is_new here)) (an_object (is_new here))

abbrev pub GoodConstants : Type 0
GoodConstants = (here : List (List ℕ)) (nests : ℕ) → Good nests (ConstantNew here) (a_constant (is_new here)) (a_constant (is_new here))

abbrev pub GoodFunctions : Type 0
GoodFunctions = (scope : Scope) (here : List (List ℕ)) (nests count most : ℕ) → InOrder scope → nests ≤ count → count ≤ most
    → Good nests (FunctionNew scope here) (a_function count scope (is_new here)) (a_function most scope (is_new here))

-- They are exact.
abbrev pub ExactObjects : Type 0
ExactObjects = (here : List (List ℕ)) → Exact (ObjectNew here) Anything (λ nests. an_object (is_new here))

abbrev pub ExactConstants : Type 0
ExactConstants = (here : List (List ℕ)) → Exact (ConstantNew here) Anything (λ nests. a_constant (is_new here))

abbrev pub ExactFunctions : Type 0
ExactFunctions = (scope : Scope) (here : List (List ℕ)) → InOrder scope → Exact (FunctionNew scope here) Anything (λ nests. a_function nests scope (is_new here))

-- ## Files

-- The tokens up to the offending one begin no file, or all tokens are none.
abbrev pub NoFileFrom : Tokens → Tokens → Type 0
NoFileFrom front [] = (file : CFile) → ReadsFile file front → ⊥
NoFileFrom front (token ∷ later) = Begins (front ++ (token ∷ [])) → ⊥

-- Tokens are refused at the first token such that the tokens up to it begin no file, or at their end.
pub record FileRefused (tokens rest : Tokens) : Type 0 where
  pub front : Tokens
  pub whole : tokens ≡ front ++ rest
  pub begins : Begins front
  pub none : NoFileFrom front rest

-- What is found is the file that all tokens spell.
pub record FoundFiles : Type 0 where
  pub all : (nests : ℕ) (tokens : Tokens) (file : CFile) (rest : Tokens) → a_file nests tokens ≡ Some (Ok (file, rest)) → rest ≡ []
  pub sound : (nests : ℕ) (tokens : Tokens) (file : CFile) (rest : Tokens) → a_file nests tokens ≡ Some (Ok (file, rest)) → ReadsFile file tokens

-- The reader of files is exact.
pub record ExactFiles : Type 0 where
  pub found : FoundFiles
  pub complete : (file : CFile) (tokens : Tokens) → ReadsFile file tokens → Eventually (λ nests. a_file nests tokens ≡ Some (Ok (file, [])))
  pub refused : (nests : ℕ) (tokens rest : Tokens) → a_file nests tokens ≡ Some (Err rest) → FileRefused tokens rest
  pub answered : (nests : ℕ) (tokens : Tokens) → a_file nests tokens ≡ None → nests ≤ length tokens
  pub lasting : (nests more : ℕ) (tokens : Tokens) (outcome : Outcome CFile) → nests ≤ more → a_file nests tokens ≡ Some outcome → a_file more tokens ≡ Some outcome

-- ## Texts

-- The line of the token that stands first, or of the end of the text.
abbrev pub line_at : List ℕ → List Placed → ℕ
line_at bytes [] = last_line bytes
line_at bytes (first ∷ later) = first.line

-- Placed tokens, cut before some of their tokens.
pub record CutBefore (tokens : List Placed) (rest : Tokens) : Type 0 where
  pub front : List Placed
  pub later : List Placed
  pub whole : tokens ≡ front ++ later
  pub is : kinds later ≡ rest

-- A text whose tokens are refused is refused at the line of the offending token, or of its end.
pub record RefusedLines : Type 0 where
  pub cut : (nests : ℕ) (tokens : List Placed) (rest : Tokens) → a_file nests (kinds tokens) ≡ Some (Err rest) → CutBefore tokens rest
  pub lines : (nests : ℕ) (bytes : List ℕ) (tokens front later : List Placed) → tokens ≡ front ++ later → a_file nests (kinds tokens) ≡ Some (Err (kinds later))
      → IsRefusedAt bytes tokens (line_at bytes later)
  pub refused : (nests : ℕ) (bytes : List ℕ) (tokens front later : List Placed) → AreTokensOf bytes tokens → tokens ≡ front ++ later
      → a_file nests (kinds tokens) ≡ Some (Err (kinds later)) → RefusedLine bytes (line_at bytes later)

-- A text whose tokens are read is that of the file.
abbrev pub TextsRead : Type 0
TextsRead = (nests : ℕ) (bytes : List ℕ) (tokens : List Placed) (file : CFile) (rest : Tokens) → AreTokensOf bytes tokens → a_file nests (kinds tokens) ≡ Some (Ok (file, rest))
    → CText bytes file
