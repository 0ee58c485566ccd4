-- Which C tree a text spells (C89, 3.7), which trees are well formed, and the line at which a text that spells none is
-- refused. Names are declared before they are used.
use Rattle.std.specs.Prelude.{◌≡◌, ℕ, ℤ, true, List, [], ◌∷◌, ◌++◌, map, codes}
use Rattle.c_tree.specs.declared.types.ResultType.{ResultType}
use Rattle.c_tree.specs.declared.declaration.CParam.{CParam}
use Rattle.c_tree.specs.declared.declaration.CLocal.{CLocal}
use Rattle.c_tree.specs.declared.statement.CStmt.{CStmt}
use Rattle.c_tree.specs.declared.file.CObject.{CObject}
use Rattle.c_tree.specs.declared.file.CConstant.{CConstant}
use Rattle.c_tree.specs.declared.file.CFunction.{CFunction}
use Rattle.c_tree.specs.declared.file.CFile.{CFile}
use Rattle.c_tree.specs.Tokens.{Token, Including, Placed, AreTokensOf, last_line}
use Rattle.c_tree.specs.CWords.{Next, AWord, ASign, result_word}
use Rattle.c_tree.specs.CLabels.{labels_meet}
use Rattle.c_tree.specs.CExpressionText.{Scope}
use Rattle.c_tree.specs.CStatementText.{ReadsStmts}
use Rattle.c_tree.specs.CDeclarationText.{ReadsValue, ReadsObject, ReadsLocals, ReadsParams, IsNew, with_object, with_array, with_function}

-- a function, whose own name is declared from its parameters on; each label that is named stands once
pub data ReadsFunction (scope : Scope) : CFunction → List Token → List Token → Type 0 where
  a_function : (of : ResultType) (name : List ℕ) {params : List CParam} {locals : List CLocal} {body : List CStmt} {outer inner : Scope} {here : List (List ℕ)}
      {p q r s t u v w x : List Token} → labels_meet body ≡ true
      → AWord (result_word of) p q → AWord name q r → ASign (codes "(") r s → ReadsParams (with_function name scope) [] params outer here s t → ASign (codes ")") t u
      → ASign (codes "{") u v → ReadsLocals outer here locals inner v w → ReadsStmts inner body w x
      → ReadsFunction scope (record { result = of; name = name; params = params; locals = locals; body = body }) p x

-- the functions of a file, up to its end, given the names declared in the file so far
pub data ReadsFunctions : Scope → List (List ℕ) → List CFunction → List Token → Type 0 where
  no_function : (scope : Scope) (here : List (List ℕ)) → ReadsFunctions scope here [] []
  one_function : (scope : Scope) (here : List (List ℕ)) {first : CFunction} {later : List CFunction} {p q : List Token}
      → ReadsFunction scope first p q → IsNew first.name here → ReadsFunctions (with_function first.name scope) (first.name ∷ here) later q
      → ReadsFunctions scope here (first ∷ later) p

-- a constant
pub data ReadsConstant : CConstant → List Token → List Token → Type 0 where
  a_constant : (name : List ℕ) {value : ℤ} {p q r s t u v : List Token}
      → AWord (codes "static") p q → AWord (codes "integer") q r → AWord name r s → ASign (codes "=") s t → ReadsValue value t u → ASign (codes ";") u v
      → ReadsConstant (record { name = name; value = value }) p v

-- the external objects, then the constants, then the functions of a file, up to its end
pub data ReadsParts : Scope → List (List ℕ) → List CObject → List CConstant → List CFunction → List Token → Type 0 where
  only_functions : (scope : Scope) (here : List (List ℕ)) {functions : List CFunction} {p : List Token}
      → ReadsFunctions scope here functions p → ReadsParts scope here [] [] functions p
  one_constant : (scope : Scope) (here : List (List ℕ)) {first : CConstant} {later : List CConstant} {functions : List CFunction} {p q : List Token}
      → ReadsConstant first p q → IsNew first.name here → ReadsParts (with_object first.name scope) (first.name ∷ here) [] later functions q
      → ReadsParts scope here [] (first ∷ later) functions p
  one_object : (scope : Scope) (here : List (List ℕ)) {first : CObject} {name : List ℕ} {later : List CObject} {constants : List CConstant}
      {functions : List CFunction} {p q : List Token}
      → ReadsObject first name p q → IsNew name here → ReadsParts (with_array name scope) (name ∷ here) later constants functions q
      → ReadsParts scope here (first ∷ later) constants functions p

-- no name is declared
abbrev pub no_names : Scope
no_names = record { objects = []; arrays = []; functions = []; pointers = [] }

-- a file: the include line, and what stands behind it
pub record ReadsFile (file : CFile) (tokens : List Token) : Type 0 where
  pub behind : List Token
  pub including : Next Including tokens behind
  pub parts : ReadsParts no_names [] file.objects file.constants file.functions behind

abbrev pub kinds : List Placed → List Token
kinds tokens = map (λ (one : Placed). one.token) tokens

-- the tree that the bytes of a text spell
pub record CText (bytes : List ℕ) (file : CFile) : Type 0 where
  pub tokens : List Placed
  pub lexed : AreTokensOf bytes tokens
  pub reads : ReadsFile file (kinds tokens)

-- a tree is well formed where some tokens spell it: each rule stands at the production that it is about
pub record WellFormed (file : CFile) : Type 0 where
  pub tokens : List Token
  pub reads : ReadsFile file tokens

-- some well-formed file begins with the tokens
pub record Begins (tokens : List Token) : Type 0 where
  pub later : List Token
  pub file : CFile
  pub reads : ReadsFile file (tokens ++ later)

-- a text is refused at the line of the first token such that the tokens up to it begin no well-formed file, or at the
-- line of its end where all tokens begin one and are none
pub data IsRefusedAt (bytes : List ℕ) (tokens : List Placed) : ℕ → Type 0 where
  at_a_token : (front : List Placed) (first : Placed) (later : List Placed) → tokens ≡ front ++ (first ∷ later) → Begins (kinds front)
      → (Begins (kinds front ++ (first.token ∷ [])) → ⊥) → IsRefusedAt bytes tokens first.line
  at_the_end : Begins (kinds tokens) → ((file : CFile) → ReadsFile file (kinds tokens) → ⊥) → IsRefusedAt bytes tokens (last_line bytes)

-- the line at which a text is refused
pub record RefusedLine (bytes : List ℕ) (line : ℕ) : Type 0 where
  pub tokens : List Placed
  pub lexed : AreTokensOf bytes tokens
  pub refused : IsRefusedAt bytes tokens line
