-- The parts of a file from one place to another, and up to the end of the tokens those of the grammar.
use Rattle.std.proofs.Common.{◌≡◌, refl, sym, subst, ℕ, List, [], ◌∷◌}
use Rattle.c_file_readers.specs.c_tree.declared.file.CObject.{CObject}
use Rattle.c_file_readers.specs.c_tree.declared.file.CConstant.{CConstant}
use Rattle.c_file_readers.specs.c_tree.declared.file.CFunction.{CFunction}
use Rattle.c_file_readers.specs.c_tree.declared.file.CFile.{CFile}
use Rattle.c_file_readers.specs.c_tree.Tokens.{Including}
use Rattle.c_file_readers.specs.c_tree.CWords.{Next}
use Rattle.c_file_readers.specs.c_tree.CExpressionText.{Scope}
use Rattle.c_file_readers.specs.c_tree.CDeclarationText.{ReadsObject, IsNew, with_object, with_array, with_function}
use Rattle.c_file_readers.specs.c_tree.CText as grammar
use Rattle.c_file_readers.specs.c_tree.CText.{ReadsFunction, ReadsFunctions, ReadsConstant, ReadsParts, ReadsFile, no_names}
use Rattle.c_file_readers.specs.c_readers.Readers.{Tokens}

-- The external objects, then the constants, then the functions between two places.
pub data PartsTo : Scope → List (List ℕ) → List CObject → List CConstant → List CFunction → Tokens → Tokens → Type 0 where
  no_part : (scope : Scope) (here : List (List ℕ)) {p : Tokens} → PartsTo scope here [] [] [] p p
  function_first : (scope : Scope) (here : List (List ℕ)) {first : CFunction} {later : List CFunction} {p q r : Tokens}
      → ReadsFunction scope first p q → IsNew first.name here → PartsTo (with_function first.name scope) (first.name ∷ here) [] [] later q r
      → PartsTo scope here [] [] (first ∷ later) p r
  constant_first : (scope : Scope) (here : List (List ℕ)) {first : CConstant} {later : List CConstant} {functions : List CFunction} {p q r : Tokens}
      → ReadsConstant first p q → IsNew first.name here → PartsTo (with_object first.name scope) (first.name ∷ here) [] later functions q r
      → PartsTo scope here [] (first ∷ later) functions p r
  object_first : (scope : Scope) (here : List (List ℕ)) {first : CObject} {name : List ℕ} {later : List CObject} {constants : List CConstant}
      {functions : List CFunction} {p q r : Tokens}
      → ReadsObject first name p q → IsNew name here → PartsTo (with_array name scope) (name ∷ here) later constants functions q r
      → PartsTo scope here (first ∷ later) constants functions p r

-- The include line and parts between two places.
pub record FileTo (file : CFile) (p q : Tokens) : Type 0 where
  pub behind : Tokens
  pub including : Next Including p behind
  pub parts : PartsTo no_names [] file.objects file.constants file.functions behind q

-- ## Up to the end

pub some-part : {A : Type 0} (first : A) (later : List A) → first ∷ later ≡ [] → ⊥
some-part first later h = cc

functions-from : {scope : Scope} {here : List (List ℕ)} {objects : List CObject} {constants : List CConstant} {functions : List CFunction} {p q : Tokens}
    → PartsTo scope here objects constants functions p q → objects ≡ [] → constants ≡ [] → q ≡ [] → ReadsFunctions scope here functions p
functions-from (no_part scope here {p = p}) none bare end = subst (λ z. ReadsFunctions scope here [] z) (sym end) (grammar.no_function scope here)
functions-from (function_first scope here reads new more) none bare end = grammar.one_function scope here reads new (functions-from more refl refl end)
functions-from (constant_first scope here {first = first} {later = later} reads new more) none bare end = absurd (some-part first later bare)
functions-from (object_first scope here {first = first} {later = later} reads new more) none bare end = absurd (some-part first later none)

pub parts-from : {scope : Scope} {here : List (List ℕ)} {objects : List CObject} {constants : List CConstant} {functions : List CFunction} {p q : Tokens}
    → PartsTo scope here objects constants functions p q → q ≡ [] → ReadsParts scope here objects constants functions p
parts-from (no_part scope here) end = grammar.only_functions scope here (functions-from (no_part scope here) refl refl end)
parts-from (function_first scope here reads new more) end = grammar.only_functions scope here (functions-from (function_first scope here reads new more) refl refl end)
parts-from (constant_first scope here reads new more) end = grammar.one_constant scope here reads new (parts-from more end)
parts-from (object_first scope here reads new more) end = grammar.one_object scope here reads new (parts-from more end)

functions-to : {scope : Scope} {here : List (List ℕ)} {functions : List CFunction} {p : Tokens} → ReadsFunctions scope here functions p → PartsTo scope here [] [] functions p []
functions-to (grammar.no_function scope here) = no_part scope here
functions-to (grammar.one_function scope here reads new more) = function_first scope here reads new (functions-to more)

pub parts-to : {scope : Scope} {here : List (List ℕ)} {objects : List CObject} {constants : List CConstant} {functions : List CFunction} {p : Tokens}
    → ReadsParts scope here objects constants functions p → PartsTo scope here objects constants functions p []
parts-to (grammar.only_functions scope here functions) = functions-to functions
parts-to (grammar.one_constant scope here reads new more) = constant_first scope here reads new (parts-to more)
parts-to (grammar.one_object scope here reads new more) = object_first scope here reads new (parts-to more)

pub file-from : (file : CFile) (tokens : Tokens) → FileTo file tokens [] → ReadsFile file tokens
file-from file tokens f = record { behind = f.behind; including = f.including; parts = parts-from f.parts refl }

pub file-to : (file : CFile) (tokens : Tokens) → ReadsFile file tokens → FileTo file tokens []
file-to file tokens f = record { behind = f.behind; including = f.including; parts = parts-to f.parts }
