-- Searches for the derivation that a text is of the subset: functions, files and whole texts.
use Rattle.std.specs.Prelude.{◌≡◌, ℕ, zero, suc, Bool, true, false, List, [], ◌∷◌, codes, Option, Some, None}
use Rattle.std.proofs.Common.{refl, ap, sym, subst, true≢false}
use Rattle.c_tree.specs.declared.file.CObject.{CObject}
use Rattle.c_tree.specs.declared.file.CConstant.{CConstant}
use Rattle.c_tree.specs.declared.file.CFunction.{CFunction}
use Rattle.c_tree.specs.declared.file.CFile.{CFile}
use Rattle.c_tree.specs.Tokens.{Token, Including}
use Rattle.c_tree.specs.CLabels.{labels_meet}
use Rattle.c_tree.specs.CExpressionText.{Scope}
use Rattle.c_tree.specs.CDeclarationText.{with_object, with_array, with_function}
use Rattle.c_tree.specs.CText.{ReadsFunction, a_function, ReadsFunctions, no_function, one_function, ReadsConstant, a_constant, ReadsParts, only_functions, one_constant, one_object, no_names, ReadsFile, kinds, CText}
use Rattle.c_laws.proofs.ExpressionReading.{◌>>=◌, otherwise, holds, Popped, lex, Found, pop_word, pop_sign, any_word}
use Rattle.c_laws.proofs.StatementReading.{read_statement, read_statements}
use Rattle.c_laws.proofs.DeclarationReading.{read_value, read_object, any_result, is_new, read_locals, read_parameters}

abbrev pub read_function : ℕ → (scope : Scope) (tokens : List Token) → Option (Found (ReadsFunction scope) tokens)
read_function fuel scope tokens =
    any_result tokens >>= (λ a. any_word a.rest >>= (λ w. pop_sign (codes "(") w.rest >>= (λ b. read_parameters fuel (with_function w.text scope) b.rest >>= (λ params.
    pop_sign (codes ")") params.rest >>= (λ c. pop_sign (codes "{") c.rest >>= (λ d. read_locals fuel params.last params.names d.rest >>= (λ locals.
    read_statements locals.last (read_statement locals.last fuel) fuel locals.rest >>= (λ body. holds (labels_meet body.tree) >>= (λ h.
    Some (record {
      tree = record { result = a.of; name = w.text; params = params.tree; locals = locals.tree; body = body.tree };
      rest = body.rest;
      reads = a_function a.of w.text h a.is w.is b.is params.reads c.is d.is locals.reads body.reads;
    }))))))))))

-- trees up to the end of a file
pub record FoundFunctions (scope : Scope) (here : List (List ℕ)) (tokens : List Token) : Type 0 where
  pub tree : List CFunction
  pub reads : ReadsFunctions scope here tree tokens

abbrev pub read_functions : ℕ → (scope : Scope) (here : List (List ℕ)) (tokens : List Token) → Option (FoundFunctions scope here tokens)
read_functions zero scope here tokens = None
read_functions (suc fuel) scope here [] = Some (record { tree = []; reads = no_function scope here })
read_functions (suc fuel) scope here (first ∷ later) =
    read_function fuel scope (first ∷ later) >>= (λ one. is_new one.tree.name here >>= (λ h.
    read_functions fuel (with_function one.tree.name scope) (one.tree.name ∷ here) one.rest >>= (λ more.
    Some (record { tree = one.tree ∷ more.tree; reads = one_function scope here one.reads h more.reads }))))

abbrev pub read_constant : (tokens : List Token) → Option (Found ReadsConstant tokens)
read_constant tokens =
    pop_word (codes "static") tokens >>= (λ a. pop_word (codes "integer") a.rest >>= (λ b. any_word b.rest >>= (λ w. pop_sign (codes "=") w.rest >>= (λ c.
    read_value c.rest >>= (λ v. pop_sign (codes ";") v.rest >>= (λ d.
    Some (record { tree = record { name = w.text; value = v.tree }; rest = d.rest; reads = a_constant w.text a.is b.is w.is c.is v.reads d.is })))))))

pub record FoundConstants (scope : Scope) (here : List (List ℕ)) (tokens : List Token) : Type 0 where
  pub constants : List CConstant
  pub functions : List CFunction
  pub reads : ReadsParts scope here [] constants functions tokens

abbrev pub read_constants : ℕ → (scope : Scope) (here : List (List ℕ)) (tokens : List Token) → Option (FoundConstants scope here tokens)
read_constants zero scope here tokens = None
read_constants (suc fuel) scope here tokens =
    otherwise
    (read_constant tokens >>= (λ one. is_new one.tree.name here >>= (λ h.
    read_constants fuel (with_object one.tree.name scope) (one.tree.name ∷ here) one.rest >>= (λ more.
    Some (record { constants = one.tree ∷ more.constants; functions = more.functions; reads = one_constant scope here one.reads h more.reads })))))
    (λ u. read_functions fuel scope here tokens >>= (λ more.
    Some (record { constants = []; functions = more.tree; reads = only_functions scope here more.reads })))

pub record FoundParts (scope : Scope) (here : List (List ℕ)) (tokens : List Token) : Type 0 where
  pub objects : List CObject
  pub constants : List CConstant
  pub functions : List CFunction
  pub reads : ReadsParts scope here objects constants functions tokens

abbrev pub read_parts : ℕ → (scope : Scope) (here : List (List ℕ)) (tokens : List Token) → Option (FoundParts scope here tokens)
read_parts zero scope here tokens = None
read_parts (suc fuel) scope here tokens =
    otherwise
    (read_object fuel tokens >>= (λ one. is_new one.name here >>= (λ h. read_parts fuel (with_array one.name scope) (one.name ∷ here) one.rest >>= (λ more.
    Some (record {
      objects = one.tree ∷ more.objects;
      constants = more.constants;
      functions = more.functions;
      reads = one_object scope here one.reads h more.reads;
    })))))
    (λ u. read_constants fuel scope here tokens >>= (λ more.
    Some (record { objects = []; constants = more.constants; functions = more.functions; reads = more.reads })))

pub record FoundFile (tokens : List Token) : Type 0 where
  pub tree : CFile
  pub reads : ReadsFile tree tokens

abbrev pub pop_including : (tokens : List Token) → Option (Popped Including tokens)
pop_including (Including ∷ rest) = Some (record { rest = rest; is = refl })
pop_including other = None

abbrev pub read_file : ℕ → (tokens : List Token) → Option (FoundFile tokens)
read_file fuel tokens =
    pop_including tokens >>= (λ a. read_parts fuel no_names [] a.rest >>= (λ parts.
    Some (record {
      tree = record { objects = parts.objects; constants = parts.constants; functions = parts.functions };
      reads = record { behind = a.rest; including = a.is; parts = parts.reads };
    })))

pub record FoundText (bytes : List ℕ) : Type 0 where
  pub tree : CFile
  pub reads : CText bytes tree

-- the tree of a text
abbrev pub read_text : ℕ → (bytes : List ℕ) → Option (FoundText bytes)
read_text fuel bytes =
    lex fuel 1 true bytes >>= (λ l. read_file fuel (kinds l.tokens) >>= (λ file.
    Some (record { tree = file.tree; reads = record { tokens = l.tokens; lexed = l.are; reads = file.reads } })))

abbrev pub tree_of : {bytes : List ℕ} → Option (FoundText bytes) → Option CFile
tree_of None = None
tree_of (Some found) = Some found.tree

abbrev pub or_else : CFile → Option CFile → CFile
or_else file None = file
or_else file (Some other) = other

abbrev pub is_there : Option CFile → Bool
is_there None = false
is_there (Some file) = true

-- a text spells the tree that is found for it
pub spelled : {bytes : List ℕ} {file : CFile} (found : Option (FoundText bytes)) → tree_of found ≡ Some file → CText bytes file
spelled {file = file} None h = absurd (true≢false (sym (ap is_there h)))
spelled {bytes = bytes} {file = file} (Some one) h = subst (λ z. CText bytes z) (ap (or_else file) h) one.reads

-- a text spells the tree that its search finds
pub spelled_by : (bytes : List ℕ) (file : CFile) → tree_of (read_text 1000 bytes) ≡ Some file → CText bytes file
spelled_by bytes file h = spelled (read_text 1000 bytes) h
