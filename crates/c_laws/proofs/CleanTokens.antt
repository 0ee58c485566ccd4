-- No file has a byte that begins no token: each production goes on behind tokens that are none such.
use Rattle.std.specs.Prelude.{◌≡◌, ℕ, ℤ, Bool, true, false, List, [], ◌∷◌, Option}
use Rattle.std.proofs.Common.{refl, ap, ◌∙◌}
use Rattle.c_tree.specs.declared.types.CastType.{CastType}
use Rattle.c_tree.specs.declared.types.CastType.TheVariants as cast
use Rattle.c_tree.specs.declared.types.ParameterType.{ParameterType}
use Rattle.c_tree.specs.declared.types.ParameterType.TheVariants as parameter
use Rattle.c_tree.specs.declared.types.ArgumentType.{ArgumentType}
use Rattle.c_tree.specs.declared.types.ArgumentType.TheVariants as argument
use Rattle.c_tree.specs.declared.expression.CExpr.{CExpr}
use Rattle.c_tree.specs.declared.expression.CCall.{CCall}
use Rattle.c_tree.specs.declared.statement.CCase.{CCase}
use Rattle.c_tree.specs.declared.statement.CNext.{CNext}
use Rattle.c_tree.specs.declared.statement.CStmt.{CStmt}
use Rattle.c_tree.specs.declared.declaration.CParam.{CParam}
use Rattle.c_tree.specs.declared.declaration.CField.{CField}
use Rattle.c_tree.specs.declared.declaration.CLocal.{CLocal}
use Rattle.c_tree.specs.declared.file.CObject.{CObject}
use Rattle.c_tree.specs.declared.file.CConstant.{CConstant}
use Rattle.c_tree.specs.declared.file.CFunction.{CFunction}
use Rattle.c_tree.specs.declared.file.CFile.{CFile}
use Rattle.c_tree.specs.Tokens.{Token, Bad}
use Rattle.c_tree.specs.CWords.{Stand, Separated, last_item, one_item, cast_tokens, parameter_tokens, argument_tokens}
use Rattle.c_tree.specs.CExpressionText.{Scope, ReadsExpr, a_number, a_string, a_name, parenthesised, prefixed, casted, between, chosen, indexed, a_field, size, extreme_of, magnitude, ReadsArguments, no_argument, some_arguments, ReadsCall, by_name, through_a_parameter}
use Rattle.c_tree.specs.CStatementText.{ReadsCases, no_case, one_case, ReadsNext, up, down, added, ReadsFor, for_head, ReadsTested, tested, ReadsStmt, assigned, assigned_call, called, empty, a_block, labelled, jump, returned, returned_value, returned_call, if_only, if_else, switched, repeated_for, repeated_do, ReadsStmts, closed, one_more}
use Rattle.c_tree.specs.CDeclarationText as text
use Rattle.c_tree.specs.CText.{ReadsFunction, a_function, ReadsFunctions, no_function, one_function, ReadsConstant, a_constant, ReadsParts, only_functions, one_constant, one_object, ReadsFile}

-- whether each of the tokens is one that a file may have
abbrev pub clean : List Token → Bool
clean [] = true
clean (Bad ∷ later) = false
clean (token ∷ later) = clean later

-- a form goes on behind clean tokens
abbrev pub Clean : List Token → List Token → Type 0
Clean p q = clean p ≡ clean q

pub clean-cast : (of : CastType) (p q : List Token) → Stand (cast_tokens of) p q → Clean p q
clean-cast cast.Chars p q h = ap clean h
clean-cast cast.UnsignedChars p q h = ap clean h
clean-cast cast.Integers p q h = ap clean h
clean-cast cast.Logicals p q h = ap clean h
clean-cast cast.Length p q h = ap clean h
clean-cast cast.Number p q h = ap clean h
clean-cast (cast.Function of) p q h = ap clean h

pub clean-parameter : (of : ParameterType) (p q : List Token) → Stand (parameter_tokens of) p q → Clean p q
clean-parameter parameter.Integers p q h = ap clean h
clean-parameter parameter.Logicals p q h = ap clean h
clean-parameter parameter.Chars p q h = ap clean h
clean-parameter parameter.Length p q h = ap clean h
clean-parameter parameter.Int p q h = ap clean h
clean-parameter (parameter.Function of) p q h = ap clean h

pub clean-argument : (of : ArgumentType) (p q : List Token) → Stand (argument_tokens of) p q → Clean p q
clean-argument (argument.Parameter of) p q h = clean-parameter of p q h
clean-argument (argument.List of) p q h = ap clean h
clean-argument argument.Addresses p q h = ap clean h

pub clean-separated : {T : Type 0} {Item : T → List Token → List Token → Type 0} {closing : List ℕ}
    → ((one : T) (p q : List Token) → Item one p q → Clean p q) → {items : List T} {p q : List Token} → Separated Item closing items p q → Clean p q
clean-separated each (last_item {one = one} {p = p} {q = q} x a) = each one p q x ∙ ap clean a
clean-separated each (one_item {one = one} {p = p} {q = q} x a more) = each one p q x ∙ (ap clean a ∙ clean-separated each more)

pub clean-expression : {scope : Scope} {place : ℕ} {e : CExpr} {p q : List Token} → ReadsExpr scope place e p q → Clean p q
clean-expression (a_number place n h a) = ap clean a
clean-expression (a_string place bytes a) = ap clean a
clean-expression (a_name place name h a) = ap clean a
clean-expression (parenthesised place a e b) = ap clean a ∙ (clean-expression e ∙ ap clean b)
clean-expression (prefixed place o h a e) = ap clean a ∙ clean-expression e
clean-expression (casted place of h a t b e) = ap clean a ∙ (clean-cast of _ _ t ∙ (ap clean b ∙ clean-expression e))
clean-expression (between place o h x a y) = clean-expression x ∙ (ap clean a ∙ clean-expression y)
clean-expression (chosen place h e a x b y) = clean-expression e ∙ (ap clean a ∙ (clean-expression x ∙ (ap clean b ∙ clean-expression y)))
clean-expression (indexed place h e a i b) = clean-expression e ∙ (ap clean a ∙ (clean-expression i ∙ ap clean b))
clean-expression (a_field place name h n e a b) = clean-expression e ∙ (ap clean a ∙ ap clean b)
clean-expression (size place a b c d) = ap clean a ∙ (ap clean b ∙ (ap clean c ∙ ap clean d))
clean-expression (extreme_of place which a b x c y d) =
    ap clean a ∙ (ap clean b ∙ (clean-expression x ∙ (ap clean c ∙ (clean-expression y ∙ ap clean d))))
clean-expression (magnitude place a b e c) = ap clean a ∙ (ap clean b ∙ (clean-expression e ∙ ap clean c))

pub clean-arguments : {scope : Scope} {list : List CExpr} {p q : List Token} → ReadsArguments scope list p q → Clean p q
clean-arguments (no_argument a) = ap clean a
clean-arguments (some_arguments all) = clean-separated (λ one p q x. clean-expression x) all

pub clean-call : {scope : Scope} {call : CCall} {p q : List Token} → ReadsCall scope call p q → Clean p q
clean-call (by_name name h a b all) = ap clean a ∙ (ap clean b ∙ clean-arguments all)
clean-call (through_a_parameter name h a b c d e all) = ap clean a ∙ (ap clean b ∙ (ap clean c ∙ (ap clean d ∙ (ap clean e ∙ clean-arguments all))))

pub clean-cases : {cases : List CCase} {p q : List Token} → ReadsCases cases p q → Clean p q
clean-cases (no_case a) = ap clean a
clean-cases (one_case n label h a b c d e f more) = ap clean a ∙ (ap clean b ∙ (ap clean c ∙ (ap clean d ∙ (ap clean e ∙ (ap clean f ∙ clean-cases more)))))

pub clean-next : {scope : Scope} {turn : CNext} {p q : List Token} → ReadsNext scope turn p q → Clean p q
clean-next (up a e) = ap clean a ∙ clean-expression e
clean-next (down a e) = ap clean a ∙ clean-expression e
clean-next (added x a e) = clean-expression x ∙ (ap clean a ∙ clean-expression e)

pub clean-for : {scope : Scope} {target first test : CExpr} {turn : CNext} {p q : List Token} → ReadsFor scope target first test turn p q → Clean p q
clean-for (for_head a b x c y d z e turn f) =
    ap clean a ∙ (ap clean b ∙ (clean-expression x ∙ (ap clean c ∙ (clean-expression y ∙ (ap clean d ∙ (clean-expression z ∙ (ap clean e ∙ (clean-next turn ∙ ap clean f))))))))

pub clean-tested : {scope : Scope} {word : List ℕ} {e : CExpr} {p q : List Token} → ReadsTested scope word e p q → Clean p q
clean-tested (tested word a b e c) = ap clean a ∙ (ap clean b ∙ (clean-expression e ∙ ap clean c))

mutual
  pub clean-statement : {scope : Scope} {one : CStmt} {p q : List Token} → ReadsStmt scope one p q → Clean p q
  clean-statement (assigned x a e b) = clean-expression x ∙ (ap clean a ∙ (clean-expression e ∙ ap clean b))
  clean-statement (assigned_call x a c b) = clean-expression x ∙ (ap clean a ∙ (clean-call c ∙ ap clean b))
  clean-statement (called c a) = clean-call c ∙ ap clean a
  clean-statement (empty a) = ap clean a
  clean-statement (a_block a inner) = ap clean a ∙ clean-statements inner
  clean-statement (labelled label h a b inner) = ap clean a ∙ (ap clean b ∙ clean-statement inner)
  clean-statement (jump label a b c) = ap clean a ∙ (ap clean b ∙ ap clean c)
  clean-statement (returned a b) = ap clean a ∙ ap clean b
  clean-statement (returned_value a e b) = ap clean a ∙ (clean-expression e ∙ ap clean b)
  clean-statement (returned_call a c b) = ap clean a ∙ (clean-call c ∙ ap clean b)
  clean-statement (if_only t a inner) = clean-tested t ∙ (ap clean a ∙ clean-statements inner)
  clean-statement (if_else t a first b c second) = clean-tested t ∙ (ap clean a ∙ (clean-statements first ∙ (ap clean b ∙ (ap clean c ∙ clean-statements second))))
  clean-statement (switched h t a cases) = clean-tested t ∙ (ap clean a ∙ clean-cases cases)
  clean-statement (repeated_for t a inner) = clean-for t ∙ (ap clean a ∙ clean-statements inner)
  clean-statement (repeated_do a b inner t c) = ap clean a ∙ (ap clean b ∙ (clean-statements inner ∙ (clean-tested t ∙ ap clean c)))

  pub clean-statements : {scope : Scope} {all : List CStmt} {p q : List Token} → ReadsStmts scope all p q → Clean p q
  clean-statements (closed a) = ap clean a
  clean-statements (one_more first later) = clean-statement first ∙ clean-statements later

pub clean-value : {value : ℤ} {p q : List Token} → text.ReadsValue value p q → Clean p q
clean-value (text.plain n h a) = ap clean a
clean-value (text.negative n h a b) = ap clean a ∙ ap clean b
clean-value (text.negative_zero a b) = ap clean a ∙ ap clean b
clean-value (text.least a b c d e f) = ap clean a ∙ (ap clean b ∙ (ap clean c ∙ (ap clean d ∙ (ap clean e ∙ ap clean f))))

pub clean-array : {name : List ℕ} {n : ℕ} {p q : List Token} → text.ReadsArray name n p q → Clean p q
clean-array (text.an_array name n h a b c d) = ap clean a ∙ (ap clean b ∙ (ap clean c ∙ ap clean d))

pub clean-numbers : {n : ℕ} {image : Option (List ℤ)} {p q : List Token} → text.ReadsNumbers n image p q → Clean p q
clean-numbers (text.no_image a) = ap clean a
clean-numbers (text.an_image h a b all c) = ap clean a ∙ (ap clean b ∙ (clean-separated (λ one p q x. clean-value x) all ∙ ap clean c))

pub clean-text : {n : ℕ} {image : Option (List ℕ)} {p q : List Token} → text.ReadsText n image p q → Clean p q
clean-text (text.no_text a) = ap clean a
clean-text (text.a_text bytes h a b c) = ap clean a ∙ (ap clean b ∙ ap clean c)

pub clean-object : {one : CObject} {name : List ℕ} {p q : List Token} → text.ReadsObject one name p q → Clean p q
clean-object (text.integers name n a b c) = ap clean a ∙ (clean-array b ∙ clean-numbers c)
clean-object (text.chars name n a b c) = ap clean a ∙ (clean-array b ∙ clean-text c)

pub clean-types : {types : List ArgumentType} {p q : List Token} → text.ReadsTypes types p q → Clean p q
clean-types (text.no_type a b) = ap clean a ∙ ap clean b
clean-types (text.some_types all) = clean-separated (λ one p q x. clean-argument one p q x) all

pub clean-field : {scope : Scope} {one : CField} {p q : List Token} → text.ReadsField scope one p q → Clean p q
clean-field (text.a_value x) = clean-value x
clean-field (text.a_string bytes a) = ap clean a
clean-field (text.a_start name h a) = ap clean a

pub clean-static : {scope : Scope} {one : CLocal} {name : List ℕ} {p q : List Token} → text.ReadsStatic scope one name p q → Clean p q
clean-static (text.a_static of name a b c) = ap clean a ∙ (ap clean b ∙ ap clean c)
clean-static (text.a_static_value of name a b c x d) = ap clean a ∙ (ap clean b ∙ (ap clean c ∙ (clean-value x ∙ ap clean d)))
clean-static (text.a_static_array of name n a b c) = ap clean a ∙ (clean-array b ∙ clean-numbers c)
clean-static (text.a_static_text name n a b c) = ap clean a ∙ (clean-array b ∙ clean-text c)
clean-static (text.a_text_of_its_length name bytes a b c d e f g) =
    ap clean a ∙ (ap clean b ∙ (ap clean c ∙ (ap clean d ∙ (ap clean e ∙ (ap clean f ∙ ap clean g)))))
clean-static (text.a_list of name h a b c d all e) =
    ap clean a ∙ (ap clean b ∙ (ap clean c ∙ (ap clean d ∙ (clean-separated (λ one p q x. clean-field x) all ∙ ap clean e))))

pub clean-local : {scope : Scope} {one : CLocal} {name : List ℕ} {p q : List Token} → text.ReadsLocal scope one name p q → Clean p q
clean-local (text.an_extern of name a b c d types e) = ap clean a ∙ (ap clean b ∙ (ap clean c ∙ (ap clean d ∙ (clean-types types ∙ ap clean e))))
clean-local (text.static a x) = ap clean a ∙ clean-static x
clean-local (text.a_number of name a b c) = ap clean a ∙ (ap clean b ∙ ap clean c)
clean-local (text.an_array_of_numbers of name n a b c) = ap clean a ∙ (clean-array b ∙ ap clean c)
clean-local (text.an_array_of_chars name n a b c) = ap clean a ∙ (clean-array b ∙ ap clean c)
clean-local (text.an_array_of_addresses name n a b c) = ap clean a ∙ (clean-array b ∙ ap clean c)

pub clean-locals : {scope : Scope} {here : List (List ℕ)} {all : List CLocal} {last : Scope} {p q : List Token} → text.ReadsLocals scope here all last p q → Clean p q
clean-locals (text.no_local scope here) = refl
clean-locals (text.one_local scope last here x h later) = clean-local x ∙ clean-locals later

pub clean-params : {scope : Scope} {here : List (List ℕ)} {all : List CParam} {last : Scope} {names : List (List ℕ)} {p q : List Token}
    → text.ReadsParams scope here all last names p q → Clean p q
clean-params (text.no_parameter scope here a) = ap clean a
clean-params (text.last_parameter scope here of name t a h) = clean-parameter of _ _ t ∙ ap clean a
clean-params (text.one_parameter scope last here names of name t a h b later) = clean-parameter of _ _ t ∙ (ap clean a ∙ (ap clean b ∙ clean-params later))

pub clean-function : {scope : Scope} {one : CFunction} {p q : List Token} → ReadsFunction scope one p q → Clean p q
clean-function (a_function of name h a b c params d e locals body) =
    ap clean a ∙ (ap clean b ∙ (ap clean c ∙ (clean-params params ∙ (ap clean d ∙ (ap clean e ∙ (clean-locals locals ∙ clean-statements body))))))

pub clean-functions : {scope : Scope} {here : List (List ℕ)} {all : List CFunction} {p : List Token} → ReadsFunctions scope here all p → clean p ≡ true
clean-functions (no_function scope here) = refl
clean-functions (one_function scope here one h later) = clean-function one ∙ clean-functions later

pub clean-constant : {one : CConstant} {p q : List Token} → ReadsConstant one p q → Clean p q
clean-constant (a_constant name a b c d x e) = ap clean a ∙ (ap clean b ∙ (ap clean c ∙ (ap clean d ∙ (clean-value x ∙ ap clean e))))

pub clean-parts : {scope : Scope} {here : List (List ℕ)} {objects : List CObject} {constants : List CConstant} {functions : List CFunction} {p : List Token}
    → ReadsParts scope here objects constants functions p → clean p ≡ true
clean-parts (only_functions scope here all) = clean-functions all
clean-parts (one_constant scope here one h later) = clean-constant one ∙ clean-parts later
clean-parts (one_object scope here one h later) = clean-object one ∙ clean-parts later

pub clean-file : {file : CFile} {tokens : List Token} → ReadsFile file tokens → clean tokens ≡ true
clean-file reads = ap clean reads.including ∙ clean-parts reads.parts
