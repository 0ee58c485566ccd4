-- The strings of a tree are those among the tokens that spell it: each production goes on behind tokens whose strings
-- are of bytes where its own are.
use Rattle.std.specs.Prelude.{◌≡◌, ℕ, ℤ, Bool, true, false, ◌&&◌, List, ◌∷◌, Option}
use Rattle.std.specs.List.{list_all}
use Rattle.std.proofs.Common.{refl, ap, sym, ◌∙◌, subst}
use Rattle.c_laws.specs.c_tree.declared.types.CastType.{CastType}
use Rattle.c_laws.specs.c_tree.declared.types.CastType.TheVariants as cast
use Rattle.c_laws.specs.c_tree.declared.types.ParameterType.{ParameterType}
use Rattle.c_laws.specs.c_tree.declared.types.ParameterType.TheVariants as parameter
use Rattle.c_laws.specs.c_tree.declared.types.ArgumentType.{ArgumentType}
use Rattle.c_laws.specs.c_tree.declared.types.ArgumentType.TheVariants as argument
use Rattle.c_laws.specs.c_tree.declared.expression.CExpr.{CExpr}
use Rattle.c_laws.specs.c_tree.declared.expression.CCall.{CCall}
use Rattle.c_laws.specs.c_tree.declared.statement.CCase.{CCase}
use Rattle.c_laws.specs.c_tree.declared.statement.CNext.{CNext}
use Rattle.c_laws.specs.c_tree.declared.statement.CStmt.{CStmt}
use Rattle.c_laws.specs.c_tree.declared.statement.CStmt.TheVariants as stmt
use Rattle.c_laws.specs.c_tree.declared.declaration.CParam.{CParam}
use Rattle.c_laws.specs.c_tree.declared.declaration.CField.{CField}
use Rattle.c_laws.specs.c_tree.declared.declaration.CLocal.{CLocal}
use Rattle.c_laws.specs.c_tree.declared.file.CObject.{CObject}
use Rattle.c_laws.specs.c_tree.declared.file.CConstant.{CConstant}
use Rattle.c_laws.specs.c_tree.declared.file.CFunction.{CFunction}
use Rattle.c_laws.specs.c_tree.declared.file.CFile.{CFile}
use Rattle.c_laws.specs.c_tree.Opened.{trees_opened}
use Rattle.c_laws.specs.c_tree.Tokens.{Token, Quoted}
use Rattle.c_laws.specs.c_tree.CWords.{Stand, Separated, last_item, one_item, cast_tokens, parameter_tokens, argument_tokens}
use Rattle.c_laws.specs.c_tree.CExpressionText.{Scope, ReadsExpr, a_number, a_string, a_name, parenthesised, prefixed, casted, between, chosen, indexed, a_field, size, extreme_of, magnitude, ReadsArguments, no_argument, some_arguments, ReadsCall, by_name, through_a_parameter}
use Rattle.c_laws.specs.c_tree.CStatementText.{ReadsCases, no_case, one_case, ReadsNext, up, down, added, ReadsFor, for_head, ReadsTested, tested, ReadsStmt, assigned, assigned_call, called, empty, a_block, labelled, jump, returned, returned_value, returned_call, if_only, if_else, switched, repeated_for, repeated_do, ReadsStmts, closed, one_more}
use Rattle.c_laws.specs.c_tree.CDeclarationText as text
use Rattle.c_laws.specs.c_tree.CText.{ReadsFunction, a_function, ReadsFunctions, no_function, one_function, ReadsConstant, a_constant, ReadsParts, only_functions, one_constant, one_object, CText}
use Rattle.c_spelling.specs.Spelled.{of_bytes, expression_of_bytes, call_of_bytes, next_of_bytes, statement_of_bytes, statements_of_bytes, field_of_bytes, text_of_bytes, local_of_bytes, object_of_bytes, function_of_bytes, file_of_bytes}
use Rattle.c_spelling.proofs.TokensBytes.{tokens_fit, text_fits}
use Rattle.c_spelling.proofs.StmtTrees.{bytes-Block, bytes-Label, bytes-If, bytes-IfElse, bytes-For, bytes-DoWhile}

-- ## Parts in order

-- a form without strings
abbrev Bare : List Token → List Token → Type 0
Bare p q = tokens_fit p ≡ tokens_fit q

-- a form whose strings are of bytes where a test says so
abbrev Tells : Bool → List Token → List Token → Type 0
Tells b p q = tokens_fit p ≡ (b && tokens_fit q)

grouped : (a b c : Bool) → (a && (b && c)) ≡ ((a && b) && c)
grouped true b c = refl
grouped false b c = refl

-- two forms, one behind the other
in_order : (a b : Bool) (p q r : List Token) → Tells a p q → Tells b q r → Tells (a && b) p r
in_order a b p q r first second = first ∙ (ap (λ z. a && z) second ∙ grouped a b (tokens_fit r))

-- a form, and one without strings behind it
and_behind : (a : Bool) (p q r : List Token) → Tells a p q → Bare q r → Tells a p r
and_behind a p q r first second = first ∙ ap (λ z. a && z) second

tells_by : (a b : Bool) (p q : List Token) → a ≡ b → Tells b p q → Tells a p q
tells_by a b p q same h = subst (λ z. Tells z p q) (sym same) h

-- ## Forms without strings

bare-cast : (of : CastType) (p q : List Token) → Stand (cast_tokens of) p q → Bare p q
bare-cast cast.Chars p q h = ap tokens_fit h
bare-cast cast.UnsignedChars p q h = ap tokens_fit h
bare-cast cast.Integers p q h = ap tokens_fit h
bare-cast cast.Logicals p q h = ap tokens_fit h
bare-cast cast.Length p q h = ap tokens_fit h
bare-cast cast.Number p q h = ap tokens_fit h
bare-cast (cast.Function of) p q h = ap tokens_fit h

bare-parameter : (of : ParameterType) (p q : List Token) → Stand (parameter_tokens of) p q → Bare p q
bare-parameter parameter.Integers p q h = ap tokens_fit h
bare-parameter parameter.Logicals p q h = ap tokens_fit h
bare-parameter parameter.Chars p q h = ap tokens_fit h
bare-parameter parameter.Length p q h = ap tokens_fit h
bare-parameter parameter.Int p q h = ap tokens_fit h
bare-parameter (parameter.Function of) p q h = ap tokens_fit h

bare-argument : (of : ArgumentType) (p q : List Token) → Stand (argument_tokens of) p q → Bare p q
bare-argument (argument.Parameter of) p q h = bare-parameter of p q h
bare-argument (argument.List of) p q h = ap tokens_fit h
bare-argument argument.Addresses p q h = ap tokens_fit h

bare-separated : {T : Type 0} {Item : T → List Token → List Token → Type 0} {closing : List ℕ}
    → ((one : T) (p q : List Token) → Item one p q → Bare p q) → {items : List T} {p q : List Token} → Separated Item closing items p q → Bare p q
bare-separated each (last_item {one = one} {p = p} {q = q} x a) = each one p q x ∙ ap tokens_fit a
bare-separated each (one_item {one = one} {p = p} {q = q} x a more) = each one p q x ∙ (ap tokens_fit a ∙ bare-separated each more)

bare-cases : {cases : List CCase} {p q : List Token} → ReadsCases cases p q → Bare p q
bare-cases (no_case a) = ap tokens_fit a
bare-cases (one_case n label h a b c d e f more) =
    ap tokens_fit a ∙ (ap tokens_fit b ∙ (ap tokens_fit c ∙ (ap tokens_fit d ∙ (ap tokens_fit e ∙ (ap tokens_fit f ∙ bare-cases more)))))

bare-value : {value : ℤ} {p q : List Token} → text.ReadsValue value p q → Bare p q
bare-value (text.plain n h a) = ap tokens_fit a
bare-value (text.negative n h a b) = ap tokens_fit a ∙ ap tokens_fit b
bare-value (text.negative_zero a b) = ap tokens_fit a ∙ ap tokens_fit b
bare-value (text.least a b c d e f) = ap tokens_fit a ∙ (ap tokens_fit b ∙ (ap tokens_fit c ∙ (ap tokens_fit d ∙ (ap tokens_fit e ∙ ap tokens_fit f))))

bare-array : {name : List ℕ} {n : ℕ} {p q : List Token} → text.ReadsArray name n p q → Bare p q
bare-array (text.an_array name n h a b c d) = ap tokens_fit a ∙ (ap tokens_fit b ∙ (ap tokens_fit c ∙ ap tokens_fit d))

bare-numbers : {n : ℕ} {image : Option (List ℤ)} {p q : List Token} → text.ReadsNumbers n image p q → Bare p q
bare-numbers (text.no_image a) = ap tokens_fit a
bare-numbers (text.an_image h a b all c) = ap tokens_fit a ∙ (ap tokens_fit b ∙ (bare-separated (λ one p q x. bare-value x) all ∙ ap tokens_fit c))

bare-types : {types : List ArgumentType} {p q : List Token} → text.ReadsTypes types p q → Bare p q
bare-types (text.no_type a b) = ap tokens_fit a ∙ ap tokens_fit b
bare-types (text.some_types all) = bare-separated (λ one p q x. bare-argument one p q x) all

bare-params : {scope : Scope} {here : List (List ℕ)} {all : List CParam} {last : Scope} {names : List (List ℕ)} {p q : List Token}
    → text.ReadsParams scope here all last names p q → Bare p q
bare-params (text.no_parameter scope here a) = ap tokens_fit a
bare-params (text.last_parameter scope here of name t a h) = bare-parameter of _ _ t ∙ ap tokens_fit a
bare-params (text.one_parameter scope last here names of name t a h b later) = bare-parameter of _ _ t ∙ (ap tokens_fit a ∙ (ap tokens_fit b ∙ bare-params later))

bare-constant : {one : CConstant} {p q : List Token} → ReadsConstant one p q → Bare p q
bare-constant (a_constant name a b c d x e) = ap tokens_fit a ∙ (ap tokens_fit b ∙ (ap tokens_fit c ∙ (ap tokens_fit d ∙ (bare-value x ∙ ap tokens_fit e))))

-- ## Expressions

-- a string
told : (bytes : List ℕ) (p q : List Token) → p ≡ Quoted bytes ∷ q → Tells (of_bytes bytes) p q
told bytes p q h = ap tokens_fit h

tells-separated : {T : Type 0} {Item : T → List Token → List Token → Type 0} {closing : List ℕ} (good : T → Bool)
    → ((one : T) (p q : List Token) → Item one p q → Tells (good one) p q) → {items : List T} {p q : List Token} → Separated Item closing items p q → Tells (list_all good items) p q
tells-separated good each (last_item {one = one} {p = p} {q = q} {r = r} x a) = in_order (good one) true p q r (each one p q x) (ap tokens_fit a)
tells-separated good each (one_item {one = one} {later = later} {p = p} {q = q} {s = s} x a more) =
    in_order (good one) (list_all good later) p q s (each one p q x) (ap tokens_fit a ∙ tells-separated good each more)

tells-expression : {scope : Scope} {place : ℕ} {e : CExpr} {p q : List Token} → ReadsExpr scope place e p q → Tells (expression_of_bytes e) p q
unfolding trees_opened
tells-expression (a_number place n h a) = ap tokens_fit a
tells-expression (a_string place bytes {p = p} {q = q} a) = told bytes p q a
tells-expression (a_name place name h a) = ap tokens_fit a
tells-expression (parenthesised place {e = e} {q = q} {r = r} {s = s} a x b) = ap tokens_fit a ∙ and_behind (expression_of_bytes e) q r s (tells-expression x) (ap tokens_fit b)
tells-expression (prefixed place o h a x) = ap tokens_fit a ∙ tells-expression x
tells-expression (casted place of {q = q} {r = r} h a t b x) = ap tokens_fit a ∙ (bare-cast of q r t ∙ (ap tokens_fit b ∙ tells-expression x))
tells-expression (between place o {a = a} {b = b} {p = p} {q = q} {s = s} h x c y) =
    in_order (expression_of_bytes a) (expression_of_bytes b) p q s (tells-expression x) (ap tokens_fit c ∙ tells-expression y)
tells-expression (chosen place {e = e} {a = a} {b = b} {p = p} {q = q} {r = r} {s = s} {u = u} h x c y d z) =
    in_order (expression_of_bytes e) (expression_of_bytes a && expression_of_bytes b) p q u (tells-expression x)
    (ap tokens_fit c ∙ in_order (expression_of_bytes a) (expression_of_bytes b) r s u (tells-expression y) (ap tokens_fit d ∙ tells-expression z))
tells-expression (indexed place {e = e} {i = i} {p = p} {q = q} {r = r} {s = s} {t = t} h x a y b) =
    in_order (expression_of_bytes e) (expression_of_bytes i) p q t (tells-expression x)
    (ap tokens_fit a ∙ and_behind (expression_of_bytes i) r s t (tells-expression y) (ap tokens_fit b))
tells-expression (a_field place {e = e} name {p = p} {q = q} {s = s} h n x a b) = and_behind (expression_of_bytes e) p q s (tells-expression x) (ap tokens_fit a ∙ ap tokens_fit b)
tells-expression (size place a b c d) = ap tokens_fit a ∙ (ap tokens_fit b ∙ (ap tokens_fit c ∙ ap tokens_fit d))
tells-expression (extreme_of place which {a = a} {b = b} {r = r} {s = s} {t = t} {u = u} {v = v} c d x f y g) =
    ap tokens_fit c ∙ (ap tokens_fit d ∙ in_order (expression_of_bytes a) (expression_of_bytes b) r s v (tells-expression x)
    (ap tokens_fit f ∙ and_behind (expression_of_bytes b) t u v (tells-expression y) (ap tokens_fit g)))
tells-expression (magnitude place {e = e} {r = r} {s = s} {t = t} a b x c) =
    ap tokens_fit a ∙ (ap tokens_fit b ∙ and_behind (expression_of_bytes e) r s t (tells-expression x) (ap tokens_fit c))

tells-arguments : {scope : Scope} {list : List CExpr} {p q : List Token} → ReadsArguments scope list p q → Tells (list_all expression_of_bytes list) p q
tells-arguments (no_argument a) = ap tokens_fit a
tells-arguments (some_arguments all) = tells-separated expression_of_bytes (λ one p q x. tells-expression x) all

tells-call : {scope : Scope} {call : CCall} {p q : List Token} → ReadsCall scope call p q → Tells (call_of_bytes call) p q
tells-call (by_name name h a b all) = ap tokens_fit a ∙ (ap tokens_fit b ∙ tells-arguments all)
tells-call (through_a_parameter name h a b c d e all) =
    ap tokens_fit a ∙ (ap tokens_fit b ∙ (ap tokens_fit c ∙ (ap tokens_fit d ∙ (ap tokens_fit e ∙ tells-arguments all))))

-- ## Statements

tells-next : {scope : Scope} {turn : CNext} {p q : List Token} → ReadsNext scope turn p q → Tells (next_of_bytes turn) p q
tells-next (up a x) = ap tokens_fit a ∙ tells-expression x
tells-next (down a x) = ap tokens_fit a ∙ tells-expression x
tells-next (added {target = target} {e = e} {p = p} {q = q} {s = s} x a y) =
    in_order (expression_of_bytes target) (expression_of_bytes e) p q s (tells-expression x) (ap tokens_fit a ∙ tells-expression y)

tells-tested : {scope : Scope} {word : List ℕ} {e : CExpr} {p q : List Token} → ReadsTested scope word e p q → Tells (expression_of_bytes e) p q
tells-tested (tested word {e = e} {r = r} {s = s} {t = t} a b x c) = ap tokens_fit a ∙ (ap tokens_fit b ∙ and_behind (expression_of_bytes e) r s t (tells-expression x) (ap tokens_fit c))

-- up to its brace, with what stands behind it
tells-for : {scope : Scope} {target first test : CExpr} {turn : CNext} {p q : List Token} (b : Bool) (z : List Token) → ReadsFor scope target first test turn p q → Tells b q z →
    Tells (expression_of_bytes target && (expression_of_bytes first && (expression_of_bytes test && (next_of_bytes turn && b)))) p z
tells-for behind end (for_head {target = target} {first = first} {test = test} {turn = turn} {r = r} {s = s} {t = t} {u = u} {v = v} {w = w} {x = x} {y = y} a b k c l d m e n f) more =
    ap tokens_fit a ∙ (ap tokens_fit b
    ∙ in_order (expression_of_bytes target) (expression_of_bytes first && (expression_of_bytes test && (next_of_bytes turn && behind))) r s end (tells-expression k) (ap tokens_fit c
    ∙ in_order (expression_of_bytes first) (expression_of_bytes test && (next_of_bytes turn && behind)) t u end (tells-expression l) (ap tokens_fit d
    ∙ in_order (expression_of_bytes test) (next_of_bytes turn && behind) v w end (tells-expression m) (ap tokens_fit e
    ∙ in_order (next_of_bytes turn) behind x y end (tells-next n) (ap tokens_fit f ∙ more)))))

mutual
  tells-statement : {scope : Scope} {one : CStmt} {p q : List Token} → ReadsStmt scope one p q → Tells (statement_of_bytes one) p q
  tells-statement (assigned {target = target} {e = e} {p = p} {q = q} {r = r} {s = s} {t = t} x a y b) =
      in_order (expression_of_bytes target) (expression_of_bytes e) p q t (tells-expression x)
      (ap tokens_fit a ∙ and_behind (expression_of_bytes e) r s t (tells-expression y) (ap tokens_fit b))
  tells-statement (assigned_call {target = target} {call = call} {p = p} {q = q} {r = r} {s = s} {t = t} x a c b) =
      in_order (expression_of_bytes target) (call_of_bytes call) p q t (tells-expression x) (ap tokens_fit a ∙ and_behind (call_of_bytes call) r s t (tells-call c) (ap tokens_fit b))
  tells-statement (called {call = call} {p = p} {q = q} {r = r} c a) = and_behind (call_of_bytes call) p q r (tells-call c) (ap tokens_fit a)
  tells-statement (empty a) = ap tokens_fit a
  tells-statement (a_block {inner = inner} {p = p} {r = r} a x) =
      tells_by (statement_of_bytes (stmt.Block inner)) (statements_of_bytes inner) p r (bytes-Block inner) (ap tokens_fit a ∙ tells-statements x)
  tells-statement (labelled label {inner = inner} {p = p} {s = s} h a b x) =
      tells_by (statement_of_bytes (stmt.Label label inner)) (statement_of_bytes inner) p s (bytes-Label label inner)
      (ap tokens_fit a ∙ (ap tokens_fit b ∙ tells-statement x))
  tells-statement (jump label a b c) = ap tokens_fit a ∙ (ap tokens_fit b ∙ ap tokens_fit c)
  tells-statement (returned a b) = ap tokens_fit a ∙ ap tokens_fit b
  tells-statement (returned_value {e = e} {q = q} {r = r} {s = s} a x b) = ap tokens_fit a ∙ and_behind (expression_of_bytes e) q r s (tells-expression x) (ap tokens_fit b)
  tells-statement (returned_call {call = call} {q = q} {r = r} {s = s} a c b) = ap tokens_fit a ∙ and_behind (call_of_bytes call) q r s (tells-call c) (ap tokens_fit b)
  tells-statement (if_only {e = e} {first = first} {p = p} {q = q} {r = r} {s = s} t a x) =
      tells_by _ (expression_of_bytes e && (statements_of_bytes first && true)) p s (bytes-If e first)
      (in_order (expression_of_bytes e) (statements_of_bytes first && true) p q s (tells-tested t)
      (ap tokens_fit a ∙ in_order (statements_of_bytes first) true r s s (tells-statements x) refl))
  tells-statement (if_else {e = e} {first = first} {second = second} {p = p} {q = q} {r = r} {s = s} {v = v} t a x b c y) =
      tells_by _ (expression_of_bytes e && (statements_of_bytes first && statements_of_bytes second)) p v (bytes-IfElse e first second)
      (in_order (expression_of_bytes e) (statements_of_bytes first && statements_of_bytes second) p q v (tells-tested t)
      (ap tokens_fit a ∙ in_order (statements_of_bytes first) (statements_of_bytes second) r s v (tells-statements x) (ap tokens_fit b ∙ (ap tokens_fit c ∙ tells-statements y))))
  tells-statement (switched {e = e} {p = p} {q = q} {s = s} h t a cases) = and_behind (expression_of_bytes e) p q s (tells-tested t) (ap tokens_fit a ∙ bare-cases cases)
  tells-statement (repeated_for {target = target} {first = first} {test = test} {turn = turn} {inner = inner} {p = p} {s = s} f a x) =
      tells_by _ (expression_of_bytes target && (expression_of_bytes first && (expression_of_bytes test && (next_of_bytes turn && statements_of_bytes inner)))) p s
      (bytes-For target first test turn inner) (tells-for (statements_of_bytes inner) s f (ap tokens_fit a ∙ tells-statements x))
  tells-statement (repeated_do {inner = inner} {e = e} {p = p} {r = r} {s = s} {t = t} {u = u} a b x k c) =
      tells_by _ (statements_of_bytes inner && expression_of_bytes e) p u (bytes-DoWhile inner e)
      (ap tokens_fit a ∙ (ap tokens_fit b ∙ in_order (statements_of_bytes inner) (expression_of_bytes e) r s u (tells-statements x)
      (and_behind (expression_of_bytes e) s t u (tells-tested k) (ap tokens_fit c))))

  tells-statements : {scope : Scope} {all : List CStmt} {p q : List Token} → ReadsStmts scope all p q → Tells (statements_of_bytes all) p q
  tells-statements (closed a) = ap tokens_fit a
  tells-statements (one_more {first = first} {later = later} {p = p} {q = q} {r = r} x y) =
      in_order (statement_of_bytes first) (statements_of_bytes later) p q r (tells-statement x) (tells-statements y)

-- ## Declarations

tells-text : {n : ℕ} {image : Option (List ℕ)} {p q : List Token} → text.ReadsText n image p q → Tells (text_of_bytes image) p q
tells-text (text.no_text a) = ap tokens_fit a
tells-text (text.a_text bytes {q = q} {r = r} {s = s} h a b c) = ap tokens_fit a ∙ and_behind (of_bytes bytes) q r s (told bytes q r b) (ap tokens_fit c)

tells-object : {one : CObject} {name : List ℕ} {p q : List Token} → text.ReadsObject one name p q → Tells (object_of_bytes one) p q
tells-object (text.integers name n a b c) = ap tokens_fit a ∙ (bare-array b ∙ bare-numbers c)
tells-object (text.chars name n a b c) = ap tokens_fit a ∙ (bare-array b ∙ tells-text c)

tells-field : {scope : Scope} {one : CField} {p q : List Token} → text.ReadsField scope one p q → Tells (field_of_bytes one) p q
tells-field (text.a_value x) = bare-value x
tells-field (text.a_string bytes {p = p} {q = q} a) = told bytes p q a
tells-field (text.a_start name h a) = ap tokens_fit a

tells-static : {scope : Scope} {one : CLocal} {name : List ℕ} {p q : List Token} → text.ReadsStatic scope one name p q → Tells (local_of_bytes one) p q
tells-static (text.a_static of name a b c) = ap tokens_fit a ∙ (ap tokens_fit b ∙ ap tokens_fit c)
tells-static (text.a_static_value of name a b c x d) = ap tokens_fit a ∙ (ap tokens_fit b ∙ (ap tokens_fit c ∙ (bare-value x ∙ ap tokens_fit d)))
tells-static (text.a_static_array of name n a b c) = ap tokens_fit a ∙ (bare-array b ∙ bare-numbers c)
tells-static (text.a_static_text name n a b c) = ap tokens_fit a ∙ (bare-array b ∙ tells-text c)
tells-static (text.a_text_of_its_length name bytes {u = u} {v = v} {w = w} a b c d e f g) =
    ap tokens_fit a ∙ (ap tokens_fit b ∙ (ap tokens_fit c ∙ (ap tokens_fit d ∙ (ap tokens_fit e ∙ and_behind (of_bytes bytes) u v w (told bytes u v f) (ap tokens_fit g)))))
tells-static (text.a_list of name {fields = fields} {t = t} {u = u} {v = v} h a b c d all e) =
    ap tokens_fit a ∙ (ap tokens_fit b ∙ (ap tokens_fit c ∙ (ap tokens_fit d
    ∙ and_behind (list_all field_of_bytes fields) t u v (tells-separated field_of_bytes (λ one p q x. tells-field x) all) (ap tokens_fit e))))

tells-local : {scope : Scope} {one : CLocal} {name : List ℕ} {p q : List Token} → text.ReadsLocal scope one name p q → Tells (local_of_bytes one) p q
tells-local (text.an_extern of name a b c d types e) = ap tokens_fit a ∙ (ap tokens_fit b ∙ (ap tokens_fit c ∙ (ap tokens_fit d ∙ (bare-types types ∙ ap tokens_fit e))))
tells-local (text.static a x) = ap tokens_fit a ∙ tells-static x
tells-local (text.a_number of name a b c) = ap tokens_fit a ∙ (ap tokens_fit b ∙ ap tokens_fit c)
tells-local (text.an_array_of_numbers of name n a b c) = ap tokens_fit a ∙ (bare-array b ∙ ap tokens_fit c)
tells-local (text.an_array_of_chars name n a b c) = ap tokens_fit a ∙ (bare-array b ∙ ap tokens_fit c)
tells-local (text.an_array_of_addresses name n a b c) = ap tokens_fit a ∙ (bare-array b ∙ ap tokens_fit c)

tells-locals : {scope : Scope} {here : List (List ℕ)} {all : List CLocal} {last : Scope} {p q : List Token} → text.ReadsLocals scope here all last p q → Tells (list_all local_of_bytes all) p q
tells-locals (text.no_local scope here) = refl
tells-locals (text.one_local scope last here {one = one} {later = later} {p = p} {q = q} {r = r} x h more) =
    in_order (local_of_bytes one) (list_all local_of_bytes later) p q r (tells-local x) (tells-locals more)

-- ## The file

tells-function : {scope : Scope} {one : CFunction} {p q : List Token} → ReadsFunction scope one p q → Tells (function_of_bytes one) p q
tells-function (a_function of name {locals = locals} {body = body} {v = v} {w = w} {x = x} h a b c params d e declared all) =
    ap tokens_fit a ∙ (ap tokens_fit b ∙ (ap tokens_fit c ∙ (bare-params params ∙ (ap tokens_fit d ∙ (ap tokens_fit e
    ∙ in_order (list_all local_of_bytes locals) (statements_of_bytes body) v w x (tells-locals declared) (tells-statements all))))))

tells-functions : {scope : Scope} {here : List (List ℕ)} {all : List CFunction} {p : List Token} → ReadsFunctions scope here all p → tokens_fit p ≡ list_all function_of_bytes all
tells-functions (no_function scope here) = refl
tells-functions (one_function scope here {first = first} one h later) = tells-function one ∙ ap (λ z. function_of_bytes first && z) (tells-functions later)

tells-parts : {scope : Scope} {here : List (List ℕ)} {objects : List CObject} {constants : List CConstant} {functions : List CFunction} {p : List Token}
    → ReadsParts scope here objects constants functions p → tokens_fit p ≡ (list_all object_of_bytes objects && list_all function_of_bytes functions)
tells-parts (only_functions scope here all) = tells-functions all
tells-parts (one_constant scope here one h later) = bare-constant one ∙ tells-parts later
tells-parts (one_object scope here {first = first} {later = later} {functions = functions} one h more) =
    tells-object one ∙ (ap (λ z. object_of_bytes first && z) (tells-parts more) ∙ grouped (object_of_bytes first) (list_all object_of_bytes later) (list_all function_of_bytes functions))

-- so the strings of each file that a text spells are of bytes
pub strings_of_a_text : (bytes : List ℕ) (file : CFile) → CText bytes file → file_of_bytes file ≡ true
strings_of_a_text bytes file spells = sym (tells-parts spells.reads.parts) ∙ (sym (ap tokens_fit spells.reads.including) ∙ text_fits spells.lexed)
