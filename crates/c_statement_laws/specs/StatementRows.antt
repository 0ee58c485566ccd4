-- Tokens with the statements that the readers give, or with the tokens from the offending one on. The objects are x and g, the function f, and the
-- parameter that points to a function g.
use Rattle.std.specs.Prelude.{◌≡◌, ℕ, pos, Bool, false, true, List, [], ◌∷◌, codes, Some, None, Ok, Err}
use Rattle.c_grammar_laws.specs.c_tree.declared.expression.UnaryOp.TheVariants as prefix
use Rattle.c_grammar_laws.specs.c_tree.declared.expression.CExpr.{CExpr}
use Rattle.c_grammar_laws.specs.c_tree.declared.expression.CExpr.TheVariants as expr
use Rattle.c_grammar_laws.specs.c_tree.declared.expression.CCall.{CCall}
use Rattle.c_grammar_laws.specs.c_tree.declared.statement.CNext.TheVariants as next
use Rattle.c_grammar_laws.specs.c_tree.declared.statement.CStmt.{CStmt}
use Rattle.c_grammar_laws.specs.c_tree.declared.statement.CStmt.TheVariants as stmt
use Rattle.c_grammar_laws.specs.c_tree.Tokens.{Token, Word, Digits, Sign}
use Rattle.c_grammar_laws.specs.c_tree.CLabels.{no_label}
use Rattle.c_grammar_laws.specs.c_tree.CExpressionText.{Scope}
use Rattle.c_grammar_laws.specs.c_readers.Readers.{Tokens}
use Rattle.c_statement_readers.specs.StatementReader.{statement, body}

abbrev row_scope : Scope
row_scope = record {
  objects = codes "g" ∷ codes "x" ∷ [];
  arrays = [];
  functions = codes "f" ∷ [];
  pointers = codes "g" ∷ [];
}

abbrev word : List ℕ → Token
word text = Word text

abbrev sign : List ℕ → Token
sign text = Sign text

abbrev x : Token
x = word (codes "x")

abbrev ends : Token
ends = sign (codes ";")

abbrev opens : Token
opens = sign (codes "(")

abbrev closes : Token
closes = sign (codes ")")

abbrev begins : Token
begins = sign (codes "{")

abbrev stops : Token
stops = sign (codes "}")

abbrev var : CExpr
var = expr.Name (codes "x")

abbrev value : ℕ → CExpr
value n = expr.Number (pos n)

abbrev call_of : Bool → List ℕ → CCall
call_of through name = record { through = through; name = name; arguments = [] }

-- all tokens are read as a statement
abbrev IsRead : Tokens → CStmt → Type 0
IsRead tokens one = statement row_scope 9 9 no_label tokens ≡ Some (Ok (one, []))

-- a statement is refused at the first of the others
abbrev IsRefused : (Tokens → Tokens) → Tokens → Type 0
IsRefused before rest = statement row_scope 9 9 no_label (before rest) ≡ Some (Err rest)

-- all tokens are read as the statements of a function with the closing brace
abbrev IsBody : Tokens → List CStmt → Type 0
IsBody tokens all = body row_scope 9 9 tokens ≡ Some (Ok (all, []))

-- the statements of a function are refused at the first of the others
abbrev IsNoBody : (Tokens → Tokens) → Tokens → Type 0
IsNoBody before rest = body row_scope 9 9 (before rest) ≡ Some (Err rest)

pub record StatementRows : Type 0 where
  pub set : IsRead (x ∷ sign (codes "=") ∷ Digits 1 ∷ ends ∷ []) (stmt.Set var (value 1))
  pub set_to_a_call : IsRead (x ∷ sign (codes "=") ∷ word (codes "f") ∷ opens ∷ closes ∷ ends ∷ []) (stmt.SetCall var (call_of false (codes "f")))
  pub set_to_a_call_through :
      IsRead (x ∷ sign (codes "=") ∷ opens ∷ sign (codes "*") ∷ word (codes "g") ∷ closes ∷ opens ∷ closes ∷ ends ∷ [])
      (stmt.SetCall var (call_of true (codes "g")))
  pub set_to_a_content :
      IsRead (x ∷ sign (codes "=") ∷ opens ∷ sign (codes "*") ∷ word (codes "g") ∷ closes ∷ ends ∷ [])
      (stmt.Set var (expr.Unary prefix.Deref (expr.Name (codes "g"))))
  pub call : IsRead (word (codes "f") ∷ opens ∷ closes ∷ ends ∷ []) (stmt.Call (call_of false (codes "f")))
  pub call_through :
      IsRead (opens ∷ sign (codes "*") ∷ word (codes "g") ∷ closes ∷ opens ∷ closes ∷ ends ∷ []) (stmt.Call (call_of true (codes "g")))
  pub set_content :
      IsRead (opens ∷ sign (codes "*") ∷ word (codes "g") ∷ closes ∷ sign (codes "=") ∷ Digits 1 ∷ ends ∷ [])
      (stmt.Set (expr.Unary prefix.Deref (expr.Name (codes "g"))) (value 1))
  pub label_of_a_function : IsRead (word (codes "f") ∷ sign (codes ":") ∷ ends ∷ []) (stmt.Label (codes "f") stmt.Empty)
  pub return_of_a_call : IsRead (word (codes "return") ∷ word (codes "f") ∷ opens ∷ closes ∷ ends ∷ []) (stmt.ReturnCall (call_of false (codes "f")))
  pub return_alone : IsRead (word (codes "return") ∷ ends ∷ []) (stmt.Return None)
  pub nested_choice :
      IsRead
      (word (codes "if") ∷ opens ∷ x ∷ closes ∷ begins ∷ word (codes "if") ∷ opens ∷ x ∷ closes ∷ begins ∷ stops ∷ stops ∷ word (codes "else")
      ∷ begins ∷ ends ∷ stops ∷ [])
      (stmt.If var (stmt.If var [] None ∷ []) (Some (stmt.Empty ∷ [])))
  pub choice_of_the_inner :
      IsRead
      (word (codes "if") ∷ opens ∷ x ∷ closes ∷ begins ∷ word (codes "if") ∷ opens ∷ x ∷ closes ∷ begins ∷ stops ∷ word (codes "else")
      ∷ begins ∷ ends ∷ stops ∷ stops ∷ [])
      (stmt.If var (stmt.If var [] (Some (stmt.Empty ∷ [])) ∷ []) None)
  pub counted :
      IsRead
      (word (codes "for") ∷ opens ∷ x ∷ sign (codes "=") ∷ Digits 1 ∷ ends ∷ x ∷ ends ∷ sign (codes "++") ∷ x ∷ closes ∷ begins ∷ stops ∷ [])
      (stmt.For var (value 1) var (next.Up var) [])
  pub repeated :
      IsRead (word (codes "do") ∷ begins ∷ ends ∷ stops ∷ word (codes "while") ∷ opens ∷ x ∷ closes ∷ ends ∷ []) (stmt.DoWhile (stmt.Empty ∷ []) var)
  pub switch :
      IsRead
      (word (codes "switch") ∷ opens ∷ x ∷ closes ∷ begins ∷ word (codes "case") ∷ Digits 2 ∷ sign (codes ":") ∷ word (codes "goto") ∷ word (codes "L1")
      ∷ ends ∷ stops ∷ [])
      (stmt.Switch var (record { number = pos 2; label = codes "L1" } ∷ []))
  pub else_alone : IsRefused (λ r. r) (word (codes "else") ∷ begins ∷ stops ∷ [])
  pub unknown_target : IsRefused (λ r. word (codes "L1") ∷ r) (sign (codes "=") ∷ Digits 1 ∷ ends ∷ [])
  pub call_of_an_object : IsRefused (λ r. x ∷ r) (opens ∷ closes ∷ ends ∷ [])
  pub argument_left_open : IsRefused (λ r. word (codes "f") ∷ opens ∷ r) (ends ∷ [])
  pub word_as_label : IsRefused (λ r. word (codes "goto") ∷ r) (word (codes "while") ∷ ends ∷ [])
  pub case_stands_twice :
      IsRefused
      (λ r. word (codes "switch") ∷ opens ∷ x ∷ closes ∷ begins ∷ word (codes "case") ∷ Digits 2 ∷ sign (codes ":") ∷ word (codes "goto")
      ∷ word (codes "L1") ∷ ends ∷ word (codes "case") ∷ r)
      (Digits 2 ∷ sign (codes ":") ∷ [])
  pub case_too_great :
      IsRefused (λ r. word (codes "switch") ∷ opens ∷ x ∷ closes ∷ begins ∷ word (codes "case") ∷ r) (Digits 2147483648 ∷ sign (codes ":") ∷ [])

abbrev jump : Tokens → Tokens
jump rest = word (codes "goto") ∷ word (codes "L1") ∷ ends ∷ rest

abbrev label : Tokens → Tokens
label rest = word (codes "L1") ∷ sign (codes ":") ∷ ends ∷ rest

pub record BodyRows : Type 0 where
  pub jump_on : IsBody (jump (label (stops ∷ []))) (stmt.Goto (codes "L1") ∷ stmt.Label (codes "L1") stmt.Empty ∷ [])
  pub jump_back : IsBody (label (jump (stops ∷ []))) (stmt.Label (codes "L1") stmt.Empty ∷ stmt.Goto (codes "L1") ∷ [])
  pub label_not_named : IsBody (label (label (stops ∷ []))) (stmt.Label (codes "L1") stmt.Empty ∷ stmt.Label (codes "L1") stmt.Empty ∷ [])
  pub jump_nowhere : IsNoBody (λ r. jump r) (stops ∷ [])
  pub inner_block_closes : IsNoBody (λ r. begins ∷ jump (stops ∷ r)) (stops ∷ [])
  pub label_again : IsNoBody (λ r. jump (label r)) (word (codes "L1") ∷ sign (codes ":") ∷ ends ∷ stops ∷ [])
  pub named_where_it_stands_twice : IsNoBody (λ r. label (label (word (codes "goto") ∷ r))) (word (codes "L1") ∷ ends ∷ stops ∷ [])
  pub object_as_label_again :
      IsNoBody (λ r. word (codes "goto") ∷ x ∷ ends ∷ x ∷ sign (codes ":") ∷ ends ∷ x ∷ r) (sign (codes ":") ∷ ends ∷ stops ∷ [])
