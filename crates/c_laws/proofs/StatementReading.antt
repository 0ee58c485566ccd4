-- Searches for the derivation that a text is of the subset: statements.
use Rattle.std.specs.Prelude.{ℕ, zero, suc, List, [], ◌∷◌, codes, pos, Option, Some, None}
use Rattle.c_tree.specs.declared.statement.CNext.TheVariants as next
use Rattle.c_tree.specs.declared.statement.CStmt.TheVariants as stmt
use Rattle.c_tree.specs.Tokens.{Token}
use Rattle.c_tree.specs.CWords.{is_name}
use Rattle.c_tree.specs.CExpressionText.{Scope}
use Rattle.c_tree.specs.CStatementText.{ReadsCases, no_case, one_case, has_twice, case_numbers, ReadsNext, up, down, added, for_head, ReadsTested, tested, ReadsStmt, assigned, assigned_call, called, empty, a_block, labelled, jump, returned, returned_value, returned_call, if_only, if_else, switched, repeated_for, repeated_do, ReadsStmts, closed, one_more}
use Rattle.c_laws.proofs.ExpressionReading.{◌>>=◌, otherwise, first_found, holds, fails, at_most, Found, pop_word, pop_sign, any_word, any_number, read_expression, read_call}

abbrev pub read_cases : ℕ → (tokens : List Token) → Option (Found ReadsCases tokens)
read_cases zero tokens = None
read_cases (suc fuel) tokens =
    otherwise
    (pop_sign (codes "}") tokens >>= (λ a. Some (record { tree = []; rest = a.rest; reads = no_case a.is })))
    (λ u. pop_word (codes "case") tokens >>= (λ a. any_number a.rest >>= (λ n. at_most n.value 2147483647 >>= (λ h. pop_sign (codes ":") n.rest >>= (λ b.
    pop_word (codes "goto") b.rest >>= (λ c. any_word c.rest >>= (λ label. pop_sign (codes ";") label.rest >>= (λ d. read_cases fuel d.rest >>= (λ later.
    Some (record {
      tree = record { number = pos n.value; label = label.text } ∷ later.tree;
      rest = later.rest;
      reads = one_case n.value label.text h a.is n.is b.is c.is label.is d.is later.reads;
    }))))))))))

module _ (scope : Scope) where
  abbrev pub Statements : Type 0
  Statements = (tokens : List Token) → Option (Found (ReadsStmts scope) tokens)

  abbrev pub Statement : Type 0
  Statement = (tokens : List Token) → Option (Found (ReadsStmt scope) tokens)

  abbrev pub read_next : ℕ → (tokens : List Token) → Option (Found (ReadsNext scope) tokens)
  read_next fuel tokens =
      first_found
      ((λ u. pop_sign (codes "++") tokens >>= (λ a. read_expression scope fuel 7 a.rest >>= (λ e.
      Some (record { tree = next.Up e.tree; rest = e.rest; reads = up a.is e.reads }))))
      ∷ (λ u. pop_sign (codes "--") tokens >>= (λ a. read_expression scope fuel 7 a.rest >>= (λ e.
      Some (record { tree = next.Down e.tree; rest = e.rest; reads = down a.is e.reads }))))
      ∷ (λ u. read_expression scope fuel 7 tokens >>= (λ e. pop_sign (codes "+=") e.rest >>= (λ a. read_expression scope fuel 0 a.rest >>= (λ amount.
      Some (record { tree = next.Add e.tree amount.tree; rest = amount.rest; reads = added e.reads a.is amount.reads })))))
      ∷ [])

  abbrev pub read_tested : ℕ → (word : List ℕ) (tokens : List Token) → Option (Found (ReadsTested scope word) tokens)
  read_tested fuel word tokens =
      pop_word word tokens >>= (λ a. pop_sign (codes "(") a.rest >>= (λ b. read_expression scope fuel 0 b.rest >>= (λ e. pop_sign (codes ")") e.rest >>= (λ c.
      Some (record { tree = e.tree; rest = c.rest; reads = tested word a.is b.is e.reads c.is })))))

  abbrev pub read_statements : Statement → ℕ → Statements
  read_statements read zero tokens = None
  read_statements read (suc fuel) tokens =
      otherwise
      (pop_sign (codes "}") tokens >>= (λ a. Some (record { tree = []; rest = a.rest; reads = closed a.is })))
      (λ u. read tokens >>= (λ first. read_statements read fuel first.rest >>= (λ later.
      Some (record { tree = first.tree ∷ later.tree; rest = later.rest; reads = one_more first.reads later.reads }))))

  abbrev pub read_assignment : ℕ → Statement
  read_assignment fuel tokens =
      read_expression scope fuel 7 tokens >>= (λ target. pop_sign (codes "=") target.rest >>= (λ a. otherwise
      (read_call scope fuel a.rest >>= (λ call. pop_sign (codes ";") call.rest >>= (λ b.
      Some (record { tree = stmt.SetCall target.tree call.tree; rest = b.rest; reads = assigned_call target.reads a.is call.reads b.is }))))
      (λ u. read_expression scope fuel 0 a.rest >>= (λ e. pop_sign (codes ";") e.rest >>= (λ b.
      Some (record { tree = stmt.Set target.tree e.tree; rest = b.rest; reads = assigned target.reads a.is e.reads b.is }))))))

  abbrev pub read_return : ℕ → Statement
  read_return fuel tokens =
      pop_word (codes "return") tokens >>= (λ a. first_found
      ((λ u. pop_sign (codes ";") a.rest >>= (λ b. Some (record { tree = stmt.Return None; rest = b.rest; reads = returned a.is b.is })))
      ∷ (λ u. read_call scope fuel a.rest >>= (λ call. pop_sign (codes ";") call.rest >>= (λ b.
      Some (record { tree = stmt.ReturnCall call.tree; rest = b.rest; reads = returned_call a.is call.reads b.is }))))
      ∷ (λ u. read_expression scope fuel 0 a.rest >>= (λ e. pop_sign (codes ";") e.rest >>= (λ b.
      Some (record { tree = stmt.Return (Some e.tree); rest = b.rest; reads = returned_value a.is e.reads b.is }))))
      ∷ []))

  abbrev pub read_called : ℕ → Statement
  read_called fuel tokens =
      read_call scope fuel tokens >>= (λ call. pop_sign (codes ";") call.rest >>= (λ a.
      Some (record { tree = stmt.Call call.tree; rest = a.rest; reads = called call.reads a.is })))

  abbrev pub read_jump : Statement
  read_jump tokens =
      pop_word (codes "goto") tokens >>= (λ a. any_word a.rest >>= (λ label. pop_sign (codes ";") label.rest >>= (λ b.
      Some (record { tree = stmt.Goto label.text; rest = b.rest; reads = jump label.text a.is label.is b.is }))))

  abbrev pub read_empty : Statement
  read_empty tokens = pop_sign (codes ";") tokens >>= (λ a. Some (record { tree = stmt.Empty; rest = a.rest; reads = empty a.is }))

  abbrev pub read_block : Statements → Statement
  read_block inner tokens =
      pop_sign (codes "{") tokens >>= (λ a. inner a.rest >>= (λ all.
      Some (record { tree = stmt.Block all.tree; rest = all.rest; reads = a_block a.is all.reads })))

  abbrev pub read_labelled : Statement → Statement
  read_labelled read tokens =
      any_word tokens >>= (λ label. holds (is_name label.text) >>= (λ h. pop_sign (codes ":") label.rest >>= (λ a. read a.rest >>= (λ one.
      Some (record { tree = stmt.Label label.text one.tree; rest = one.rest; reads = labelled label.text h label.is a.is one.reads })))))

  abbrev pub read_if : ℕ → Statements → Statement
  read_if fuel inner tokens =
      read_tested fuel (codes "if") tokens >>= (λ e. pop_sign (codes "{") e.rest >>= (λ a. inner a.rest >>= (λ first. otherwise
      (pop_word (codes "else") first.rest >>= (λ b. pop_sign (codes "{") b.rest >>= (λ c. inner c.rest >>= (λ second.
      Some (record {
        tree = stmt.If e.tree first.tree (Some second.tree);
        rest = second.rest;
        reads = if_else e.reads a.is first.reads b.is c.is second.reads;
      })))))
      (λ u. Some (record { tree = stmt.If e.tree first.tree None; rest = first.rest; reads = if_only e.reads a.is first.reads })))))

  abbrev pub read_switch : ℕ → Statement
  read_switch fuel tokens =
      read_tested fuel (codes "switch") tokens >>= (λ e. pop_sign (codes "{") e.rest >>= (λ a. read_cases fuel a.rest >>= (λ cases.
      fails (has_twice (case_numbers cases.tree)) >>= (λ h.
      Some (record { tree = stmt.Switch e.tree cases.tree; rest = cases.rest; reads = switched h e.reads a.is cases.reads })))))

  abbrev pub read_for : ℕ → Statements → Statement
  read_for fuel inner tokens =
      pop_word (codes "for") tokens >>= (λ a. pop_sign (codes "(") a.rest >>= (λ b. read_expression scope fuel 7 b.rest >>= (λ target. pop_sign (codes "=") target.rest >>= (λ c.
      read_expression scope fuel 0 c.rest >>= (λ first. pop_sign (codes ";") first.rest >>= (λ d. read_expression scope fuel 0 d.rest >>= (λ test.
      pop_sign (codes ";") test.rest >>= (λ f. read_next fuel f.rest >>= (λ turn. pop_sign (codes ")") turn.rest >>= (λ g. pop_sign (codes "{") g.rest >>= (λ h.
      inner h.rest >>= (λ all.
      Some (record {
        tree = stmt.For target.tree first.tree test.tree turn.tree all.tree;
        rest = all.rest;
        reads = repeated_for (for_head a.is b.is target.reads c.is first.reads d.is test.reads f.is turn.reads g.is) h.is all.reads;
      })))))))))))))

  abbrev pub read_do : ℕ → Statements → Statement
  read_do fuel inner tokens =
      pop_word (codes "do") tokens >>= (λ a. pop_sign (codes "{") a.rest >>= (λ b. inner b.rest >>= (λ all. read_tested fuel (codes "while") all.rest >>= (λ e.
      pop_sign (codes ";") e.rest >>= (λ c.
      Some (record { tree = stmt.DoWhile all.tree e.tree; rest = c.rest; reads = repeated_do a.is b.is all.reads e.reads c.is }))))))

  abbrev pub any_statement : ℕ → Statement → Statements → Statement
  any_statement fuel read inner tokens =
      first_found
      ((λ u. read_empty tokens)
      ∷ (λ u. read_block inner tokens)
      ∷ (λ u. read_jump tokens)
      ∷ (λ u. read_return fuel tokens)
      ∷ (λ u. read_if fuel inner tokens)
      ∷ (λ u. read_switch fuel tokens)
      ∷ (λ u. read_for fuel inner tokens)
      ∷ (λ u. read_do fuel inner tokens)
      ∷ (λ u. read_labelled read tokens)
      ∷ (λ u. read_called fuel tokens)
      ∷ (λ u. read_assignment fuel tokens)
      ∷ [])

  abbrev pub read_statement : ℕ → Statement
  read_statement zero tokens = None
  read_statement (suc fuel) tokens = any_statement fuel (read_statement fuel) (read_statements (read_statement fuel) fuel) tokens
