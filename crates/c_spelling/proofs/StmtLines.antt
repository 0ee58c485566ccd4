-- The lines of each form of a statement read as the form, given that its parts do (C89, 3.6).
use Rattle.std.specs.Prelude.{◌≡◌, ℕ, ◌+◌, true, List, [], ◌∷◌, ◌++◌, codes, Some, None}
use Rattle.std.proofs.Common.{refl, ap, sym, ◌∙◌, subst}
use Rattle.c_laws.specs.c_tree.declared.expression.CExpr.{CExpr}
use Rattle.c_laws.specs.c_tree.declared.expression.CCall.{CCall}
use Rattle.c_laws.specs.c_tree.declared.statement.CStmt.{CStmt}
use Rattle.c_laws.specs.c_tree.declared.statement.CStmt.TheVariants as stmt
use Rattle.c_laws.specs.c_tree.Tokens.{Token, Word, Sign}
use Rattle.c_laws.specs.c_tree.CWords.{is_name}
use Rattle.c_laws.specs.c_tree.CExpressionText.{Scope, ReadsExpr, ReadsCall}
use Rattle.c_laws.specs.c_tree.CStatementText.{ReadsTarget, tested, ReadsStmt, assigned, assigned_call, called, empty, a_block, labelled, jump, returned, returned_value, returned_call, if_only, if_else, repeated_do, ReadsStmts, closed, one_more}
use Rattle.c_text.specs.Phrases.{letters}
use Rattle.c_text.specs.Expressions.{bare, printed_call}
use Rattle.c_text.specs.Printed.{target, line, assignment, printed_return, returned_call as printed_returned_call, if_head, while_end, printed_stmt, printed_stmts}
use Rattle.c_text.proofs.StatementEquations.{printed-Set, printed-SetCall, printed-Call, printed-Empty, printed-Goto, printed-Return, printed-ReturnCall, printed-Label, printed-Block, printed-DoWhile, printed-If, second-None, second-Some}
use Rattle.c_spelling.proofs.Tokens.{ReadsAs, inside, Piece, Whole, word, IsWord, line_feed, blank, indented, opening, closing, left_brace, right_brace, colon, semicolon, equals}
use Rattle.c_spelling.proofs.TokensLists.{Before}
use Rattle.c_spelling.proofs.ExprPieces.{Printing, placed, whole_piece}

-- ## Lines

pub line_reads : (depth : ℕ) (text rest : List ℕ) {tokens : List Token} → ReadsAs (text ++ 10 ∷ rest) tokens → ReadsAs (line depth text ++ rest) tokens
unfolding line
line_reads depth text rest r = inside _ (text ++ codes "\n") rest (indented depth (inside text (codes "\n") rest r))

-- a part with its end goes before any byte
pub piece_of : {text : List ℕ} {Spells : List Token → List Token → Type 0} → Whole text Spells → Piece text Spells
piece_of w = record { tokens = w.tokens; reads = λ first rest more clear r. w.reads (first ∷ rest) more r; spells = w.spells }

-- a part before a semicolon
pub with_semicolon : {text : List ℕ} {Spells : List Token → List Token → Type 0} (p : Piece text Spells) (rest : List ℕ) (more : List Token) → ReadsAs rest more
    → ReadsAs ((text ++ codes ";") ++ rest) (p.tokens (Sign (codes ";") ∷ more))
with_semicolon {text = text} p rest more r = inside text (codes ";") rest (p.reads 59 rest (Sign (codes ";") ∷ more) refl (semicolon r))

-- the same of another text
pub of_text : {a b : List ℕ} {Spells : List Token → List Token → Type 0} → a ≡ b → Whole b Spells → Whole a Spells
of_text {Spells = Spells} same w = subst (λ text. Whole text Spells) (sym same) w

-- what is assigned
pub target_piece : {scope : Scope} {to : CExpr} → Printing scope to → Piece (target to) (ReadsTarget scope to)
target_piece p = placed _ 7 refl p

-- ## Statements in one line

assignment_reads : {T V : List Token → List Token → Type 0} (depth : ℕ) (to : CExpr) (text : List ℕ) (t : Piece (target to) T) (v : Piece text V) (rest : List ℕ) (more : List Token) → ReadsAs rest more →
    ReadsAs (line depth (assignment to text) ++ rest) (t.tokens (Sign (codes "=") ∷ v.tokens (Sign (codes ";") ∷ more)))
unfolding assignment
assignment_reads depth to text t v rest more r =
    line_reads depth (target to ++ (codes " = " ++ (text ++ codes ";"))) rest
    (inside (target to) (codes " = " ++ (text ++ codes ";")) (10 ∷ rest)
    (t.reads 32 (61 ∷ 32 ∷ ((text ++ codes ";") ++ 10 ∷ rest)) (Sign (codes "=") ∷ v.tokens (Sign (codes ";") ∷ more)) refl
    (blank (equals (blank (with_semicolon v (10 ∷ rest) more (line_feed r)))))))

abbrev pub Line : Scope → CStmt → ℕ → Type 0
Line scope one depth = Whole (printed_stmt one depth) (ReadsStmt scope one)

pub set_line : {scope : Scope} {to e : CExpr} (depth : ℕ) → Printing scope to → Printing scope e → Line scope (stmt.Set to e) depth
set_line {scope = scope} {to = to} {e = e} depth p q =
    let t : Piece (target to) (ReadsTarget scope to) = target_piece p in
    let v : Piece (bare e) (ReadsExpr scope 0 e) = whole_piece q in
    of_text (printed-Set to e depth) (record {
      tokens = λ more. t.tokens (Sign (codes "=") ∷ v.tokens (Sign (codes ";") ∷ more));
      reads = λ rest more r. assignment_reads depth to (bare e) t v rest more r;
      spells = λ more. assigned (t.spells (Sign (codes "=") ∷ v.tokens (Sign (codes ";") ∷ more))) refl (v.spells (Sign (codes ";") ∷ more)) refl;
    })

pub set_call_line : {scope : Scope} {to : CExpr} {call : CCall} (depth : ℕ) → Printing scope to → Whole (printed_call call) (ReadsCall scope call) → Line scope (stmt.SetCall to call) depth
set_call_line {scope = scope} {to = to} {call = call} depth p q =
    let t : Piece (target to) (ReadsTarget scope to) = target_piece p in
    let v : Piece (printed_call call) (ReadsCall scope call) = piece_of q in
    of_text (printed-SetCall to call depth) (record {
      tokens = λ more. t.tokens (Sign (codes "=") ∷ v.tokens (Sign (codes ";") ∷ more));
      reads = λ rest more r. assignment_reads depth to (printed_call call) t v rest more r;
      spells = λ more. assigned_call (t.spells (Sign (codes "=") ∷ v.tokens (Sign (codes ";") ∷ more))) refl (v.spells (Sign (codes ";") ∷ more)) refl;
    })

pub call_line : {scope : Scope} {call : CCall} (depth : ℕ) → Whole (printed_call call) (ReadsCall scope call) → Line scope (stmt.Call call) depth
call_line {scope = scope} {call = call} depth q =
    let v : Piece (printed_call call) (ReadsCall scope call) = piece_of q in
    of_text (printed-Call call depth) (record {
      tokens = λ more. v.tokens (Sign (codes ";") ∷ more);
      reads = λ rest more r. line_reads depth (printed_call call ++ codes ";") rest (with_semicolon v (10 ∷ rest) more (line_feed r));
      spells = λ more. called (v.spells (Sign (codes ";") ∷ more)) refl;
    })

pub empty_line : {scope : Scope} (depth : ℕ) → Line scope stmt.Empty depth
empty_line depth =
    of_text (printed-Empty depth) (record {
      tokens = λ more. Sign (codes ";") ∷ more;
      reads = λ rest more r. line_reads depth (codes ";") rest (semicolon (line_feed r));
      spells = λ more. empty refl;
    })

pub goto_line : {scope : Scope} (label : List ℕ) (depth : ℕ) → IsWord label → Line scope (stmt.Goto label) depth
goto_line label depth w =
    of_text (printed-Goto label depth) (record {
      tokens = λ more. Word (codes "goto") ∷ Word label ∷ Sign (codes ";") ∷ more;
      reads = λ rest more r.
          line_reads depth (codes "goto " ++ (label ++ codes ";")) rest
          (word (codes "goto") refl refl refl (blank (inside label (codes ";") (10 ∷ rest) (word label w.letter w.bytes refl (semicolon (line_feed r))))));
      spells = λ more. jump label refl refl refl;
    })

pub return_line : {scope : Scope} (depth : ℕ) → Line scope (stmt.Return None) depth
unfolding printed_return
return_line depth =
    of_text (printed-Return None depth) (record {
      tokens = λ more. Word (codes "return") ∷ Sign (codes ";") ∷ more;
      reads = λ rest more r. line_reads depth (codes "return;") rest (word (codes "return") refl refl refl (semicolon (line_feed r)));
      spells = λ more. returned refl refl;
    })

pub return_value_line : {scope : Scope} {e : CExpr} (depth : ℕ) → Printing scope e → Line scope (stmt.Return (Some e)) depth
unfolding printed_return letters
return_value_line {scope = scope} {e = e} depth q =
    let v : Piece (bare e) (ReadsExpr scope 0 e) = whole_piece q in
    of_text (printed-Return (Some e) depth) (record {
      tokens = λ more. Word (codes "return") ∷ v.tokens (Sign (codes ";") ∷ more);
      reads = λ rest more r. line_reads depth (codes "return " ++ (bare e ++ codes ";")) rest (word (codes "return") refl refl refl (blank (with_semicolon v (10 ∷ rest) more (line_feed r))));
      spells = λ more. returned_value refl (v.spells (Sign (codes ";") ∷ more)) refl;
    })

pub return_call_line : {scope : Scope} {call : CCall} (depth : ℕ) → Whole (printed_call call) (ReadsCall scope call) → Line scope (stmt.ReturnCall call) depth
unfolding printed_returned_call letters
return_call_line {scope = scope} {call = call} depth q =
    let v : Piece (printed_call call) (ReadsCall scope call) = piece_of q in
    of_text (printed-ReturnCall call depth) (record {
      tokens = λ more. Word (codes "return") ∷ v.tokens (Sign (codes ";") ∷ more);
      reads = λ rest more r.
          line_reads depth (codes "return " ++ (printed_call call ++ codes ";")) rest (word (codes "return") refl refl refl (blank (with_semicolon v (10 ∷ rest) more (line_feed r))));
      spells = λ more. returned_call refl (v.spells (Sign (codes ";") ∷ more)) refl;
    })

pub label_line : {scope : Scope} {inner : CStmt} (label : List ℕ) (depth : ℕ) → is_name label ≡ true → IsWord label → Line scope inner depth → Line scope (stmt.Label label inner) depth
label_line {inner = inner} label depth is w l =
    of_text (printed-Label label inner depth) (record {
      tokens = λ more. Word label ∷ Sign (codes ":") ∷ l.tokens more;
      reads = λ rest more r. inside label (codes ":\n" ++ printed_stmt inner depth) rest (word label w.letter w.bytes refl (colon (line_feed (l.reads rest more r))));
      spells = λ more. labelled label is refl refl (l.spells more);
    })

-- ## Statements with a block

-- statements in order, before a closing brace
abbrev pub Closes : Scope → List CStmt → List Token → List Token → Type 0
Closes scope all p q = Before (codes "}") (ReadsStmts scope all) p q

abbrev pub Lines : Scope → List CStmt → ℕ → Type 0
Lines scope all depth = Whole (printed_stmts all depth) (Closes scope all)

pub no_lines : {scope : Scope} (depth : ℕ) → Lines scope [] depth
no_lines depth = record { tokens = λ more. more; reads = λ rest more r. r; spells = λ more rest h. closed h }

pub more_lines : {scope : Scope} {first : CStmt} {later : List CStmt} (depth : ℕ) → Line scope first depth → Lines scope later depth → Lines scope (first ∷ later) depth
more_lines {first = first} {later = later} depth one others = record {
  tokens = λ more. one.tokens (others.tokens more);
  reads = λ rest more r. inside (printed_stmt first depth) (printed_stmts later depth) rest (one.reads (printed_stmts later depth ++ rest) (others.tokens more) (others.reads rest more r));
  spells = λ more rest h. one_more (one.spells (others.tokens more)) (others.spells more rest h);
}

-- lines of a block, and a line that begins with its brace
pub block_reads : {scope : Scope} {all : List CStmt} (depth : ℕ) (inner : Lines scope all (depth + 1)) (end rest : List ℕ) (more : List Token) → ReadsAs (125 ∷ (end ++ 10 ∷ rest)) (Sign (codes "}") ∷ more) →
    ReadsAs ((printed_stmts all (depth + 1) ++ line depth (125 ∷ end)) ++ rest) (inner.tokens (Sign (codes "}") ∷ more))
block_reads {all = all} depth inner end rest more r =
    inside (printed_stmts all (depth + 1)) (line depth (125 ∷ end)) rest
    (inner.reads (line depth (125 ∷ end) ++ rest) (Sign (codes "}") ∷ more) (line_reads depth (125 ∷ end) rest r))

pub block_lines : {scope : Scope} {inner : List CStmt} (depth : ℕ) → Lines scope inner (depth + 1) → Line scope (stmt.Block inner) depth
block_lines {inner = inner} depth l =
    of_text (printed-Block inner depth) (record {
      tokens = λ more. Sign (codes "{") ∷ l.tokens (Sign (codes "}") ∷ more);
      reads = λ rest more r.
          inside (line depth (codes "{")) (printed_stmts inner (depth + 1) ++ line depth (codes "}")) rest
          (line_reads depth (codes "{") ((printed_stmts inner (depth + 1) ++ line depth (codes "}")) ++ rest)
          (left_brace (line_feed (block_reads depth l [] rest more (right_brace (line_feed r))))));
      spells = λ more. a_block refl (l.spells (Sign (codes "}") ∷ more) more refl);
    })

-- what is tested, with the parenthesis and the brace behind it
pub test_reads : (e : CExpr) {V : List Token → List Token → Type 0} (v : Piece (bare e) V) (rest : List ℕ) (more : List Token) → ReadsAs rest more →
    ReadsAs ((bare e ++ codes ") {") ++ 10 ∷ rest) (v.tokens (Sign (codes ")") ∷ Sign (codes "{") ∷ more))
test_reads e v rest more r =
    inside (bare e) (codes ") {") (10 ∷ rest) (v.reads 41 (codes " {" ++ 10 ∷ rest) (Sign (codes ")") ∷ Sign (codes "{") ∷ more) refl (closing (blank (left_brace (line_feed r)))))

if_reads : (e : CExpr) {V : List Token → List Token → Type 0} (depth : ℕ) (v : Piece (bare e) V) (rest : List ℕ) (more : List Token) → ReadsAs rest more →
    ReadsAs (line depth (if_head e) ++ rest) (Word (codes "if") ∷ Sign (codes "(") ∷ v.tokens (Sign (codes ")") ∷ Sign (codes "{") ∷ more))
unfolding if_head
if_reads e depth v rest more r = line_reads depth (codes "if (" ++ (bare e ++ codes ") {")) rest (word (codes "if") refl refl refl (blank (opening (test_reads e v rest more r))))

pub if_lines : {scope : Scope} {e : CExpr} {first : List CStmt} (depth : ℕ) → Printing scope e → Lines scope first (depth + 1) → Line scope (stmt.If e first None) depth
if_lines {scope = scope} {e = e} {first = first} depth q l =
    let v : Piece (bare e) (ReadsExpr scope 0 e) = whole_piece q in
    of_text (printed-If e first None depth ∙ ap (λ text. line depth (if_head e) ++ (printed_stmts first (depth + 1) ++ text)) (second-None depth)) (record {
      tokens = λ more. Word (codes "if") ∷ Sign (codes "(") ∷ v.tokens (Sign (codes ")") ∷ Sign (codes "{") ∷ l.tokens (Sign (codes "}") ∷ more));
      reads = λ rest more r.
          inside (line depth (if_head e)) (printed_stmts first (depth + 1) ++ line depth (codes "}")) rest
          (if_reads e depth v ((printed_stmts first (depth + 1) ++ line depth (codes "}")) ++ rest) (l.tokens (Sign (codes "}") ∷ more))
          (block_reads depth l [] rest more (right_brace (line_feed r))));
      spells = λ more.
          if_only (tested (codes "if") refl refl (v.spells (Sign (codes ")") ∷ Sign (codes "{") ∷ l.tokens (Sign (codes "}") ∷ more))) refl) refl
          (l.spells (Sign (codes "}") ∷ more) more refl);
    })

pub else_lines : {scope : Scope} {e : CExpr} {first second : List CStmt} (depth : ℕ) → Printing scope e → Lines scope first (depth + 1) → Lines scope second (depth + 1) →
    Line scope (stmt.If e first (Some second)) depth
unfolding letters
else_lines {scope = scope} {e = e} {first = first} {second = second} depth q l m =
    let v : Piece (bare e) (ReadsExpr scope 0 e) = whole_piece q in
    of_text (printed-If e first (Some second) depth ∙ ap (λ text. line depth (if_head e) ++ (printed_stmts first (depth + 1) ++ text)) (second-Some second depth)) (record {
      tokens = λ more.
          Word (codes "if") ∷ Sign (codes "(") ∷ v.tokens (Sign (codes ")") ∷ Sign (codes "{") ∷ l.tokens (Sign (codes "}") ∷ Word (codes "else") ∷ Sign (codes "{")
          ∷ m.tokens (Sign (codes "}") ∷ more)));
      reads = λ rest more r.
          inside (line depth (if_head e)) (printed_stmts first (depth + 1) ++ (line depth (codes "} else {") ++ (printed_stmts second (depth + 1) ++ line depth (codes "}")))) rest
          (if_reads e depth v ((printed_stmts first (depth + 1) ++ (line depth (codes "} else {") ++ (printed_stmts second (depth + 1) ++ line depth (codes "}")))) ++ rest)
          (l.tokens (Sign (codes "}") ∷ Word (codes "else") ∷ Sign (codes "{") ∷ m.tokens (Sign (codes "}") ∷ more)))
          (inside (printed_stmts first (depth + 1)) (line depth (codes "} else {") ++ (printed_stmts second (depth + 1) ++ line depth (codes "}"))) rest
          (l.reads ((line depth (codes "} else {") ++ (printed_stmts second (depth + 1) ++ line depth (codes "}"))) ++ rest)
          (Sign (codes "}") ∷ Word (codes "else") ∷ Sign (codes "{") ∷ m.tokens (Sign (codes "}") ∷ more))
          (inside (line depth (codes "} else {")) (printed_stmts second (depth + 1) ++ line depth (codes "}")) rest
          (line_reads depth (codes "} else {") ((printed_stmts second (depth + 1) ++ line depth (codes "}")) ++ rest)
          (right_brace (blank (word (codes "else") refl refl refl (blank (left_brace (line_feed (block_reads depth m [] rest more (right_brace (line_feed r))))))))))))));
      spells = λ more.
          if_else
          (tested (codes "if") refl refl
          (v.spells (Sign (codes ")") ∷ Sign (codes "{") ∷ l.tokens (Sign (codes "}") ∷ Word (codes "else") ∷ Sign (codes "{") ∷ m.tokens (Sign (codes "}") ∷ more)))) refl) refl
          (l.spells (Sign (codes "}") ∷ Word (codes "else") ∷ Sign (codes "{") ∷ m.tokens (Sign (codes "}") ∷ more)) (Word (codes "else") ∷ Sign (codes "{") ∷ m.tokens (Sign (codes "}") ∷ more)) refl)
          refl refl (m.spells (Sign (codes "}") ∷ more) more refl);
    })

pub do_lines : {scope : Scope} {e : CExpr} {inner : List CStmt} (depth : ℕ) → Lines scope inner (depth + 1) → Printing scope e → Line scope (stmt.DoWhile inner e) depth
unfolding while_end letters
do_lines {scope = scope} {e = e} {inner = inner} depth l q =
    let v : Piece (bare e) (ReadsExpr scope 0 e) = whole_piece q in
    of_text (printed-DoWhile inner e depth) (record {
      tokens = λ more.
          Word (codes "do") ∷ Sign (codes "{") ∷ l.tokens (Sign (codes "}") ∷ Word (codes "while") ∷ Sign (codes "(") ∷ v.tokens (Sign (codes ")") ∷ Sign (codes ";") ∷ more));
      reads = λ rest more r.
          inside (line depth (codes "do {")) (printed_stmts inner (depth + 1) ++ line depth (while_end e)) rest
          (line_reads depth (codes "do {") ((printed_stmts inner (depth + 1) ++ line depth (while_end e)) ++ rest)
          (word (codes "do") refl refl refl (blank (left_brace (line_feed
          (block_reads depth l (codes " while (" ++ (bare e ++ codes ");")) rest (Word (codes "while") ∷ Sign (codes "(") ∷ v.tokens (Sign (codes ")") ∷ Sign (codes ";") ∷ more))
          (right_brace (blank (word (codes "while") refl refl refl (blank (opening (inside (bare e) (codes ");") (10 ∷ rest)
          (v.reads 41 (59 ∷ 10 ∷ rest) (Sign (codes ")") ∷ Sign (codes ";") ∷ more) refl (closing (semicolon (line_feed r))))))))))))))));
      spells = λ more.
          repeated_do refl refl
          (l.spells (Sign (codes "}") ∷ Word (codes "while") ∷ Sign (codes "(") ∷ v.tokens (Sign (codes ")") ∷ Sign (codes ";") ∷ more))
          (Word (codes "while") ∷ Sign (codes "(") ∷ v.tokens (Sign (codes ")") ∷ Sign (codes ";") ∷ more)) refl)
          (tested (codes "while") refl refl (v.spells (Sign (codes ")") ∷ Sign (codes ";") ∷ more)) refl) refl;
    })
