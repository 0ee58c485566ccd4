-- The lines of a `for` and of a `switch` read as the statement, given that their parts do (C89, 3.6.4.2 and 3.6.5.3).
use Rattle.std.specs.Prelude.{◌≡◌, ℕ, ◌+◌, ◌≤◌, pos, false, flat_map, List, [], ◌∷◌, ◌++◌, codes, decimal}
use Rattle.std.proofs.Common.{refl}
use Rattle.c_laws.specs.c_tree.declared.expression.CExpr.{CExpr}
use Rattle.c_laws.specs.c_tree.declared.statement.CCase.{CCase}
use Rattle.c_laws.specs.c_tree.declared.statement.CNext.{CNext}
use Rattle.c_laws.specs.c_tree.declared.statement.CNext.TheVariants as next
use Rattle.c_laws.specs.c_tree.declared.statement.CStmt.{CStmt}
use Rattle.c_laws.specs.c_tree.declared.statement.CStmt.TheVariants as stmt
use Rattle.c_laws.specs.c_tree.Tokens.{Token, Word, Digits, Sign}
use Rattle.c_laws.specs.c_tree.CExpressionText.{Scope, ReadsExpr}
use Rattle.c_laws.specs.c_tree.CStatementText.{ReadsTarget, ReadsCases, no_case, one_case, has_twice, case_numbers, ReadsNext, up as up_to, down as down_to, added as added_to, for_head as a_for_head, tested, switched, repeated_for}
use Rattle.c_text.specs.Phrases.{letters}
use Rattle.c_text.specs.Expressions.{bare}
use Rattle.c_text.specs.Printed.{target, line, case_line, printed_next, switch_head, for_start, for_head, printed_switch, printed_stmts}
use Rattle.c_text.proofs.StatementEquations.{printed-Switch, printed-For}
use Rattle.c_spelling.proofs.Tokens.{ReadsAs, inside, Piece, Whole, word, IsWord, line_feed, blank, indented, number, opening, closing, left_brace, right_brace, colon, semicolon, equals, added, up, down}
use Rattle.c_spelling.proofs.TokensLists.{Before}
use Rattle.c_spelling.proofs.ExprPieces.{Printing, whole_piece}
use Rattle.c_spelling.proofs.StmtLines.{line_reads, of_text, target_piece, Line, Lines, block_reads, test_reads}

-- ## What a `for` does after each turn

pub up_piece : {scope : Scope} {to : CExpr} → Printing scope to → Piece (printed_next (next.Up to)) (ReadsNext scope (next.Up to))
unfolding printed_next
up_piece {scope = scope} {to = to} p =
    let t : Piece (target to) (ReadsTarget scope to) = target_piece p in
    record {
      tokens = λ more. Sign (codes "++") ∷ t.tokens more;
      reads = λ first rest more clear r. up (t.reads first rest more clear r);
      spells = λ more. up_to refl (t.spells more);
    }

pub down_piece : {scope : Scope} {to : CExpr} → Printing scope to → Piece (printed_next (next.Down to)) (ReadsNext scope (next.Down to))
unfolding printed_next
down_piece {scope = scope} {to = to} p =
    let t : Piece (target to) (ReadsTarget scope to) = target_piece p in
    record {
      tokens = λ more. Sign (codes "--") ∷ t.tokens more;
      reads = λ first rest more clear r. down (t.reads first rest more clear r);
      spells = λ more. down_to refl (t.spells more);
    }

pub add_piece : {scope : Scope} {to e : CExpr} → Printing scope to → Printing scope e → Piece (printed_next (next.Add to e)) (ReadsNext scope (next.Add to e))
unfolding printed_next
add_piece {scope = scope} {to = to} {e = e} p q =
    let t : Piece (target to) (ReadsTarget scope to) = target_piece p in
    let v : Piece (bare e) (ReadsExpr scope 0 e) = whole_piece q in
    record {
      tokens = λ more. t.tokens (Sign (codes "+=") ∷ v.tokens more);
      reads = λ first rest more clear r.
          inside (target to) (codes " += " ++ bare e) (first ∷ rest)
          (t.reads 32 (43 ∷ 61 ∷ 32 ∷ (bare e ++ first ∷ rest)) (Sign (codes "+=") ∷ v.tokens more) refl (blank (added (blank (v.reads first rest more clear r)))));
      spells = λ more. added_to (t.spells (Sign (codes "+=") ∷ v.tokens more)) refl (v.spells more);
    }

-- ## A `for`

-- up to its test
start_reads : (to first : CExpr) {T V : List Token → List Token → Type 0} (t : Piece (target to) T) (v : Piece (bare first) V) (rest : List ℕ) (more : List Token) → ReadsAs rest more →
    ReadsAs (for_start to first ++ rest) (Word (codes "for") ∷ Sign (codes "(") ∷ t.tokens (Sign (codes "=") ∷ v.tokens (Sign (codes ";") ∷ more)))
unfolding for_start
start_reads to first t v rest more r =
    word (codes "for") refl refl refl (blank (opening (inside (target to) (codes " = " ++ (bare first ++ codes "; ")) rest
    (t.reads 32 (61 ∷ 32 ∷ ((bare first ++ codes "; ") ++ rest)) (Sign (codes "=") ∷ v.tokens (Sign (codes ";") ∷ more)) refl
    (blank (equals (blank (inside (bare first) (codes "; ") rest (v.reads 59 (32 ∷ rest) (Sign (codes ";") ∷ more) refl (semicolon (blank r)))))))))))

-- with its brace
head_reads : (to first test : CExpr) (turn : CNext) {T V W N : List Token → List Token → Type 0} (t : Piece (target to) T) (v : Piece (bare first) V) (w : Piece (bare test) W)
    (n : Piece (printed_next turn) N) (rest : List ℕ) (more : List Token) → ReadsAs rest more →
    ReadsAs (for_head to first test turn ++ 10 ∷ rest)
    (Word (codes "for") ∷ Sign (codes "(") ∷ t.tokens (Sign (codes "=") ∷ v.tokens (Sign (codes ";") ∷ w.tokens (Sign (codes ";") ∷ n.tokens (Sign (codes ")") ∷ Sign (codes "{") ∷ more)))))
unfolding for_head
head_reads to first test turn t v w n rest more r =
    inside (for_start to first) (bare test ++ (codes "; " ++ (printed_next turn ++ codes ") {"))) (10 ∷ rest)
    (start_reads to first t v ((bare test ++ (codes "; " ++ (printed_next turn ++ codes ") {"))) ++ 10 ∷ rest)
    (w.tokens (Sign (codes ";") ∷ n.tokens (Sign (codes ")") ∷ Sign (codes "{") ∷ more)))
    (inside (bare test) (codes "; " ++ (printed_next turn ++ codes ") {")) (10 ∷ rest)
    (w.reads 59 (32 ∷ ((printed_next turn ++ codes ") {") ++ 10 ∷ rest)) (Sign (codes ";") ∷ n.tokens (Sign (codes ")") ∷ Sign (codes "{") ∷ more)) refl
    (semicolon (blank (inside (printed_next turn) (codes ") {") (10 ∷ rest)
    (n.reads 41 (codes " {" ++ 10 ∷ rest) (Sign (codes ")") ∷ Sign (codes "{") ∷ more) refl (closing (blank (left_brace (line_feed r)))))))))))

pub for_lines : {scope : Scope} {to first test : CExpr} {turn : CNext} {inner : List CStmt} (depth : ℕ) → Printing scope to → Printing scope first → Printing scope test →
    Piece (printed_next turn) (ReadsNext scope turn) → Lines scope inner (depth + 1) → Line scope (stmt.For to first test turn inner) depth
for_lines {scope = scope} {to = to} {first = first} {test = test} {turn = turn} {inner = inner} depth p q s n l =
    let t : Piece (target to) (ReadsTarget scope to) = target_piece p in
    let v : Piece (bare first) (ReadsExpr scope 0 first) = whole_piece q in
    let w : Piece (bare test) (ReadsExpr scope 0 test) = whole_piece s in
    of_text (printed-For to first test turn inner depth) (record {
      tokens = λ more.
          Word (codes "for") ∷ Sign (codes "(") ∷ t.tokens (Sign (codes "=") ∷ v.tokens (Sign (codes ";") ∷ w.tokens (Sign (codes ";") ∷ n.tokens (Sign (codes ")") ∷ Sign (codes "{")
          ∷ l.tokens (Sign (codes "}") ∷ more)))));
      reads = λ rest more r.
          inside (line depth (for_head to first test turn)) (printed_stmts inner (depth + 1) ++ line depth (codes "}")) rest
          (line_reads depth (for_head to first test turn) ((printed_stmts inner (depth + 1) ++ line depth (codes "}")) ++ rest)
          (head_reads to first test turn t v w n ((printed_stmts inner (depth + 1) ++ line depth (codes "}")) ++ rest) (l.tokens (Sign (codes "}") ∷ more))
          (block_reads depth l [] rest more (right_brace (line_feed r)))));
      spells = λ more.
          repeated_for
          (a_for_head refl refl
          (t.spells (Sign (codes "=") ∷ v.tokens (Sign (codes ";") ∷ w.tokens (Sign (codes ";") ∷ n.tokens (Sign (codes ")") ∷ Sign (codes "{") ∷ l.tokens (Sign (codes "}") ∷ more)))))) refl
          (v.spells (Sign (codes ";") ∷ w.tokens (Sign (codes ";") ∷ n.tokens (Sign (codes ")") ∷ Sign (codes "{") ∷ l.tokens (Sign (codes "}") ∷ more))))) refl
          (w.spells (Sign (codes ";") ∷ n.tokens (Sign (codes ")") ∷ Sign (codes "{") ∷ l.tokens (Sign (codes "}") ∷ more)))) refl
          (n.spells (Sign (codes ")") ∷ Sign (codes "{") ∷ l.tokens (Sign (codes "}") ∷ more))) refl)
          refl (l.spells (Sign (codes "}") ∷ more) more refl);
    })

-- ## A `switch`

-- cases in order, before a closing brace
abbrev pub ClosesCases : List CCase → List Token → List Token → Type 0
ClosesCases cases p q = Before (codes "}") (ReadsCases cases) p q

abbrev pub Cases : List CCase → ℕ → Type 0
Cases cases depth = Whole (flat_map (case_line depth) cases) (ClosesCases cases)

pub no_cases : (depth : ℕ) → Cases [] depth
no_cases depth = record { tokens = λ more. more; reads = λ rest more r. r; spells = λ more rest h. no_case h }

case_reads : (depth n : ℕ) (label : List ℕ) → n ≤ 2147483647 → IsWord label → (rest : List ℕ) (more : List Token) → ReadsAs rest more →
    ReadsAs (case_line depth (record { number = pos n; label = label }) ++ rest) (Word (codes "case") ∷ Digits n ∷ Sign (codes ":") ∷ Word (codes "goto") ∷ Word label ∷ Sign (codes ";") ∷ more)
unfolding case_line letters
case_reads depth n label small w rest more r =
    inside _ (codes "case " ++ (decimal n ++ (codes ": goto " ++ (label ++ codes ";\n")))) rest
    (indented depth (word (codes "case") refl refl refl (blank (inside (decimal n) (codes ": goto " ++ (label ++ codes ";\n")) rest
    (number n small refl (colon (blank (word (codes "goto") refl refl refl (blank (inside label (codes ";\n") rest (word label w.letter w.bytes refl (semicolon (line_feed r)))))))))))))

pub more_cases : (depth n : ℕ) (label : List ℕ) {later : List CCase} → n ≤ 2147483647 → IsWord label → Cases later depth → Cases (record { number = pos n; label = label } ∷ later) depth
more_cases depth n label {later = later} small w others = record {
  tokens = λ more. Word (codes "case") ∷ Digits n ∷ Sign (codes ":") ∷ Word (codes "goto") ∷ Word label ∷ Sign (codes ";") ∷ others.tokens more;
  reads = λ rest more r.
      inside (case_line depth (record { number = pos n; label = label })) (flat_map (case_line depth) later) rest
      (case_reads depth n label small w (flat_map (case_line depth) later ++ rest) (others.tokens more) (others.reads rest more r));
  spells = λ more rest h. one_case n label small refl refl refl refl refl refl (others.spells more rest h);
}

switch_reads : (e : CExpr) {V : List Token → List Token → Type 0} (depth : ℕ) (v : Piece (bare e) V) (rest : List ℕ) (more : List Token) → ReadsAs rest more →
    ReadsAs (line depth (switch_head e) ++ rest) (Word (codes "switch") ∷ Sign (codes "(") ∷ v.tokens (Sign (codes ")") ∷ Sign (codes "{") ∷ more))
unfolding switch_head letters
switch_reads e depth v rest more r = line_reads depth (codes "switch (" ++ (bare e ++ codes ") {")) rest (word (codes "switch") refl refl refl (blank (opening (test_reads e v rest more r))))

pub switch_lines : {scope : Scope} {e : CExpr} {cases : List CCase} (depth : ℕ) → has_twice (case_numbers cases) ≡ false → Printing scope e → Cases cases (depth + 1) →
    Line scope (stmt.Switch e cases) depth
unfolding printed_switch
switch_lines {scope = scope} {e = e} {cases = cases} depth once q l =
    let v : Piece (bare e) (ReadsExpr scope 0 e) = whole_piece q in
    of_text (printed-Switch e cases depth) (record {
      tokens = λ more. Word (codes "switch") ∷ Sign (codes "(") ∷ v.tokens (Sign (codes ")") ∷ Sign (codes "{") ∷ l.tokens (Sign (codes "}") ∷ more));
      reads = λ rest more r.
          inside (line depth (switch_head e)) (flat_map (case_line (depth + 1)) cases ++ line depth (codes "}")) rest
          (switch_reads e depth v ((flat_map (case_line (depth + 1)) cases ++ line depth (codes "}")) ++ rest) (l.tokens (Sign (codes "}") ∷ more))
          (inside (flat_map (case_line (depth + 1)) cases) (line depth (codes "}")) rest
          (l.reads (line depth (codes "}") ++ rest) (Sign (codes "}") ∷ more) (line_reads depth (codes "}") rest (right_brace (line_feed r))))));
      spells = λ more.
          switched once (tested (codes "switch") refl refl (v.spells (Sign (codes ")") ∷ Sign (codes "{") ∷ l.tokens (Sign (codes "}") ∷ more))) refl) refl
          (l.spells (Sign (codes "}") ∷ more) more refl);
    })
