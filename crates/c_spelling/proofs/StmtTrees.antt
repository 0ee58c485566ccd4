-- What holds of the statements of a block: their labels are names, and their strings are of bytes (C89, 3.1.2.1).
use Rattle.std.specs.Prelude.{◌≡◌, ℕ, ◌==◌, Bool, true, false, ◌&&◌, ◌||◌, filter, List, [], ◌∷◌, ◌++◌, length, bytes_eq, Some, None}
use Rattle.std.specs.List.{list_all}
use Rattle.std.proofs.Common.{refl, ap, sym, ◌∙◌, subst, cond, true≢false}
use Rattle.c_laws.specs.c_tree.declared.expression.CExpr.{CExpr}
use Rattle.c_laws.specs.c_tree.declared.statement.CNext.{CNext}
use Rattle.c_laws.specs.c_tree.declared.statement.CStmt.{CStmt}
use Rattle.c_laws.specs.c_tree.declared.statement.CStmt.TheVariants as stmt
use Rattle.c_laws.specs.c_tree.Opened.{trees_opened}
use Rattle.c_laws.specs.c_tree.Tokens.{Token}
use Rattle.c_laws.specs.c_tree.CWords.{is_name, is_among}
use Rattle.c_laws.specs.c_tree.CLabels.{LabelsOf, labels_of, labels_of_all, labels_meet, both, standing, no_label, stands_once}
use Rattle.c_laws.specs.c_tree.CExpressionText.{Scope}
use Rattle.c_laws.specs.c_tree.CStatementText.{ReadsStmt, assigned, assigned_call, called, empty, a_block, labelled, jump, returned, returned_value, returned_call, if_only, if_else, switched, repeated_for, repeated_do, ReadsStmts, closed, one_more}
use Rattle.c_laws.proofs.TokenSpellings.{and-first, and-second}
use Rattle.c_spelling.specs.Spelled.{expression_of_bytes, next_of_bytes, statement_of_bytes, statements_of_bytes}
use Rattle.c_spelling.proofs.TokensScope.{AreNames, passed_by, all_first, names_append}

-- ## Labels of each form

pub labels-Block : (inner : List CStmt) → labels_of (stmt.Block inner) ≡ labels_of_all inner
unfolding trees_opened
labels-Block [] = refl
labels-Block (first ∷ later) = ap (both (labels_of first)) (labels-Block later)

pub labels-Label : (name : List ℕ) (inner : CStmt) → labels_of (stmt.Label name inner) ≡ standing name (labels_of inner)
unfolding trees_opened
labels-Label name inner = refl

pub labels-If : (test : CExpr) (first : List CStmt) → labels_of (stmt.If test first None) ≡ both (labels_of_all first) no_label
unfolding trees_opened
labels-If test first = ap (λ l. both l no_label) (labels-Block first)

pub labels-IfElse : (test : CExpr) (first second : List CStmt) → labels_of (stmt.If test first (Some second)) ≡ both (labels_of_all first) (labels_of_all second)
unfolding trees_opened
labels-IfElse test first second = ap (λ l. both l (labels_of (stmt.Block second))) (labels-Block first) ∙ ap (both (labels_of_all first)) (labels-Block second)

pub labels-For : (target first test : CExpr) (turn : CNext) (inner : List CStmt) → labels_of (stmt.For target first test turn inner) ≡ labels_of_all inner
unfolding trees_opened
labels-For target first test turn inner = labels-Block inner

pub labels-DoWhile : (inner : List CStmt) (test : CExpr) → labels_of (stmt.DoWhile inner test) ≡ labels_of_all inner
unfolding trees_opened
labels-DoWhile inner test = labels-Block inner

-- ## Strings of each form

pub bytes-Block : (inner : List CStmt) → statement_of_bytes (stmt.Block inner) ≡ statements_of_bytes inner
unfolding trees_opened
bytes-Block [] = refl
bytes-Block (first ∷ later) = ap (λ b. statement_of_bytes first && b) (bytes-Block later)

pub bytes-Label : (name : List ℕ) (inner : CStmt) → statement_of_bytes (stmt.Label name inner) ≡ statement_of_bytes inner
unfolding trees_opened
bytes-Label name inner = refl

pub bytes-If : (test : CExpr) (first : List CStmt) → statement_of_bytes (stmt.If test first None) ≡ (expression_of_bytes test && (statements_of_bytes first && true))
unfolding trees_opened
bytes-If test first = ap (λ b. expression_of_bytes test && (b && true)) (bytes-Block first)

pub bytes-IfElse : (test : CExpr) (first second : List CStmt)
    → statement_of_bytes (stmt.If test first (Some second)) ≡ (expression_of_bytes test && (statements_of_bytes first && statements_of_bytes second))
unfolding trees_opened
bytes-IfElse test first second =
    ap (λ b. expression_of_bytes test && (b && statement_of_bytes (stmt.Block second))) (bytes-Block first)
    ∙ ap (λ b. expression_of_bytes test && (statements_of_bytes first && b)) (bytes-Block second)

pub bytes-For : (target first test : CExpr) (turn : CNext) (inner : List CStmt) → statement_of_bytes (stmt.For target first test turn inner)
    ≡ (expression_of_bytes target && (expression_of_bytes first && (expression_of_bytes test && (next_of_bytes turn && statements_of_bytes inner))))
unfolding trees_opened
bytes-For target first test turn inner =
    ap (λ b. expression_of_bytes target && (expression_of_bytes first && (expression_of_bytes test && (next_of_bytes turn && b)))) (bytes-Block inner)

pub bytes-DoWhile : (inner : List CStmt) (test : CExpr) → statement_of_bytes (stmt.DoWhile inner test) ≡ (statements_of_bytes inner && expression_of_bytes test)
unfolding trees_opened
bytes-DoWhile inner test = ap (λ b. b && expression_of_bytes test) (bytes-Block inner)

-- ## Labels are names

pub names_front : (first second : List (List ℕ)) → AreNames (first ++ second) → AreNames first
names_front [] second all = refl
names_front (name ∷ first) second all =
    all_first name first (and-first (is_name name) (list_all is_name (first ++ second)) all) (names_front first second (and-second (is_name name) (list_all is_name (first ++ second)) all))

pub names_behind : (first second : List (List ℕ)) → AreNames (first ++ second) → AreNames second
names_behind [] second all = all
names_behind (name ∷ first) second all = names_behind first second (and-second (is_name name) (list_all is_name (first ++ second)) all)

abbrev Stand : LabelsOf → Type 0
Stand labels = AreNames labels.stand

mutual
  stand_statement : {scope : Scope} {one : CStmt} {p q : List Token} → ReadsStmt scope one p q → AreNames (labels_of one).stand
  stand_statement (assigned x a e b) = refl
  stand_statement (assigned_call x a c b) = refl
  stand_statement (called c a) = refl
  stand_statement (empty a) = refl
  stand_statement (a_block {inner = inner} a x) = subst Stand (sym (labels-Block inner)) (stand_statements x)
  stand_statement (labelled label {inner = inner} h a b x) = subst Stand (sym (labels-Label label inner)) (all_first label (labels_of inner).stand h (stand_statement x))
  stand_statement (jump label a b c) = refl
  stand_statement (returned a b) = refl
  stand_statement (returned_value a e b) = refl
  stand_statement (returned_call a c b) = refl
  stand_statement (if_only {e = e} {first = first} t a x) =
      subst Stand (sym (labels-If e first)) (names_append (labels_of_all first).stand [] (stand_statements x) refl)
  stand_statement (if_else {e = e} {first = first} {second = second} t a x b c y) =
      subst Stand (sym (labels-IfElse e first second)) (names_append (labels_of_all first).stand (labels_of_all second).stand (stand_statements x) (stand_statements y))
  stand_statement (switched h t a cases) = refl
  stand_statement (repeated_for {target = target} {first = first} {test = test} {turn = turn} {inner = inner} f a x) =
      subst Stand (sym (labels-For target first test turn inner)) (stand_statements x)
  stand_statement (repeated_do {inner = inner} {e = e} a b x t c) = subst Stand (sym (labels-DoWhile inner e)) (stand_statements x)

  pub stand_statements : {scope : Scope} {all : List CStmt} {p q : List Token} → ReadsStmts scope all p q → AreNames (labels_of_all all).stand
  stand_statements (closed a) = refl
  stand_statements (one_more {first = first} {later = later} x y) = names_append (labels_of first).stand (labels_of_all later).stand (stand_statement x) (stand_statements y)

-- a label that stands once stands
none_left : (label : List ℕ) (labels : List (List ℕ)) → is_among label labels ≡ false → filter (bytes_eq label) labels ≡ []
none_left label [] h = refl
none_left label (first ∷ later) h = by (bytes_eq label first) h (none_left label later)
  where
    by : (b : Bool) → (b || is_among label later) ≡ false → (is_among label later ≡ false → filter (bytes_eq label) later ≡ [])
        → cond b (first ∷ filter (bytes_eq label) later) (filter (bytes_eq label) later) ≡ []
    by true k again = absurd (true≢false k)
    by false k again = again k

once_stands : (labels : List (List ℕ)) (label : List ℕ) → stands_once labels label ≡ true → is_among label labels ≡ true
once_stands labels label once = by (is_among label labels) refl
  where
    by : (b : Bool) → is_among label labels ≡ b → is_among label labels ≡ true
    by true h = h
    by false h = absurd (true≢false (sym once ∙ ap (λ z. length z == 1) (none_left label labels h)))

named_stand : (labels names : List (List ℕ)) → AreNames labels → list_all (stands_once labels) names ≡ true → AreNames names
named_stand labels [] all once = refl
named_stand labels (name ∷ names) all once =
    all_first name names
    (passed_by is_name labels name all (once_stands labels name (and-first (stands_once labels name) (list_all (stands_once labels) names) once)))
    (named_stand labels names all (and-second (stands_once labels name) (list_all (stands_once labels) names) once))

-- so each label that a body names
pub labels_named : {scope : Scope} {body : List CStmt} {p q : List Token} → ReadsStmts scope body p q → labels_meet body ≡ true → AreNames (labels_of_all body).named
labels_named {body = body} x meet = named_stand (labels_of_all body).stand (labels_of_all body).named (stand_statements x) meet
