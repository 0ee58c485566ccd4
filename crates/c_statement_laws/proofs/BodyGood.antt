-- The statements of a function are read as they stand: the labels that are named and do not stand yet can still be put before the closing brace.
use Rattle.std.proofs.Common.{◌≡◌, refl, sym, ap, ◌∙◌, subst, ℕ, ◌≤◌, ◌==◌, Bool, true, false, ◌&&◌, ◌||◌, List, [], ◌∷◌, append-nil, codes, bytes_eq, arith}
use Rattle.std.specs.List.{list_all}
use Rattle.std.proofs.lemmas.Bool.{or_left, or_right}
use Rattle.std.proofs.lemmas.List.Folds.{list_any-append}
use Rattle.c_grammar_laws.specs.c_tree.declared.statement.CStmt.{CStmt}
use Rattle.c_grammar_laws.specs.c_tree.declared.statement.CStmt.TheVariants as stmt
use Rattle.c_grammar_laws.specs.c_tree.Tokens.{Word, Sign}
use Rattle.c_grammar_laws.specs.c_tree.CWords.{is_among, is_name}
use Rattle.c_grammar_laws.specs.c_tree.CLabels.{LabelsOf, both, no_label, standing, labels_of, labels_of_all, stands_once}
use Rattle.c_grammar_laws.specs.c_tree.CExpressionText.{Scope}
use Rattle.c_grammar_laws.specs.c_tree.CStatementText as text
use Rattle.c_grammar_laws.specs.c_tree.CStatementText.{ReadsStmts}
use Rattle.c_grammar_laws.specs.grammar.Exactness.{Filled}
use Rattle.c_grammar_laws.proofs.grammar.Judging.{good-as}
use Rattle.c_grammar_laws.proofs.TokenGood.{equal-texts, equal-self}
use Rattle.c_statement_readers.specs.LabelTests.{may_be_named, can_meet, meet, with_label}
use Rattle.c_statement_readers.specs.StatementReader.{statement, body}
use Rattle.c_statement_laws.specs.StatementLaws.{StatementsAre, GoodBodies}
use Rattle.c_statement_laws.proofs.LabelLaws.{both-assoc, both-none, all-at, all-each, times, among-times, namable, can-stand, labels-label, labels-empty}
use Rattle.c_statement_laws.proofs.BlockGood.{good-all}
use Rattle.c_statement_laws.proofs.StatementGood.{good_statements}

-- Each label that is named is among some or stands.
abbrev Covered : LabelsOf → List (List ℕ) → Type 0
Covered labels names = (name : List ℕ) → is_among name labels.named ≡ true → is_among name names ≡ false → is_among name labels.stand ≡ true

one-only : (n : ℕ) → 1 ≤ n → n ≤ 1 → (n == 1) ≡ true
one-only n some few = ap (λ z. z == 1) (let k : n ≡ 1 = omega (arith, some, few) in k)

all-stand : (labels : LabelsOf) → can_meet labels ≡ true → Covered labels [] → meet labels ≡ true
all-stand labels can covered =
    all-each (stands_once labels.stand) labels.named
    (λ name m. one-only (times name labels.stand) (among-times name labels.stand (covered name m refl))
    (namable labels.stand name (all-at (may_be_named labels.stand) name labels.named can m)).few)

module _ (scope : Scope) where
  abbrev Completed : LabelsOf → Type 0
  Completed labels = Filled (StatementsAre scope meet labels) []

  closed-now : (labels : LabelsOf) → can_meet labels ≡ true → Covered labels [] → Completed labels
  closed-now labels can covered = record {
    later = Sign (codes "}") ∷ [];
    tree = [];
    spelled = λ behind. record {
      reads = text.closed refl;
      can = ap can_meet (both-none labels) ∙ can;
      closed = ap meet (both-none labels) ∙ all-stand labels can covered;
    };
  }

  -- one more label before the closing brace
  abbrev mark : List ℕ → CStmt
  mark name = stmt.Label name stmt.Empty

  mark-labels : (name : List ℕ) → labels_of (mark name) ≡ standing name no_label
  mark-labels name = labels-label name stmt.Empty ∙ ap (standing name) labels-empty

  marked : (labels : LabelsOf) (name : List ℕ) (all : List CStmt) → both labels (labels_of_all (mark name ∷ all)) ≡ both (with_label labels name) (labels_of_all all)
  marked labels name all = ap (λ z. both labels (both z (labels_of_all all))) (mark-labels name) ∙ sym (both-assoc labels (standing name no_label) (labels_of_all all))

  with-mark : (labels : LabelsOf) (name : List ℕ) → is_name name ≡ true → Completed (with_label labels name) → Completed labels
  with-mark labels name named f = record {
    later = Word name ∷ Sign (codes ":") ∷ Sign (codes ";") ∷ f.later;
    tree = mark name ∷ f.tree;
    spelled = λ behind. let is = f.spelled behind in record {
      reads = text.one_more (text.labelled name named refl refl (text.empty refl)) is.reads;
      can = ap can_meet (marked labels name f.tree) ∙ is.can;
      closed = ap meet (marked labels name f.tree) ∙ is.closed;
    };
  }

  covered-less : (labels : LabelsOf) (name : List ℕ) (names : List (List ℕ)) → is_among name labels.stand ≡ true → Covered labels (name ∷ names) → Covered labels names
  covered-less labels name names stands covered = λ other m none. by other m none (bytes_eq other name) refl
    where
      by : (other : List ℕ) → is_among other labels.named ≡ true → is_among other names ≡ false → (same : Bool) → bytes_eq other name ≡ same → is_among other labels.stand ≡ true
      by other m none true e = subst (λ z. is_among z labels.stand ≡ true) (sym (equal-texts other name e)) stands
      by other m none false e = covered other m (ap (λ z. z || is_among other names) e ∙ none)

  covered-more : (labels : LabelsOf) (name : List ℕ) (names : List (List ℕ)) → Covered labels (name ∷ names) → Covered (with_label labels name) names
  covered-more labels name names covered =
      λ other m none. list_any-append (bytes_eq other) labels.stand (name ∷ [])
      ∙ by other (ap (is_among other) (sym (append-nil labels.named)) ∙ m) none (bytes_eq other name) refl
    where
      by : (other : List ℕ) → is_among other labels.named ≡ true → is_among other names ≡ false → (same : Bool) → bytes_eq other name ≡ same
          → (is_among other labels.stand || (bytes_eq other name || false)) ≡ true
      by other m none true e = or_right (is_among other labels.stand) (bytes_eq other name || false) (or_left (bytes_eq other name) false e)
      by other m none false e =
          or_left (is_among other labels.stand) (bytes_eq other name || false) (covered other m (ap (λ z. z || is_among other names) e ∙ none))

  head-named : (name : List ℕ) (names : List (List ℕ)) → list_all is_name (name ∷ names) ≡ true → is_name name ≡ true
  head-named name names h = all-at is_name name (name ∷ names) h (or_left (bytes_eq name name) (is_among name names) (equal-self name))

  tail-named : (b c : Bool) → (b && c) ≡ true → c ≡ true
  tail-named true c h = h
  tail-named false c h = absurd (let e : false ≡ true = h in cc)

  completed : (names : List (List ℕ)) (labels : LabelsOf) → list_all is_name names ≡ true → can_meet labels ≡ true → Covered labels names → Completed labels
  completed [] labels named can covered = closed-now labels can covered
  completed (name ∷ names) labels named can covered =
      by (is_among name labels.stand) refl
      (λ less. completed names labels (tail-named (is_name name) (list_all is_name names) named) can less)
      (λ c more. completed names (with_label labels name) (tail-named (is_name name) (list_all is_name names) named) c more)
    where
      by : (there : Bool) → is_among name labels.stand ≡ there → (Covered labels names → Completed labels)
          → (can_meet (with_label labels name) ≡ true → Covered (with_label labels name) names → Completed (with_label labels name)) → Completed labels
      by true e same more = same (covered-less labels name names e covered)
      by false e same more =
          with-mark labels name (head-named name names named)
          (more (can-stand labels name can (record { named = head-named name names named; once = λ m. e })) (covered-more labels name names covered))

  -- the statements of a function can be completed
  pub meet-able : (labels : LabelsOf) → can_meet labels ≡ true → Completed labels
  meet-able labels can =
      completed labels.named labels
      (all-each is_name labels.named (λ name m. (namable labels.stand name (all-at (may_be_named labels.stand) name labels.named can m)).named)) can
      (λ name m none. absurd (let e : true ≡ false = sym m ∙ none in cc))

pub good_bodies : GoodBodies
unfolding body
good_bodies scope nests more count most good least low high =
    good-as (λ all p q are. record { reads = are.reads; met = are.closed })
    (good-all scope meet (statement scope count nests) (statement scope most more) (meet-able scope) nests count most no_label low high refl
    (λ labels can. good_statements scope labels nests more count most good can least low high))
