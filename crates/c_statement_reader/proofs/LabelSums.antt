-- The labels of statements, one behind the other.
use Rattle.std.proofs.Common.{◌≡◌, refl, sym, ap, ◌∙◌, ℕ, List, [], ◌∷◌, ◌++◌, append_assoc, append-nil, map, Option, Some, None}
use Rattle.c_tree.specs.declared.expression.CExpr.{CExpr}
use Rattle.c_tree.specs.declared.statement.CCase.{CCase}
use Rattle.c_tree.specs.declared.statement.CStmt.{CStmt}
use Rattle.c_tree.specs.declared.statement.CStmt.TheVariants as form
use Rattle.c_tree.specs.CLabels.{LabelsOf, no_label, both, standing, labels_of, labels_of_all}
use Rattle.c_tree.specs.Opened.{trees_opened}
use Rattle.c_statement_laws.proofs.LabelLaws.{labels-block, labels-label, labels-for, labels-do, labels-goto, labels-switch, labels-set, labels-set-call, labels-call, labels-empty, labels-return, labels-return-call, both-none, both-assoc}
use Rattle.c_statement_readers.specs.LabelTests.{with_label}
use Rattle.c_statement_readers.specs.CaseReader.{case_of}
use Rattle.c_statement_reader.specs.LabelCounts.{naming, case_labels}
use Rattle.c_statement_reader.specs.Seconds.{labels_of_second}
use Rattle.c_statement_reader.proofs.CaseLemmas.{labels-more}

-- ## The labels of a condition

pub labels-if : (test : CExpr) (first : List CStmt) (second : Option (List CStmt)) → labels_of (form.If test first second) ≡ both (labels_of_all first) (labels_of_second second)
unfolding trees_opened
labels-if test first None = ap (λ l. both l no_label) (labels-block first)
labels-if test first (Some second) = λ i. both (labels-block first i) (labels-block second i)

-- ## Labels together

pub all-more : (ss : List CStmt) (s : CStmt) → labels_of_all (ss ++ s ∷ []) ≡ both (labels_of_all ss) (labels_of s)
all-more [] s = both-none (labels_of s)
all-more (first ∷ later) s = ap (both (labels_of first)) (all-more later s) ∙ sym (both-assoc (labels_of first) (labels_of_all later) (labels_of s))

-- a label that stands, and the labels of what stands behind it
pub label-and : (before inner : LabelsOf) (name : List ℕ) → both (with_label before name) inner ≡ both before (standing name inner)
label-and before inner name = both-assoc before (standing name no_label) inner

-- a label that stands, and one that is named
pub one-stands : (before : LabelsOf) (name : List ℕ) (stand named : List (List ℕ)) → stand ≡ before.stand ++ name ∷ [] → named ≡ before.named
    → (record { stand = stand; named = named }) ≡ with_label before name
one-stands before name stand named one other = λ i. record { stand = one i; named = (other ∙ sym (append-nil before.named)) i }

pub one-named : (before : LabelsOf) (name : List ℕ) (stand named : List (List ℕ)) → stand ≡ before.stand → named ≡ before.named ++ name ∷ []
    → (record { stand = stand; named = named }) ≡ both before (naming (name ∷ []))
one-named before name stand named one other = λ i. record { stand = (one ∙ sym (append-nil before.stand)) i; named = other i }

pub plain-labels : (before of : LabelsOf) → of ≡ no_label → before ≡ both before of
plain-labels before of none = sym (both-none before) ∙ ap (both before) (sym none)

pub ruleset tree_labels = (labels-block, labels-label, labels-if, labels-for, labels-do, labels-goto, labels-switch)

pub ruleset plain_forms = (labels-set, labels-set-call, labels-call, labels-empty, labels-return, labels-return-call)

pub ruleset label_sums = (one-stands, one-named)

pub ruleset both_labels = (both-none, both-assoc, all-more, label-and, plain-labels)

-- ## Labels that are named

-- naming leaves those that stand
pub stand-naming : (before : LabelsOf) (names : List (List ℕ)) → (both before (naming names)).stand ≡ before.stand
stand-naming before names = append-nil before.stand

pub naming-more : (before : LabelsOf) (names : List (List ℕ)) (name : List ℕ)
    → both (both before (naming names)) (naming (name ∷ [])) ≡ both before (naming (names ++ name ∷ []))
naming-more before names name = both-assoc before (naming names) (naming (name ∷ []))

-- the labels of one more
pub all-onward : (start before now : LabelsOf) (items more : List CStmt) (one : CStmt) → before ≡ both start (labels_of_all items)
    → now ≡ both before (labels_of one) → more ≡ items ++ one ∷ [] → now ≡ both start (labels_of_all more)
all-onward start before now items more one so labels is =
    labels ∙ (ap (λ z. both z (labels_of one)) so
    ∙ (both-assoc start (labels_of_all items) (labels_of one)
    ∙ ap (both start) (sym (ap labels_of_all is ∙ all-more items one))))

pub cases-onward : (start before now : LabelsOf) (items more : List CCase) (n : ℕ) (label : List ℕ) → before ≡ both start (naming (case_labels items))
    → now ≡ both before (naming (label ∷ [])) → more ≡ items ++ case_of n label ∷ [] → now ≡ both start (naming (case_labels more))
cases-onward start before now items more n label so labels is =
    labels ∙ (ap (λ z. both z (naming (label ∷ []))) so
    ∙ (naming-more start (case_labels items) label
    ∙ ap (λ z. both start (naming z)) (sym (ap case_labels is ∙ labels-more n label items))))

pub naming-none : (before : LabelsOf) → before ≡ both before (naming [])
naming-none before = sym (both-none before)
