-- Lists of parts that a loop puts, one behind the other.
use Rattle.std.proofs.Common.{◌≡◌, refl, sym, ap, ◌∙◌, ℕ, ◌+◌, ◌<◌, ◌≤◌, List, [], ◌∷◌, length, drop, get_or, Result, Ok, Err}
use Rattle.std.specs.Result.{IsErrAnd}
use Rattle.std.proofs.lemmas.List.{at_drop_more, at_drop_all}
use Rattle.c_tree.specs.declared.statement.CCase.{CCase}
use Rattle.c_tree.specs.declared.statement.CStmt.{CStmt}
use Rattle.c_tree.specs.Drafts.{Scope}
use Rattle.c_tree.specs.FlatForm.{Body, Labels, sequence, empty, body, body_of_all, jump}
use Rattle.expression_linker.specs.declared.failure.LinkFail.{LinkFail}
use Rattle.flat_linker.specs.declared.written.Written.{Written}
use Rattle.flat_linker.specs.Parts.{jumps}
use Rattle.flat_linker.specs.PutItems.{PutsBody}
use Rattle.flat_linker.proofs.Completing.{CompletesIn}
use Rattle.flat_linker.proofs.PutLaws.{SameAt, body-as, body-more, body-same, body-none, seq-lost}
use Rattle.flat_linker.proofs.FormLaws.{jumps-same}

next_one : {A : Type 0} (list : List A) (i : ℕ) (a : A) → i < length list → a ≡ get_or list i a → drop i list ≡ a ∷ drop (i + 1) list
next_one list i a inside is = at_drop_more (λ z. z) list i a inside ∙ ap (λ z. z ∷ drop (i + 1) list) (sym is)

module _ (scope : Scope) (labels : Labels) {A : Type 0} (all : List A → Body) (each : A → Body)
    (none : all [] ≡ empty) (step : (a : A) (later : List A) (x : Written) → SameAt scope labels (sequence (each a) (all later)) (all (a ∷ later)) x) (list : List A) (i : ℕ) where
  rest_again : (r : Result (Unit {0}) LinkFail) (a : A) (y z : Written) → i < length list → a ≡ get_or list i a → PutsBody r (sequence (each a) (all (drop (i + 1) list))) scope labels y z → PutsBody r (all (drop i list)) scope labels y z
  rest_again r a y z inside is h =
      body-as scope labels r (all (a ∷ drop (i + 1) list)) (all (drop i list)) y z (ap all (next_one list i a inside is))
      (body-same scope labels r (sequence (each a) (all (drop (i + 1) list))) (all (a ∷ drop (i + 1) list)) y z (step a (drop (i + 1) list) y) h)

  pub each-more : (a : A) (x y z : Written) → i < length list → a ≡ get_or list i a → CompletesIn (all list) (all (drop i list)) scope labels x y → PutsBody (Ok tt) (each a) scope labels y z →
      CompletesIn (all list) (all (drop (i + 1) list)) scope labels x z
  each-more a x y z inside is before here = λ r w h.
      before r w (rest_again r a y w inside is (body-more scope labels r (each a) (all (drop (i + 1) list)) y z w here h))

  pub each-lost : (r : Result (Unit {0}) LinkFail) (e : LinkFail) (a : A) (x y z w : Written) → i < length list → a ≡ get_or list i a → CompletesIn (all list) (all (drop i list)) scope labels x y → IsErrAnd r (λ f. f ≡ e) →
      PutsBody (Err e) (each a) scope labels y z → PutsBody r (all list) scope labels x w
  each-lost r e a x y z w inside is before wrong here =
      before r w (rest_again r a y w inside is (seq-lost scope labels r e (each a) (all (drop (i + 1) list)) y z w wrong here))

  pub each-end : (x y : Written) → length list ≤ i → CompletesIn (all list) (all (drop i list)) scope labels x y → PutsBody (Ok tt) (all list) scope labels x y
  each-end x y past before =
      before (Ok tt) y (body-as scope labels (Ok tt) empty (all (drop i list)) y y (at_drop_all all list i past ∙ none) (body-none scope labels empty y refl refl refl))

-- ## Statements

statement_step : (scope : Scope) (labels : Labels) (a : CStmt) (later : List CStmt) (x : Written) → SameAt scope labels (sequence (body a) (body_of_all later)) (body_of_all (a ∷ later)) x
statement_step scope labels a later x = record { drawn = refl; strings = refl; size = refl }

pub list-more : (scope : Scope) (labels : Labels) (list : List CStmt) (i : ℕ) (a : CStmt) (x y z : Written) → i < length list → a ≡ get_or list i a →
    CompletesIn (body_of_all list) (body_of_all (drop i list)) scope labels x y → PutsBody (Ok tt) (body a) scope labels y z → CompletesIn (body_of_all list) (body_of_all (drop (i + 1) list)) scope labels x z
list-more scope labels list i = each-more scope labels body_of_all body refl (statement_step scope labels) list i

pub list-lost : (scope : Scope) (labels : Labels) (list : List CStmt) (i : ℕ) (r : Result (Unit {0}) LinkFail) (e : LinkFail) (a : CStmt) (x y z w : Written) → i < length list → a ≡ get_or list i a →
    CompletesIn (body_of_all list) (body_of_all (drop i list)) scope labels x y → IsErrAnd r (λ f. f ≡ e) → PutsBody (Err e) (body a) scope labels y z → PutsBody r (body_of_all list) scope labels x w
list-lost scope labels list i = each-lost scope labels body_of_all body refl (statement_step scope labels) list i

pub list-end : (scope : Scope) (labels : Labels) (list : List CStmt) (i : ℕ) (x y : Written) → length list ≤ i → CompletesIn (body_of_all list) (body_of_all (drop i list)) scope labels x y →
    PutsBody (Ok tt) (body_of_all list) scope labels x y
list-end scope labels list i = each-end scope labels body_of_all body refl (statement_step scope labels) list i

-- ## The jumps of cases

abbrev pub case_jump : CCase → Body
case_jump case = jump case.label

case_step : (scope : Scope) (labels : Labels) (a : CCase) (later : List CCase) (x : Written) → SameAt scope labels (sequence (case_jump a) (jumps later)) (jumps (a ∷ later)) x
case_step scope labels a later x = jumps-same scope labels a.label a later x refl

pub jumps-more : (scope : Scope) (labels : Labels) (list : List CCase) (i : ℕ) (a : CCase) (x y z : Written) → i < length list → a ≡ get_or list i a →
    CompletesIn (jumps list) (jumps (drop i list)) scope labels x y → PutsBody (Ok tt) (case_jump a) scope labels y z → CompletesIn (jumps list) (jumps (drop (i + 1) list)) scope labels x z
jumps-more scope labels list i = each-more scope labels jumps case_jump refl (case_step scope labels) list i

pub jumps-lost : (scope : Scope) (labels : Labels) (list : List CCase) (i : ℕ) (r : Result (Unit {0}) LinkFail) (e : LinkFail) (a : CCase) (x y z w : Written) → i < length list → a ≡ get_or list i a →
    CompletesIn (jumps list) (jumps (drop i list)) scope labels x y → IsErrAnd r (λ f. f ≡ e) → PutsBody (Err e) (case_jump a) scope labels y z → PutsBody r (jumps list) scope labels x w
jumps-lost scope labels list i = each-lost scope labels jumps case_jump refl (case_step scope labels) list i

pub jumps-end : (scope : Scope) (labels : Labels) (list : List CCase) (i : ℕ) (x y : Written) → length list ≤ i → CompletesIn (jumps list) (jumps (drop i list)) scope labels x y →
    PutsBody (Ok tt) (jumps list) scope labels x y
jumps-end scope labels list i = each-end scope labels jumps case_jump refl (case_step scope labels) list i
