use Rattle.std.proofs.Common.{◌||◌, refl, ◌∙◌}
use Rattle.c_tree.specs.Terms.{Term, Prefixed, Cast, Between, Choice, Element, Most}
use Rattle.c_tree.specs.LinkedExpressions.{linked}
use Rattle.linked_terms.specs.LinkedTerms.{term_of}
use Rattle.expression_linker.specs.LinkedParts.{is_unknown}
use Rattle.expression_linker.specs.NamesInScope.{scope_of}
use Rattle.expression_linker.proofs.TermForms.{term-Prefixed, term-Cast, term-Between, term-Choice, term-Element, term-Most}
use Rattle.expression_linker.proofs.DraftForms.{at-Unary, at-Cast, at-Binary, at-Choose, at-Index, at-MaxMin}
use Rattle.expression_linker.proofs.PartLaws.{again, first_or, second_or, drawn-one, drawn-two, drawn-three, next-one, next-two, next-three, lost-one, lost-left, lost-right, lost-test, lost-middle, lost-last}
use Rattle.expression_linker.proofs.terms.+term.Goals as goal

abbrev choice : Term → Term → Term → Term
choice test first second = Choice test first second

pub link_expression-returns-in_err-operand-in-Unary-clause-term : goal.link_expression-returns-in_err-operand-in-Unary-clause-term
link_expression-returns-in_err-operand-in-Unary-clause-term t c =
    again term_of is_unknown _ c.from_residual-in_err-operand-in-Unary.result _ c.from_residual-in_err-operand-in-Unary.ensures.1
    (lost-one term_of is_unknown term_of is_unknown (Prefixed c.in-Unary.op) (linked c.args.e.now) (linked c.get.result.now) (scope_of c.args.scope.now) c.args.next.now _ (at-Unary _ _ _ _ c.in-Unary.is c.get.ensures) (λ x h. h) c.in_err-operand-in-Unary.ensures.term)

pub link_expression-returns-in_ok-operand-in-Unary-clause-term : goal.link_expression-returns-in_ok-operand-in-Unary-clause-term
link_expression-returns-in_ok-operand-in-Unary-clause-term t c =
    term-Prefixed _ _ ∙ drawn-one (Prefixed c.in-Unary.op) (linked c.args.e.now) (linked c.get.result.now) (scope_of c.args.scope.now) c.args.next.now _ (at-Unary _ _ _ _ c.in-Unary.is c.get.ensures) c.in_ok-operand-in-Unary.ensures.term

pub link_expression-returns-in_ok-operand-in-Unary-clause-next : goal.link_expression-returns-in_ok-operand-in-Unary-clause-next
link_expression-returns-in_ok-operand-in-Unary-clause-next t c =
    next-one (Prefixed c.in-Unary.op) (linked c.args.e.now) (linked c.get.result.now) c.args.next.now _ (at-Unary _ _ _ _ c.in-Unary.is c.get.ensures) c.in_ok-operand-in-Unary.ensures.next

pub link_expression-returns-in_err-operand-in-Cast-clause-term : goal.link_expression-returns-in_err-operand-in-Cast-clause-term
link_expression-returns-in_err-operand-in-Cast-clause-term t c =
    again term_of is_unknown _ c.from_residual-in_err-operand-in-Cast.result _ c.from_residual-in_err-operand-in-Cast.ensures.1
    (lost-one term_of is_unknown term_of is_unknown (Cast c.in-Cast.kind) (linked c.args.e.now) (linked c.get-in-Cast.result.now) (scope_of c.args.scope.now) c.args.next.now _ (at-Cast _ _ _ _ c.in-Cast.is c.get-in-Cast.ensures) (λ x h. h) c.in_err-operand-in-Cast.ensures.term)

pub link_expression-returns-in_ok-operand-in-Cast-clause-term : goal.link_expression-returns-in_ok-operand-in-Cast-clause-term
link_expression-returns-in_ok-operand-in-Cast-clause-term t c =
    term-Cast _ _ ∙ drawn-one (Cast c.in-Cast.kind) (linked c.args.e.now) (linked c.get-in-Cast.result.now) (scope_of c.args.scope.now) c.args.next.now _ (at-Cast _ _ _ _ c.in-Cast.is c.get-in-Cast.ensures) c.in_ok-operand-in-Cast.ensures.term

pub link_expression-returns-in_ok-operand-in-Cast-clause-next : goal.link_expression-returns-in_ok-operand-in-Cast-clause-next
link_expression-returns-in_ok-operand-in-Cast-clause-next t c =
    next-one (Cast c.in-Cast.kind) (linked c.args.e.now) (linked c.get-in-Cast.result.now) c.args.next.now _ (at-Cast _ _ _ _ c.in-Cast.is c.get-in-Cast.ensures) c.in_ok-operand-in-Cast.ensures.next

pub link_expression-returns-in_err-left-in-Binary-clause-term : goal.link_expression-returns-in_err-left-in-Binary-clause-term
link_expression-returns-in_err-left-in-Binary-clause-term t c =
    again term_of is_unknown _ c.from_residual-in_err-left-in-Binary.result _ c.from_residual-in_err-left-in-Binary.ensures.1
    (lost-left term_of is_unknown term_of is_unknown (Between c.in-Binary.op) (linked c.args.e.now) (linked c.get-in-Binary.result.now) (linked c.in-Binary.right) (scope_of c.args.scope.now) c.args.next.now _ (at-Binary _ _ _ _ _ _ c.in-Binary.is c.get-in-Binary.ensures refl) (λ x y h. first_or (is_unknown x) (is_unknown y) h)
    c.in_err-left-in-Binary.ensures.term)

pub link_expression-returns-in_err-right-in-Binary-clause-term : goal.link_expression-returns-in_err-right-in-Binary-clause-term
link_expression-returns-in_err-right-in-Binary-clause-term t c =
    again term_of is_unknown _ c.from_residual-in_err-right-in-Binary.result _ c.from_residual-in_err-right-in-Binary.ensures.1
    (lost-right term_of is_unknown term_of is_unknown (Between c.in-Binary.op) (linked c.args.e.now) (linked c.get-in-Binary.result.now) (linked c.get-in-Binary-2.result.now) (scope_of c.args.scope.now) c.args.next.now _ _ (at-Binary _ _ _ _ _ _ c.in-Binary.is c.get-in-Binary.ensures c.get-in-Binary-2.ensures) (λ x y h. second_or (is_unknown x) (is_unknown y) h)
    c.in_ok-left-in-Binary.ensures.next c.in_err-right-in-Binary.ensures.term)

pub link_expression-returns-in_ok-right-in-Binary-clause-term : goal.link_expression-returns-in_ok-right-in-Binary-clause-term
link_expression-returns-in_ok-right-in-Binary-clause-term t c =
    term-Between _ _ _
    ∙ drawn-two (Between c.in-Binary.op) (linked c.args.e.now) (linked c.get-in-Binary.result.now) (linked c.get-in-Binary-2.result.now) (scope_of c.args.scope.now) c.args.next.now _ _ _ (at-Binary _ _ _ _ _ _ c.in-Binary.is c.get-in-Binary.ensures c.get-in-Binary-2.ensures) c.in_ok-left-in-Binary.ensures.term c.in_ok-left-in-Binary.ensures.next c.in_ok-right-in-Binary.ensures.term

pub link_expression-returns-in_ok-right-in-Binary-clause-next : goal.link_expression-returns-in_ok-right-in-Binary-clause-next
link_expression-returns-in_ok-right-in-Binary-clause-next t c =
    next-two (Between c.in-Binary.op) (linked c.args.e.now) (linked c.get-in-Binary.result.now) (linked c.get-in-Binary-2.result.now) c.args.next.now _ _ (at-Binary _ _ _ _ _ _ c.in-Binary.is c.get-in-Binary.ensures c.get-in-Binary-2.ensures) c.in_ok-left-in-Binary.ensures.next c.in_ok-right-in-Binary.ensures.next

pub link_expression-returns-in_err-index-in-Index-clause-term : goal.link_expression-returns-in_err-index-in-Index-clause-term
link_expression-returns-in_err-index-in-Index-clause-term t c =
    again term_of is_unknown _ c.from_residual-in_err-index-in-Index.result _ c.from_residual-in_err-index-in-Index.ensures.1
    (lost-right term_of is_unknown term_of is_unknown Element (linked c.args.e.now) (linked c.get-in-Index.result.now) (linked c.get-in-Index-2.result.now) (scope_of c.args.scope.now) c.args.next.now _ _ (at-Index _ _ _ _ _ c.in-Index.is c.get-in-Index.ensures c.get-in-Index-2.ensures) (λ x y h. second_or (is_unknown x) (is_unknown y) h)
    c.in_ok-array-in-Index.ensures.next c.in_err-index-in-Index.ensures.term)

pub link_expression-returns-in_ok-index-in-Index-clause-term : goal.link_expression-returns-in_ok-index-in-Index-clause-term
link_expression-returns-in_ok-index-in-Index-clause-term t c =
    term-Element _ _
    ∙ drawn-two Element (linked c.args.e.now) (linked c.get-in-Index.result.now) (linked c.get-in-Index-2.result.now) (scope_of c.args.scope.now) c.args.next.now _ _ _ (at-Index _ _ _ _ _ c.in-Index.is c.get-in-Index.ensures c.get-in-Index-2.ensures) c.in_ok-array-in-Index.ensures.term c.in_ok-array-in-Index.ensures.next c.in_ok-index-in-Index.ensures.term

pub link_expression-returns-in_ok-index-in-Index-clause-next : goal.link_expression-returns-in_ok-index-in-Index-clause-next
link_expression-returns-in_ok-index-in-Index-clause-next t c =
    next-two Element (linked c.args.e.now) (linked c.get-in-Index.result.now) (linked c.get-in-Index-2.result.now) c.args.next.now _ _ (at-Index _ _ _ _ _ c.in-Index.is c.get-in-Index.ensures c.get-in-Index-2.ensures) c.in_ok-array-in-Index.ensures.next c.in_ok-index-in-Index.ensures.next

pub link_expression-returns-in_err-left-in-MaxMin-clause-term : goal.link_expression-returns-in_err-left-in-MaxMin-clause-term
link_expression-returns-in_err-left-in-MaxMin-clause-term t c =
    again term_of is_unknown _ c.from_residual-in_err-left-in-MaxMin.result _ c.from_residual-in_err-left-in-MaxMin.ensures.1
    (lost-left term_of is_unknown term_of is_unknown (Most c.in-MaxMin.which) (linked c.args.e.now) (linked c.get-in-MaxMin.result.now) (linked c.in-MaxMin.right) (scope_of c.args.scope.now) c.args.next.now _ (at-MaxMin _ _ _ _ _ _ c.in-MaxMin.is c.get-in-MaxMin.ensures refl) (λ x y h. first_or (is_unknown x) (is_unknown y) h)
    c.in_err-left-in-MaxMin.ensures.term)

pub link_expression-returns-in_err-right-in-MaxMin-clause-term : goal.link_expression-returns-in_err-right-in-MaxMin-clause-term
link_expression-returns-in_err-right-in-MaxMin-clause-term t c =
    again term_of is_unknown _ c.from_residual-in_err-right-in-MaxMin.result _ c.from_residual-in_err-right-in-MaxMin.ensures.1
    (lost-right term_of is_unknown term_of is_unknown (Most c.in-MaxMin.which) (linked c.args.e.now) (linked c.get-in-MaxMin.result.now) (linked c.get-in-MaxMin-2.result.now) (scope_of c.args.scope.now) c.args.next.now _ _ (at-MaxMin _ _ _ _ _ _ c.in-MaxMin.is c.get-in-MaxMin.ensures c.get-in-MaxMin-2.ensures) (λ x y h. second_or (is_unknown x) (is_unknown y) h)
    c.in_ok-left-in-MaxMin.ensures.next c.in_err-right-in-MaxMin.ensures.term)

pub link_expression-returns-in_ok-right-in-MaxMin-clause-term : goal.link_expression-returns-in_ok-right-in-MaxMin-clause-term
link_expression-returns-in_ok-right-in-MaxMin-clause-term t c =
    term-Most _ _ _
    ∙ drawn-two (Most c.in-MaxMin.which) (linked c.args.e.now) (linked c.get-in-MaxMin.result.now) (linked c.get-in-MaxMin-2.result.now) (scope_of c.args.scope.now) c.args.next.now _ _ _ (at-MaxMin _ _ _ _ _ _ c.in-MaxMin.is c.get-in-MaxMin.ensures c.get-in-MaxMin-2.ensures) c.in_ok-left-in-MaxMin.ensures.term c.in_ok-left-in-MaxMin.ensures.next c.in_ok-right-in-MaxMin.ensures.term

pub link_expression-returns-in_ok-right-in-MaxMin-clause-next : goal.link_expression-returns-in_ok-right-in-MaxMin-clause-next
link_expression-returns-in_ok-right-in-MaxMin-clause-next t c =
    next-two (Most c.in-MaxMin.which) (linked c.args.e.now) (linked c.get-in-MaxMin.result.now) (linked c.get-in-MaxMin-2.result.now) c.args.next.now _ _ (at-MaxMin _ _ _ _ _ _ c.in-MaxMin.is c.get-in-MaxMin.ensures c.get-in-MaxMin-2.ensures) c.in_ok-left-in-MaxMin.ensures.next c.in_ok-right-in-MaxMin.ensures.next

pub link_expression-returns-in_err-test-in-Choose-clause-term : goal.link_expression-returns-in_err-test-in-Choose-clause-term
link_expression-returns-in_err-test-in-Choose-clause-term t c =
    again term_of is_unknown _ c.from_residual-in_err-test-in-Choose.result _ c.from_residual-in_err-test-in-Choose.ensures.1
    (lost-test term_of is_unknown term_of is_unknown choice (linked c.args.e.now) (linked c.get-in-Choose.result.now) (linked c.in-Choose.first) (linked c.in-Choose.second) (scope_of c.args.scope.now) c.args.next.now _ (at-Choose _ _ _ _ _ _ _ c.in-Choose.is c.get-in-Choose.ensures refl refl) (λ x y z h. first_or (is_unknown x) (is_unknown y || is_unknown z) h)
    c.in_err-test-in-Choose.ensures.term)

pub link_expression-returns-in_err-first-in-Choose-clause-term : goal.link_expression-returns-in_err-first-in-Choose-clause-term
link_expression-returns-in_err-first-in-Choose-clause-term t c =
    again term_of is_unknown _ c.from_residual-in_err-first-in-Choose.result _ c.from_residual-in_err-first-in-Choose.ensures.1
    (lost-middle term_of is_unknown term_of is_unknown choice (linked c.args.e.now) (linked c.get-in-Choose.result.now) (linked c.get-in-Choose-2.result.now) (linked c.in-Choose.second) (scope_of c.args.scope.now) c.args.next.now _ _ (at-Choose _ _ _ _ _ _ _ c.in-Choose.is c.get-in-Choose.ensures c.get-in-Choose-2.ensures refl)
    (λ x y z h. second_or (is_unknown x) (is_unknown y || is_unknown z) (first_or (is_unknown y) (is_unknown z) h)) c.in_ok-test-in-Choose.ensures.next
    c.in_err-first-in-Choose.ensures.term)

pub link_expression-returns-in_err-second-in-Choose-clause-term : goal.link_expression-returns-in_err-second-in-Choose-clause-term
link_expression-returns-in_err-second-in-Choose-clause-term t c =
    again term_of is_unknown _ c.from_residual-in_err-second-in-Choose.result _ c.from_residual-in_err-second-in-Choose.ensures.1
    (lost-last term_of is_unknown term_of is_unknown choice (linked c.args.e.now) (linked c.get-in-Choose.result.now) (linked c.get-in-Choose-2.result.now) (linked c.get-in-Choose-3.result.now) (scope_of c.args.scope.now) c.args.next.now _ _ _ (at-Choose _ _ _ _ _ _ _ c.in-Choose.is c.get-in-Choose.ensures c.get-in-Choose-2.ensures c.get-in-Choose-3.ensures)
    (λ x y z h. second_or (is_unknown x) (is_unknown y || is_unknown z) (second_or (is_unknown y) (is_unknown z) h)) c.in_ok-test-in-Choose.ensures.next
    c.in_ok-first-in-Choose.ensures.next c.in_err-second-in-Choose.ensures.term)

pub link_expression-returns-in_ok-second-in-Choose-clause-term : goal.link_expression-returns-in_ok-second-in-Choose-clause-term
link_expression-returns-in_ok-second-in-Choose-clause-term t c =
    term-Choice _ _ _
    ∙ drawn-three choice (linked c.args.e.now) (linked c.get-in-Choose.result.now) (linked c.get-in-Choose-2.result.now) (linked c.get-in-Choose-3.result.now) (scope_of c.args.scope.now) c.args.next.now _ _ _ _ _ (at-Choose _ _ _ _ _ _ _ c.in-Choose.is c.get-in-Choose.ensures c.get-in-Choose-2.ensures c.get-in-Choose-3.ensures) c.in_ok-test-in-Choose.ensures.term c.in_ok-test-in-Choose.ensures.next
    c.in_ok-first-in-Choose.ensures.term c.in_ok-first-in-Choose.ensures.next c.in_ok-second-in-Choose.ensures.term

pub link_expression-returns-in_ok-second-in-Choose-clause-next : goal.link_expression-returns-in_ok-second-in-Choose-clause-next
link_expression-returns-in_ok-second-in-Choose-clause-next t c =
    next-three choice (linked c.args.e.now) (linked c.get-in-Choose.result.now) (linked c.get-in-Choose-2.result.now) (linked c.get-in-Choose-3.result.now) c.args.next.now _ _ _ (at-Choose _ _ _ _ _ _ _ c.in-Choose.is c.get-in-Choose.ensures c.get-in-Choose-2.ensures c.get-in-Choose-3.ensures) c.in_ok-test-in-Choose.ensures.next c.in_ok-first-in-Choose.ensures.next c.in_ok-second-in-Choose.ensures.next

pub link_expression-returns-in_err-array-in-Index-clause-term : goal.link_expression-returns-in_err-array-in-Index-clause-term
link_expression-returns-in_err-array-in-Index-clause-term t c =
    again term_of is_unknown _ c.from_residual-in_err-array-in-Index.result _ c.from_residual-in_err-array-in-Index.ensures.1
    (lost-left term_of is_unknown term_of is_unknown Element (linked c.args.e.now) (linked c.get-in-Index.result.now) (linked c.in-Index.index) (scope_of c.args.scope.now) c.args.next.now _
    (at-Index _ _ _ _ _ c.in-Index.is c.get-in-Index.ensures refl) (λ x y h. first_or (is_unknown x) (is_unknown y) h) c.in_err-array-in-Index.ensures.term)
