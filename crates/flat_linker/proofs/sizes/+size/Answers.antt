use Rattle.std.proofs.Common.{refl, sym, ap, ◌∙◌, ◌+◌, arith}
use Rattle.c_tree.specs.FlatForm.{body_of_all}
use Rattle.flat_linker.proofs.StatementForms.{at-Set, at-SetCall, at-Call, at-Empty, at-Block, at-Label, at-Goto, at-Return, at-ReturnCall, at-only, at-both, at-Switch, at-For, at-DoWhile}
use Rattle.flat_linker.proofs.SizeLaws.{if-as, two_sum, all-first, size-more, size-end}
use Rattle.flat_linker.proofs.sizes.+size.Goals as goal

pub statement_size-returns-in-Set : goal.statement_size-returns-in-Set
statement_size-returns-in-Set t c = sym (ap (λ b. b.size) (at-Set _ _ _ c.in-Set.is))

pub statement_size-returns-in-SetCall : goal.statement_size-returns-in-SetCall
statement_size-returns-in-SetCall t c = sym (ap (λ b. b.size) (at-SetCall _ _ _ c.in-SetCall.is))

pub statement_size-returns-in-Call : goal.statement_size-returns-in-Call
statement_size-returns-in-Call t c = sym (ap (λ b. b.size) (at-Call _ _ c.in-Call.is))

pub statement_size-returns-in-Empty : goal.statement_size-returns-in-Empty
statement_size-returns-in-Empty t c = sym (ap (λ b. b.size) (at-Empty _ c.in-Empty.is))

pub statement_size-returns-in-Goto : goal.statement_size-returns-in-Goto
statement_size-returns-in-Goto t c = sym (ap (λ b. b.size) (at-Goto _ _ _ c.in-Goto.is refl))

pub statement_size-returns-in-Return : goal.statement_size-returns-in-Return
statement_size-returns-in-Return t c = sym (ap (λ b. b.size) (at-Return _ _ c.in-Return.is))

pub statement_size-returns-in-ReturnCall : goal.statement_size-returns-in-ReturnCall
statement_size-returns-in-ReturnCall t c = sym (ap (λ b. b.size) (at-ReturnCall _ _ c.in-ReturnCall.is))

pub statement_size-returns-in-Block : goal.statement_size-returns-in-Block
statement_size-returns-in-Block t c = if-as c.statements_size.result _ _ (ap (λ b. b.size) (at-Block _ _ _ c.in-Block.is c.as_slice.ensures)) c.statements_size.ensures

pub statement_size-returns-in-Label : goal.statement_size-returns-in-Label
statement_size-returns-in-Label t c = if-as c.statement_size.result _ _ (ap (λ b. b.size) (at-Label _ _ _ _ c.in-Label.is c.get.ensures)) c.statement_size.ensures

pub statement_size-returns-in-None : goal.statement_size-returns-in-None
statement_size-returns-in-None t c =
    if-as c.plus.result _ _ (ap (λ b. b.size) (at-only _ _ _ _ _ c.in-If.is c.in-None.is c.as_slice-in-If.ensures) ∙ ap (λ n. 1 + n) (sym c.in_ok-size-in-If.ensures)) c.plus.ensures

pub statement_size-returns-in_ok-both-in-Some : goal.statement_size-returns-in_ok-both-in-Some
statement_size-returns-in_ok-both-in-Some t c =
    if-as c.plus-in-Some-2.result _ _
    (ap (λ b. b.size) (at-both _ _ _ _ _ _ _ c.in-If.is c.in-Some.is c.as_slice-in-If.ensures c.as_slice-in-Some.ensures)
    ∙ two_sum (body_of_all c.as_slice-in-If.result.now).size (body_of_all c.as_slice-in-Some.result.now).size c.in_ok-both-in-Some.both
    (c.in_ok-both-in-Some.ensures ∙ ap (λ n. n + c.in_ok-statements_size-in-Some.field-0) c.in_ok-size-in-If.ensures ∙ ap (λ n. (body_of_all c.as_slice-in-If.result.now).size + n) c.in_ok-statements_size-in-Some.ensures))
    c.plus-in-Some-2.ensures

pub statement_size-returns-in-Switch : goal.statement_size-returns-in-Switch
statement_size-returns-in-Switch t c =
    if-as c.plus-in-Switch.result _ _ (ap (λ b. b.size) (at-Switch _ _ _ _ c.in-Switch.is refl) ∙ ap (λ n. 1 + n) (sym c.len.ensures)) c.plus-in-Switch.ensures

pub statement_size-returns-in_ok-size-in-For : goal.statement_size-returns-in_ok-size-in-For
statement_size-returns-in_ok-size-in-For t c =
    if-as c.plus-in-For.result _ _ (ap (λ b. b.size) (at-For _ _ _ _ _ _ _ c.in-For.is c.as_slice-in-For.ensures) ∙ ap (λ n. 4 + n) (sym c.in_ok-size-in-For.ensures)) c.plus-in-For.ensures

pub statement_size-returns-in_ok-size-in-DoWhile : goal.statement_size-returns-in_ok-size-in-DoWhile
statement_size-returns-in_ok-size-in-DoWhile t c =
    if-as c.plus-in-DoWhile.result _ _ (ap (λ b. b.size) (at-DoWhile _ _ _ _ c.in-DoWhile.is c.as_slice-in-DoWhile.ensures) ∙ ap (λ n. n + 1) (sym c.in_ok-size-in-DoWhile.ensures)) c.plus-in-DoWhile.ensures

pub statements_size-loop-one-init : goal.statements_size-loop-one-init
statements_size-loop-one-init t c = all-first c.args.list.now

pub statements_size-loop-one-preserved : goal.statements_size-loop-one-preserved
statements_size-loop-one-preserved t c =
    size-more c.args.list.now c.loop-one.one-index c.one-item.result _ c.loop-one.size _ _ c.loop-one-test.true c.one-item.is c.loop-one.invariant c.in_ok-statement_size.ensures c.in_ok-size.ensures

pub statements_size-returns : goal.statements_size-returns
statements_size-returns t c = size-end c.args.list.now c.loop-one.one-index _ c.loop-one.size (omega arith) c.loop-one.invariant
