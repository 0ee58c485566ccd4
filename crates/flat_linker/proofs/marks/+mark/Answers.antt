use Rattle.std.proofs.Common.{◌≡◌, refl, sym, ap, ◌∙◌, ℕ, ◌+◌, ◌∷◌, arith}
use Rattle.c_tree.specs.FlatForm.{body, body_of_all}
use Rattle.flat_linker.proofs.StatementForms.{at-Set, at-SetCall, at-Call, at-Empty, at-Block, at-Label, at-Goto, at-Return, at-ReturnCall, at-only, at-both, at-Switch, at-For, at-DoWhile}
use Rattle.flat_linker.proofs.MarkLaws.{plain-arm, arm-as, arm-more, arm-among, marked-among, both-arms, marked-one, finish-more, finish-end}
use Rattle.flat_linker.proofs.marks.+mark.Goals as goal

four : (s : ℕ) → 4 + s ≡ 2 + (s + 2)
four s = omega arith

one_more : (s : ℕ) → s + 1 ≡ 0 + (s + 1)
one_more s = omega arith

none_before : (s : ℕ) → s ≡ 0 + s
none_before s = omega arith

one_before : (s : ℕ) → 1 + s ≡ 1 + (s + 0)
one_before s = omega arith

none_more : (p : ℕ) → p ≡ p + 0
none_more p = omega arith

pub mark_statement-returns-in-Set : goal.mark_statement-returns-in-Set
mark_statement-returns-in-Set t c =
    plain-arm c.plus.result (body c.args.one.now) 1 c.args.position c.args.marks.now (ap (λ b. b.labels c.args.position) (at-Set _ _ _ c.in-Set.is)) (ap (λ b. b.size) (at-Set _ _ _ c.in-Set.is)) c.plus.ensures

pub mark_statement-returns-in-SetCall : goal.mark_statement-returns-in-SetCall
mark_statement-returns-in-SetCall t c =
    plain-arm c.plus-in-SetCall.result (body c.args.one.now) 1 c.args.position c.args.marks.now (ap (λ b. b.labels c.args.position) (at-SetCall _ _ _ c.in-SetCall.is)) (ap (λ b. b.size) (at-SetCall _ _ _ c.in-SetCall.is)) c.plus-in-SetCall.ensures

pub mark_statement-returns-in-Call : goal.mark_statement-returns-in-Call
mark_statement-returns-in-Call t c =
    plain-arm c.plus-in-Call.result (body c.args.one.now) 1 c.args.position c.args.marks.now (ap (λ b. b.labels c.args.position) (at-Call _ _ c.in-Call.is)) (ap (λ b. b.size) (at-Call _ _ c.in-Call.is)) c.plus-in-Call.ensures

pub mark_statement-returns-in-Empty : goal.mark_statement-returns-in-Empty
mark_statement-returns-in-Empty t c =
    plain-arm c.plus-in-Empty.result (body c.args.one.now) 1 c.args.position c.args.marks.now (ap (λ b. b.labels c.args.position) (at-Empty _ c.in-Empty.is)) (ap (λ b. b.size) (at-Empty _ c.in-Empty.is)) c.plus-in-Empty.ensures

pub mark_statement-returns-in-Goto : goal.mark_statement-returns-in-Goto
mark_statement-returns-in-Goto t c =
    plain-arm c.plus-in-Goto.result (body c.args.one.now) 1 c.args.position c.args.marks.now (ap (λ b. b.labels c.args.position) (at-Goto _ _ _ c.in-Goto.is refl)) (ap (λ b. b.size) (at-Goto _ _ _ c.in-Goto.is refl)) c.plus-in-Goto.ensures

pub mark_statement-returns-in-Return : goal.mark_statement-returns-in-Return
mark_statement-returns-in-Return t c =
    plain-arm c.plus-in-Return.result (body c.args.one.now) 1 c.args.position c.args.marks.now (ap (λ b. b.labels c.args.position) (at-Return _ _ c.in-Return.is)) (ap (λ b. b.size) (at-Return _ _ c.in-Return.is)) c.plus-in-Return.ensures

pub mark_statement-returns-in-ReturnCall : goal.mark_statement-returns-in-ReturnCall
mark_statement-returns-in-ReturnCall t c =
    plain-arm c.plus-in-ReturnCall.result (body c.args.one.now) 2 c.args.position c.args.marks.now (ap (λ b. b.labels c.args.position) (at-ReturnCall _ _ c.in-ReturnCall.is)) (ap (λ b. b.size) (at-ReturnCall _ _ c.in-ReturnCall.is)) c.plus-in-ReturnCall.ensures

pub mark_statement-returns-in-Block : goal.mark_statement-returns-in-Block
mark_statement-returns-in-Block t c =
    let e = at-Block _ _ _ c.in-Block.is c.as_slice.ensures in
    arm-as c.mark_statements.result _ _ _ _ c.args.position c.args.marks.now c.mark_statements.new.marks (ap (λ b. b.labels c.args.position) e) (ap (λ b. b.size) e) c.mark_statements.ensures

pub mark_statement-returns-in_ok-give-in-Label : goal.mark_statement-returns-in_ok-give-in-Label
mark_statement-returns-in_ok-give-in-Label t c =
    let e = at-Label _ _ _ _ c.in-Label.is c.get.ensures in
    arm-as c.mark_statement.result _ _ _ _ c.args.position c.args.marks.now c.mark_statement.new.marks
    (ap (λ b. b.labels c.args.position) e ∙ ap (λ name. record { name = name; position = c.args.position } ∷ (body c.get.result.now).labels c.args.position) (sym c.as_slice-in-Label.ensures))
    (ap (λ b. b.size) e ∙ none_before _)
    (arm-more c.mark_statement.result _ _ 0 _ c.args.position c.args.position c.args.marks.now c.give.new.self c.mark_statement.new.marks
    (marked-one c.as_slice-in-Label.result.now c.args.position c.args.marks.now c.give.new.self c.in_ok-give-in-Label.ensures) c.mark_statement.ensures)

pub mark_statement-returns-in-None : goal.mark_statement-returns-in-None
mark_statement-returns-in-None t c =
    let e = at-only _ _ _ _ _ c.in-If.is c.in-None.is c.as_slice-in-If.ensures in
    marked-among _ _ _ _ 1 0 c.args.position c.in_ok-arm-in-If.arm c.in_ok-behind-in-If.behind c.in_ok-behind-in-If.behind c.args.marks.now c.mark_statements-in-If.new.marks
    (ap (λ b. b.labels c.args.position) e ∙ ap (λ p. (body_of_all c.as_slice-in-If.result.now).labels p) (sym c.in_ok-arm-in-If.ensures))
    (ap (λ b. b.size) e ∙ one_before _) c.in_ok-arm-in-If.ensures (none_more _) c.in_ok-behind-in-If.ensures

pub mark_statement-returns-in_ok-arm-in-Some : goal.mark_statement-returns-in_ok-arm-in-Some
mark_statement-returns-in_ok-arm-in-Some t c =
    let e = at-both _ _ _ _ _ _ _ c.in-If.is c.in-Some.is c.as_slice-in-If.ensures c.as_slice-in-Some.ensures in
    arm-as c.mark_statements-in-Some.result _ _ _ _ c.args.position c.args.marks.now c.mark_statements-in-Some.new.marks (ap (λ b. b.labels c.args.position) e) (ap (λ b. b.size) e)
    (both-arms c.in-If.field-0 (body_of_all c.as_slice-in-If.result.now) (body_of_all c.as_slice-in-Some.result.now) c.args.position c.in_ok-arm-in-If.arm c.in_ok-behind-in-If.behind c.in_ok-arm-in-Some.arm
    c.args.marks.now c.mark_statements-in-If.new.marks c.mark_statements-in-Some.new.marks c.mark_statements-in-Some.result c.in_ok-arm-in-If.ensures c.in_ok-arm-in-Some.ensures c.in_ok-behind-in-If.ensures c.mark_statements-in-Some.ensures)

pub mark_statement-returns-in_ok-size-in-Switch : goal.mark_statement-returns-in_ok-size-in-Switch
mark_statement-returns-in_ok-size-in-Switch t c =
    let e = at-Switch _ _ _ _ c.in-Switch.is refl in
    plain-arm c.plus-in-Switch-2.result (body c.args.one.now) c.in_ok-size-in-Switch.size c.args.position c.args.marks.now (ap (λ b. b.labels c.args.position) e)
    (ap (λ b. b.size) e ∙ ap (λ n. 1 + n) (sym c.len.ensures) ∙ sym c.in_ok-size-in-Switch.ensures) c.plus-in-Switch-2.ensures

pub mark_statement-returns-in_ok-behind-in-For : goal.mark_statement-returns-in_ok-behind-in-For
mark_statement-returns-in_ok-behind-in-For t c =
    let e = at-For _ _ _ _ _ _ _ c.in-For.is c.as_slice-in-For.ensures in
    arm-among c.plus-in-For-2.result _ _ _ _ 2 2 c.args.position c.in_ok-first-in-For.first c.in_ok-behind-in-For.behind c.args.marks.now c.mark_statements-in-For.new.marks
    (ap (λ b. b.labels c.args.position) e ∙ ap (λ p. (body_of_all c.as_slice-in-For.result.now).labels p) (sym c.in_ok-first-in-For.ensures))
    (ap (λ b. b.size) e ∙ four _) c.in_ok-first-in-For.ensures c.plus-in-For-2.ensures c.in_ok-behind-in-For.ensures

pub mark_statement-returns-in_ok-behind-in-DoWhile : goal.mark_statement-returns-in_ok-behind-in-DoWhile
mark_statement-returns-in_ok-behind-in-DoWhile t c =
    let e = at-DoWhile _ _ _ _ c.in-DoWhile.is c.as_slice-in-DoWhile.ensures in
    arm-among c.plus-in-DoWhile.result _ _ _ _ 0 1 c.args.position c.args.position c.in_ok-behind-in-DoWhile.behind c.args.marks.now c.mark_statements-in-DoWhile.new.marks
    (ap (λ b. b.labels c.args.position) e)
    (ap (λ b. b.size) e ∙ one_more _) (none_more _) c.plus-in-DoWhile.ensures c.in_ok-behind-in-DoWhile.ensures

pub mark_statements-loop-one-init : goal.mark_statements-loop-one-init
mark_statements-loop-one-init t c = λ behind now h. h

pub mark_statements-loop-one-preserved : goal.mark_statements-loop-one-preserved
mark_statements-loop-one-preserved t c =
    finish-more c.args.list.now c.loop-one.one-index c.one-item.result c.args.position c.loop-one.behind _ c.args.marks.now c.loop-one.marks c.mark_statement.new.marks
    c.loop-one-test.true c.one-item.is c.loop-one.invariant c.in_ok-behind.ensures

pub mark_statements-returns : goal.mark_statements-returns
mark_statements-returns t c =
    finish-end c.args.list.now c.loop-one.one-index c.args.position c.loop-one.behind c.args.marks.now c.loop-one.marks (omega arith) c.loop-one.invariant
