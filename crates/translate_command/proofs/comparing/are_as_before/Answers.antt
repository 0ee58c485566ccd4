use Rattle.std.proofs.Common.{◌∙◌, subst, sym, rules, ◌≡◌, Err, arith}
use Rattle.std.specs.Prelude.{IfErr}
use Rattle.source_files.proofs.ListLemmas.{any_default}
use Rattle.translate_command.specs.OldPrototypes.{AreNotCompared}
use Rattle.translate_command.proofs.OldLemmas.{at_begin, behind_one, differs_at, at_end, unread_one}
use Rattle.translate_command.proofs.FormLemmas.{file_at}
use Rattle.translate_command.proofs.comparing.are_as_before.Goals.{then-loop-number-test+else-number-lists, else-loop-number-test}
use Rattle.translate_command.proofs.comparing.are_as_before.Goals as goal

pub loop-number-init : goal.loop-number-init
loop-number-init g c = at_begin c.args.olds.now c.args.lists.now (g.H.Shelf.state c.args.shelf.now)

pub is_as_before-requires : goal.is_as_before-requires
is_as_before-requires g c =
    file_at c.args.olds.now c.loop-number.number c.index-olds-number.result c.requires c.loop-number-test.true
    (c.index-olds-number.is ∙ any_default c.args.olds.now c.loop-number.number _ c.index-olds-number.result c.loop-number-test.true)

pub returns-in_err-same-clause-err : goal.returns-in_err-same-clause-err
returns-in_err-same-clause-err g c =
    subst (λ result. IfErr result (AreNotCompared c.args.olds.now (g.H.Shelf.state c.args.shelf.now) (g.H.Shelf.state c.is_as_before.new.shelf)))
    (sym (let e : c.from_residual.result ≡ Err c.in_err-same.field-0.0 = search rules in e))
    (unread_one c.args.olds.now c.args.lists.now c.loop-number.number c.index-olds-number.result (g.H.Shelf.state c.args.shelf.now) (g.H.Shelf.state c.loop-number.shelf)
    (g.H.Shelf.state c.is_as_before.new.shelf) c.in_err-same.field-0.0 c.loop-number-test.true
    (c.index-olds-number.is ∙ any_default c.args.olds.now c.loop-number.number _ c.index-olds-number.result c.loop-number-test.true) c.loop-number.invariant
    c.in_err-same.ensures.err)

pub returns-then-not-same-clause-ok : goal.returns-then-not-same-clause-ok
returns-then-not-same-clause-ok g c =
    differs_at c.args.olds.now c.args.lists.now c.loop-number.number c.index-olds-number.result c.index-lists-number.result c.in_ok-same.same
    (g.H.Shelf.state c.args.shelf.now) (g.H.Shelf.state c.loop-number.shelf) (g.H.Shelf.state c.is_as_before.new.shelf) c.loop-number-test.true c.if-number-lists.true
    (c.index-olds-number.is ∙ any_default c.args.olds.now c.loop-number.number _ c.index-olds-number.result c.loop-number-test.true)
    (c.index-lists-number.is ∙ any_default c.args.lists.now c.loop-number.number _ c.index-lists-number.result c.if-number-lists.true) c.if-not-same.true
    c.loop-number.invariant c.in_ok-same.ensures.ok

pub loop-number-preserved : goal.loop-number-preserved
loop-number-preserved g c =
    behind_one c.args.olds.now c.args.lists.now c.loop-number.number c.index-olds-number.result c.index-lists-number.result c.in_ok-same.same
    (g.H.Shelf.state c.args.shelf.now) (g.H.Shelf.state c.loop-number.shelf) (g.H.Shelf.state c.is_as_before.new.shelf) c.loop-number-test.true c.if-number-lists.true
    (c.index-olds-number.is ∙ any_default c.args.olds.now c.loop-number.number _ c.index-olds-number.result c.loop-number-test.true)
    (c.index-lists-number.is ∙ any_default c.args.lists.now c.loop-number.number _ c.index-lists-number.result c.if-number-lists.true) c.if-not-same.false
    c.loop-number.invariant c.in_ok-same.ensures.ok

pub returns-clause-ok : goal.returns-clause-ok
returns-clause-ok g c =
    at_end c.args.olds.now c.args.lists.now c.loop-number.number (g.H.Shelf.state c.args.shelf.now) (g.H.Shelf.state c.loop-number.shelf)
    (elim c.loop-number-test.branch [
      | then-loop-number-test+else-number-lists w ↦ λ within few. let past = w.if-number-lists.false in omega (arith, past, few)
      | else-loop-number-test w ↦ λ within few. let past = w.loop-number-test.false in omega (arith, past, within)
    ]) c.loop-number.invariant
