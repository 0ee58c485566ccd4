use Rattle.std.proofs.Common.{List, arith}
use Rattle.found_rows.proofs.Walks.{each_more, each_end}
use Rattle.f_tree.specs.declared.statements.Control.{Control}
use Rattle.declaration_rows.specs.NameRows.{stood}
use Rattle.format_judge.specs.FormatsFound.{word_found, words_found}
use Rattle.format_judge.proofs.FormatForms.{words_step, words_end}
use Rattle.format_judge.proofs.judge.add_words_rows.Goals as goal

pub loop-control-preserved : goal.loop-control-preserved
loop-control-preserved c =
    let s = c.args.statement.now in
    let names = c.args.names.now in
    each_more (λ (cs : List Control). stood s (words_found names cs)) (λ (x : Control). stood s (word_found names x.word x.value)) (words_step names s) c.args.controls.now
    c.loop-control.control-index c.control-item.result _ _ _ _ c.loop-control-test.true c.control-item.is c.loop-control.invariant c.in_ok-add_word_row.ensures

pub returns : goal.returns
returns c =
    let s = c.args.statement.now in
    let names = c.args.names.now in
    each_end (λ (cs : List Control). stood s (words_found names cs)) (λ (x : Control). stood s (word_found names x.word x.value)) (words_end names s) c.args.controls.now
    c.loop-control.control-index _ _ (omega arith) c.loop-control.invariant
