use Rattle.std.proofs.Common.{List, ◌++◌, map, ap, ◌∙◌}
use Rattle.std.specs.Prelude.{option_to_list}
use Rattle.f_tree.specs.Lines.{controls_written}
use Rattle.lowered_tree.specs.declared.steps.Word.{Word}
use Rattle.lowered_tree.specs.Shapes.{word_of}
use Rattle.statement_lowering.proofs.ControlWords.{words-walk, words-done}
use Rattle.statement_lowering.proofs.controls.words_in.Goals as goal

pub loop-control-init : goal.loop-control-init
loop-control-init c = λ way names. ap (λ (ws : List Word). map word_of ws ++ (controls_written way names c.args.controls.now).words) c.new-words.ensures

pub loop-control-preserved : goal.loop-control-preserved
loop-control-preserved c = λ way names.
    words-walk way names c.args.controls.now c.loop-control.control-index c.control-item.result (map word_of c.loop-control.words) (map word_of c.add_word.new.words)
    (controls_written way names c.args.controls.now).words c.loop-control-test.true c.control-item.is (c.loop-control.invariant way names)
    (c.in_ok-add_word.ensures ∙ ap (λ o. map word_of c.loop-control.words ++ option_to_list o) c.word_of.ensures)

pub returns : goal.returns
returns c = λ way names.
    words-done way names c.args.controls.now c.loop-control.control-index (map word_of c.loop-control.words) (controls_written way names c.args.controls.now).words
    c.loop-control-test.false (c.loop-control.invariant way names)
