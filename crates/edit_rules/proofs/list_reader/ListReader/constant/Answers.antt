use Rattle.std.proofs.Common.{ap, ◌∙◌}
use Rattle.edit_meaning.specs.ListInput.{word_length}
use Rattle.edit_rules.proofs.TakeSteps.{whole_rest}
use Rattle.edit_rules.proofs.ReaderSteps.{answers-same, int_given, truth_given}
use Rattle.edit_rules.proofs.list_reader.ListReader.constant.Goals as goal

pub returns-in-Int : goal.returns-in-Int
returns-in-Int c =
    answers-same c.args.self.now c.args.line.now _ _ c.number.result
    (int_given c.args.kind c.args.line.now c.args.at c.word_len.result c.args.more _ _ c.in-Int.is (c.word_len.ensures.value ∙ ap word_length (whole_rest c.args.line.now c.args.at)) c.read_int.ensures (c.behind.ensures.place c.args.line.now)) c.number.ensures

pub returns-in-Logical : goal.returns-in-Logical
returns-in-Logical c =
    answers-same c.args.self.now c.args.line.now _ _ c.truth.result
    (truth_given c.args.kind c.args.line.now c.args.at c.word_len.result c.args.more _ _ c.in-Logical.is (c.word_len.ensures.value ∙ ap word_length (whole_rest c.args.line.now c.args.at)) c.read_logical.ensures (c.behind-in-Logical.ensures.place c.args.line.now)) c.truth.ensures
