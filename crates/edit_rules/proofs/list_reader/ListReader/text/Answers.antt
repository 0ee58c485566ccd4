use Rattle.std.proofs.Common.{ap, ◌≤◌, length, arith, sym, ◌∙◌}
use Rattle.edit_meaning.specs.ListInput.{begins_with}
use Rattle.edit_rules.proofs.TakeSteps.{whole_rest}
use Rattle.edit_rules.proofs.ReaderSteps.{answers-same, plain_given, quoted_given, word_within}
use Rattle.edit_rules.proofs.list_reader.ListReader.text.Goals as goal

pub returns-then-is_quoted : goal.returns-then-is_quoted
returns-then-is_quoted c =
    answers-same c.args.self.now c.args.line.now _ _ c.piece.result
    (quoted_given c.args.line.now c.args.at c.args.more (sym (c.is_quoted.ensures.value ∙ ap (begins_with 39) (whole_rest c.args.line.now c.args.at)) ∙ c.if-is_quoted.true)) c.piece.ensures

pub returns : goal.returns
returns c =
    let below : c.args.end ≤ length c.args.line.now = word_within c.args.line.now c.args.at c.args.end c.requires.at c.requires.end in
    record {
      gives = plain_given c.args.line.now c.args.at c.args.end c.args.more _ c.requires.end (sym (c.is_quoted.ensures.value ∙ ap (begins_with 39) (whole_rest c.args.line.now c.args.at)) ∙ c.if-is_quoted.false) (c.behind.ensures.place c.args.line.now);
      stands = λ _. c.behind.ensures.stands c.args.line.now c.requires.at below;
      within = (omega arith, below);
      keeps = tt;
    }
