use Rattle.std.proofs.Common.{◌≡◌, ◌+◌, ◌<◌, length, get_or, arith, ap, ◌∙◌}
use Rattle.edit_meaning.specs.ListInput.{run_length}
use Rattle.edit_rules.proofs.TakeSteps.{whole_rest}
use Rattle.edit_rules.proofs.ReaderSteps.{run_two, run_one}
use Rattle.edit_rules.proofs.list_reader.ListReader.run.Goals as goal
use Rattle.edit_rules.proofs.list_reader.ListReader.run.Goals.{else-to-line-via-then-to-line+else-line-to-eq39, else-to-line-via-else-to-line}

pub returns-then-line-to-eq39 : goal.returns-then-line-to-eq39
returns-then-line-to-eq39 c =
    run_two c.args.self.now c.args.line.now c.args.from _ c.args.more c.args.constant c.requires.from c.requires.constant
    (ap (λ n. c.args.from + n) (c.run_len.ensures.value ∙ ap run_length (whole_rest c.args.line.now c.args.from))) c.if-to-line.true c.if-line-to-eq39.true

pub returns-then-to-line-2 : goal.returns-then-to-line-2
returns-then-to-line-2 c =
    let single : c.args.from + c.run_len.result + 1 < length c.args.line.now → get_or c.args.line.now (c.args.from + c.run_len.result + 1) 0 ≡ 39 → ⊥ =
    elim c.else-to-line.branch [ else-to-line-via-then-to-line+else-line-to-eq39 w ↦ (λ _ e. w.if-line-to-eq39.false e) | else-to-line-via-else-to-line w ↦ (λ h _. omega (arith, w.if-to-line.false)) ] in
    run_one c.args.self.now c.args.line.now c.args.from _ c.args.more c.args.constant c.behind-reader.result c.requires.from c.requires.constant
    (ap (λ n. c.args.from + n) (c.run_len.ensures.value ∙ ap run_length (whole_rest c.args.line.now c.args.from))) c.if-to-line-2.true single
    (c.behind-reader.ensures.place c.args.line.now) (c.behind-reader.ensures.stands c.args.line.now c.requires.constant (omega arith))
