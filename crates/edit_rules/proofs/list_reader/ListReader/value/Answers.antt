use Rattle.std.proofs.Common.{◌+◌, ◌-◌, drop, ap, ◌∙◌}
use Rattle.edit_meaning.specs.ListInput.{repeated_as, digit_count, count_before}
use Rattle.edit_rules.specs.Reader.{kind_of}
use Rattle.edit_rules.proofs.TakeSteps.{whole_rest}
use Rattle.edit_rules.proofs.ReaderSteps.{answers-same, value_counted}
use Rattle.edit_rules.proofs.list_reader.ListReader.value.Goals as goal

pub returns-in-Some : goal.returns-in-Some
returns-in-Some c =
    answers-same c.args.self.now c.args.line.now _ _ c.repeated.result
    (ap (λ d. repeated_as (kind_of c.args.kind) (c.in-Some.count - 1) (drop (c.args.at + d + 1) c.args.line.now)) (c.digits_len.ensures.value ∙ ap digit_count (whole_rest c.args.line.now c.args.at))
    ∙ value_counted (kind_of c.args.kind) c.args.line.now c.args.at c.in-Some.count (c.in-Some.ensures ∙ ap count_before (whole_rest c.args.line.now c.args.at)))
    c.repeated.ensures
