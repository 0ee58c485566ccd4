use Rattle.std.proofs.Common.{ap, ◌∙◌, drop, ℕ, Option}
use Rattle.edit_meaning.specs.Formats.{Item, TextIn}
use Rattle.edit_rules.specs.FormatParts.{giving, text_by, text_part}
use Rattle.edit_rules.proofs.format_parts.characters_of.Goals as goal

pub returns-clause-value : goal.returns-clause-value
unfolding text_part
returns-clause-value c =
    ap (λ (w : Option ℕ). giving c.args.times (Item (TextIn w)) (drop c.number_at-counted.result.behind c.args.text.now)) c.width_if.ensures
    ∙ ap (text_by c.args.times) c.number_at-counted.ensures.value
