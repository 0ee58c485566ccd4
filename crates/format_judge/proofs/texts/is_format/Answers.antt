use Rattle.std.proofs.Common.{◌∙◌}
use Rattle.format_judge.proofs.FormatForms.{format_by}
use Rattle.format_judge.proofs.texts.is_format.Goals as goal

pub returns : goal.returns
returns c = c.is_ok.ensures.value ∙ format_by c.args.text.now c.check_format.result c.check_format.ensures
