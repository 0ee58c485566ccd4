use Rattle.std.proofs.Common.{◌∙◌}
use Rattle.translator.proofs.TextLemmas.{if_ok}
use Rattle.translator.proofs.functions.constants_of.Goals as goal

pub returns : goal.returns
returns c = if_ok _ _ c.listed_constants.result (λ list is us told. is ∙ c.in_ok-constants.ensures us told) c.listed_constants.ensures
