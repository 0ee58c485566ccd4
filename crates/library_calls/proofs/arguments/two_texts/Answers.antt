use Rattle.library_calls.proofs.TextLemmas.{text-short}
use Rattle.library_calls.proofs.arguments.two_texts.Goals as goal

pub returns-clause-short : goal.returns-clause-short
returns-clause-short c = text-short c.args.run.now c.args.first c.in_ok-size.size c.in_ok-left.left.now c.in_ok-left.ensures c.in_ok-size.ensures.small
