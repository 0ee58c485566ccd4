use Rattle.text_behind.proofs.BehindLemmas.{steps-joined}
use Rattle.text_behind.proofs.steps.steps_behind.Goals as goal

pub returns : goal.returns
returns c = steps-joined c.args.first c.in_ok-all.all.items c.args.steps.items c.append.new.self.items c.in_ok-append.ensures.items c.in_ok-all.ensures
