use Rattle.translator.proofs.texts.whole.Goals as goal

pub returns : goal.returns
returns c = record { whole = c.in_ok-whole.whole; is = c.in_ok-whole.ensures; fitting = c.fitting.ensures }
