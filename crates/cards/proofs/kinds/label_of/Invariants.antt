use Rattle.cards.proofs.LabelLemmas.{Labelling}
use Rattle.cards.proofs.kinds.label_of.Given as goal

abbrev pub invariant-loop-b : goal.invariant-loop-b
invariant-loop-b l = Labelling l.field l.b-index l.value
