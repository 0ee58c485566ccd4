use Rattle.std.proofs.Common.{◌≡◌, suc, drop}
use Rattle.f_tree.specs.Valuing.{index_from}
use Rattle.constant_values.proofs.texts.index.Given as goal

abbrev pub invariant-loop-at : goal.invariant-loop-at
invariant-loop-at l = index_from (suc l.at) (drop l.at l.text) l.part ≡ index_from 1 l.text l.part
