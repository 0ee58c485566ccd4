use Rattle.std.proofs.Common.{◌≡◌, [], ◌∷◌, ◌++◌, length}
use Rattle.item_emission.specs.NamedEmission.{dimension_at, index_expr}
use Rattle.item_emitter.proofs.IndexWalks.{index_before}
use Rattle.item_emitter.proofs.elements.index_by.Given as goal

abbrev pub invariant-loop-subscript : goal.invariant-loop-subscript
invariant-loop-subscript l = index_expr l.name (dimension_at l.dimensions) 0 (l.fn.before ++ l.fn.last ∷ []) ≡ index_before l.name (dimension_at l.dimensions) 0 l.before l.index

abbrev pub decreases-loop-subscript : goal.decreases-loop-subscript
decreases-loop-subscript l = length l.before
