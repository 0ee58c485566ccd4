use Rattle.std.proofs.Common.{◌≡◌, ◌-◌, ◌∷◌, [], ◌++◌, sym, ap, ◌∙◌, arith}
use Rattle.unit_writer.specs.Told.{dimension_told, dimensions_told}
use Rattle.unit_writer.proofs.DimensionLaws.{dimensions_more, dimensions_end}
use Rattle.unit_writer.proofs.telling.dimensions.Goals as goal

pub loop-place-init : goal.loop-place-init
loop-place-init c =
    let told = dimensions_told (dimension_told c.args.kept.now c.args.name.now c.args.bounds.now) 0 in
    let all : c.args.rank ≡ c.args.rank - 0 = omega arith in
    ap told all ∙ ap (λ done. done ++ told (c.args.rank - 0)) (sym c.new-found.ensures.items)

pub loop-place-preserved : goal.loop-place-preserved
loop-place-preserved c =
    dimensions_more (dimension_told c.args.kept.now c.args.name.now c.args.bounds.now) c.loop-place.place c.args.rank _ _ _ c.loop-place-test.true c.loop-place.invariant
    (c.in_ok-push.ensures.items ∙ ap (λ d. c.loop-place.found.items ++ d ∷ []) c.dimension_at.ensures)

pub returns : goal.returns
returns c = dimensions_end (dimension_told c.args.kept.now c.args.name.now c.args.bounds.now) c.loop-place.place c.args.rank _ _ (omega arith) c.loop-place.invariant
