use Rattle.item_emission.specs.NamedEmission.{dimension_at}
use Rattle.item_emitter.proofs.IndexWalks.{index-none, index-some}
use Rattle.item_emitter.proofs.elements.index.Goals as goal

pub returns-in-None : goal.returns-in-None
returns-in-None c = index-none c.args.name.now (dimension_at c.args.dimensions.now) c.args.subscripts c.count.result c.in-None.ensures.0 c.count.ensures

pub returns-in-Some : goal.returns-in-Some
returns-in-Some c = index-some c.args.name.now (dimension_at c.args.dimensions.now) c.args.subscripts c.pop.new.self c.in-Some.last c.index_by.result c.in-Some.ensures c.index_by.ensures
