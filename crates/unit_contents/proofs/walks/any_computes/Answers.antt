use Rattle.std.proofs.Common.{rules, tests, sym, ◌∙◌}
use Rattle.std.proofs.lemmas.Iterator.{YieldsList-from_slice}
use Rattle.std.proofs.lemmas.Iterator.Search.{any_from_yields_List}
use Rattle.lowered_tree.specs.Shapes.{step_of}
use Rattle.library_functions.specs.Described.{described}
use Rattle.main_translation.specs.Contents as spec
use Rattle.unit_contents.proofs.Lists.{list_any-map}
use Rattle.unit_contents.proofs.walks.any_computes.Goals as goal

pub returns : goal.returns
returns c =
    any_from_yields_List (λ s. spec.computes (described c.args.one.now) (step_of s)) _ _ _ c.any.ensures.ran (YieldsList-from_slice c.args.steps.now cc) (λ x b q k. search (rules, tests))
    ∙ sym (list_any-map (spec.computes (described c.args.one.now)) step_of c.args.steps.now)
