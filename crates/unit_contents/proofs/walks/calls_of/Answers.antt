use Rattle.std.proofs.Common.{rules, tests, sym, ap, ◌∙◌}
use Rattle.std.proofs.lemmas.Iterator.{YieldsList-from_slice}
use Rattle.std.proofs.lemmas.Iterator.Search.{any_from_yields_List}
use Rattle.lowered_tree.specs.Shapes.{step_of, steps_of}
use Rattle.main_translation.specs.Contents as spec
use Rattle.unit_contents.specs.ContentsOf.{computed_in}
use Rattle.unit_contents.proofs.Lists.{list_any-map}
use Rattle.unit_contents.proofs.walks.calls_of.Goals as goal

pub returns : goal.returns
returns c = record {
  starts =
      any_from_yields_List (λ s. spec.begins_output (step_of s)) _ _ _ c.any.ensures.ran (YieldsList-from_slice c.args.steps.now cc) (λ x b q k. search (rules, tests))
      ∙ sym (list_any-map spec.begins_output step_of c.args.steps.now);
  takes =
      any_from_yields_List (λ s. spec.takes_item (step_of s)) _ _ _ c.any-2.ensures.ran (YieldsList-from_slice c.args.steps.now cc) (λ x b q k. search (rules, tests))
      ∙ sym (list_any-map spec.takes_item step_of c.args.steps.now);
  finishes =
      any_from_yields_List (λ s. spec.ends_output (step_of s)) _ _ _ c.any-3.ensures.ran (YieldsList-from_slice c.args.steps.now cc) (λ x b q k. search (rules, tests))
      ∙ sym (list_any-map spec.ends_output step_of c.args.steps.now);
  stops =
      any_from_yields_List (λ s. spec.stops_run (step_of s)) _ _ _ c.any-4.ensures.ran (YieldsList-from_slice c.args.steps.now cc) (λ x b q k. search (rules, tests))
      ∙ sym (list_any-map spec.stops_run step_of c.args.steps.now);
  functions = c.in_ok-computed_in.ensures ∙ ap (computed_in (steps_of c.args.steps.now)) c.library_functions.ensures;
}
