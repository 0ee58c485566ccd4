use Rattle.std.proofs.Common.{List, ◌++◌, map, take, sym, ap, subst, ◌∙◌, ◌≤◌}
use Rattle.std.proofs.lemmas.List.{length-take-le}
use Rattle.std.proofs.lemmas.Result.{IfOk-weaker}
use Rattle.declaration_rows.specs.PlacingRows.{Equation, block_equations, first_items}
use Rattle.name_table.specs.Named.{texts}
use Rattle.unit_equations.specs.BlocksTold.{block_in, equation_in}
use Rattle.placing_judge.specs.Walked.{ties_in}
use Rattle.placing_judge.proofs.FrontLaws.{ties_length}
use Rattle.placing_judge.proofs.TieLaws.{standing_told}
use Rattle.placing_judge.proofs.fronts.standing_at.Goals as goal

pub slice_bounds-add_ties-end : goal.slice_bounds-add_ties-end
slice_bounds-add_ties-end c =
    sym (length-take-le c.args.front c.args.ties.now (subst (λ n. c.args.front ≤ n) (sym (ties_length c.args.unit.now c.args.ties.now c.requires.ties)) c.requires.front))

pub returns : goal.returns
returns c =
    IfOk-weaker c.names_standing.result _ _
    (λ standing told.
    standing_told c.args.unit.now c.args.ties.now c.args.front (map equation_in c.as_slice-3.result.now) (texts c.as_slice-4.result.now) standing c.requires.ties
    (ap (map equation_in) c.as_slice-3.ensures.value ∙ c.in_ok-add_ties.ensures
    ∙ ap (λ (es : List Equation). es ++ ties_in (take c.args.front c.args.ties.now))
    (c.in_ok-equations.ensures ∙ ap (λ bs. block_equations (map block_in bs)) c.as_slice.ensures.value ∙ ap block_equations c.in_ok-blocks.ensures))
    (ap texts c.as_slice-4.ensures.value ∙ c.in_ok-firsts.ensures ∙ ap (λ bs. first_items (map block_in bs)) c.as_slice-2.ensures.value ∙ ap first_items c.in_ok-blocks.ensures)
    told)
    c.names_standing.ensures
