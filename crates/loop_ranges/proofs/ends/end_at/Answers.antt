use Rattle.std.proofs.Common.{◌-◌, get_or, reverse, ap, ◌∙◌, arith}
use Rattle.name_table.specs.Named.{labelled}
use Rattle.loop_ranges.specs.LoopEnds.{is_named, end_by, closers_by}
use Rattle.loop_ranges.proofs.EndLemmas.{closer_popped, closers_popped}
use Rattle.loop_ranges.proofs.ends.end_at.Goals as goal

pub returns-in-ToLabel-clause-end : goal.returns-in-ToLabel-clause-end
unfolding end_by
returns-in-ToLabel-clause-end c = c.get.ensures ∙ ap (λ f. end_by (labelled c.args.labels.now.places) f (reverse c.args.closers.now.items)) c.in-ToLabel.ensures

pub returns-in-ToLabel-clause-closers : goal.returns-in-ToLabel-clause-closers
unfolding closers_by
returns-in-ToLabel-clause-closers c =
    ap (λ f. closers_by f (is_named c.args.labels.now c.args.statement.now.label) c.args.place (reverse c.args.closers.now.items)) c.in-ToLabel.ensures

pub returns-in-ToEndDo-clause-end : goal.returns-in-ToEndDo-clause-end
returns-in-ToEndDo-clause-end c =
    let closers = c.args.closers.now in
    closer_popped (labelled c.args.labels.now.places) closers.items _ closers.len (λ d. get_or closers.items (closers.len - 1) d) c.pop.result c.pop.ensures.items (omega (arith, closers.ok.0))
    c.pop.ensures.value
    ∙ ap (λ f. end_by (labelled c.args.labels.now.places) f (reverse closers.items)) c.in-ToEndDo.ensures

pub returns-in-ToEndDo-clause-closers : goal.returns-in-ToEndDo-clause-closers
returns-in-ToEndDo-clause-closers c =
    let closers = c.args.closers.now in
    closers_popped (is_named c.args.labels.now c.args.statement.now.label) c.args.place closers.items _ closers.len (λ d. get_or closers.items (closers.len - 1) d) c.pop.result
    c.pop.ensures.items (omega (arith, closers.ok.0)) c.pop.ensures.value
    ∙ ap (λ f. closers_by f (is_named c.args.labels.now c.args.statement.now.label) c.args.place (reverse closers.items)) c.in-ToEndDo.ensures

pub returns-in_ok-note_closer-in-EndDo-clause-end : goal.returns-in_ok-note_closer-in-EndDo-clause-end
unfolding end_by
returns-in_ok-note_closer-in-EndDo-clause-end c = ap (λ f. end_by (labelled c.args.labels.now.places) f (reverse c.args.closers.now.items)) c.in-EndDo.ensures

pub returns-in_ok-note_closer-in-EndDo-clause-closers : goal.returns-in_ok-note_closer-in-EndDo-clause-closers
unfolding closers_by
returns-in_ok-note_closer-in-EndDo-clause-closers c =
    c.in_ok-note_closer-in-EndDo.ensures
    ∙ ap (λ f. closers_by f (is_named c.args.labels.now c.args.statement.now.label) c.args.place (reverse c.args.closers.now.items)) c.in-EndDo.ensures

pub returns-in-Other-clause-end : goal.returns-in-Other-clause-end
unfolding end_by
returns-in-Other-clause-end c = ap (λ f. end_by (labelled c.args.labels.now.places) f (reverse c.args.closers.now.items)) c.in-Other.ensures

pub returns-in-Other-clause-closers : goal.returns-in-Other-clause-closers
unfolding closers_by
returns-in-Other-clause-closers c =
    ap (λ f. closers_by f (is_named c.args.labels.now c.args.statement.now.label) c.args.place (reverse c.args.closers.now.items)) c.in-Other.ensures
