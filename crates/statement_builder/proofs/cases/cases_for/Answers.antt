use Rattle.std.proofs.Common.{Some, ◌+◌, ◌<◌, length, refl, sym, ap, ◌∙◌, take, arith}
use Rattle.named_items.specs.Layouts.{layout_of}
use Rattle.statement_builder.specs.SwitchCases.{case_at}
use Rattle.statement_builder.proofs.Building.{get_less}
use Rattle.statement_builder.proofs.BuiltCases.{found_first, found_done, found_none, found_more}
use Rattle.statement_builder.proofs.cases.cases_for.Goals as goal

pub loop-index-init : goal.loop-index-init
loop-index-init c = found_first (layout_of c.args.layout.now) (c.args.span.position + 1) c.args.cases.now (take c.args.span.count c.args.items.now.items) c.new-found.result.items c.new-found.ensures.items

pub returns-in-None : goal.returns-in-None
returns-in-None c =
    let less : c.loop-index.index < length c.args.cases.now = c.loop-index-test.true in
    let room = c.requires.room in
    let inside : c.loop-index.index < c.args.span.count = omega (arith, less, room) in
    found_none (layout_of c.args.layout.now) (c.args.span.position + 1) c.args.cases.now (take c.args.span.count c.args.items.now.items) c.loop-index.found.items c.loop-index.index c.loop-index.invariant _ _ less refl
    (sym c.in-None.is ∙ c.in_ok-case.ensures
    ∙ ap (case_at (layout_of c.args.layout.now) (c.args.span.position + 1 + c.loop-index.index) _) (c.at.ensures ∙ sym (get_less c.loop-index.index c.args.span.count c.args.items.now.items inside)))

pub loop-index-preserved : goal.loop-index-preserved
loop-index-preserved c =
    let less : c.loop-index.index < length c.args.cases.now = c.loop-index-test.true in
    let room = c.requires.room in
    let inside : c.loop-index.index < c.args.span.count = omega (arith, less, room) in
    found_more (layout_of c.args.layout.now) (c.args.span.position + 1) c.args.cases.now (take c.args.span.count c.args.items.now.items) c.loop-index.found.items c.loop-index.index c.loop-index.invariant _ _ c.in-Some.case _ _ less refl
    (sym c.in-Some.is ∙ c.in_ok-case.ensures
    ∙ ap (case_at (layout_of c.args.layout.now) (c.args.span.position + 1 + c.loop-index.index) _) (c.at.ensures ∙ sym (get_less c.loop-index.index c.args.span.count c.args.items.now.items inside)))
    c.in_ok-push-in-Some.ensures.items refl

pub returns : goal.returns
returns c =
    ap Some c.from_vec.ensures
    ∙ found_done (layout_of c.args.layout.now) (c.args.span.position + 1) c.args.cases.now (take c.args.span.count c.args.items.now.items) c.loop-index.found.items c.loop-index.index c.loop-index.invariant c.loop-index-test.false
