use Rattle.std.proofs.Common.{◌≡◌, ℕ, ◌<◌, ◌≤◌, List, length, get_or, Option, None, refl, sym, ap, subst, ◌∙◌}
use Rattle.std.proofs.lemmas.List.{get_or_read}
use Rattle.f_tree.specs.declared.statements.Stmt.{Stmt}
use Rattle.f_tree.specs.Lines.{unit_read}
use Rattle.declaration_rows.specs.UnitRows.{range_in}
use Rattle.loop_ranges.specs.LoopForms.{form_of}
use Rattle.statements_judge.specs.UnitLoops.{range_ends}
use Rattle.statements_judge.proofs.RowLemmas.{is_at, statement_first, first_begin, first_more, first_end}
use Rattle.statements_judge.proofs.judge.statements_fault.Goals as goal

pub loop-place-init : goal.loop-place-init
loop-place-init c = λ options. first_begin _

pub loop-place-preserved : goal.loop-place-preserved
loop-place-preserved c = λ options.
    let u = c.args.unit.now in
    let i = c.loop-place.place in
    let s = c.index-statements-place.result in
    let same = c.as_slice-statements.ensures in
    let within : i < length u.statements = subst (λ (ss : List Stmt). i < length ss) same c.loop-place-test.true in
    let is : s ≡ get_or u.statements i s = c.index-statements-place.is ∙ ap (λ (ss : List Stmt). get_or ss i s) same in
    let ends : List (Option ℕ) = c.in_ok-terminals.terminals.items in
    let known : i < length ends = subst (λ n. i < n) (sym c.in_ok-terminals.ensures.count) within in
    let end : c.index.result.now ≡ get_or ends i None = get_or_read ends i c.index.result.now known c.index.ensures None in
    first_more options u i s s c.loop-place.first c.statement_fault.result c.earlier_of-first.result _ within is (c.loop-place.invariant options)
    (c.statement_fault.ensures
    ∙ statement_first options u i _ s (get_or ends i None)
    (is_at u c.as_slice-statements.result.now c.in_ok-labels.labels _ c.requires refl refl c.in_ok-labels.ensures same)
    (c.in_ok-terminals.ensures.ranges options i s within ∙ ap (λ (t : Stmt). range_in (unit_read options u) i t.body) (sym is))
    (c.range_ends.ensures ∙ ap (λ (ss : List Stmt). range_ends ss (form_of s.body) i c.index.result.now) same ∙ ap (range_ends u.statements (form_of s.body) i) end))
    c.earlier_of-first.ensures

pub returns : goal.returns
returns c = λ options.
    first_end options c.args.unit.now c.loop-place.place c.loop-place.first _
    (subst (λ (ss : List Stmt). length ss ≤ c.loop-place.place) c.as_slice-statements.ensures c.loop-place-test.false) (c.loop-place.invariant options)
