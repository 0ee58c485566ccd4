use Rattle.std.proofs.Common.{◌≡◌, ◌<◌, ◌≤◌, ℕ, ◌+◌, ◌++◌, List, length, get_or, refl, ap, subst, ◌∙◌}
use Rattle.found_rows.proofs.Walks.{walk_more, walk_end}
use Rattle.f_tree.specs.declared.statements.Stmt.{Stmt}
use Rattle.f_tree.specs.Lines.{unit_read}
use Rattle.declaration_rows.specs.BlockRows.{block_rows_from, unit_block_rows}
use Rattle.block_judge.specs.Blocks.{AreBlocks}
use Rattle.block_judge.proofs.RowLemmas.{row_of, row_is, block_step, block_none, told}
use Rattle.block_judge.proofs.faults.add_block_rows.Goals as goal

pub loop-place-init : goal.loop-place-init
loop-place-init c = λ options. refl

pub loop-place-preserved : goal.loop-place-preserved
loop-place-preserved c = λ options.
    let u = c.args.unit.now in
    let i = c.loop-place.place in
    let s = c.index-statements-place.result in
    let same = c.as_slice-statements.ensures in
    let within : i < length u.statements = subst (λ (ss : List Stmt). i < length ss) same c.loop-place-test.true in
    let is : s ≡ get_or u.statements i s = c.index-statements-place.is ∙ ap (λ (ss : List Stmt). get_or ss i s) same in
    walk_more (λ (n : ℕ) ss. block_rows_from u (unit_read options u) n ss) (λ (n : ℕ) (t : Stmt). row_of options u n t) (λ (n : ℕ) (t : Stmt). n + 1) (block_step options u)
    u.statements i s s i _ _ _ _ within is (c.loop-place.invariant options)
    (c.in_ok-add_statement_rows.ensures u.statements (subst (λ (ss : List Stmt). AreBlocks ss c.in_ok-blocks.blocks) same c.in_ok-blocks.ensures.blocks)
    ∙ ap (λ rs. c.loop-place.found.items ++ rs) (row_is options u _ i s (told u c.args.shares.now i s s _ _ c.requires within is refl))) refl

pub returns : goal.returns
unfolding unit_block_rows
returns c = λ options.
    let u = c.args.unit.now in
    walk_end (λ (n : ℕ) ss. block_rows_from u (unit_read options u) n ss) (λ (n : ℕ) (t : Stmt). row_of options u n t) (λ (n : ℕ) (t : Stmt). n + 1) (block_none options u)
    u.statements c.loop-place.place c.loop-place.place _ _
    (subst (λ (ss : List Stmt). length ss ≤ c.loop-place.place) c.as_slice-statements.ensures c.loop-place-test.false) (c.loop-place.invariant options)
