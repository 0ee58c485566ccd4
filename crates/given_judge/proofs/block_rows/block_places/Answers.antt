use Rattle.std.proofs.Common.{List, get_or, refl, sym, ap, ◌∙◌, arith}
use Rattle.std.proofs.lemmas.List.{take_all}
use Rattle.f_tree.specs.Lines.{common_in}
use Rattle.f_tree.specs.declared.statements.Body.{Body}
use Rattle.f_tree.specs.declared.statements.Stmt.{Stmt}
use Rattle.declaration_rows.specs.GlobalRows.{block_names}
use Rattle.declaration_rows.specs.GivenRows.{is_block_in}
use Rattle.name_places.specs.FirstPlaces.{first_at}
use Rattle.name_places.proofs.PlaceLemmas.{first_none, table_more}
use Rattle.given_judge.proofs.block_rows.block_places.Goals as goal

pub loop-at-init : goal.loop-at-init
loop-at-init c q = c.new-places.ensures q ∙ sym (first_none (is_block_in q))

pub loop-at-preserved : goal.loop-at-preserved
unfolding is_block_in
loop-at-preserved c =
    let ss = c.args.statements.now in
    let d = c.index-statements-at.result in
    table_more (λ (b : Body). block_names (common_in b)) ss c.loop-at.at (get_or ss c.loop-at.at d) d c.loop-at.places c.note_statement.new.places c.loop-at-test.true refl c.loop-at.invariant
    c.in_ok-note_statement.ensures

pub returns : goal.returns
returns c q = c.loop-at.invariant q ∙ ap (λ (ss : List Stmt). first_at (is_block_in q) ss) (take_all c.loop-at.at c.args.statements.now (omega arith))
