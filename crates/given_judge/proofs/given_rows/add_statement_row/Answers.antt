use Rattle.std.proofs.Common.{◌≡◌, ◌++◌, ap, ◌∙◌}
use Rattle.found_rows.proofs.Walks.{then_ok}
use Rattle.declaration_rows.specs.GivenRows.{givens_of}
use Rattle.given_judge.specs.GiftsSeen.{givens_in}
use Rattle.given_judge.proofs.KeptLemmas.{judged}
use Rattle.given_judge.proofs.given_rows.add_statement_row.Goals as goal

pub returns : goal.returns
returns c =
    let u = c.args.unit.now in
    let s = c.args.statement.now in
    let all : givens_in c.as_slice.result.now ≡ givens_of u s.body =
    ap givens_in c.as_slice.ensures.value ∙ c.in_ok-add_statement_givens.ensures ∙ ap (λ gs. givens_in gs ++ givens_of u s.body) c.new-givens.ensures.items in
    then_ok _ _ c.add_unless.result
    (λ put.
    judged u s c.args.kept.now c.keep_all.new.kept c.args.found.now.items _ (givens_in c.as_slice.result.now) c.in_ok-sound.sound c.in_ok-differ.differ c.both.result all
    c.in_ok-sound.ensures c.in_ok-differ.ensures c.both.ensures put)
    c.add_unless.ensures
