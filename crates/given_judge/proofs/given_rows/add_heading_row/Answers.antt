use Rattle.std.proofs.Common.{◌≡◌, ◌++◌, ap, ◌∙◌}
use Rattle.found_rows.proofs.Walks.{put_as, then_ok}
use Rattle.f_tree.specs.Attributes.{named_dummies}
use Rattle.declaration_rows.specs.GivenRows.{heading_givens, no_name_twice}
use Rattle.given_judge.specs.GiftsSeen.{givens_in}
use Rattle.given_judge.proofs.KeptLemmas.{heading_kept, heading_sound}
use Rattle.given_judge.proofs.RowForms.{heading_rows_are}
use Rattle.given_judge.proofs.given_rows.add_heading_row.Goals as goal

pub returns-clause-rows : goal.returns-clause-rows
returns-clause-rows c =
    let u = c.args.unit.now in
    let sound = c.in_ok-sound.sound in
    let differ = c.in_ok-differ.differ in
    let all : givens_in c.as_slice.result.now ≡ heading_givens u =
    ap givens_in c.as_slice.ensures.value ∙ c.in_ok-add_heading_givens.ensures ∙ ap (λ gs. givens_in gs ++ heading_givens u) c.new-givens.ensures.items in
    put_as c.add_at.result _ _ _ _
    (heading_rows_are u c.place_of-place.result c.both.result c.place_of-place.ensures
    (c.both.ensures ∙ heading_sound u c.args.kept.now c.keep_all.new.kept (givens_in c.as_slice.result.now) sound differ all c.in_ok-sound.ensures c.requires
    (c.in_ok-differ.ensures ∙ ap (λ ds. no_name_twice (named_dummies ds)) c.as_slice-2.ensures)))
    c.add_at.ensures

pub returns-clause-kept : goal.returns-clause-kept
returns-clause-kept c =
    let u = c.args.unit.now in
    let all : givens_in c.as_slice.result.now ≡ heading_givens u =
    ap givens_in c.as_slice.ensures.value ∙ c.in_ok-add_heading_givens.ensures ∙ ap (λ gs. givens_in gs ++ heading_givens u) c.new-givens.ensures.items in
    then_ok _ _ c.add_at.result
    (λ put. heading_kept u c.args.kept.now c.keep_all.new.kept (givens_in c.as_slice.result.now) c.in_ok-sound.sound all c.in_ok-sound.ensures c.requires) c.add_at.ensures
