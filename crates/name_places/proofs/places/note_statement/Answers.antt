use Rattle.std.proofs.Common.{List, [], ◌++◌, map, ap, ◌∙◌}
use Rattle.f_tree.specs.Uses.{uses_of_body}
use Rattle.name_table.specs.Named.{names_in}
use Rattle.name_uses.specs.declared.uses.Use.{Use}
use Rattle.name_uses.specs.UsesSeen.{used_in}
use Rattle.name_places.proofs.PlaceLemmas.{notes_all}
use Rattle.name_places.proofs.places.note_statement.Goals as goal

pub returns : goal.returns
returns c =
    notes_all c.note_calls.result (names_in c.args.arrays.now) c.args.at c.args.places.now c.note_uses.new.places c.note_declared_in.new.places c.note_fixed_in.new.places
    c.note_externals_in.new.places c.note_calls.new.places c.args.body.now (used_in c.as_slice.result.now) (used_in c.as_slice-2.result.now)
    (ap used_in c.as_slice.ensures.value ∙ c.in_ok-add_statement_uses.ensures
    ∙ ap (λ (us : List Use). used_in us ++ uses_of_body (names_in c.args.arrays.now) c.args.body.now) c.new-uses.ensures.items)
    (ap used_in c.as_slice-2.ensures.value ∙ c.in_ok-add_statement_uses.ensures
    ∙ ap (λ (us : List Use). used_in us ++ uses_of_body (names_in c.args.arrays.now) c.args.body.now) c.new-uses.ensures.items)
    c.in_ok-note_uses.ensures c.in_ok-note_declared_in.ensures c.in_ok-note_fixed_in.ensures c.in_ok-note_externals_in.ensures c.note_calls.ensures
