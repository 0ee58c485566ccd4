use Rattle.std.proofs.Common.{Bor, List, map, refl, ap, ◌∙◌}
use Rattle.f_tree.specs.declared.units.Part.{Part}
use Rattle.fortran_text.specs.StatementsOfFile.{FileCards}
use Rattle.fortran_grammar.specs.IncludedFiles.{file_with_parts}
use Rattle.file_parse.specs.Splices.{cards_named}
use Rattle.source_reader.specs.Limits.{value_named}
use Rattle.source_reader.proofs.TreeLemmas.{parts_stand, splicing_fails}
use Rattle.source_reader.proofs.trees.spliced.Goals as goal

pub returns-in-Ok : goal.returns-in-Ok
returns-in-Ok c = λ own are.
    c.in-Ok.ensures own
    (parts_stand (cards_named c.in_ok-places.places) (value_named c.in_ok-places.places) c.args.names.now c.args.parts.now c.as_slice.result.now own (λ x. refl)
    c.in_ok-places.ensures (ap (map (λ (one : Bor FileCards). one.now)) c.as_slice.ensures.value ∙ c.in_ok-list.ensures) are)

pub returns : goal.returns
returns c =
    splicing_fails (cards_named c.in_ok-places.places) (λ (parts : List Part). map (file_with_parts parts) c.args.trees) c.args.names.now c.args.parts.now c.args.trees
    c.in-Err.fail
    (λ own are. parts_stand (cards_named c.in_ok-places.places) (value_named c.in_ok-places.places) c.args.names.now c.args.parts.now c.as_slice.result.now own
    (λ x. refl) c.in_ok-places.ensures (ap (map (λ (one : Bor FileCards). one.now)) c.as_slice.ensures.value ∙ c.in_ok-list.ensures) are)
    c.in-Err.ensures
