use Rattle.std.proofs.Common.{to_z, of_z, refl, ◌∙◌}
use Rattle.std.proofs.lemmas.Int.{to_z-of_z}
use Rattle.std.specs.Int.{w32}
use Rattle.c_tree.specs.LibraryTexts as texts
use Rattle.c_tree.specs.Library.{library}
use Rattle.library_calls.proofs.ArgumentLemmas.{texts-given, texts-faulty}
use Rattle.library_calls.proofs.comparisons.s_cmp.Goals as goal

pub returns-in-Ok : goal.returns-in-Ok
unfolding library
returns-in-Ok c =
    texts-given texts.comparison c.args.run.now c.args.first c.args.second c.args.first_length c.args.second_length c.in-Ok.left.now c.in-Ok.right.now (to_z w32 (of_z w32 c.compare_texts.result))
    c.in-Ok.ensures.texts (to_z-of_z w32 c.compare_texts.result (record { sfits = c.compare_texts.type_inv }) ∙ c.compare_texts.ensures)

pub returns-in-Err : goal.returns-in-Err
unfolding library
returns-in-Err c =
    (texts-faulty texts.comparison c.args.run.now c.args.first c.args.second c.args.first_length c.args.second_length c.in-Err.fault c.in-Err.ensures.texts, refl)
