use Rattle.std.proofs.Common.{◌<◌, to_z, refl, ◌∙◌, arith}
use Rattle.std.specs.Int.{w32}
use Rattle.std.proofs.lemmas.Int.{to_z_pos}
use Rattle.c_tree.specs.LibraryTexts as texts
use Rattle.c_tree.specs.Library.{library}
use Rattle.library_calls.proofs.ArgumentLemmas.{texts-given, texts-faulty}
use Rattle.library_calls.proofs.TextLemmas.{place-small}
use Rattle.library_calls.proofs.comparisons.i_indx.Goals as goal

pub overflow_cast-result : goal.overflow_cast-result
overflow_cast-result c = record { sfits = place-small c.in-Ok.left.now c.in-Ok.right.now c.index_of.result c.index_of.ensures.place c.in-Ok.ensures.short }

pub returns-in-Ok : goal.returns-in-Ok
unfolding library
returns-in-Ok c =
    texts-given texts.index_of c.args.run.now c.args.first c.args.second c.args.first_length c.args.second_length c.in-Ok.left.now c.in-Ok.right.now (to_z w32 c.index_of.result)
    c.in-Ok.ensures.texts
    (to_z_pos w32 c.index_of.result (let small : c.index_of.result < 2147483648 = place-small c.in-Ok.left.now c.in-Ok.right.now c.index_of.result c.index_of.ensures.place c.in-Ok.ensures.short in omega arith)
    ∙ c.index_of.ensures.place)

pub returns-in-Err : goal.returns-in-Err
unfolding library
returns-in-Err c =
    (texts-faulty texts.index_of c.args.run.now c.args.first c.args.second c.args.first_length c.args.second_length c.in-Err.fault c.in-Err.ensures.texts, refl)
