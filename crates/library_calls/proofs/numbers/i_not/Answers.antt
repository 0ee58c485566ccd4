use Rattle.std.proofs.Common.{◌≡◌, to_z, of_z, refl, ap, sym, ◌∙◌, rules}
use Rattle.std.specs.Prelude.{Ok}
use Rattle.std.specs.Int.{w32}
use Rattle.std.proofs.lemmas.Int.{to_z-of_z}
use Rattle.c_tree.specs.run_state.Bits.{complement}
use Rattle.c_tree.specs.Library.{library}
use Rattle.library_calls.proofs.ArgumentLemmas.{number-given, number-faulty}
use Rattle.library_calls.proofs.numbers.i_not.Goals as goal

pub returns-in-Ok : goal.returns-in-Ok
unfolding library
returns-in-Ok c =
    let same : to_z w32 (of_z w32 c.in-Ok.number) ≡ c.in-Ok.number = search rules in
    number-given complement c.args.run.now c.args.number c.in-Ok.number (to_z w32 (of_z w32 c.complement.result)) c.in-Ok.ensures
    (to_z-of_z w32 c.complement.result (record { sfits = c.complement.type_inv }) ∙ c.complement.ensures ∙ ap complement same)

pub returns-in-Err : goal.returns-in-Err
unfolding library
returns-in-Err c = (number-faulty complement c.args.run.now c.args.number c.in-Err.fault c.in-Err.ensures, refl)
