use Rattle.std.proofs.Common.{to_z, of_z, refl, rules, ap, ◌∙◌}
use Rattle.std.specs.Prelude.{Ok}
use Rattle.std.proofs.lemmas.Int.{to_z-of_z}
use Rattle.std.specs.Int.{w32}
use Rattle.c_tree.specs.Builtins as builtin
use Rattle.c_tree.specs.LibraryNumbers as numbers
use Rattle.c_tree.specs.Library.{library}
use Rattle.library_calls.proofs.ArgumentLemmas.{numbers-answered, numbers-faulty}
use Rattle.library_calls.proofs.numbers.i_or.Goals as goal

pub returns-in-Ok : goal.returns-in-Ok
unfolding library
returns-in-Ok c =
    numbers-answered builtin.i_or numbers.either_bit c.args.run.now c.args.left c.args.right c.in-Ok.one c.in-Ok.other (to_z w32 (of_z w32 c.in-Ok.one)) (to_z w32 (of_z w32 c.in-Ok.other)) (Ok (to_z w32 (of_z w32 c.either_bit.result)))
    (λ world. refl) c.in-Ok.ensures (search rules) (search rules) (ap Ok (to_z-of_z w32 c.either_bit.result (record { sfits = c.either_bit.type_inv })) ∙ c.either_bit.ensures)

pub returns-in-Err : goal.returns-in-Err
unfolding library
returns-in-Err c = (numbers-faulty numbers.either_bit c.args.run.now c.args.left c.args.right c.in-Err.fault c.in-Err.ensures, refl)
