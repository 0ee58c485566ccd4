use Rattle.std.specs.HashMap.{get_by}
use Rattle.std.proofs.Common.{◌≡◌, ◌++◌, bytes_eq, drop}
use Rattle.unit_writer.proofs.LocalLaws.{procedures_behind}
use Rattle.unit_writer.proofs.procedures.add_procedures.Given as goal

abbrev pub invariant-loop-name : goal.invariant-loop-name
invariant-loop-name l =
    l.initial.locals.items ++ procedures_behind (λ x. get_by (λ k. bytes_eq x k.now) l.procedures) l.names
    ≡ l.locals.items ++ procedures_behind (λ x. get_by (λ k. bytes_eq x k.now) l.procedures) (drop l.name-index l.names)
