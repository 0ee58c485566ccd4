use Rattle.std.specs.HashMap.{get_by}
use Rattle.std.specs.List.{list_any}
use Rattle.std.proofs.Common.{◌≡◌, List, ℕ, bytes_eq, drop}
use Rattle.unit_writer.specs.Told.{put_over, routine_told}
use Rattle.unit_writer.proofs.TableLemmas.{texts}
use Rattle.unit_writer.proofs.procedures.add_routines.Given as goal

abbrev pub invariant-loop-name : goal.invariant-loop-name
invariant-loop-name l =
    (x : List ℕ)
    → put_over (list_any (bytes_eq x) (texts l.names)) (routine_told l.table (λ y. get_by (λ k. bytes_eq y k.now) l.procedures) x) (get_by (λ k. bytes_eq x k.now) l.initial.routines)
    ≡ put_over (list_any (bytes_eq x) (texts (drop l.name-index l.names))) (routine_told l.table (λ y. get_by (λ k. bytes_eq y k.now) l.procedures) x) (get_by (λ k. bytes_eq x k.now) l.routines)
