use Rattle.std.proofs.Common.{◌≡◌, ℕ, List, [], length, map}
use Rattle.std.specs.Borrow.{Bor}
use Rattle.prototype_laws.specs.Reading.{params_behind}
use Rattle.proto_file.proofs.line.params_in.Given as goal

abbrev pub invariant-loop-rest : goal.invariant-loop-rest
invariant-loop-rest l =
    params_behind [] (map (λ (w : Bor (List ℕ)). w.now) l.fn.words) ≡ params_behind l.params (map (λ (w : Bor (List ℕ)). w.now) l.rest)

abbrev pub decreases-loop-rest : goal.decreases-loop-rest
decreases-loop-rest l = length l.rest
