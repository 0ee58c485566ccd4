-- Texts as they are judged.
use Rattle.std.specs.Prelude.{◌≡◌, ℕ, ◌<◌, List, length, take}
use Rattle.std.proofs.Common.{sym, arith}
use Rattle.std.proofs.lemmas.List.{length-take-le}

pub front_length : (most : ℕ) (text : List ℕ) → most < length text → most ≡ length (take most text)
front_length most text longer = sym (length-take-le most text (omega arith))
