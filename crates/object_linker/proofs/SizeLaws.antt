-- How many bytes objects have.
use Rattle.std.proofs.Common.{◌≡◌, refl, ap, sym, ◌∙◌, ℕ, ◌+◌, ◌-◌, ◌<◌, ◌≤◌, Bool, true, false, List, [], ◌∷◌, ◌++◌, map, replicate, length, length-append, Some, None, arith}
use Rattle.std.proofs.lemmas.List.{length-map, length-replicate}
use Rattle.c_tree.specs.Objects.{Object, Bytes}
use Rattle.c_tree.specs.Declarations.{filled, unset}
use Rattle.c_tree.specs.Linking.{bytes_of_object}
use Rattle.run_bytes.specs.Accesses.{bytes_at_first}

filled_length : (size : ℕ) (bytes : List ℕ) → bytes_of_object (filled size bytes) ≡ length bytes + (size - length bytes)
filled_length size bytes =
    length-map (bytes ++ replicate (size - length bytes) 0) Some
    ∙ length-append bytes (replicate (size - length bytes) 0)
    ∙ ap (λ n. length bytes + n) (length-replicate (size - length bytes) 0)

pub larger : (size : ℕ) (bytes : List ℕ) → length bytes < size → bytes_of_object (filled size bytes) ≡ size
larger size bytes h = let e = filled_length size bytes in omega (arith, e)

pub smaller : (size : ℕ) (bytes : List ℕ) → size ≤ length bytes → bytes_of_object (filled size bytes) ≡ length bytes
smaller size bytes h = let e = filled_length size bytes in omega (arith, e)

pub plain : (size : ℕ) (set : Bool) → bytes_of_object (bytes_at_first size set) ≡ size
plain size true = let e = filled_length size [] in omega (arith, e)
plain size false = length-replicate size None

pub ruleset size_laws = (larger, smaller, plain)
