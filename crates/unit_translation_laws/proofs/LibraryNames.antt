-- No function of the library has a name that ends in a digit.
use Rattle.std.specs.List.{list_all}
use Rattle.std.specs.Prelude.{◌≡◌, ℕ, nat_le, Bool, true, false, List, [], ◌∷◌}
use Rattle.std.proofs.Common.{refl, arith}
use Rattle.std.proofs.lemmas.Bool.{leb-true}
use Rattle.unit_translation.specs.f_tree.Setting.{IsIn}
use Rattle.unit_translation.specs.l_core.Steps.{Step}
use Rattle.unit_translation.specs.main_file.MainFile.{Called}
use Rattle.unit_translation.specs.main_translation.Contents.{function_called, calls_of}
use Rattle.main_translation_laws.proofs.Lists.{in_part}
use Rattle.main_translation_laws.proofs.Contents.{all_calls, calls_part, each_of}
use Rattle.unit_translation_laws.proofs.Names.{last_behind, IsUnnumbered}

-- the last byte stands behind the digits
ends_behind_digits : List ℕ → Bool
ends_behind_digits [] = false
ends_behind_digits (b ∷ []) = nat_le 58 b
ends_behind_digits (b ∷ c ∷ rest) = ends_behind_digits (c ∷ rest)

unnumbered_by : (name : List ℕ) → ends_behind_digits name ≡ true → IsUnnumbered name
unfolding ends_behind_digits
unnumbered_by [] h = absurd (cc)
unnumbered_by (b ∷ []) h = let late = leb-true 58 b h in record { byte = b; last = record { front = []; is = refl }; no_digit = λ low high. omega (arith, late, high) }
unnumbered_by (b ∷ c ∷ rest) h =
    let later = unnumbered_by (c ∷ rest) h in
    record { byte = later.byte; last = last_behind (b ∷ []) (c ∷ rest) later.byte later.last; no_digit = later.no_digit }

each_ends : list_all (λ (call : Called). ends_behind_digits call.name) all_calls ≡ true
unfolding ends_behind_digits function_called
each_ends = refl

pub calls_unnumbered : (steps : List Step) (call : Called) → IsIn call (calls_of steps) → IsUnnumbered call.name
calls_unnumbered steps call o =
    unnumbered_by call.name (each_of (λ (one : Called). ends_behind_digits one.name) all_calls call each_ends (in_part call (calls_of steps) all_calls (calls_part steps) o))
