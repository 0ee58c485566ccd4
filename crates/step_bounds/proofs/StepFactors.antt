-- The step factor of C files is at most twice the number of steps of their longest function.
use Rattle.std.specs.Prelude.{ℕ, ◌+◌, ◌≤◌, max, Bool, true, false, List, [], ◌∷◌, ◌++◌, Option, Some, None, if◌then◌else◌}
use Rattle.std.proofs.Common.{arith}
use Rattle.translated_files.specs.c_tree.declared.file.CFile.{CFile}
use Rattle.translated_files.specs.c_tree.declared.file.CFunction.{CFunction}
use Rattle.translated_files.specs.c_tree.Linking.{all_functions}
use Rattle.translated_files.specs.c_tree.Meaning.{steps_of, wrapped_by, wraps, wrapper_steps, counted_steps, greatest_steps, step_factor}

-- the steps of the longest of some functions
unfoldable pub most_steps : List CFunction → ℕ
most_steps [] = 0
most_steps (f ∷ fs) = max (steps_of f) (most_steps fs)

wrappers_within : (name : List ℕ) (fs : List CFunction) → wrapper_steps name fs ≤ most_steps fs
unfolding most_steps
wrappers_within name [] = omega arith
wrappers_within name (f ∷ fs) = by (wraps name (wrapped_by f.body)) (wrappers_within name fs)
  where
    by : (b : Bool) → wrapper_steps name fs ≤ most_steps fs → (if b then max (steps_of f) (wrapper_steps name fs) else wrapper_steps name fs) ≤ max (steps_of f) (most_steps fs)
    by true more = omega (arith, more)
    by false more = omega (arith, more)

counted_within : (all : List CFunction) (f : CFunction) (found : Option (List ℕ)) → counted_steps all f found ≤ steps_of f + most_steps all
counted_within all f None = let wrappers = wrappers_within f.name all in omega (arith, wrappers)
counted_within all f (Some inner) = omega arith

greatest_within : (all fs : List CFunction) → greatest_steps all fs ≤ most_steps fs + most_steps all
unfolding most_steps
greatest_within all [] = omega arith
greatest_within all (f ∷ fs) =
    let one = counted_within all f (wrapped_by f.body) in
    let more = greatest_within all fs in
    omega (arith, one, more)

pub factor_within : (files : List CFile) (n : ℕ) → most_steps (all_functions files) ≤ n → step_factor files ≤ n + n
unfolding step_factor
factor_within files n h = let all = greatest_within (all_functions files) (all_functions files) in omega (arith, all, h)

pub most_of_both : (fs gs : List CFunction) (n : ℕ) → most_steps fs ≤ n → most_steps gs ≤ n → most_steps (fs ++ gs) ≤ n
unfolding most_steps
most_of_both [] gs n one other = other
most_of_both (f ∷ fs) gs n one other = let more = most_of_both fs gs n (omega (arith, one)) other in omega (arith, one, more)
