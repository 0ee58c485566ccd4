-- The numbers of the objects of a function.
use Rattle.std.proofs.Common.{◌≡◌, ap, ◌∙◌, sym, ℕ, ◌+◌, List, length, zero-add}
use Rattle.std.proofs.lemmas.List.{length-map}
use Rattle.std.specs.Borrow.{Bor}
use Rattle.c_tree.specs.declared.file.CFunction.{CFunction}
use Rattle.c_tree.specs.Declarations.{declared_statics}
use Rattle.c_tree.specs.Linking.{strings_of}
use Rattle.expression_linker.specs.StringsSeen.{texts}
use Rattle.function_linker.specs.FrameParts.{strings_in, first_string, body_string, first_of_call}
use Rattle.function_linker.specs.declared.numbers.NextNumbers.{NextNumbers}
use Rattle.function_linker.specs.NumbersBehind.{numbers_behind}
use Rattle.function_linker.proofs.NumberLaws.{lasting-behind, string-behind}

-- the numbers of a function's declarations, counted from its first object
abbrev pub from_first : ℕ → NextNumbers
from_first base = record { lasting = base; string = 0; frame = 0 }

pub string-place : (base : ℕ) (function : CFunction) (behind : NextNumbers) → behind ≡ numbers_behind (from_first base) function.locals → behind.lasting ≡ first_string base function
unfolding first_string
string-place base function behind is = ap (λ (at : NextNumbers). at.lasting) is ∙ lasting-behind (from_first base) function.locals

counted : (base : ℕ) (function : CFunction) (behind : NextNumbers) → behind ≡ numbers_behind (from_first base) function.locals → behind.string ≡ length (strings_of (declared_statics function.locals))
counted base function behind is =
    ap (λ (at : NextNumbers). at.string) is ∙ string-behind (from_first base) function.locals ∙ zero-add (length (strings_of (declared_statics function.locals)))

pub body-place : (base n : ℕ) (function : CFunction) (behind : NextNumbers) → behind ≡ numbers_behind (from_first base) function.locals → n ≡ behind.lasting + behind.string → n ≡ body_string base function
unfolding body_string
body-place base n function behind is sum =
    sum
    ∙ ap (λ m. m + behind.string) (string-place base function behind is)
    ∙ ap (λ m. first_string base function + m) (counted base function behind is)

pub frame-place : (base n m : ℕ) (function : CFunction) (behind : NextNumbers) (strings : List (Bor (List ℕ))) → behind ≡ numbers_behind (from_first base) function.locals → texts strings ≡ strings_in function → m ≡ length strings → n ≡ behind.lasting + m → n ≡ first_of_call base function
unfolding first_of_call
frame-place base n m function behind strings is all count sum =
    sum
    ∙ ap (λ k. k + m) (string-place base function behind is)
    ∙ ap (λ k. first_string base function + k) (count ∙ sym (length-map strings (λ reference. reference.now)) ∙ ap length all)
