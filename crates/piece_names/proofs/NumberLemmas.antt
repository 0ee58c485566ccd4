-- Names with a number.
use Rattle.std.proofs.Common.{◌≡◌, ℕ, ◌+◌, ◌≤◌, List, ◌++◌, length, ap, ◌∙◌, arith}
use Rattle.std.specs.Prelude.{codes}
use Rattle.std.proofs.lemmas.List.{length-append}
use Rattle.f2c_outside.specs.Texts.{IsName}
use Rattle.split_pieces.specs.ChosenNames.{three_digits, numbered}

numbered_length : (prefix : List ℕ) (n : ℕ) → length (numbered prefix n) ≡ length prefix + 5
unfolding numbered three_digits
numbered_length prefix n =
    let sum : length prefix + 3 + 2 ≡ length prefix + 5 = omega arith in
    length-append (prefix ++ three_digits n) (codes ".f") ∙ ap (λ m. m + 2) (length-append prefix (three_digits n)) ∙ sum

pub numbered_name : (prefix : List ℕ) (n : ℕ) → length prefix ≤ 6 → IsName (numbered prefix n)
numbered_name prefix n short = record { some = omega (arith, numbered_length prefix n); short = omega (arith, numbered_length prefix n) }
