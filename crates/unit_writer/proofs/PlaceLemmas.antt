-- Places of elements in lists that pass a test.
use Rattle.std.specs.List.{list_any, position_or_len}
use Rattle.std.specs.Prelude.{◌≡◌, ℕ, suc, ◌+◌, nat_eq, nat_lt, Bool, true, false, not, ◌||◌, List, [], ◌∷◌, map, length, position, Some, None, is_some}
use Rattle.std.proofs.Common.{cond, refl, sym, ap, ◌∙◌, arith}
use Rattle.std.proofs.lemmas.Bool.{lt-ltb}
use Rattle.std.proofs.lemmas.Bool.Decides.{nat_tests}
use Rattle.main_translation.specs.main_file.MainFile as file
use Rattle.unit_contents.specs.declared.contents.Listing.{Listing}
use Rattle.unit_contents.specs.ContentsOf.{listing_of}
use Rattle.unit_writer.specs.Told.{step_of_list}

is_some-cond : {A : Type 0} (b : Bool) (x : A) → is_some (cond b (Some x) None) ≡ b
is_some-cond true x = refl
is_some-cond false x = refl

next_lt : (a b : ℕ) → nat_lt (1 + a) (suc b) ≡ nat_lt a b
next_lt a b = grind (arith, nat_tests)

within_by : (here later : Bool) (place size : ℕ) → later ≡ nat_lt place size → (here || later) ≡ nat_lt (cond (not here) (1 + place) 0) (suc size)
within_by true later place size is = sym (lt-ltb 0 (suc size) (omega arith))
within_by false later place size is = is ∙ sym (next_lt place size)

any_within : {A : Type 0} (test : A → Bool) (xs : List A) → list_any test xs ≡ nat_lt (position_or_len test xs) (length xs)
any_within test [] = refl
any_within test (x ∷ xs) = within_by (test x) (list_any test xs) (position_or_len test xs) (length xs) (any_within test xs)

pub any_position : {A : Type 0} (test : A → Bool) (xs : List A) → list_any test xs ≡ is_some (position test xs)
any_position test xs = any_within test xs ∙ sym (is_some-cond (nat_lt (position_or_len test xs) (length xs)) (position_or_len test xs))

listed_place : (n : ℕ) (ls : List Listing) → position_or_len (nat_eq n) (map step_of_list ls) ≡ position_or_len (λ (l : file.Listing). nat_eq n l.step) (map listing_of ls)
listed_place n [] = refl
listed_place n (l ∷ ls) = ap (λ (k : ℕ). cond (not (nat_eq n l.step)) (1 + k) 0) (listed_place n ls)

listed_length : (ls : List Listing) → length (map step_of_list ls) ≡ length (map listing_of ls)
listed_length [] = refl
listed_length (l ∷ ls) = ap suc (listed_length ls)

pub listed_position : (n : ℕ) (ls : List Listing) → position (nat_eq n) (map step_of_list ls) ≡ position (λ (l : file.Listing). nat_eq n l.step) (map listing_of ls)
listed_position n ls = λ i. cond (nat_lt (listed_place n ls i) (listed_length ls i)) (Some (listed_place n ls i)) None
