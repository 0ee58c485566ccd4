-- The numbers of what is declared, one declaration behind the other.
use Rattle.std.proofs.Common.{◌≡◌, refl, ap, sym, ◌∙◌, ℕ, ◌+◌, List, [], ◌∷◌, ◌++◌, length, length-append, add_assoc, add-zero}
use Rattle.c_tree.specs.declared.declaration.CLocal.{CLocal}
use Rattle.c_tree.specs.Declarations.{declared_statics, declared_automatics}
use Rattle.c_tree.specs.Linking.{strings_of}
use Rattle.function_linker.specs.declared.numbers.NextNumbers.{NextNumbers}
use Rattle.function_linker.specs.NumbersBehind.{numbers_behind}
use Rattle.function_linker.proofs.DeclarationLaws.{statics-append, automatics-append, string-lists-append}

same-numbers : (a b c x y z : ℕ) → a ≡ x → b ≡ y → c ≡ z → let left : NextNumbers = record { lasting = a; string = b; frame = c } in let right : NextNumbers = record { lasting = x; string = y; frame = z } in left ≡ right
same-numbers a b c x y z p q r = λ k. record { lasting = p k; string = q k; frame = r k }

split_by : {A : Type 0} (n : ℕ) (zs xs ys : List A) → zs ≡ xs ++ ys → n + length zs ≡ n + length xs + length ys
split_by n zs xs ys e = ap (λ ws. n + length ws) e ∙ ap (λ m. n + m) (length-append xs ys) ∙ sym (add_assoc n (length xs) (length ys))

pub numbers-append : (at : NextNumbers) (xs ys : List CLocal) → numbers_behind at (xs ++ ys) ≡ numbers_behind (numbers_behind at xs) ys
unfolding numbers_behind
numbers-append at xs ys =
    same-numbers _ _ _ _ _ _
    (split_by at.lasting (declared_statics (xs ++ ys)) (declared_statics xs) (declared_statics ys) (statics-append xs ys))
    (split_by at.string (strings_of (declared_statics (xs ++ ys))) (strings_of (declared_statics xs)) (strings_of (declared_statics ys)) (string-lists-append xs ys))
    (split_by at.frame (declared_automatics (xs ++ ys)) (declared_automatics xs) (declared_automatics ys) (automatics-append xs ys))

pub numbers-one : (at : NextNumbers) (one : CLocal) (later : List CLocal) → numbers_behind at (one ∷ later) ≡ numbers_behind (numbers_behind at (one ∷ [])) later
numbers-one at one later = numbers-append at (one ∷ []) later

pub numbers-none : (at : NextNumbers) → numbers_behind at [] ≡ at
unfolding numbers_behind
numbers-none at = same-numbers _ _ _ _ _ _ (add-zero at.lasting) (add-zero at.string) (add-zero at.frame)

pub lasting-behind : (at : NextNumbers) (given : List CLocal) → (numbers_behind at given).lasting ≡ at.lasting + length (declared_statics given)
unfolding numbers_behind
lasting-behind at given = refl

pub string-behind : (at : NextNumbers) (given : List CLocal) → (numbers_behind at given).string ≡ at.string + length (strings_of (declared_statics given))
unfolding numbers_behind
string-behind at given = refl

pub frame-behind : (at : NextNumbers) (given : List CLocal) → (numbers_behind at given).frame ≡ at.frame + length (declared_automatics given)
unfolding numbers_behind
frame-behind at given = refl

pub ruleset number_laws = (numbers-one, numbers-none)
