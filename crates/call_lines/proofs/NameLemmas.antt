-- A FORTRAN name is found by the name that C has for it.
use Rattle.std.specs.Prelude.{◌≡◌, ℕ, ◌+◌, ◌-◌, Bool, true, false, ◌||◌, ◌==◌, List, [], ◌∷◌, ◌++◌, length, take, codes, bytes_eq, Option, Some, None, if◌then◌else◌}
use Rattle.std.specs.List.{list_any}
use Rattle.std.proofs.Common.{refl, sym, ap, subst, ◌∙◌, arith, append_assoc}
use Rattle.std.proofs.Math.Seq.{take-append_seam}
use Rattle.std.proofs.lemmas.List.{length-append}
use Rattle.std.proofs.lemmas.Slice.Eq.{bytes_eq-Decides}
use Rattle.f_tree.specs.Attributes.{first_of_two}
use Rattle.f_tree.specs.CNames.{has_underscore, external_name}
use Rattle.call_lines.specs.LineShapes.{named_so, without_end, fortran_name, FortranNamesAreFound, FoundNamesAreNamedSo}

-- WHAT IS FOUND has that name
so_by : (given name x : List ℕ) (b : Bool) → bytes_eq (external_name name) given ≡ b → (if b then Some name else None) ≡ Some x → external_name x ≡ given
so_by given name x true same is = let its : name ≡ x = cc in subst (λ n. external_name n ≡ given) its ((bytes_eq-Decides (external_name name) given).0 same)
so_by given name x false same is = absurd (cc)

so : (given name x : List ℕ) → named_so given name ≡ Some x → external_name x ≡ given
unfolding named_so
so given name x is = so_by given name x (bytes_eq (external_name name) given) refl is

either : (given x : List ℕ) (one other : Option (List ℕ)) → (one ≡ Some x → external_name x ≡ given) → (other ≡ Some x → external_name x ≡ given) →
    first_of_two one other ≡ Some x → external_name x ≡ given
unfolding first_of_two
either given x (Some name) other first second is = first is
either given x None other first second is = second is

pub found_named_so : FoundNamesAreNamedSo
unfolding fortran_name
found_named_so given name is =
    either given name (named_so given (without_end 1 given)) (named_so given (without_end 2 given)) (so given (without_end 1 given) name) (so given (without_end 2 given) name) is

-- EACH NAME is found
named_by : (given name : List ℕ) (b : Bool) → bytes_eq (external_name name) given ≡ b → external_name name ≡ given → (if b then Some name else None) ≡ Some name
named_by given name true same is = refl
named_by given name false same is = let differ = (bytes_eq-Decides (external_name name) given).1 is in absurd (cc)

named_there : (given name : List ℕ) → external_name name ≡ given → named_so given name ≡ Some name
unfolding named_so
named_there given name is = named_by given name (bytes_eq (external_name name) given) refl is

differs_by : (given name : List ℕ) (b : Bool) → bytes_eq (external_name name) given ≡ b → (external_name name ≡ given → ⊥) → (if b then Some name else None) ≡ None
differs_by given name true same differ = absurd (differ ((bytes_eq-Decides (external_name name) given).0 same))
differs_by given name false same differ = refl

not_named : (given name : List ℕ) → (external_name name ≡ given → ⊥) → named_so given name ≡ None
unfolding named_so
not_named given name differ = differs_by given name (bytes_eq (external_name name) given) refl differ

-- the end of a name
ended : (name end : List ℕ) (count : ℕ) → length end ≡ count → without_end count (name ++ end) ≡ name
unfolding without_end
ended name end count is =
    let all = length-append name end in
    let left : length (name ++ end) - count ≡ length name = omega (arith, all, is) in
    ap (λ n. take n (name ++ end)) left ∙ take-append_seam name end

by_underscore : (name : List ℕ) (b : Bool) → has_underscore name ≡ b → external_name name ≡ (if b then name ++ codes "__" else name ++ codes "_")
unfolding external_name
by_underscore name b is = ap (λ c. if c then name ++ codes "__" else name ++ codes "_") is

-- a name that has an underscore has it with more behind it too
or_true : (a b c : Bool) → (b ≡ true → c ≡ true) → (a || b) ≡ true → (a || c) ≡ true
or_true true b c more is = refl
or_true false b c more is = more is

any_front : (f : ℕ → Bool) (xs ys : List ℕ) → list_any f xs ≡ true → list_any f (xs ++ ys) ≡ true
any_front f [] ys is = absurd (cc)
any_front f (x ∷ xs) ys is = or_true (f x) (list_any f xs) (list_any f (xs ++ ys)) (any_front f xs ys) is

underscore_front : (name end : List ℕ) → has_underscore name ≡ true → has_underscore (name ++ end) ≡ true
unfolding has_underscore
underscore_front name end is = any_front (λ byte. byte == 95) name end is

-- of a name with one underscore more C has a longer name
too_long : (name : List ℕ) → has_underscore name ≡ true → external_name (name ++ codes "_") ≡ name ++ codes "__" → ⊥
too_long name is same =
    let made = by_underscore (name ++ codes "_") true (underscore_front name (codes "_") is) in
    let long : length ((name ++ codes "_") ++ codes "__") ≡ length (name ++ codes "__") = ap length (sym made ∙ same) in
    let one : length (name ++ codes "_") ≡ length name + 1 = length-append name (codes "_") in
    let two : length ((name ++ codes "_") ++ codes "__") ≡ length (name ++ codes "_") + 2 = length-append (name ++ codes "_") (codes "__") in
    let three : length (name ++ codes "__") ≡ length name + 2 = length-append name (codes "__") in
    omega (arith, long, one, two, three)

chosen : (given name : List ℕ) (one other : Option (List ℕ)) → one ≡ None → other ≡ Some name → first_of_two one other ≡ Some name
unfolding first_of_two
chosen given name one other none is = ap (λ o. first_of_two o other) none ∙ is

first_chosen : (name : List ℕ) (one other : Option (List ℕ)) → one ≡ Some name → first_of_two one other ≡ Some name
unfolding first_of_two
first_chosen name one other is = ap (λ o. first_of_two o other) is

with_one : (name : List ℕ) → external_name name ≡ name ++ codes "_" → fortran_name (name ++ codes "_") ≡ Some name
unfolding fortran_name
with_one name is =
    first_chosen name _ _
    (ap (named_so (name ++ codes "_")) (ended name (codes "_") 1 refl) ∙ named_there (name ++ codes "_") name is)

one_less : (name : List ℕ) → without_end 1 (name ++ codes "__") ≡ name ++ codes "_"
one_less name = ap (without_end 1) (sym (append_assoc name (codes "_") (codes "_"))) ∙ ended (name ++ codes "_") (codes "_") 1 refl

with_two : (name : List ℕ) → has_underscore name ≡ true → external_name name ≡ name ++ codes "__" → fortran_name (name ++ codes "__") ≡ Some name
unfolding fortran_name
with_two name has is =
    chosen (name ++ codes "__") name _ _
    (ap (named_so (name ++ codes "__")) (one_less name) ∙ not_named (name ++ codes "__") (name ++ codes "_") (too_long name has))
    (ap (named_so (name ++ codes "__")) (ended name (codes "__") 2 refl) ∙ named_there (name ++ codes "__") name is)

found_by : (name : List ℕ) (b : Bool) → has_underscore name ≡ b → fortran_name (external_name name) ≡ Some name
found_by name true is = let made = by_underscore name true is in ap fortran_name made ∙ with_two name is made
found_by name false is = let made = by_underscore name false is in ap fortran_name made ∙ with_one name made

pub names_found : FortranNamesAreFound
names_found name = found_by name (has_underscore name) refl
