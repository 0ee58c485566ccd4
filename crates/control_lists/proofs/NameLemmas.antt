-- The blanks at the end of a name.
use Rattle.std.proofs.Common.{◌≡◌, ℕ, zero, suc, ◌-◌, ◌≤◌, ◌<◌, List, [], ◌∷◌, ◌++◌, length, take, get_or, Bool, true, false, refl, ap, sym, ◌∙◌, subst, arith}
use Rattle.std.specs.Prelude.{nat_eq, if◌then◌else◌}
use Rattle.std.proofs.lemmas.Bool.Decides.{nat_tests}
use Rattle.std.proofs.lemmas.List.{take_all}
use Rattle.c_tree.specs.LibraryUnits.{all_blank, trimmed}

blank-behind : (front : List ℕ) → all_blank (front ++ 32 ∷ []) ≡ all_blank front
blank-behind [] = refl
blank-behind (byte ∷ later) = ap (λ rest. if nat_eq byte 32 then rest else false) (blank-behind later)

trimmed-blank : (front : List ℕ) → trimmed (front ++ 32 ∷ []) ≡ trimmed front
trimmed-blank [] = refl
trimmed-blank (byte ∷ later) =
    ap (λ blank. if blank then [] else byte ∷ trimmed (later ++ 32 ∷ [])) (blank-behind (byte ∷ later))
    ∙ ap (λ rest. if all_blank (byte ∷ later) then [] else byte ∷ rest) (trimmed-blank later)

not-blank-by : (byte : ℕ) (blank : Bool) → (if blank then false else false) ≡ false
not-blank-by byte true = refl
not-blank-by byte false = refl

not-blank : (front : List ℕ) (last : ℕ) → nat_eq last 32 ≡ false → all_blank (front ++ last ∷ []) ≡ false
not-blank [] last other = ap (λ blank. if blank then true else false) other
not-blank (byte ∷ later) last other =
    ap (λ rest. if nat_eq byte 32 then rest else false) (not-blank later last other) ∙ not-blank-by byte (nat_eq byte 32)

trimmed-whole : (front : List ℕ) (last : ℕ) → nat_eq last 32 ≡ false → trimmed (front ++ last ∷ []) ≡ front ++ last ∷ []
trimmed-whole [] last other = ap (λ blank. if blank then [] else last ∷ []) (not-blank [] last other)
trimmed-whole (byte ∷ later) last other =
    ap (λ blank. if blank then [] else byte ∷ trimmed (later ++ last ∷ [])) (not-blank (byte ∷ later) last other)
    ∙ ap (λ rest. byte ∷ rest) (trimmed-whole later last other)

-- one element more
front-and : (n : ℕ) (text : List ℕ) (d : ℕ) → n < length text → take (suc n) text ≡ take n text ++ get_or text n d ∷ []
front-and n [] d within = absurd (omega arith)
front-and zero (byte ∷ later) d within = refl
front-and (suc n) (byte ∷ later) d within = ap (λ rest. byte ∷ rest) (front-and n later d (omega arith))

at-end : (text : List ℕ) (end d : ℕ) → 0 < end → end ≤ length text → take end text ≡ take (end - 1) text ++ get_or text (end - 1) d ∷ []
at-end text end d some within =
    let e : end ≡ suc (end - 1) = omega arith in
    ap (λ n. take n text) e ∙ front-and (end - 1) text d (omega arith)

pub trim-starts : (text : List ℕ) → trimmed text ≡ trimmed (take (length text) text)
trim-starts text = ap trimmed (sym (take_all (length text) text (omega arith)))

pub trim-goes_on : (text : List ℕ) (end d : ℕ) → 0 < end → end ≤ length text → get_or text (end - 1) d ≡ 32 →
    trimmed text ≡ trimmed (take end text) → trimmed text ≡ trimmed (take (end - 1) text)
trim-goes_on text end d some within blank is =
    is ∙ ap trimmed (at-end text end d some within ∙ ap (λ last. take (end - 1) text ++ last ∷ []) blank) ∙ trimmed-blank (take (end - 1) text)

pub trim-ends : (text : List ℕ) (end d : ℕ) → 0 < end → end ≤ length text → (get_or text (end - 1) d ≡ 32 → ⊥) →
    trimmed text ≡ trimmed (take end text) → take end text ≡ trimmed text
trim-ends text end d some within other is =
    let test : nat_eq (get_or text (end - 1) d) 32 ≡ false = grind (arith, nat_tests) in
    at-end text end d some within ∙ sym (trimmed-whole (take (end - 1) text) (get_or text (end - 1) d) test)
    ∙ ap trimmed (sym (at-end text end d some within)) ∙ sym is

pub trim-empty : (text : List ℕ) (end : ℕ) → end ≡ 0 → trimmed text ≡ trimmed (take end text) → take end text ≡ trimmed text
trim-empty text end none is = ap (λ n. take n text) none ∙ ap (λ n. trimmed (take n text)) (sym none) ∙ sym is
