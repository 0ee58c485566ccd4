-- A name from its end: digits, and the last byte before them.
use Rattle.std.proofs.Common.{◌≡◌, ◌≢◌, ℕ, suc, ◌+◌, ◌<◌, ◌≤◌, ◌^◌, ◌%◌, List, [], ◌∷◌, ◌++◌, length, reverse, decimal, refl, sym, ap, ◌∙◌, subst, arith, append_assoc}
use Rattle.std.proofs.lemmas.List.{reverse-append, reverse-reverse}
use Rattle.std.proofs.lemmas.Fmt.{decimal_by_steps, decimal_injective, decimal_nonempty}
use Rattle.fortran_laws.specs.f_tree.CNames.{Bytes}
use Rattle.bound_names.specs.BoundNames.{IsNoDigit}

-- ## Digits

abbrev pub AreDigits : List ℕ → Type 0
AreDigits [] = Unit {0}
AreDigits (d ∷ ds) = (48 ≤ d) × (d < 58) × AreDigits ds

pub decimal_digits : (n : ℕ) → n < 2 ^ 64 → AreDigits (reverse (decimal n))
decimal_digits n small =
    decimal_by_steps (λ m ds. AreDigits (reverse ds))
    (λ m below. (omega arith, omega (arith, below), tt))
    (λ m ds _ before. subst AreDigits (sym (reverse-append ds ((48 + m % 10) ∷ []))) (omega arith, omega arith, before))
    n small

same_first : (a b : ℕ) (x y : List ℕ) → a ∷ x ≡ b ∷ y → a ≡ b
same_first a b x y e = cc

same_rest : (a b : ℕ) (x y : List ℕ) → a ∷ x ≡ b ∷ y → x ≡ y
same_rest a b x y e = cc

-- two lists of digits, each with a byte behind it that is none
pub record ArePartsSame (ds es : List ℕ) (b c : ℕ) (xs ys : List ℕ) : Type 0 where
  pub digits : ds ≡ es
  pub byte : b ≡ c
  pub rest : xs ≡ ys

pub parted : (ds es : List ℕ) (b c : ℕ) (xs ys : List ℕ) → AreDigits ds → AreDigits es → IsNoDigit b → IsNoDigit c → ds ++ b ∷ xs ≡ es ++ c ∷ ys → ArePartsSame ds es b c xs ys
parted [] [] b c xs ys p q n m e = record { digits = refl; byte = same_first b c xs ys e; rest = same_rest b c xs ys e }
parted [] (d ∷ es) b c xs ys p q n m e =
    let same : b ≡ d = same_first b d xs (es ++ c ∷ ys) e in
    let low = q.0 in
    let high = q.1 in
    absurd (n (omega (arith, same, low)) (omega (arith, same, high)))
parted (d ∷ ds) [] b c xs ys p q n m e =
    let same : d ≡ c = same_first d c (ds ++ b ∷ xs) ys e in
    let low = p.0 in
    let high = p.1 in
    absurd (m (omega (arith, same, low)) (omega (arith, same, high)))
parted (d ∷ ds) (f ∷ es) b c xs ys p q n m e =
    let first : d ≡ f = same_first d f (ds ++ b ∷ xs) (es ++ c ∷ ys) e in
    let later = parted ds es b c xs ys p.2 q.2 n m (same_rest d f (ds ++ b ∷ xs) (es ++ c ∷ ys) e) in
    record { digits = (λ i. first i ∷ later.digits i); byte = later.byte; rest = later.rest }

-- ## Stems

-- a name that ends in digits, of which a byte that is none stands before
pub record HasStem (name front : Bytes) (byte number : ℕ) : Type 0 where
  pub is : name ≡ front ++ byte ∷ decimal number
  pub small : number < 2 ^ 64
  pub other : IsNoDigit byte

-- from its end
backward : (front ds : List ℕ) (byte : ℕ) → reverse (front ++ byte ∷ ds) ≡ reverse ds ++ byte ∷ reverse front
backward front ds byte =
    reverse-append front (byte ∷ ds) ∙ ap (λ xs. xs ++ reverse front) (reverse-append (byte ∷ []) ds) ∙ append_assoc (reverse ds) (byte ∷ []) (reverse front)

pub stems_same : (name other front front' : Bytes) (byte byte' number number' : ℕ) → HasStem name front byte number → HasStem other front' byte' number' → name ≡ other
    → (front ≡ front') × (byte ≡ byte') × (number ≡ number')
stems_same name other front front' byte byte' number number' one two same =
    let parts = parted (reverse (decimal number)) (reverse (decimal number')) byte byte' (reverse front) (reverse front') (decimal_digits number one.small) (decimal_digits number' two.small) one.other two.other
    (sym (backward front (decimal number) byte) ∙ ap reverse (sym one.is ∙ same ∙ two.is) ∙ backward front' (decimal number') byte') in (
      sym (reverse-reverse front) ∙ ap reverse parts.rest ∙ reverse-reverse front',
      parts.byte,
      decimal_injective number number' one.small two.small (sym (reverse-reverse (decimal number)) ∙ ap reverse parts.digits ∙ reverse-reverse (decimal number')),
    )

-- a name that ends otherwise
pub stem_ends : (name front back : Bytes) (byte number end : ℕ) → HasStem name front byte number → IsNoDigit end → name ≢ back ++ end ∷ []
stem_ends name front back byte number end one none same =
    let parts = parted (reverse (decimal number)) [] byte end (reverse front) (reverse back) (decimal_digits number one.small) tt one.other none
    (sym (backward front (decimal number) byte) ∙ ap reverse (sym one.is ∙ same) ∙ backward back [] end) in
    let some = decimal_nonempty number one.small in
    let empty : decimal number ≡ [] = sym (reverse-reverse (decimal number)) ∙ ap reverse parts.digits in
    let none_long : length (decimal number) ≡ 0 = ap length empty in
    omega (arith, some, none_long)
