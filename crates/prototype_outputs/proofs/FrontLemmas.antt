-- What is read of a prototype file, with one byte more than a file may have, is enough: what is accepted of it is the whole file, and it is refused at
-- the line at which the file is.
use Rattle.std.specs.Prelude.{◌≡◌, ℕ, zero, suc, ◌+◌, ◌<◌, ◌≤◌, Bool, true, false, ◌==◌, List, [], ◌∷◌, ◌++◌, length, take, if◌then◌else◌}
use Rattle.std.specs.List.{concat}
use Rattle.std.proofs.Common.{refl, sym, ap, subst, ◌∙◌, arith, get_or}
use Rattle.std.proofs.lemmas.List.{take_more}
use Rattle.proto_file.specs.prototypes.fortran_text.Lines.{lines, before_lines}
use Rattle.proto_file.specs.prototypes.declared.prototype.Prototype.{Prototype}
use Rattle.prototype_laws.specs.PrototypeLaws.{Verdict, is_file, is_refused}
use Rattle.prototype_laws.proofs.VerdictLemmas.{verdict}
use Rattle.proto_file.specs.prototypes.PrototypeText.{most_bytes, IsPrototypeFile, IsFile, first_lines, RefusedLine}

pub most_is : 16777217 ≡ suc most_bytes
unfolding most_bytes
most_is = refl

-- THE FIRST LINES, byte by byte
none_of : (bytes : List ℕ) → first_lines 0 bytes ≡ []
unfolding first_lines
none_of bytes = refl

of_none : (count : ℕ) → first_lines count [] ≡ []
unfolding first_lines lines
of_none zero = refl
of_none (suc count) = refl

abbrev next_lines : Bool → ℕ → ℕ → List ℕ → List ℕ
next_lines ended count byte rest = byte ∷ (if ended then first_lines count rest else first_lines (suc count) rest)

joined_before : (count byte : ℕ) (ls : List (List ℕ)) → concat (take (suc count) (before_lines byte ls)) ≡ byte ∷ concat (take (suc count) ls)
unfolding before_lines
joined_before zero byte [] = refl
joined_before (suc count) byte [] = refl
joined_before count byte (line ∷ more) = refl

of_more : (count byte : ℕ) (rest : List ℕ) → first_lines (suc count) (byte ∷ rest) ≡ next_lines (byte == 10) count byte rest
unfolding first_lines lines
of_more count byte rest = by (byte == 10)
  where
    by : (ended : Bool) → concat (take (suc count) (if ended then (byte ∷ []) ∷ lines rest else before_lines byte (lines rest)))
        ≡ byte ∷ (if ended then concat (take count (lines rest)) else concat (take (suc count) (lines rest)))
    by true = refl
    by false = joined_before count byte (lines rest)

-- OF A FRONT they are as long at most, and the same where they do not fill it
no_longer : (count n : ℕ) (bytes : List ℕ) → length (first_lines count (take n bytes)) ≤ length (first_lines count bytes)
no_longer zero n bytes = let one = ap length (none_of (take n bytes)) in omega (arith, one)
no_longer (suc count) zero bytes = let one = ap length (of_none (suc count)) in omega (arith, one)
no_longer (suc count) (suc n) [] = omega arith
no_longer (suc count) (suc n) (byte ∷ rest) =
    let one = ap length (of_more count byte (take n rest)) in
    let two = ap length (of_more count byte rest) in
    let three = by (byte == 10) (no_longer count n rest) (no_longer (suc count) n rest) in
    omega (arith, one, two, three)
  where
    by : (ended : Bool) → length (first_lines count (take n rest)) ≤ length (first_lines count rest) →
        length (first_lines (suc count) (take n rest)) ≤ length (first_lines (suc count) rest) →
        length (next_lines ended count byte (take n rest)) ≤ length (next_lines ended count byte rest)
    by true next same = omega (arith, next)
    by false next same = omega (arith, same)

the_same : (count n : ℕ) (bytes : List ℕ) → length (first_lines count (take n bytes)) < n → first_lines count (take n bytes) ≡ first_lines count bytes
the_same zero n bytes short = none_of (take n bytes) ∙ sym (none_of bytes)
the_same (suc count) zero bytes short = absurd (omega (arith, short))
the_same (suc count) (suc n) [] short = refl
the_same (suc count) (suc n) (byte ∷ rest) short =
    let one = ap length (of_more count byte (take n rest)) in
    of_more count byte (take n rest)
    ∙ (by (byte == 10) (the_same count n rest) (the_same (suc count) n rest) (omega (arith, short, one)) ∙ sym (of_more count byte rest))
  where
    by : (ended : Bool) → (length (first_lines count (take n rest)) < n → first_lines count (take n rest) ≡ first_lines count rest) →
        (length (first_lines (suc count) (take n rest)) < n → first_lines (suc count) (take n rest) ≡ first_lines (suc count) rest) →
        length (next_lines ended count byte (take n rest)) < suc n → next_lines ended count byte (take n rest) ≡ next_lines ended count byte rest
    by true next same few = ap (λ bs. byte ∷ bs) (next (omega (arith, few)))
    by false next same few = ap (λ bs. byte ∷ bs) (same (omega (arith, few)))

-- A FRONT with one byte more than a file may have
file_within : (n : ℕ) (bytes : List ℕ) → n ≡ suc most_bytes → IsFile bytes → length bytes < n
file_within n bytes is file = let within = file.is.within in omega (arith, is, within)

file_back : (count n : ℕ) (bytes : List ℕ) → n ≡ suc most_bytes → IsFile (first_lines count bytes) → IsFile (first_lines count (take n bytes))
file_back count n bytes is file =
    let shorter = no_longer count n bytes in
    let within = file_within n (first_lines count bytes) is file in
    subst IsFile (sym (the_same count n bytes (omega (arith, shorter, within)))) file

pub refused_front : (n : ℕ) (bytes : List ℕ) (line : ℕ) → n ≡ suc most_bytes → RefusedLine (take n bytes) line → RefusedLine bytes line
refused_front n bytes line is refused = record {
  before = refused.before;
  next = refused.next;
  file = subst IsFile (the_same refused.before n bytes (file_within n (first_lines refused.before (take n bytes)) is refused.file)) refused.file;
  none = λ file. refused.none (file_back line n bytes is file);
}

whole_where_short : (n : ℕ) (bytes : List ℕ) → length (take n bytes) < n → take n bytes ≡ bytes
whole_where_short zero bytes short = absurd (omega (arith, short))
whole_where_short (suc n) [] short = refl
whole_where_short (suc n) (byte ∷ rest) short = ap (λ bs. byte ∷ bs) (whole_where_short n rest (omega (arith, short)))

pub file_of_front : (n : ℕ) (bytes : List ℕ) (prototypes : List Prototype) → n ≡ suc most_bytes → IsPrototypeFile (take n bytes) prototypes → IsPrototypeFile bytes prototypes
file_of_front n bytes prototypes is file =
    let within = file.within in subst (λ bs. IsPrototypeFile bs prototypes) (whole_where_short n bytes (omega (arith, is, within))) file

-- a file is its front
short_whole : (n : ℕ) (bytes : List ℕ) → length bytes < n → take n bytes ≡ bytes
short_whole zero bytes short = absurd (omega (arith, short))
short_whole (suc n) [] short = refl
short_whole (suc n) (byte ∷ rest) short = ap (λ bs. byte ∷ bs) (short_whole n rest (omega (arith, short)))

pub front_of_file : (n : ℕ) (bytes : List ℕ) (prototypes : List Prototype) → n ≡ suc most_bytes → IsPrototypeFile bytes prototypes → IsPrototypeFile (take n bytes) prototypes
front_of_file n bytes prototypes is file =
    let within = file.within in subst (λ bs. IsPrototypeFile bs prototypes) (sym (short_whole n bytes (omega (arith, is, within)))) file

-- what is refused is no file
refused_by : (bytes : List ℕ) (line : ℕ) → Verdict bytes → RefusedLine bytes line → IsFile bytes → ⊥
refused_by bytes line (is_file list is never) refused file = never line refused
refused_by bytes line (is_refused other at none others) refused file = none file

pub refused_is_none : (bytes : List ℕ) (line : ℕ) → RefusedLine bytes line → IsFile bytes → ⊥
refused_is_none bytes line refused file = refused_by bytes line (verdict bytes) refused file

-- LISTS by the places of their elements
pub further : {A : Type 0} (xs : List A) (number : ℕ) (x : A) → number < length xs → x ≡ get_or xs number x → take number xs ++ x ∷ [] ≡ take (number + 1) xs
further xs number x within is = ap (λ y. take number xs ++ y ∷ []) is ∙ sym (take_more xs number x within)

pub any_default : {A : Type 0} (xs : List A) (n : ℕ) (d e : A) → n < length xs → get_or xs n d ≡ get_or xs n e
any_default [] n d e within = absurd (omega (arith, within))
any_default (x ∷ xs) zero d e within = refl
any_default (x ∷ xs) (suc n) d e within = any_default xs n d e (omega (arith, within))
