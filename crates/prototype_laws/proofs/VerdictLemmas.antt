-- What the reader of prototype files answers: the prototypes of a file, or the line at which a text is refused; and that each text has one answer.
use Rattle.std.proofs.Common.{◌≡◌, ℕ, suc, ◌+◌, ◌<◌, ◌≤◌, Bool, true, false, List, [], ◌∷◌, ◌++◌, length, take, append_assoc, append-nil, refl, sym, ap, subst, ◌∙◌, inl, inr, Option, Some, None, arith}
use Rattle.std.specs.Prelude.{nat_le, ◌⊎◌, Result, Ok, Err, if◌then◌else◌}
use Rattle.std.specs.List.{concat}
use Rattle.std.proofs.lemmas.Bool.{cases_order, leb-true, le-leb}
use Rattle.std.proofs.lemmas.List.{take-take}
use Rattle.prototypes.specs.fortran_text.Lines.{lines}
use Rattle.prototypes.specs.declared.prototype.Prototype.{Prototype}
use Rattle.prototypes.specs.PrototypeText.{prototype_line, is_prototype, most_bytes, IsPrototypeFile, RefusedLine}
use Rattle.prototype_laws.specs.Reading.{line_prototype, prototype_within, behind_line, prototypes_behind, reading}
use Rattle.prototype_laws.specs.PrototypeLaws.{Verdict, is_file, is_refused}
use Rattle.prototype_laws.proofs.WordLemmas.{line_prototype-line, read_line}
use Rattle.prototype_laws.proofs.FileLemmas.{AreLines, AreSome, lines_of_file, file_of_lines, first_file, first_are, fewer, length-more, one_more, last_line}

-- ## One line

-- a line that is read is within the limit
record IsWithin (size : ℕ) (line : List ℕ) (p : Prototype) : Type 0 where
  fits : size + length line ≤ most_bytes
  read : line_prototype line ≡ Some p

by_limit : (size : ℕ) (line : List ℕ) (p : Prototype) (t : Bool) → nat_le (size + length line) most_bytes ≡ t → (if t then line_prototype line else None) ≡ Some p → IsWithin size line p
by_limit size line p true fits h = record { fits = leb-true (size + length line) most_bytes fits; read = h }
by_limit size line p false fits h = absurd (let e : None ≡ Some p = h in cc)

read_within : (size : ℕ) (line : List ℕ) (p : Prototype) → prototype_within size line ≡ Some p → IsWithin size line p
unfolding prototype_within
read_within size line p h = by_limit size line p (nat_le (size + length line) most_bytes) refl h

told_within : (size : ℕ) (line : List ℕ) (p : Prototype) → is_prototype p ≡ true → line ≡ prototype_line p → size + length line ≤ most_bytes → prototype_within size line ≡ Some p
unfolding prototype_within
told_within size line p told is fits =
    ap (λ t. if t then line_prototype line else None) (le-leb (size + length line) most_bytes fits) ∙ ap line_prototype is ∙ line_prototype-line p told

-- ## All lines

-- the first of some lines such that the lines up to it are those of no file
record IsRefused (all : List (List ℕ)) (line : ℕ) : Type 0 where
  before : ℕ
  next : line ≡ suc before
  some : AreSome (take before all)
  none : AreSome (take line all) → ⊥

abbrev IsAnswer : List (List ℕ) → Result (List Prototype) ℕ → Type 0
IsAnswer all (Ok ps) = AreLines all ps
IsAnswer all (Err line) = IsRefused all line

none_is_some : (p : Prototype) (o : Option Prototype) → o ≡ None → o ≡ Some p → ⊥
none_is_some p o h k = absurd (let e : None ≡ Some p = sym h ∙ k in cc)

-- a line that is not read ends the lines of no file
not_read : (passed : List (List ℕ)) (size : ℕ) (line : List ℕ) → size ≡ length (concat passed) → prototype_within size line ≡ None → AreSome (passed ++ line ∷ []) → ⊥
not_read passed size line is h some =
    let last = last_line passed line some.prototypes some.are.are some.are.each in
    let long = length-more passed line in
    let within = some.are.within in
    let fits : size + length line ≤ most_bytes = omega arith in
    none_is_some last.prototype (prototype_within size line) h (told_within size line last.prototype last.told last.is fits)

take_one : (passed more : List (List ℕ)) (line : List ℕ) → take (suc (length passed)) (passed ++ line ∷ more) ≡ passed ++ line ∷ []
take_one [] more line = ap (λ ls. line ∷ ls) (none more)
  where
    none : (ls : List (List ℕ)) → take 0 ls ≡ []
    none [] = refl
    none (l ∷ ls) = refl
take_one (p ∷ passed) more line = ap (λ ls. p ∷ ls) (take_one passed more line)

take_passed : (passed more : List (List ℕ)) → take (length passed) (passed ++ more) ≡ passed
take_passed [] [] = refl
take_passed [] (l ∷ ls) = refl
take_passed (p ∷ passed) more = ap (λ ls. p ∷ ls) (take_passed passed more)

length_one : (passed : List (List ℕ)) (line : List ℕ) → length (passed ++ line ∷ []) ≡ suc (length passed)
length_one [] line = refl
length_one (p ∷ passed) line = let e = length_one passed line in omega arith

refused_at : (done : List Prototype) (number size : ℕ) (passed more : List (List ℕ)) (line : List ℕ) → AreLines passed done → number ≡ suc (length passed) → size ≡ length (concat passed)
    → prototype_within size line ≡ None → IsRefused (passed ++ line ∷ more) number
refused_at done number size passed more line h counted sized none = record {
  before = length passed;
  next = counted;
  some = subst AreSome (sym (take_passed passed (line ∷ more))) (record { prototypes = done; are = h });
  none = λ some. not_read passed size line sized none
      (subst AreSome (ap (λ n. take n (passed ++ line ∷ more)) counted ∙ take_one passed more line) some);
}

-- a line that is read, and what follows it
by_line : (done : List Prototype) (number size : ℕ) (passed : List (List ℕ)) (line : List ℕ) (more : List (List ℕ)) (next : Prototype → Result (List Prototype) ℕ)
    → AreLines passed done → number ≡ suc (length passed) → size ≡ length (concat passed) → (o : Option Prototype) → prototype_within size line ≡ o
    → ((p : Prototype) → prototype_within size line ≡ Some p → IsAnswer (passed ++ line ∷ more) (next p)) → IsAnswer (passed ++ line ∷ more) (behind_line number next o)
by_line done number size passed line more next h counted sized None found rest = refused_at done number size passed more line h counted sized found
by_line done number size passed line more next h counted sized (Some p) found rest = rest p found

longer : (done : List Prototype) (size : ℕ) (passed : List (List ℕ)) (line : List ℕ) (p : Prototype) → AreLines passed done → size ≡ length (concat passed)
    → prototype_within size line ≡ Some p → AreLines (passed ++ line ∷ []) (done ++ p ∷ [])
longer done size passed line p h sized found =
    let w = read_within size line p found in
    let r = read_line line p w.read in
    let fits : length (concat passed) + length line ≤ most_bytes = let f = w.fits in omega arith in
    one_more passed done line p h r.told r.line_of fits

answered : (done : List Prototype) (number size : ℕ) (passed ls : List (List ℕ)) → AreLines passed done → number ≡ suc (length passed) → size ≡ length (concat passed)
    → IsAnswer (passed ++ ls) (prototypes_behind done number size ls)
unfolding prototypes_behind
answered done number size passed [] h counted sized = subst (λ ls. AreLines ls done) (sym (append-nil passed)) h
answered done number size passed (line ∷ more) h counted sized =
    by_line done number size passed line more (λ p. prototypes_behind (done ++ p ∷ []) (suc number) (size + length line) more) h counted sized (prototype_within size line) refl
    (λ p found.
    let one = length_one passed line in
    let long = length-more passed line in
    let count : suc number ≡ suc (length (passed ++ line ∷ [])) = omega arith in
    let sum : size + length line ≡ length (concat (passed ++ line ∷ [])) = omega arith in
    subst (λ ls. IsAnswer ls (prototypes_behind (done ++ p ∷ []) (suc number) (size + length line) more)) (append_assoc passed (line ∷ []) more)
    (answered (done ++ p ∷ []) (suc number) (size + length line) (passed ++ line ∷ []) more (longer done size passed line p h sized found) count sum))

no_lines : AreLines [] []
no_lines = record { are = refl; each = refl; within = omega arith }

answer : (bytes : List ℕ) → IsAnswer (lines bytes) (reading bytes)
unfolding reading
answer bytes = answered [] 1 0 [] (lines bytes) no_lines refl refl

-- ## The reader

pub read_file : (bytes : List ℕ) (ps : List Prototype) → reading bytes ≡ Ok ps → IsPrototypeFile bytes ps
read_file bytes ps h = file_of_lines bytes ps (subst (IsAnswer (lines bytes)) h (answer bytes))

refusal : (bytes : List ℕ) (line : ℕ) → IsRefused (lines bytes) line → RefusedLine bytes line
refusal bytes line r = record {
  before = r.before;
  next = r.next;
  file = first_file bytes r.before r.some;
  none = λ file. r.none (first_are bytes line file);
}

pub read_refusal : (bytes : List ℕ) (line : ℕ) → reading bytes ≡ Err line → RefusedLine bytes line
read_refusal bytes line h = refusal bytes line (subst (IsAnswer (lines bytes)) h (answer bytes))

-- ## One answer

-- no line is refused that stands before another one, up to which the lines are those of a file
no_earlier : (bytes : List ℕ) (line end : ℕ) → line ≤ end → AreSome (take end (lines bytes)) → RefusedLine bytes line → ⊥
no_earlier bytes line end low some r =
    r.none (first_file bytes line (subst AreSome (take-take line end (lines bytes) low) (fewer line (take end (lines bytes)) some)))

no_line : (bytes : List ℕ) (ps : List Prototype) → AreLines (lines bytes) ps → (line : ℕ) → RefusedLine bytes line → ⊥
no_line bytes ps are line r = r.none (first_file bytes line (fewer line (lines bytes) (record { prototypes = ps; are = are })))

one_line : (bytes : List ℕ) (line : ℕ) → IsRefused (lines bytes) line → (other : ℕ) → RefusedLine bytes other → other ≡ line
one_line bytes line r other q = by_order (cases_order other line)
  where
    by_order : (other ≡ line) ⊎ ((other < line) ⊎ (line < other)) → other ≡ line
    by_order (inl same) = same
    by_order (inr (inl below)) = let e = r.next in absurd (no_earlier bytes other r.before (omega arith) r.some q)
    by_order (inr (inr above)) =
        let e = q.next in absurd (no_earlier bytes line q.before (omega arith) (first_are bytes q.before q.file) (refusal bytes line r))

by_answer : (bytes : List ℕ) (r : Result (List Prototype) ℕ) → IsAnswer (lines bytes) r → Verdict bytes
by_answer bytes (Ok ps) are = is_file ps (file_of_lines bytes ps are) (no_line bytes ps are)
by_answer bytes (Err line) r =
    is_refused line (refusal bytes line r)
    (λ file. r.none (fewer line (lines bytes) (record { prototypes = file.prototypes; are = lines_of_file bytes file.prototypes file.is })))
    (one_line bytes line r)

pub verdict : (bytes : List ℕ) → Verdict bytes
verdict bytes = by_answer bytes (reading bytes) (answer bytes)
