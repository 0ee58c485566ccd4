-- Prototype files by their lines: which lines are those of a file.
use Rattle.std.proofs.Common.{◌≡◌, ℕ, zero, suc, ◌+◌, ◌≤◌, true, List, [], ◌∷◌, ◌++◌, length, map, take, append_assoc, refl, sym, ap, subst, ◌∙◌, Some, arith, length-append}
use Rattle.std.specs.Prelude.{◌&&◌}
use Rattle.std.specs.List.{list_all, concat}
use Rattle.std.proofs.lemmas.Bool.{and_parts, and_from}
use Rattle.std.proofs.lemmas.List.Folds.{list_all-append}
use Rattle.prototypes.specs.fortran_text.Lines.{lines}
use Rattle.prototypes.specs.declared.prototype.Prototype.{Prototype}
use Rattle.prototypes.specs.PrototypeText.{prototype_line, prototype_text, is_prototype, Spells, most_bytes, IsPrototypeFile, IsFile, first_lines}
use Rattle.prototype_laws.specs.Reading.{line_prototype}
use Rattle.prototype_laws.proofs.WordLemmas.{line_prototype-line}
use Rattle.prototype_laws.proofs.LineLemmas.{lines-text, concat-map, lines-first, concat-lines}

-- ## One list of prototypes

same_some : {A : Type 0} (a b : A) → Some a ≡ Some b → a ≡ b
same_some a b h = cc

same_line : (p q : Prototype) → is_prototype p ≡ true → is_prototype q ≡ true → prototype_line p ≡ prototype_line q → p ≡ q
same_line p q h k same = same_some p q (sym (line_prototype-line p h) ∙ ap line_prototype same ∙ line_prototype-line q k)

first_same : (x y : List ℕ) (xs ys : List (List ℕ)) → x ∷ xs ≡ y ∷ ys → x ≡ y
first_same x y xs ys h = cc

later_same : (x y : List ℕ) (xs ys : List (List ℕ)) → x ∷ xs ≡ y ∷ ys → xs ≡ ys
later_same x y xs ys h = cc

none_some : (y : List ℕ) (ys : List (List ℕ)) → [] ≡ y ∷ ys → ⊥
none_some y ys h = absurd (cc)

pub same_lines : (ps qs : List Prototype) → list_all is_prototype ps ≡ true → list_all is_prototype qs ≡ true → map prototype_line ps ≡ map prototype_line qs → ps ≡ qs
same_lines [] [] h k same = refl
same_lines [] (q ∷ qs) h k same = absurd (none_some (prototype_line q) (map prototype_line qs) same)
same_lines (p ∷ ps) [] h k same = absurd (none_some (prototype_line p) (map prototype_line ps) (sym same))
same_lines (p ∷ ps) (q ∷ qs) h k same =
    let a = and_parts (is_prototype p) (list_all is_prototype ps) h in
    let b = and_parts (is_prototype q) (list_all is_prototype qs) k in
    let first = same_line p q a.0 b.0 (first_same (prototype_line p) (prototype_line q) (map prototype_line ps) (map prototype_line qs) same) in
    let later = same_lines ps qs a.1 b.1 (later_same (prototype_line p) (prototype_line q) (map prototype_line ps) (map prototype_line qs) same) in
    ap (λ r. r ∷ ps) first ∙ ap (λ r. q ∷ r) later

pub text_spells : (prototypes : List Prototype) → list_all is_prototype prototypes ≡ true → Spells (prototype_text prototypes) prototypes
text_spells prototypes h = record { text = refl; each = h }

spelled_lines : (bytes : List ℕ) (ps : List Prototype) → Spells bytes ps → lines bytes ≡ map prototype_line ps
spelled_lines bytes ps s = ap lines s.text ∙ lines-text ps s.each

pub one_list : (bytes : List ℕ) (one other : List Prototype) → Spells bytes one → Spells bytes other → one ≡ other
one_list bytes one other s t = same_lines one other s.each t.each (sym (spelled_lines bytes one s) ∙ spelled_lines bytes other t)

-- ## Lines of a file

-- the lines of these prototypes, within the limit
pub record AreLines (ls : List (List ℕ)) (ps : List Prototype) : Type 0 where
  pub are : ls ≡ map prototype_line ps
  pub each : list_all is_prototype ps ≡ true
  pub within : length (concat ls) ≤ most_bytes

-- the lines of some
pub record AreSome (ls : List (List ℕ)) : Type 0 where
  pub prototypes : List Prototype
  pub are : AreLines ls prototypes

pub lines_of_file : (bytes : List ℕ) (ps : List Prototype) → IsPrototypeFile bytes ps → AreLines (lines bytes) ps
lines_of_file bytes ps f = record {
  are = spelled_lines bytes ps f.spells;
  each = f.spells.each;
  within = subst (λ t. length t ≤ most_bytes) (sym (concat-lines bytes)) f.within;
}

joined : (ls : List (List ℕ)) (ps : List Prototype) → AreLines ls ps → IsPrototypeFile (concat ls) ps
joined ls ps h = record { spells = record { text = ap concat h.are ∙ concat-map ps; each = h.each }; within = h.within }

pub file_of_lines : (bytes : List ℕ) (ps : List Prototype) → AreLines (lines bytes) ps → IsPrototypeFile bytes ps
file_of_lines bytes ps h = subst (λ t. IsPrototypeFile t ps) (concat-lines bytes) (joined (lines bytes) ps h)

-- the first lines of a text are a file where they are the lines of some prototypes
pub first_file : (bytes : List ℕ) (n : ℕ) → AreSome (take n (lines bytes)) → IsFile (first_lines n bytes)
unfolding first_lines
first_file bytes n h = record { prototypes = h.prototypes; is = joined (take n (lines bytes)) h.prototypes h.are }

pub first_are : (bytes : List ℕ) (n : ℕ) → IsFile (first_lines n bytes) → AreSome (take n (lines bytes))
unfolding first_lines
first_are bytes n f = record {
  prototypes = f.prototypes;
  are = subst (λ ls. AreLines ls f.prototypes) (lines-first bytes n) (lines_of_file (concat (take n (lines bytes))) f.prototypes f.is);
}

-- ## Fewer lines, and one more

take-map : (n : ℕ) (ps : List Prototype) → take n (map prototype_line ps) ≡ map prototype_line (take n ps)
take-map zero [] = refl
take-map (suc n) [] = refl
take-map zero (p ∷ ps) = refl
take-map (suc n) (p ∷ ps) = ap (λ ls. prototype_line p ∷ ls) (take-map n ps)

list_all-take : (n : ℕ) (ps : List Prototype) → list_all is_prototype ps ≡ true → list_all is_prototype (take n ps) ≡ true
list_all-take zero [] h = refl
list_all-take (suc n) [] h = refl
list_all-take zero (p ∷ ps) h = refl
list_all-take (suc n) (p ∷ ps) h =
    let parts = and_parts (is_prototype p) (list_all is_prototype ps) h in
    and_from (is_prototype p) (list_all is_prototype (take n ps)) parts.0 (list_all-take n ps parts.1)

length-fewer : (n : ℕ) (ls : List (List ℕ)) → length (concat (take n ls)) ≤ length (concat ls)
length-fewer zero [] = omega arith
length-fewer (suc n) [] = omega arith
length-fewer zero (line ∷ more) = omega arith
length-fewer (suc n) (line ∷ more) = omega (arith, length-append line (concat (take n more)), length-append line (concat more), length-fewer n more)

pub fewer : (n : ℕ) (ls : List (List ℕ)) → AreSome ls → AreSome (take n ls)
fewer n ls h = record {
  prototypes = take n h.prototypes;
  are = record {
    are = ap (take n) h.are.are ∙ take-map n h.prototypes;
    each = list_all-take n h.prototypes h.are.each;
    within = let a = length-fewer n ls in let b = h.are.within in omega arith;
  };
}

concat-append : (xs ys : List (List ℕ)) → concat (xs ++ ys) ≡ concat xs ++ concat ys
concat-append [] ys = refl
concat-append (x ∷ xs) ys = ap (λ z. x ++ z) (concat-append xs ys) ∙ sym (append_assoc x (concat xs) (concat ys))

pub length-more : (xs : List (List ℕ)) (x : List ℕ) → length (concat (xs ++ x ∷ [])) ≡ length (concat xs) + length x
length-more xs x =
    let a = ap length (concat-append xs (x ∷ [])) in
    let b = length-append (concat xs) (x ++ []) in
    let d = length-append x [] in
    omega arith

pub one_more : (ls : List (List ℕ)) (ps : List Prototype) (line : List ℕ) (p : Prototype) → AreLines ls ps → is_prototype p ≡ true → line ≡ prototype_line p
    → length (concat ls) + length line ≤ most_bytes → AreLines (ls ++ line ∷ []) (ps ++ p ∷ [])
one_more ls ps line p h told is within = record {
  are = ap (λ t. t ++ line ∷ []) h.are ∙ ap (λ t. map prototype_line ps ++ t ∷ []) is ∙ sym (map-more ps p);
  each = list_all-append is_prototype ps (p ∷ []) ∙ and_from (list_all is_prototype ps) (is_prototype p && true) h.each (and_from (is_prototype p) true told refl);
  within = let e = length-more ls line in omega arith;
}
  where
    map-more : (xs : List Prototype) (x : Prototype) → map prototype_line (xs ++ x ∷ []) ≡ map prototype_line xs ++ prototype_line x ∷ []
    map-more [] x = refl
    map-more (y ∷ ys) x = ap (λ t. prototype_line y ∷ t) (map-more ys x)

-- the last of the lines of a file
pub record IsToldLine (line : List ℕ) : Type 0 where
  pub prototype : Prototype
  pub told : is_prototype prototype ≡ true
  pub is : line ≡ prototype_line prototype

pub last_line : (before : List (List ℕ)) (line : List ℕ) (ps : List Prototype) → before ++ line ∷ [] ≡ map prototype_line ps → list_all is_prototype ps ≡ true → IsToldLine line
last_line [] line [] h each = absurd (none_some line [] (sym h))
last_line [] line (p ∷ ps) h each = record {
  prototype = p;
  told = (and_parts (is_prototype p) (list_all is_prototype ps) each).0;
  is = first_same line (prototype_line p) [] (map prototype_line ps) h;
}
last_line (b ∷ before) line [] h each = absurd (none_some b (before ++ line ∷ []) (sym h))
last_line (b ∷ before) line (p ∷ ps) h each =
    last_line before line ps (later_same b (prototype_line p) (before ++ line ∷ []) (map prototype_line ps) h) (and_parts (is_prototype p) (list_all is_prototype ps) each).1
