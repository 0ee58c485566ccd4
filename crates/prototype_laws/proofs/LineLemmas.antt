-- The lines of a prototype file, one for each prototype, and those of the first lines of a text.
use Rattle.std.proofs.Common.{◌≡◌, ℕ, zero, suc, Bool, true, false, List, [], ◌∷◌, ◌++◌, map, take, append_assoc, refl, sym, ap, subst, ◌∙◌, inl, inr}
use Rattle.std.specs.Prelude.{◌==◌, ◌&&◌, not, ◌⊎◌, codes}
use Rattle.std.specs.List.{list_all, concat}
use Rattle.std.proofs.lemmas.Bool.{and_parts, and_from, cases_Bool, eqb-true, not-true, both_ways}
use Rattle.std.proofs.lemmas.List.Folds.{list_all-append}
use Rattle.prototypes.specs.c_tree.declared.declaration.CParam.{CParam}
use Rattle.prototypes.specs.c_tree.declared.types.ResultType.{ResultType}
use Rattle.prototypes.specs.c_tree.declared.types.ResultType.TheVariants as result
use Rattle.prototypes.specs.c_tree.declared.types.ParameterType.{ParameterType}
use Rattle.prototypes.specs.c_tree.declared.types.ParameterType.TheVariants as parameter
use Rattle.prototypes.specs.c_tree.declared.types.FunctionType.TheVariants as function
use Rattle.prototypes.specs.c_tree.Tokens.{is_word_byte}
use Rattle.prototypes.specs.c_tree.CWords.{is_among, is_name}
use Rattle.prototypes.specs.c_text.Types.{result_word, parameter_front}
use Rattle.prototypes.specs.c_text.Lists.{after_commas}
use Rattle.prototypes.specs.c_text.Declarations.{printed_param, printed_params}
use Rattle.prototypes.specs.fortran_text.Lines.{before_lines, lines}
use Rattle.prototypes.specs.declared.prototype.Prototype.{Prototype}
use Rattle.prototypes.specs.PrototypeText.{prototype_line, prototype_text, are_parameters, is_prototype}
use Rattle.prototype_laws.proofs.WordLemmas.{name_word}

-- ## Lines of a text

pub lines-nil : lines [] ≡ []
unfolding lines
lines-nil = refl

lines-end : (b : ℕ) (rest : List ℕ) → b == 10 ≡ true → lines (b ∷ rest) ≡ (b ∷ []) ∷ lines rest
unfolding lines
lines-end b rest h = rw h

lines-inner : (b : ℕ) (rest : List ℕ) → b == 10 ≡ false → lines (b ∷ rest) ≡ before_lines b (lines rest)
unfolding lines
lines-inner b rest h = rw h

before-more : (b : ℕ) (line : List ℕ) (more : List (List ℕ)) → before_lines b (line ∷ more) ≡ (b ∷ line) ∷ more
unfolding before_lines
before-more b line more = refl

before-none : (b : ℕ) → before_lines b [] ≡ (b ∷ []) ∷ []
unfolding before_lines
before-none b = refl

abbrev is_other : ℕ → Bool
is_other b = not (b == 10)

lines-line : (line rest : List ℕ) → list_all is_other line ≡ true → lines (line ++ 10 ∷ rest) ≡ (line ++ 10 ∷ []) ∷ lines rest
lines-line [] rest h = lines-end 10 rest refl
lines-line (b ∷ line) rest h =
    let parts = and_parts (is_other b) (list_all is_other line) h in
    lines-inner b (line ++ 10 ∷ rest) (not-true (b == 10) parts.0) ∙ ap (λ w. before_lines b w) (lines-line line rest parts.1) ∙ before-more b (line ++ 10 ∷ []) (lines rest)

-- ## The line of a prototype

-- a text with one line feed, its last byte
pub record IsOneLine (text : List ℕ) : Type 0 where
  pub inner : List ℕ
  pub others : list_all is_other inner ≡ true
  pub is : text ≡ inner ++ 10 ∷ []

with_front : (front text : List ℕ) → list_all is_other front ≡ true → IsOneLine text → IsOneLine (front ++ text)
with_front front text others one = record {
  inner = front ++ one.inner;
  others = list_all-append is_other front one.inner ∙ and_from (list_all is_other front) (list_all is_other one.inner) others one.others;
  is = ap (λ w. front ++ w) one.is ∙ sym (append_assoc front one.inner (10 ∷ []));
}

word_byte_other : (b : ℕ) → is_word_byte b ≡ true → is_other b ≡ true
word_byte_other b h = by_test (b == 10) refl
  where
    by_test : (t : Bool) → b == 10 ≡ t → not t ≡ true
    by_test true same = absurd (both_ways (is_word_byte b) (ap is_word_byte (eqb-true b 10 same)) h)
    by_test false same = refl

word_bytes_other : (w : List ℕ) → list_all is_word_byte w ≡ true → list_all is_other w ≡ true
word_bytes_other [] h = refl
word_bytes_other (b ∷ w) h =
    let parts = and_parts (is_word_byte b) (list_all is_word_byte w) h in
    and_from (is_other b) (list_all is_other w) (word_byte_other b parts.0) (word_bytes_other w parts.1)

name_other : (name : List ℕ) → is_name name ≡ true → list_all is_other name ≡ true
name_other name h =
    let w = name_word name h in
    subst (λ n. list_all is_other n ≡ true) (sym w.is) (and_from (is_other w.first) (list_all is_other w.later) (word_byte_other w.first w.begins) (word_bytes_other w.later w.each))

result_other : (r : ResultType) → list_all is_other (result_word r) ≡ true
result_other result.Int = refl
result_other result.Integer = refl
result_other result.Logical = refl
result_other result.Void = refl

type_other : (of : ParameterType) → list_all is_other (parameter_front of) ≡ true
type_other parameter.Integers = refl
type_other parameter.Logicals = refl
type_other parameter.Chars = refl
type_other parameter.Length = refl
type_other parameter.Int = refl
type_other (parameter.Function function.Subroutine) = refl
type_other (parameter.Function function.Integer) = refl
type_other (parameter.Function function.Logical) = refl
type_other (parameter.Function function.Unknown) = refl

both_other : (xs ys : List ℕ) → list_all is_other xs ≡ true → list_all is_other ys ≡ true → list_all is_other (xs ++ ys) ≡ true
both_other xs ys h k = list_all-append is_other xs ys ∙ and_from (list_all is_other xs) (list_all is_other ys) h k

after_other : (before : List (List ℕ)) (ps : List CParam) → are_parameters before ps ≡ true → list_all is_other (after_commas printed_param ps) ≡ true
unfolding are_parameters
after_other before [] h = refl
after_other before (p ∷ ps) h =
    let parts = and_parts (is_name p.name) (not (is_among p.name before) && are_parameters (p.name ∷ before) ps) h in
    let inner = and_parts (not (is_among p.name before)) (are_parameters (p.name ∷ before) ps) parts.1 in
    both_other (codes ", " ++ printed_param p) (after_commas printed_param ps)
    (both_other (codes ", ") (printed_param p) refl (both_other (parameter_front p.of) p.name (type_other p.of) (name_other p.name parts.0)))
    (after_other (p.name ∷ before) ps inner.1)

params_other : (ps : List CParam) → are_parameters [] ps ≡ true → list_all is_other (printed_params ps) ≡ true
unfolding printed_params are_parameters
params_other [] h = refl
params_other (p ∷ ps) h =
    let parts = and_parts (is_name p.name) (are_parameters (p.name ∷ []) ps) h in
    both_other (printed_param p) (after_commas printed_param ps) (both_other (parameter_front p.of) p.name (type_other p.of) (name_other p.name parts.0))
    (after_other (p.name ∷ []) ps parts.1)

close_line : IsOneLine (codes ");\n")
close_line = record { inner = codes ");"; others = refl; is = refl }

one_line : (p : Prototype) → is_prototype p ≡ true → IsOneLine (prototype_line p)
unfolding prototype_line is_prototype
one_line p h =
    let parts = and_parts (is_name p.name) (are_parameters [] p.params) h in
    with_front (codes "extern ") _ refl
    (with_front (result_word p.result) _ (result_other p.result)
    (with_front (codes " ") _ refl
    (with_front p.name _ (name_other p.name parts.0)
    (with_front (codes "(") _ refl
    (with_front (printed_params p.params) _ (params_other p.params parts.1) close_line)))))

lines-one : (text rest : List ℕ) → IsOneLine text → lines (text ++ rest) ≡ text ∷ lines rest
lines-one text rest one =
    ap (λ t. lines (t ++ rest)) one.is ∙ ap lines (append_assoc one.inner (10 ∷ []) rest) ∙ lines-line one.inner rest one.others ∙ ap (λ t. t ∷ lines rest) (sym one.is)

-- the lines of a file are those of its prototypes
pub lines-text : (ps : List Prototype) → list_all is_prototype ps ≡ true → lines (prototype_text ps) ≡ map prototype_line ps
lines-text [] h = lines-nil
lines-text (p ∷ ps) h =
    let parts = and_parts (is_prototype p) (list_all is_prototype ps) h in
    lines-one (prototype_line p) (prototype_text ps) (one_line p parts.0) ∙ ap (λ ls. prototype_line p ∷ ls) (lines-text ps parts.1)

pub concat-map : (ps : List Prototype) → concat (map prototype_line ps) ≡ prototype_text ps
concat-map [] = refl
concat-map (p ∷ ps) = ap (λ t. prototype_line p ++ t) (concat-map ps)

-- ## The first lines of a text

concat-before : (b : ℕ) (ls : List (List ℕ)) → concat (before_lines b ls) ≡ b ∷ concat ls
unfolding before_lines
concat-before b [] = refl
concat-before b (line ∷ more) = refl

take-none : (n : ℕ) → let none : List (List ℕ) = [] in take n none ≡ none
take-none zero = refl
take-none (suc n) = refl

-- the lines of the first lines of a text, by its first byte and the lines behind that
first-more : (b n : ℕ) (ls : List (List ℕ)) → (b == 10 ≡ false) → ((k : ℕ) → lines (concat (take k ls)) ≡ take k ls)
    → lines (concat (take (suc n) (before_lines b ls))) ≡ take (suc n) (before_lines b ls)
unfolding before_lines
first-more b n [] other h =
    ap (λ ls. lines (b ∷ concat ls)) (take-none n) ∙ lines-inner b [] other ∙ ap (before_lines b) lines-nil ∙ before-none b ∙ ap (λ ls. (b ∷ []) ∷ ls) (sym (take-none n))
first-more b n (line ∷ more) other h =
    lines-inner b (line ++ concat (take n more)) other ∙ ap (before_lines b) (h (suc n)) ∙ before-more b line (take n more)

first-by : (b n : ℕ) (rest : List ℕ) → (b == 10 ≡ true) ⊎ (b == 10 ≡ false) → ((k : ℕ) → lines (concat (take k (lines rest))) ≡ take k (lines rest))
    → lines (concat (take (suc n) (lines (b ∷ rest)))) ≡ take (suc n) (lines (b ∷ rest))
first-by b n rest (inl ended) h =
    subst (λ ls. lines (concat (take (suc n) ls)) ≡ take (suc n) ls) (sym (lines-end b rest ended))
    (lines-end b (concat (take n (lines rest))) ended ∙ ap (λ ls. (b ∷ []) ∷ ls) (h n))
first-by b n rest (inr other) h =
    subst (λ ls. lines (concat (take (suc n) ls)) ≡ take (suc n) ls) (sym (lines-inner b rest other)) (first-more b n (lines rest) other h)

none-first : (ls : List (List ℕ)) → lines (concat (take 0 ls)) ≡ take 0 ls
none-first [] = lines-nil
none-first (line ∷ more) = lines-nil

pub lines-first : (bytes : List ℕ) (n : ℕ) → lines (concat (take n (lines bytes))) ≡ take n (lines bytes)
lines-first [] zero = none-first (lines [])
lines-first [] (suc n) = subst (λ ls. lines (concat (take (suc n) ls)) ≡ take (suc n) ls) (sym lines-nil) lines-nil
lines-first (b ∷ rest) zero = none-first (lines (b ∷ rest))
lines-first (b ∷ rest) (suc n) = first-by b n rest (cases_Bool (b == 10)) (lines-first rest)

-- the lines of a text, joined, are the text
concat-by : (b : ℕ) (rest : List ℕ) → concat (lines rest) ≡ rest → (b == 10 ≡ true) ⊎ (b == 10 ≡ false) → concat (lines (b ∷ rest)) ≡ b ∷ rest
concat-by b rest h (inl ended) = ap concat (lines-end b rest ended) ∙ ap (λ w. b ∷ w) h
concat-by b rest h (inr other) = ap concat (lines-inner b rest other) ∙ concat-before b (lines rest) ∙ ap (λ w. b ∷ w) h

pub concat-lines : (bytes : List ℕ) → concat (lines bytes) ≡ bytes
concat-lines [] = ap concat lines-nil
concat-lines (b ∷ rest) = concat-by b rest (concat-lines rest) (cases_Bool (b == 10))
