-- Steps of the reader of prototype files, and of the lists that it makes.
use Rattle.std.proofs.Common.{◌≡◌, ℕ, suc, ◌+◌, ◌<◌, ◌≤◌, Bool, true, false, List, [], ◌∷◌, ◌++◌, length, map, take, drop, get_or, refl, sym, ap, subst, ◌∙◌, Some, None, arith, length-take}
use Rattle.std.specs.Prelude.{not, ◌&&◌, ◌==◌, Ok, Err}
use Rattle.std.proofs.lemmas.Bool.{eqb-true}
use Rattle.std.specs.Borrow.{Bor}
use Rattle.c_tree.specs.declared.declaration.CParam.{CParam}
use Rattle.c_tree.specs.CWords.{is_among, is_name}
use Rattle.cards.specs.fortran_text.Lines.{lines}
use Rattle.c_tree.specs.declared.types.ParameterType.{ParameterType}
use Rattle.prototypes.specs.declared.prototype.Prototype.{Prototype}
use Rattle.prototypes.specs.PrototypeText.{are_parameters}
use Rattle.prototype_laws.specs.Reading.{params_behind, type_named, prototype_within, behind_line, prototypes_behind, reading}
use Rattle.prototype_laws.proofs.LineLemmas.{lines-nil}
use Rattle.proto_file.specs.Parts.{is_new}

-- ## Parameters

pub params-none : (done : List CParam) → params_behind done [] ≡ Some done
unfolding params_behind
params-none done = refl

pub params-alone : (done : List CParam) (word : List ℕ) → params_behind done (word ∷ []) ≡ Some done
unfolding params_behind
params-alone done word = refl

pub params-untold : (done : List CParam) (word name : List ℕ) (more : List (List ℕ)) → type_named word ≡ None → params_behind done (word ∷ name ∷ more) ≡ None
unfolding params_behind
params-untold done word name more h = rw h

pub params-told : (done : List CParam) (word name : List ℕ) (more : List (List ℕ)) (of : ParameterType) → type_named word ≡ Some of
    → params_behind done (word ∷ name ∷ more) ≡ params_behind (done ++ record { of = of; name = name } ∷ []) more
unfolding params_behind
params-told done word name more of h = rw h

-- behind the last pair of words
pub params_end : (done : List CParam) (words : List (Bor (List ℕ))) → length words < 2 → params_behind done (map (λ (w : Bor (List ℕ)). w.now) words) ≡ Some done
params_end done [] low = params-none done
params_end done (word ∷ []) low = params-alone done word.now
params_end done (word ∷ name ∷ more) low = absurd (omega arith)

pub ruleset param_steps = (params-none, params-alone, params-untold, params-told)

-- ## Names of parameters

pub named-none : (before : List (List ℕ)) → are_parameters before [] ≡ true
unfolding are_parameters
named-none before = refl

by_tests : (named among rest : Bool) → (named && not among) ≡ true → (named && (not among && rest)) ≡ rest
by_tests true false rest h = refl
by_tests true true rest h = absurd (let e : false ≡ true = h in cc)
by_tests false among rest h = absurd (let e : false ≡ true = h in cc)

by_false : (named among rest : Bool) → (named && not among) ≡ false → (named && (not among && rest)) ≡ false
by_false true false rest h = absurd (let e : true ≡ false = h in cc)
by_false true true rest h = refl
by_false false among rest h = refl

pub named-more : (before : List (List ℕ)) (first : CParam) (later : List CParam) → is_new before first.name ≡ true
    → are_parameters before (first ∷ later) ≡ are_parameters (first.name ∷ before) later
unfolding are_parameters is_new
named-more before first later h = by_tests (is_name first.name) (is_among first.name before) (are_parameters (first.name ∷ before) later) h

pub not_named : (before : List (List ℕ)) (first : CParam) (later : List CParam) → is_new before first.name ≡ false → are_parameters before (first ∷ later) ≡ false
unfolding are_parameters is_new
not_named before first later h = by_false (is_name first.name) (is_among first.name before) (are_parameters (first.name ∷ before) later) h

-- at a name that is none, or stands twice
pub not_named_first : (before : List (List ℕ)) (rest : List CParam) (first : CParam) (name : List ℕ) → 1 ≤ length rest → first ≡ get_or rest 0 first → name ≡ first.name
    → is_new before name ≡ false → are_parameters before rest ≡ false
not_named_first before [] first name some is named h = absurd (omega arith)
not_named_first before (p ∷ later) first name some is named h =
    not_named before p later (subst (λ n. is_new before n ≡ false) (named ∙ ap (λ q. q.name) is) h)

fresh_by : (named among : Bool) → (named && not among) ≡ true → among ≡ false
fresh_by true false h = refl
fresh_by true true h = absurd (let e : false ≡ true = h in cc)
fresh_by false among h = absurd (let e : false ≡ true = h in cc)

pub fresh : (before : List (List ℕ)) (name : List ℕ) → is_new before name ≡ true → is_among name before ≡ false
unfolding is_new
fresh before name h = fresh_by (is_name name) (is_among name before) h

pub ruleset name_steps = (named-none, named-more, not_named, fresh)

-- ## Lines

pub reading-start : (bytes : List ℕ) → reading bytes ≡ prototypes_behind [] 1 0 (lines bytes)
unfolding reading
reading-start bytes = refl

none_left : (done : List Prototype) (number size : ℕ) → prototypes_behind done number size (lines []) ≡ Ok done
unfolding prototypes_behind
none_left done number size = ap (prototypes_behind done number size) lines-nil

end_by : (bytes rest : List ℕ) (done : List Prototype) (number size : ℕ) → reading bytes ≡ prototypes_behind done number size (lines rest) → length rest ≡ 0
    → reading bytes ≡ Ok done
end_by bytes [] done number size h ended = h ∙ none_left done number size
end_by bytes (b ∷ rest) done number size h ended = absurd (omega arith)

-- behind the last line
pub read_end : (bytes rest : List ℕ) (done : List Prototype) (number size : ℕ) (ended : Bool) → reading bytes ≡ prototypes_behind done number size (lines rest)
    → ended ≡ (length rest == 0) → ended ≡ true → reading bytes ≡ Ok done
read_end bytes rest done number size ended h is so = end_by bytes rest done number size h (eqb-true (length rest) 0 (sym is ∙ so))

refused : (done : List Prototype) (number size : ℕ) (line : List ℕ) (more : List (List ℕ)) → prototype_within size line ≡ None
    → prototypes_behind done number size (line ∷ more) ≡ Err number
unfolding prototypes_behind
refused done number size line more h = ap (behind_line number (λ p. prototypes_behind (done ++ p ∷ []) (suc number) (size + length line) more)) h

read : (done : List Prototype) (number size : ℕ) (line : List ℕ) (more : List (List ℕ)) (p : Prototype) → prototype_within size line ≡ Some p
    → prototypes_behind done number size (line ∷ more) ≡ prototypes_behind (done ++ p ∷ []) (suc number) (size + length line) more
unfolding prototypes_behind
read done number size line more p h = ap (behind_line number (λ q. prototypes_behind (done ++ q ∷ []) (suc number) (size + length line) more)) h

-- at a line that is refused
pub read_stop : (bytes rest : List ℕ) (done : List Prototype) (number size n : ℕ) → reading bytes ≡ prototypes_behind done number size (lines rest)
    → lines rest ≡ take n rest ∷ lines (drop n rest) → prototype_within size (take n rest) ≡ None → reading bytes ≡ Err number
read_stop bytes rest done number size n h first none =
    h ∙ ap (prototypes_behind done number size) first ∙ refused done number size (take n rest) (lines (drop n rest)) none

-- behind a line that is read
pub read_on : (bytes rest : List ℕ) (done longer : List Prototype) (number size n next after : ℕ) (p : Prototype) → reading bytes ≡ prototypes_behind done number size (lines rest)
    → lines rest ≡ take n rest ∷ lines (drop n rest) → n ≤ length rest → prototype_within size (take n rest) ≡ Some p → longer ≡ done ++ p ∷ [] → next ≡ number + 1
    → after ≡ size + n → reading bytes ≡ prototypes_behind longer next after (lines (drop n rest))
read_on bytes rest done longer number size n next after p h first within found is counted sized =
    let count : suc number ≡ next = omega arith in
    let size_is : size + length (take n rest) ≡ after = omega (arith, length-take n rest) in
    h ∙ ap (prototypes_behind done number size) first ∙ read done number size (take n rest) (lines (drop n rest)) p found
    ∙ ap (λ ps. prototypes_behind ps (suc number) (size + length (take n rest)) (lines (drop n rest))) (sym is)
    ∙ ap (λ k. prototypes_behind longer k (size + length (take n rest)) (lines (drop n rest))) count
    ∙ ap (λ k. prototypes_behind longer next k (lines (drop n rest))) size_is
