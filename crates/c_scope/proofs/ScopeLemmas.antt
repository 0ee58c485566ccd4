-- What a name stands for in the scope of a file and a function.
use Rattle.std.proofs.Common.{◌≡◌, refl, sym, ap, ◌∙◌, subst, ℕ, Bool, true, false, ◌||◌, if◌then◌else◌, List, [], ◌∷◌, ◌++◌, codes, Option, Some, None, is_some, Result, Ok, Err, OnOk, OnErr}
use Rattle.c_lexer.specs.c_tree.CWords.{is_among}
use Rattle.c_lexer.specs.c_tree.CExpressionText.{Scope}
use Rattle.c_lexer.specs.c_tree.CText.{no_names}
use Rattle.std.specs.Borrow.{Bor}
use Rattle.c_readers.specs.ExpressionReader.{is_known}
use Rattle.c_readers.specs.CallReader.{has_some}
use Rattle.c_scope.specs.declared.class.NameClass.{NameClass}
use Rattle.c_scope.specs.declared.class.NameClass.TheVariants as class
use Rattle.c_scope.specs.declared.scope.CScope.{CScope}
use Rattle.c_scope.specs.NamesSeen.{Names, with_name, behind, declared, class_in, stand_once, or_outside, is_object, is_function, is_pointer, is_array}
use Rattle.c_scope.specs.ScopeSeen.{scope_of, file_scope_of, here_of, file_here_of, class_of}
use Rattle.c_scope.proofs.NameLemmas.{equal-self, IsToldBy, behind-tells, behind-more, declared-more, declared-has, once-more, none-among, pointer-more}

none-told : (q : List ℕ) → IsToldBy q None no_names
none-told q = record { objects = refl; arrays = refl; functions = refl; pointers = refl }

or-none : (of : Option NameClass) → or_outside of None ≡ of
or-none None = refl
or-none (Some of) = refl

pub file-tells : (s : CScope) (q : List ℕ) → IsToldBy q (class_in q s.file.entries) (file_scope_of s)
unfolding file_scope_of
file-tells s q =
    subst (λ z. IsToldBy q z (behind s.file.entries no_names)) (or-none (class_in q s.file.entries))
    (behind-tells q s.file.entries None no_names s.file_once (none-told q))

pub scope-tells : (s : CScope) (q : List ℕ) → IsToldBy q (class_of s q) (scope_of s)
unfolding scope_of
scope-tells s q = behind-tells q s.function.entries (class_in q s.file.entries) (file_scope_of s) s.function_once (file-tells s q)

known-by : (of : NameClass) (more : Bool) → (is_object (Some of) || (is_function (Some of) || more)) ≡ true
known-by class.Object more = refl
known-by class.Array more = refl
known-by class.Function more = refl
known-by class.Pointer more = refl

pub known-declared : (s : CScope) (q : List ℕ) (of : NameClass) → class_of s q ≡ Some of → is_known (scope_of s) q ≡ true
known-declared s q of h =
    let told = scope-tells s q in
    ap (λ z. z || (is_among q (scope_of s).functions || is_among q (codes "TRUE_" ∷ codes "FALSE_" ∷ []))) (told.objects ∙ ap is_object h)
    ∙ (ap (λ z. is_object (Some of) || (z || is_among q (codes "TRUE_" ∷ codes "FALSE_" ∷ []))) (told.functions ∙ ap is_function h)
    ∙ known-by of (is_among q (codes "TRUE_" ∷ codes "FALSE_" ∷ [])))

pub known-otherwise : (s : CScope) (q : List ℕ) → class_of s q ≡ None → is_known (scope_of s) q ≡ is_among q (codes "TRUE_" ∷ codes "FALSE_" ∷ [])
known-otherwise s q h =
    let told = scope-tells s q in
    ap (λ z. z || (is_among q (scope_of s).functions || is_among q (codes "TRUE_" ∷ codes "FALSE_" ∷ []))) (told.objects ∙ ap is_object h)
    ∙ ap (λ z. z || is_among q (codes "TRUE_" ∷ codes "FALSE_" ∷ [])) (told.functions ∙ ap is_function h)

pub functions-are : (s : CScope) (q : List ℕ) → is_among q (scope_of s).functions ≡ is_function (class_of s q)
functions-are s q = (scope-tells s q).functions

pub pointers-are : (s : CScope) (q : List ℕ) → is_among q (scope_of s).pointers ≡ is_pointer (class_of s q)
pointers-are s q = (scope-tells s q).pointers

pub arrays-are : (s : CScope) (q : List ℕ) → is_among q (scope_of s).arrays ≡ is_array (class_of s q)
arrays-are s q = (scope-tells s q).arrays

pub ruleset known_names = (known-declared, known-otherwise)

pub ruleset told_names = (functions-are, pointers-are, arrays-are)

-- the names that are declared
pub here-has : (s : CScope) (q : List ℕ) → is_some (class_in q s.function.entries) ≡ is_among q (here_of s)
unfolding here_of
here-has s q = declared-has q s.function.entries

pub file-has : (s : CScope) (q : List ℕ) → is_some (class_in q s.file.entries) ≡ is_among q (file_here_of s)
unfolding file_here_of
file-has s q = declared-has q s.file.entries

pub ruleset names_here = (here-has, file-has)

-- ## A declaration more

absent : (o : Option NameClass) → is_some o ≡ false → o ≡ None
absent None h = refl
absent (Some of) h = absurd (let e : true ≡ false = h in cc)

-- a name that is not declared is in no map
pub fresh-here : (s : CScope) (q : List ℕ) → is_among q (here_of s) ≡ false → class_in q s.function.entries ≡ None
fresh-here s q h = absent (class_in q s.function.entries) (here-has s q ∙ h)

pub fresh-in-file : (s : CScope) (q : List ℕ) → is_among q (file_here_of s) ≡ false → class_in q s.file.entries ≡ None
fresh-in-file s q h = absent (class_in q s.file.entries) (file-has s q ∙ h)

outer-pointers : (s : CScope) (q : List ℕ) → class_in q s.function.entries ≡ None → is_among q (scope_of s).pointers ≡ false
unfolding file_scope_of
outer-pointers s q none =
    pointers-are s q ∙ (ap (λ z. is_pointer (or_outside z (class_in q s.file.entries))) none
    ∙ (sym (file-tells s q).pointers ∙ none-among q (file_scope_of s).pointers s.no_parameters))

-- the facts of the names of a function with one more
pub once-here : (s : CScope) (key : Bor (List ℕ)) (of : NameClass) (names : Names) → class_in key.now s.function.entries ≡ None
    → names ≡ s.function.entries ++ (key, of) ∷ [] → stand_once names ≡ true
once-here s key of names none is = ap stand_once is ∙ once-more s.function.entries key of s.function_once none

pub points-here : (s : CScope) (key : Bor (List ℕ)) (of : NameClass) (names : Names) (b : Bool) → class_in key.now s.function.entries ≡ None
    → names ≡ s.function.entries ++ (key, of) ∷ [] → b ≡ (s.pointer || is_pointer (Some of))
    → b ≡ has_some (behind names (behind s.file.entries no_names)).pointers
unfolding scope_of file_scope_of
points-here s key of names b none is pointer =
    pointer ∙ (pointer-more s.pointer of key.now (scope_of s) (outer-pointers s key.now none) s.points
    ∙ ap (λ (z : Scope). has_some z.pointers) (sym (ap (λ z. behind z (file_scope_of s)) is ∙ behind-more s.function.entries (key, of) (file_scope_of s))))

pub scope-here : (s : CScope) (key : Bor (List ℕ)) (of : NameClass) (names : Names) → names ≡ s.function.entries ++ (key, of) ∷ []
    → behind names (file_scope_of s) ≡ with_name of key.now (scope_of s)
unfolding scope_of
scope-here s key of names is = ap (λ z. behind z (file_scope_of s)) is ∙ behind-more s.function.entries (key, of) (file_scope_of s)

pub more-here : (s : CScope) (key : Bor (List ℕ)) (of : NameClass) (names : Names) → names ≡ s.function.entries ++ (key, of) ∷ []
    → declared names [] ≡ key.now ∷ here_of s
unfolding here_of
more-here s key of names is = ap (λ z. declared z []) is ∙ declared-more s.function.entries (key, of) []

-- ## A declaration more in the file

none-declared : (names : Names) → declared names [] ≡ [] → names ≡ []
none-declared [] h = refl
none-declared (one ∷ later) h =
    let found : is_some (class_in one.0.now (one ∷ later)) ≡ true = ap (λ z. is_some (if z then Some one.1 else class_in one.0.now later)) (equal-self one.0.now) in
    let missed : is_some (class_in one.0.now (one ∷ later)) ≡ false = declared-has one.0.now (one ∷ later) ∙ ap (λ z. is_among one.0.now z) h in
    absurd (let e : true ≡ false = sym found ∙ missed in cc)

pub outside-functions : (s : CScope) → here_of s ≡ [] → s.function.entries ≡ []
unfolding here_of
outside-functions s h = none-declared s.function.entries h

pub once-in-file : (s : CScope) (key : Bor (List ℕ)) (of : NameClass) (names : Names) → class_in key.now s.file.entries ≡ None
    → names ≡ s.file.entries ++ (key, of) ∷ [] → stand_once names ≡ true
once-in-file s key of names none is = ap stand_once is ∙ once-more s.file.entries key of s.file_once none

pub scope-in-file : (s : CScope) (key : Bor (List ℕ)) (of : NameClass) (names : Names) → names ≡ s.file.entries ++ (key, of) ∷ []
    → behind names no_names ≡ with_name of key.now (file_scope_of s)
unfolding file_scope_of
scope-in-file s key of names is = ap (λ z. behind z no_names) is ∙ behind-more s.file.entries (key, of) no_names

pub more-in-file : (s : CScope) (key : Bor (List ℕ)) (of : NameClass) (names : Names) → names ≡ s.file.entries ++ (key, of) ∷ []
    → declared names [] ≡ key.now ∷ file_here_of s
unfolding file_here_of
more-in-file s key of names is = ap (λ z. declared z []) is ∙ declared-more s.file.entries (key, of) []

pub no-parameters-in-file : (s : CScope) (key : Bor (List ℕ)) (of : NameClass) (names : Names) → names ≡ s.file.entries ++ (key, of) ∷ [] → is_pointer (Some of) ≡ false
    → has_some (behind names no_names).pointers ≡ false
unfolding file_scope_of
no-parameters-in-file s key of names is not_one =
    ap (λ (z : Scope). has_some z.pointers) (scope-in-file s key of names is)
    ∙ (sym (pointer-more false of key.now (file_scope_of s) (none-among key.now (file_scope_of s).pointers s.no_parameters) (sym s.no_parameters)) ∙ not_one)

pub points-in-file : (s : CScope) (names : Names) → here_of s ≡ [] → has_some (behind names no_names).pointers ≡ false
    → s.pointer ≡ has_some (behind s.function.entries (behind names no_names)).pointers
unfolding behind
points-in-file s names outside none =
    let empty = outside-functions s outside in
    let before : s.pointer ≡ false = s.points ∙ (ap (λ (z : Names). has_some (behind z (behind s.file.entries no_names)).pointers) empty ∙ s.no_parameters) in
    before ∙ (sym none ∙ sym (ap (λ (z : Names). has_some (behind z (behind names no_names)).pointers) empty))

pub only-in-file : (s : CScope) (inner : Scope) → here_of s ≡ [] → behind s.function.entries inner ≡ inner
unfolding behind
only-in-file s inner outside = ap (λ z. behind z inner) (outside-functions s outside)

-- what holds of the names that stood there, and of those with one more, holds whether there was memory or not
pub either-way : {A E : Type 0} (P : Names → Type 0) (r : Result A E) (old more now : Names) → OnOk r (now ≡ more) → OnErr r (now ≡ old) → P old → P more → P now
either-way P (Ok x) old more now on_ok on_err before after = subst P (sym on_ok) after
either-way P (Err e) old more now on_ok on_err before after = subst P (sym on_err) before
