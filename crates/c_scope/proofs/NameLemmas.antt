-- What a name stands for in the scope behind declarations.
use Rattle.std.proofs.Common.{◌≡◌, refl, sym, ap, ◌∙◌, subst, ℕ, Bool, true, false, not, ◌&&◌, ◌||◌, List, [], ◌∷◌, ◌++◌, Option, Some, None, is_some, bytes_eq, if◌then◌else◌}
use Rattle.std.specs.Borrow.{Bor}
use Rattle.std.proofs.lemmas.Slice.Eq.{bytes_eq-Decides}
use Rattle.c_lexer.specs.c_tree.CWords.{is_among}
use Rattle.c_lexer.specs.c_tree.CExpressionText.{Scope}
use Rattle.c_lexer.specs.c_tree.CDeclarationText.{without}
use Rattle.c_readers.specs.CallReader.{has_some}
use Rattle.c_scope.specs.declared.class.NameClass.{NameClass}
use Rattle.c_scope.specs.declared.class.NameClass.TheVariants as class
use Rattle.c_scope.specs.NamesSeen.{Names, with_name, behind, declared, class_in, stand_once, or_outside, is_object, is_function, is_pointer, is_array}

equal-texts : (a b : List ℕ) → bytes_eq a b ≡ true → a ≡ b
equal-texts a b h = (bytes_eq-Decides a b).0 h

pub equal-self : (a : List ℕ) → bytes_eq a a ≡ true
equal-self a = (bytes_eq-Decides a a).1 refl

-- ## A name that is hidden

kept : (name q x : List ℕ) (xs : List (List ℕ)) (b : Bool) → bytes_eq name x ≡ b → bytes_eq q name ≡ false → is_among q (without name xs) ≡ is_among q xs
    → is_among q (if not b then x ∷ without name xs else without name xs) ≡ (bytes_eq q x || is_among q xs)
kept name q x xs true h other rest =
    let here : bytes_eq q x ≡ false = ap (λ z. bytes_eq q z) (sym (equal-texts name x h)) ∙ other in
    rest ∙ ap (λ z. z || is_among q xs) (sym here)
kept name q x xs false h other rest = ap (λ z. bytes_eq q x || z) rest

among-others : (name q : List ℕ) (names : List (List ℕ)) → bytes_eq q name ≡ false → is_among q (without name names) ≡ is_among q names
among-others name q [] other = refl
among-others name q (x ∷ xs) other = kept name q x xs (bytes_eq name x) refl other (among-others name q xs other)

dropped : (q x : List ℕ) (xs : List (List ℕ)) (b : Bool) → bytes_eq q x ≡ b → is_among q (without q xs) ≡ false
    → is_among q (if not b then x ∷ without q xs else without q xs) ≡ false
dropped q x xs true h rest = rest
dropped q x xs false h rest = ap (λ z. z || is_among q (without q xs)) h ∙ rest

among-itself : (q : List ℕ) (names : List (List ℕ)) → is_among q (without q names) ≡ false
among-itself q [] = refl
among-itself q (x ∷ xs) = dropped q x xs (bytes_eq q x) refl (among-itself q xs)

hidden : (q name : List ℕ) (names : List (List ℕ)) → bytes_eq q name ≡ true → is_among q (without name names) ≡ false
hidden q name names h = subst (λ z. is_among q (without z names) ≡ false) (equal-texts q name h) (among-itself q names)

first : (q name : List ℕ) (names : List (List ℕ)) → bytes_eq q name ≡ true → is_among q (name ∷ names) ≡ true
first q name names h = ap (λ z. z || is_among q names) h

not-first : (q name : List ℕ) (names : List (List ℕ)) → bytes_eq q name ≡ false → is_among q (name ∷ without name names) ≡ is_among q names
not-first q name names h = ap (λ z. z || is_among q (without name names)) h ∙ among-others name q names h

-- ## What a name stands for

-- a name has this class in a scope
pub record IsToldBy (q : List ℕ) (of : Option NameClass) (scope : Scope) : Type 0 where
  pub objects : is_among q scope.objects ≡ is_object of
  pub arrays : is_among q scope.arrays ≡ is_array of
  pub functions : is_among q scope.functions ≡ is_function of
  pub pointers : is_among q scope.pointers ≡ is_pointer of

with-itself : (q name : List ℕ) (of : NameClass) (scope : Scope) → bytes_eq q name ≡ true → IsToldBy q (Some of) (with_name of name scope)
unfolding with_name
with-itself q name class.Object scope h = record {
  objects = first q name (without name scope.objects) h;
  arrays = hidden q name scope.arrays h;
  functions = hidden q name scope.functions h;
  pointers = hidden q name scope.pointers h;
}
with-itself q name class.Array scope h = record {
  objects = first q name (without name scope.objects) h;
  arrays = first q name (without name scope.arrays) h;
  functions = hidden q name scope.functions h;
  pointers = hidden q name scope.pointers h;
}
with-itself q name class.Function scope h = record {
  objects = hidden q name scope.objects h;
  arrays = hidden q name scope.arrays h;
  functions = first q name (without name scope.functions) h;
  pointers = hidden q name scope.pointers h;
}
with-itself q name class.Pointer scope h = record {
  objects = first q name (without name scope.objects) h;
  arrays = hidden q name scope.arrays h;
  functions = hidden q name scope.functions h;
  pointers = first q name (without name scope.pointers) h;
}

with-other : (q name : List ℕ) (of : NameClass) (outside : Option NameClass) (scope : Scope) → bytes_eq q name ≡ false → IsToldBy q outside scope
    → IsToldBy q outside (with_name of name scope)
unfolding with_name
with-other q name class.Object outside scope h told = record {
  objects = not-first q name scope.objects h ∙ told.objects;
  arrays = among-others name q scope.arrays h ∙ told.arrays;
  functions = among-others name q scope.functions h ∙ told.functions;
  pointers = among-others name q scope.pointers h ∙ told.pointers;
}
with-other q name class.Array outside scope h told = record {
  objects = not-first q name scope.objects h ∙ told.objects;
  arrays = not-first q name scope.arrays h ∙ told.arrays;
  functions = among-others name q scope.functions h ∙ told.functions;
  pointers = among-others name q scope.pointers h ∙ told.pointers;
}
with-other q name class.Function outside scope h told = record {
  objects = among-others name q scope.objects h ∙ told.objects;
  arrays = among-others name q scope.arrays h ∙ told.arrays;
  functions = not-first q name scope.functions h ∙ told.functions;
  pointers = among-others name q scope.pointers h ∙ told.pointers;
}
with-other q name class.Pointer outside scope h told = record {
  objects = not-first q name scope.objects h ∙ told.objects;
  arrays = among-others name q scope.arrays h ∙ told.arrays;
  functions = among-others name q scope.functions h ∙ told.functions;
  pointers = not-first q name scope.pointers h ∙ told.pointers;
}

absent : (o : Option NameClass) → (not (is_some o)) ≡ true → o ≡ None
absent None h = refl
absent (Some of) h = absurd (let e : false ≡ true = h in cc)

and-left : (a b : Bool) → (a && b) ≡ true → a ≡ true
and-left true b h = refl
and-left false b h = h

and-right : (a b : Bool) → (a && b) ≡ true → b ≡ true
and-right true b h = h
and-right false b h = absurd (let e : false ≡ true = h in cc)

-- the first of some declarations, by whether it is that of the name, where the later ones tell the classes of their names
behind-first : (q : List ℕ) (one : Bor (List ℕ) × NameClass) (later : Names) (outside : Option NameClass) (scope : Scope) (b : Bool) → bytes_eq q one.0.now ≡ b
    → class_in one.0.now later ≡ None → IsToldBy q outside scope
    → ((of : Option NameClass) (inner : Scope) → IsToldBy q of inner → IsToldBy q (or_outside (class_in q later) of) (behind later inner))
    → IsToldBy q (or_outside (if b then Some one.1 else class_in q later) outside) (behind later (with_name one.1 one.0.now scope))
behind-first q one later outside scope true h once told rest =
    let none : class_in q later ≡ None = subst (λ z. class_in z later ≡ None) (sym (equal-texts q one.0.now h)) once in
    subst (λ z. IsToldBy q (or_outside z (Some one.1)) (behind later (with_name one.1 one.0.now scope))) none
    (rest (Some one.1) (with_name one.1 one.0.now scope) (with-itself q one.0.now one.1 scope h))
behind-first q one later outside scope false h once told rest = rest outside (with_name one.1 one.0.now scope) (with-other q one.0.now one.1 outside scope h told)

-- the scope behind declarations tells the classes of the names
pub behind-tells : (q : List ℕ) (names : Names) (outside : Option NameClass) (scope : Scope) → stand_once names ≡ true → IsToldBy q outside scope
    → IsToldBy q (or_outside (class_in q names) outside) (behind names scope)
unfolding stand_once behind
behind-tells q [] outside scope once told = told
behind-tells q (one ∷ later) outside scope once told =
    behind-first q one later outside scope (bytes_eq q one.0.now) refl (absent (class_in one.0.now later) (and-left (not (is_some (class_in one.0.now later))) (stand_once later) once)) told
    (λ of inner h. behind-tells q later of inner (and-right (not (is_some (class_in one.0.now later))) (stand_once later) once) h)

-- ## A declaration more

pub behind-more : (names : Names) (one : Bor (List ℕ) × NameClass) (scope : Scope) → behind (names ++ one ∷ []) scope ≡ with_name one.1 one.0.now (behind names scope)
unfolding behind
behind-more [] one scope = refl
behind-more (other ∷ later) one scope = behind-more later one (with_name other.1 other.0.now scope)

pub declared-more : (names : Names) (one : Bor (List ℕ) × NameClass) (here : List (List ℕ)) → declared (names ++ one ∷ []) here ≡ one.0.now ∷ declared names here
unfolding declared
declared-more [] one here = refl
declared-more (other ∷ later) one here = declared-more later one (other.0.now ∷ here)

once-by : (name x : List ℕ) (of : NameClass) (b : Bool) (before : Option NameClass) → bytes_eq name x ≡ b → (if b then Some of else before) ≡ None
    → (bytes_eq name x ≡ false) × (before ≡ None)
once-by name x of true before h none = absurd (cc)
once-by name x of false before h none = (h, none)

flipped : (a b : List ℕ) → bytes_eq a b ≡ false → bytes_eq b a ≡ false
flipped a b h = by (bytes_eq b a) refl
  where
    by : (c : Bool) → bytes_eq b a ≡ c → c ≡ false
    by false e = refl
    by true e = absurd (let t : bytes_eq a b ≡ true = subst (λ z. bytes_eq a z ≡ true) (sym (equal-texts b a e)) (equal-self a) in let f : true ≡ false = sym t ∙ h in cc)

-- a name that is declared by none
class-more : (q name : List ℕ) (key : Bor (List ℕ)) (of : NameClass) (names : Names) → key.now ≡ name → bytes_eq q name ≡ false
    → class_in q (names ++ (key, of) ∷ []) ≡ class_in q names
class-more q name key of [] is other = ap (λ z. if z then Some of else None) (ap (λ z. bytes_eq q z) is ∙ other)
class-more q name key of (one ∷ later) is other = ap (λ z. if bytes_eq q one.0.now then Some one.1 else z) (class-more q name key of later is other)

pub once-more : (names : Names) (key : Bor (List ℕ)) (of : NameClass) → stand_once names ≡ true → class_in key.now names ≡ None → stand_once (names ++ (key, of) ∷ []) ≡ true
unfolding stand_once
once-more [] key of once none = refl
once-more (one ∷ later) key of once none =
    let apart = once-by key.now one.0.now one.1 (bytes_eq key.now one.0.now) (class_in key.now later) refl none in
    let first = and-left (not (is_some (class_in one.0.now later))) (stand_once later) once in
    ap (λ z. not (is_some z) && stand_once (later ++ (key, of) ∷ [])) (class-more one.0.now key.now key of later refl (flipped key.now one.0.now apart.0))
    ∙ (ap (λ z. z && stand_once (later ++ (key, of) ∷ [])) first
    ∙ once-more later key of (and-right (not (is_some (class_in one.0.now later))) (stand_once later) once) apart.1)

-- ## The names that are declared

has-by : (q name : List ℕ) (of : NameClass) (b : Bool) (more : Option NameClass) (before after : Bool) → (is_some more || (b || before)) ≡ after
    → (is_some (if b then Some of else more) || before) ≡ after
has-by q name of true None before after h = h
has-by q name of true (Some other) before after h = h
has-by q name of false more before after h = h

among-either : (q : List ℕ) (names : Names) (here : List (List ℕ)) → (is_some (class_in q names) || is_among q here) ≡ is_among q (declared names here)
unfolding declared
among-either q [] here = refl
among-either q (one ∷ later) here =
    has-by q one.0.now one.1 (bytes_eq q one.0.now) (class_in q later) (is_among q here) (is_among q (declared later (one.0.now ∷ here))) (among-either q later (one.0.now ∷ here))

or-false : (b : Bool) → b ≡ (b || false)
or-false true = refl
or-false false = refl

pub declared-has : (q : List ℕ) (names : Names) → is_some (class_in q names) ≡ is_among q (declared names [])
declared-has q names = or-false (is_some (class_in q names)) ∙ among-either q names []

-- ## Parameters that point to functions

pub none-among : (q : List ℕ) (names : List (List ℕ)) → has_some names ≡ false → is_among q names ≡ false
none-among q [] h = refl
none-among q (x ∷ xs) h = absurd (let e : true ≡ false = h in cc)

stays-by : (name x : List ℕ) (xs : List (List ℕ)) (b : Bool) → bytes_eq name x ≡ b → (bytes_eq name x || is_among name xs) ≡ false
    → (is_among name xs ≡ false → without name xs ≡ xs) → (if not b then x ∷ without name xs else without name xs) ≡ x ∷ xs
stays-by name x xs true h none rest = absurd (let e : true ≡ false = ap (λ z. z || is_among name xs) (sym h) ∙ none in cc)
stays-by name x xs false h none rest = ap (λ z. x ∷ z) (rest (ap (λ z. z || is_among name xs) (sym h) ∙ none))

without-absent : (name : List ℕ) (names : List (List ℕ)) → is_among name names ≡ false → without name names ≡ names
without-absent name [] h = refl
without-absent name (x ∷ xs) h = stays-by name x xs (bytes_eq name x) refl h (λ none. without-absent name xs none)

or-true : (b : Bool) → (b || true) ≡ true
or-true true = refl
or-true false = refl

none-more : (b : Bool) (name : List ℕ) (names : List (List ℕ)) → is_among name names ≡ false → b ≡ has_some names → (b || false) ≡ has_some (without name names)
none-more b name names none is = sym (or-false b) ∙ is ∙ ap has_some (sym (without-absent name names none))

pub pointer-more : (b : Bool) (of : NameClass) (name : List ℕ) (scope : Scope) → is_among name scope.pointers ≡ false → b ≡ has_some scope.pointers
    → (b || is_pointer (Some of)) ≡ has_some (with_name of name scope).pointers
unfolding with_name
pointer-more b class.Object name scope none is = none-more b name scope.pointers none is
pointer-more b class.Array name scope none is = none-more b name scope.pointers none is
pointer-more b class.Function name scope none is = none-more b name scope.pointers none is
pointer-more b class.Pointer name scope none is = or-true b
