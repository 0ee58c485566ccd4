-- Scopes stay in order where a name is declared.
use Rattle.std.proofs.Common.{◌≡◌, refl, sym, ap, ◌∙◌, Bool, true, false, not, ◌||◌, List, [], ◌∷◌, bytes_eq, ℕ, if◌then◌else◌}
use Rattle.std.specs.List.{list_all}
use Rattle.std.proofs.lemmas.Bool.{and_from, or_left, or_right}
use Rattle.c_grammar_laws.specs.c_tree.CWords.{is_among, is_name}
use Rattle.c_grammar_laws.specs.c_tree.CExpressionText.{Scope}
use Rattle.c_grammar_laws.specs.c_tree.CDeclarationText.{without, with_object, with_array, with_function, with_pointer}
use Rattle.c_grammar_laws.proofs.TokenGood.{equal-texts}
use Rattle.c_statement_laws.specs.StatementLaws.{PointersAmong, InOrder, ScopesInOrder}
use Rattle.c_statement_laws.proofs.LabelLaws.{all-at, all-each}

left : (name other : List ℕ) (more : List (List ℕ)) → bytes_eq name other ≡ true → without name (other ∷ more) ≡ without name more
left name other more h = ap (λ (t : Bool). if not t then other ∷ without name more else without name more) h

kept : (name other : List ℕ) (more : List (List ℕ)) → bytes_eq name other ≡ false → without name (other ∷ more) ≡ other ∷ without name more
kept name other more h = ap (λ (t : Bool). if not t then other ∷ without name more else without name more) h

-- what is among the others is among all, and is another name
pub among-without : (name one : List ℕ) (names : List (List ℕ)) → is_among one (without name names) ≡ true → (is_among one names ≡ true) × (bytes_eq name one ≡ false)
among-without name one [] h = absurd (let e : false ≡ true = h in cc)
among-without name one (other ∷ more) h = by (bytes_eq name other) refl (bytes_eq one other) refl (λ k. among-without name one more k)
  where
    by : (drops : Bool) → bytes_eq name other ≡ drops → (same : Bool) → bytes_eq one other ≡ same
        → (is_among one (without name more) ≡ true → (is_among one more ≡ true) × (bytes_eq name one ≡ false))
        → (is_among one (other ∷ more) ≡ true) × (bytes_eq name one ≡ false)
    by true d same s later =
        let k = later (sym (ap (is_among one) (left name other more d)) ∙ h) in (or_right (bytes_eq one other) (is_among one more) k.0, k.1)
    by false d true s later = (or_left (bytes_eq one other) (is_among one more) s, ap (bytes_eq name) (equal-texts one other s) ∙ d)
    by false d false s later =
        let k = later (sym (ap (λ z. z || is_among one (without name more)) s) ∙ (sym (ap (is_among one) (kept name other more d)) ∙ h)) in
        (or_right (bytes_eq one other) (is_among one more) k.0, k.1)

pub without-among : (name one : List ℕ) (names : List (List ℕ)) → is_among one names ≡ true → bytes_eq name one ≡ false → is_among one (without name names) ≡ true
without-among name one [] h k = absurd (let e : false ≡ true = h in cc)
without-among name one (other ∷ more) h k = by (bytes_eq name other) refl (bytes_eq one other) refl (λ g. without-among name one more g k)
  where
    by : (drops : Bool) → bytes_eq name other ≡ drops → (same : Bool) → bytes_eq one other ≡ same → (is_among one more ≡ true → is_among one (without name more) ≡ true)
        → is_among one (without name (other ∷ more)) ≡ true
    by true d true s later = absurd (let e : true ≡ false = sym d ∙ (ap (bytes_eq name) (sym (equal-texts one other s)) ∙ k) in cc)
    by true d false s later = ap (is_among one) (left name other more d) ∙ later (sym (ap (λ z. z || is_among one more) s) ∙ h)
    by false d true s later = ap (is_among one) (kept name other more d) ∙ or_left (bytes_eq one other) (is_among one (without name more)) s
    by false d false s later =
        ap (is_among one) (kept name other more d)
        ∙ or_right (bytes_eq one other) (is_among one (without name more)) (later (sym (ap (λ z. z || is_among one more) s) ∙ h))

names-without : (name : List ℕ) (names : List (List ℕ)) → list_all is_name names ≡ true → list_all is_name (without name names) ≡ true
names-without name names h =
    all-each is_name (without name names) (λ one m. all-at is_name one names h (among-without name one names m).0)

and-more : (name : List ℕ) (names : List (List ℕ)) → is_name name ≡ true → list_all is_name names ≡ true → list_all is_name (name ∷ without name names) ≡ true
and-more name names one h = and_from (is_name name) (list_all is_name (without name names)) one (names-without name names h)

-- a pointer that stays is among the objects that stay
pointer-stays : (name : List ℕ) (scope : Scope) → PointersAmong scope → (one : List ℕ) → is_among one (without name scope.pointers) ≡ true
    → is_among one (without name scope.objects) ≡ true
pointer-stays name scope among one h =
    let k = among-without name one scope.pointers h in without-among name one scope.objects (among one k.0) k.1

with-more : (name : List ℕ) (scope : Scope) → PointersAmong scope → (one : List ℕ) → is_among one (name ∷ without name scope.pointers) ≡ true
    → is_among one (name ∷ without name scope.objects) ≡ true
with-more name scope among one h = by (bytes_eq one name) refl
  where
    by : (same : Bool) → bytes_eq one name ≡ same → is_among one (name ∷ without name scope.objects) ≡ true
    by true s = or_left (bytes_eq one name) (is_among one (without name scope.objects)) s
    by false s =
        or_right (bytes_eq one name) (is_among one (without name scope.objects))
        (pointer-stays name scope among one (sym (ap (λ z. z || is_among one (without name scope.pointers)) s) ∙ h))

module _ (name : List ℕ) (scope : Scope) (named : is_name name ≡ true) (good : InOrder scope) where
  with-object : InOrder (with_object name scope)
  with-object = record {
    of_names = record {
      objects = and-more name scope.objects named good.of_names.objects;
      functions = names-without name scope.functions good.of_names.functions;
      pointers = names-without name scope.pointers good.of_names.pointers;
    };
    pointers = λ one h. or_right (bytes_eq one name) (is_among one (without name scope.objects)) (pointer-stays name scope good.pointers one h);
  }

  with-array : InOrder (with_array name scope)
  with-array = record {
    of_names = record {
      objects = and-more name scope.objects named good.of_names.objects;
      functions = names-without name scope.functions good.of_names.functions;
      pointers = names-without name scope.pointers good.of_names.pointers;
    };
    pointers = λ one h. or_right (bytes_eq one name) (is_among one (without name scope.objects)) (pointer-stays name scope good.pointers one h);
  }

  with-function : InOrder (with_function name scope)
  with-function = record {
    of_names = record {
      objects = names-without name scope.objects good.of_names.objects;
      functions = and-more name scope.functions named good.of_names.functions;
      pointers = names-without name scope.pointers good.of_names.pointers;
    };
    pointers = λ one h. pointer-stays name scope good.pointers one h;
  }

  with-pointer : InOrder (with_pointer name scope)
  with-pointer = record {
    of_names = record {
      objects = and-more name scope.objects named good.of_names.objects;
      functions = names-without name scope.functions good.of_names.functions;
      pointers = and-more name scope.pointers named good.of_names.pointers;
    };
    pointers = λ one h. with-more name scope good.pointers one h;
  }

pub scopes_in_order : ScopesInOrder
scopes_in_order = record {
  at_first = record {
    of_names = record { objects = refl; functions = refl; pointers = refl };
    pointers = λ name h. absurd (let e : false ≡ true = h in cc);
  };
  object = with-object;
  array = with-array;
  function = with-function;
  pointer = with-pointer;
}
