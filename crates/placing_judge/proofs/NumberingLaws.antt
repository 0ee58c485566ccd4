-- Names that keep their numbers, and equations between numbers that say what those between names say.
use Rattle.std.proofs.Common.{◌≡◌, ℕ, ◌<◌, List, [], ◌∷◌, ◌++◌, map, Option, Some, None, ◌⊎◌, inl, inr, arith, refl, sym, ap, subst, ◌∙◌}
use Rattle.std.proofs.lemmas.List.{map-append}
use Rattle.f_tree.specs.Values.{Bytes}
use Rattle.f_tree.specs.Setting.{IsIn, first_in, later_in}
use Rattle.declaration_rows.specs.PlacingRows as placing
use Rattle.name_table.specs.Named.{value_of}
use Rattle.offset_classes.specs.declared.nodes.Equation.{Equation}
use Rattle.offset_classes.specs.Standing.{Link, link_of, links_of, AreBelow}
use Rattle.placing_orders.specs.Numbered.{named, HasLink, AreNumbered, HasNumber, AreSome}
use Rattle.placed_numbers.specs.Owned.{AreWithin}
use Rattle.unit_equations.specs.declared.numbers.Numbers.{Numbers}
use Rattle.unit_equations.specs.NumbersTold.{count_of, name_at, IsNumberOf, AreNumbers, Keeps}
use Rattle.placing_judge.specs.Numbering.{said_by, IsSaid, AreSaid, AreNamed}

-- NAMES KEEP THEIR NUMBERS
pub keeps_itself : (t : Numbers) → Keeps t t
keeps_itself t = record { no_fewer = omega arith; same = λ i h. refl }

pub keeps_along : (a b c : Numbers) → Keeps a b → Keeps b c → Keeps a c
keeps_along a b c one other = record {
  no_fewer = let k = one.no_fewer in let m = other.no_fewer in omega arith;
  same = λ i h. other.same i (let k = one.no_fewer in omega arith) ∙ one.same i h;
}

still_below : (a b : Numbers) → Keeps a b → (i : ℕ) → i < count_of a → i < count_of b
still_below a b keeps i h = let k = keeps.no_fewer in omega arith

pub number_kept : (a b : Numbers) → Keeps a b → (x : Bytes) (i : ℕ) → IsNumberOf a x i → IsNumberOf b x i
number_kept a b keeps x i is = record { within = still_below a b keeps i is.within; is = is.is ∙ sym (keeps.same i is.within) }

-- ONE EQUATION
pub said_one : (a b : Numbers) → Keeps a b → (x : placing.Equation) (e : Equation) → IsNumberOf a x.one e.one → IsNumberOf b x.other e.other → e.by ≡ x.by → IsSaid b e x
said_one a b keeps x e one other by =
    let first = number_kept a b keeps x.one e.one one in
    record {
      one_in = first.within;
      other_in = other.within;
      is = ap (λ y. record { one = y; other = name_at b e.other; by = e.by }) (sym first.is)
          ∙ ap (λ y. record { one = x.one; other = y; by = e.by }) (sym other.is)
          ∙ ap (λ d. record { one = x.one; other = x.other; by = d }) by;
    }

-- EQUATIONS one after another
links_end : (es : List Equation) (e : Equation) (l : Link ℕ) → IsIn l (links_of (es ++ e ∷ [])) → IsIn l (links_of es) ⊎ (l ≡ link_of e)
unfolding links_of
links_end [] e _ first_in = inr refl
links_end [] e l (later_in h) = elim h [ ]
links_end (f ∷ es) e _ first_in = inl first_in
links_end (f ∷ es) e l (later_in h) = elim (links_end es e l h) [ inl g ↦ inl (later_in g) | inr same ↦ inr same ]

no_links : (l : Link ℕ) → IsIn l (links_of []) → ⊥
unfolding links_of
no_links l h = elim h [ ]

pub said_none : (t : Numbers) → AreSaid t [] []
said_none t = record { below = record { each = λ l h. absurd (no_links l h) }; are = refl }

pub said_more : (t : Numbers) (es : List Equation) (xs : List placing.Equation) (e : Equation) (x : placing.Equation) → AreSaid t es xs → IsSaid t e x
    → AreSaid t (es ++ e ∷ []) (xs ++ x ∷ [])
said_more t es xs e x are is = record {
  below = record {
    each = λ l h. elim (links_end es e l h) [
      | inl before ↦ are.below.each l before
      | inr same ↦ (subst (λ (k : Link ℕ). k.one < count_of t) (sym same) is.one_in, subst (λ (k : Link ℕ). k.other < count_of t) (sym same) is.other_in)
    ];
  };
  are = map-append (said_by t) es (e ∷ []) ∙ ap (λ ys. ys ++ said_by t e ∷ []) are.are ∙ ap (λ y. xs ++ y ∷ []) is.is;
}

same_said : (a b : Numbers) → Keeps a b → (es : List Equation) → AreBelow (count_of a) (links_of es) → map (said_by b) es ≡ map (said_by a) es
unfolding links_of
same_said a b keeps [] below = refl
same_said a b keeps (e ∷ es) below =
    let both = below.each (link_of e) first_in in
    ap (λ y. record { one = y; other = name_at b e.other; by = e.by } ∷ map (said_by b) es) (keeps.same e.one both.0)
    ∙ ap (λ y. record { one = name_at a e.one; other = y; by = e.by } ∷ map (said_by b) es) (keeps.same e.other both.1)
    ∙ ap (λ ys. said_by a e ∷ ys) (same_said a b keeps es (record { each = λ l h. below.each l (later_in h) }))

pub said_kept : (a b : Numbers) → Keeps a b → (es : List Equation) (xs : List placing.Equation) → AreSaid a es xs → AreSaid b es xs
said_kept a b keeps es xs are = record {
  below = record { each = λ l h. let both = are.below.each l h in (still_below a b keeps l.one both.0, still_below a b keeps l.other both.1) };
  are = same_said a b keeps es are.below ∙ are.are;
}

-- NAMES one after another
in_one_of : {A : Type 0} (xs : List A) (x y : A) → IsIn y (xs ++ x ∷ []) → IsIn y xs ⊎ (y ≡ x)
in_one_of [] x _ first_in = inr refl
in_one_of [] x y (later_in h) = elim h [ ]
in_one_of (_ ∷ xs) x _ first_in = inl first_in
in_one_of (z ∷ xs) x y (later_in h) = elim (in_one_of xs x y h) [ inl g ↦ inl (later_in g) | inr e ↦ inr e ]

pub named_none : (t : Numbers) → AreNamed t [] []
named_none t = record { within = record { each = λ f h. elim h [ ] }; are = refl }

pub named_more : (t : Numbers) (fs : List ℕ) (xs : List Bytes) (f : ℕ) (x : Bytes) → AreNamed t fs xs → IsNumberOf t x f → AreNamed t (fs ++ f ∷ []) (xs ++ x ∷ [])
named_more t fs xs f x are is = record {
  within = record { each = λ g h. elim (in_one_of fs f g h) [ inl before ↦ are.within.each g before | inr same ↦ subst (λ k. k < count_of t) (sym same) is.within ] };
  are = map-append (name_at t) fs (f ∷ []) ∙ ap (λ ys. ys ++ name_at t f ∷ []) are.are ∙ ap (λ y. xs ++ y ∷ []) (sym is.is);
}

same_named : (a b : Numbers) → Keeps a b → (fs : List ℕ) → AreWithin (count_of a) fs → map (name_at b) fs ≡ map (name_at a) fs
same_named a b keeps [] within = refl
same_named a b keeps (f ∷ fs) within =
    ap (λ y. y ∷ map (name_at b) fs) (keeps.same f (within.each f first_in))
    ∙ ap (λ ys. name_at a f ∷ ys) (same_named a b keeps fs (record { each = λ g h. within.each g (later_in h) }))

pub named_kept : (a b : Numbers) → Keeps a b → (fs : List ℕ) (xs : List Bytes) → AreNamed a fs xs → AreNamed b fs xs
named_kept a b keeps fs xs are = record {
  within = record { each = λ f h. still_below a b keeps f (are.within.each f h) };
  are = same_named a b keeps fs are.within ∙ are.are;
}

-- EACH NUMBER IS A NAME OF ITS OWN
some_same : (i j : ℕ) → Some i ≡ Some j → i ≡ j
some_same i j e = ap (λ (o : Option ℕ). elim o [ None ↦ i | Some k ↦ k ]) e

pub numbers_apart : (t : Numbers) → AreNumbers t → (i j : ℕ) → i < count_of t → j < count_of t → name_at t i ≡ name_at t j → i ≡ j
numbers_apart t are i j h g e = some_same i j (sym (are.known i h) ∙ ap (value_of t.table) e ∙ are.known j g)

in_said : (t : Numbers) (es : List Equation) (l : Link ℕ) → IsIn l (links_of es) → IsIn (named (name_at t) l) (map (said_by t) es)
unfolding links_of
in_said t [] l h = elim h [ ]
in_said t (e ∷ es) _ first_in = first_in
in_said t (e ∷ es) l (later_in h) = later_in (in_said t es l h)

said_in : (t : Numbers) (es : List Equation) (x : placing.Equation) → IsIn x (map (said_by t) es) → HasLink (name_at t) (links_of es) x
unfolding links_of
said_in t [] x h = elim h [ ]
said_in t (e ∷ es) _ first_in = record { link = link_of e; is_in = first_in; is = refl }
said_in t (e ∷ es) x (later_in h) = let k = said_in t es x h in record { link = k.link; is_in = later_in k.is_in; is = k.is }

pub numbered : (t : Numbers) (es : List Equation) (xs : List placing.Equation) → AreNumbers t → AreSaid t es xs
    → AreNumbered (count_of t) (name_at t) (links_of es) xs
numbered t es xs are said = record {
  below = said.below;
  apart = numbers_apart t are;
  named_so = λ l h. subst (λ ys. IsIn (named (name_at t) l) ys) said.are (in_said t es l h);
  numbered = λ x h. said_in t es x (subst (λ ys. IsIn x ys) (sym said.are) h);
}

in_named : (t : Numbers) (fs : List ℕ) (f : ℕ) → IsIn f fs → IsIn (name_at t f) (map (name_at t) fs)
in_named t [] f h = elim h [ ]
in_named t (_ ∷ fs) f first_in = first_in
in_named t (g ∷ fs) f (later_in h) = later_in (in_named t fs f h)

named_in : (t : Numbers) (fs : List ℕ) (x : Bytes) → AreWithin (count_of t) fs → IsIn x (map (name_at t) fs) → HasNumber (count_of t) (name_at t) fs x
named_in t [] x within h = elim h [ ]
named_in t (f ∷ fs) _ within first_in = record { number = f; within = within.each f first_in; is_in = first_in; is = refl }
named_in t (f ∷ fs) x within (later_in h) =
    let k = named_in t fs x (record { each = λ g m. within.each g (later_in m) }) h in
    record { number = k.number; within = k.within; is_in = later_in k.is_in; is = k.is }

pub some_named : (t : Numbers) (fs : List ℕ) (xs : List Bytes) → AreNamed t fs xs → AreSome (count_of t) (name_at t) fs xs
some_named t fs xs are = record {
  within = are.within.each;
  named_so = λ f h. subst (λ ys. IsIn (name_at t f) ys) are.are (in_named t fs f h);
  numbered = λ x h. named_in t fs x are.within (subst (λ ys. IsIn x ys) (sym are.are) h);
}
