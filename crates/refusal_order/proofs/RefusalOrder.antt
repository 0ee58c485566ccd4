-- Refusals stand in one order: by file, then card, then number; and the first of some is one of them and not after any.
use Rattle.std.specs.Prelude.{◌≡◌, ℕ, ◌<◌, ◌≤◌, nat_lt, nat_eq, Bool, true, false, ◌&&◌, ◌||◌, List, [], ◌∷◌, Option, Some, None, if◌then◌else◌}
use Rattle.std.proofs.lemmas.Bool.{eqb-true, eq-eqb, ltb-true, ltb-false, both_ways}
use Rattle.std.proofs.Common.{refl, sym, subst, arith}
use Rattle.f_tree.specs.declared.refusals.Refusal.{Refusal}
use Rattle.f_tree.specs.RefusalRows.{number_of}
use Rattle.f_tree.specs.RefusalRows.{IsNotAfter}
use Rattle.f_tree.specs.Setting.{IsIn, first_in, later_in}
use Rattle.declaration_rows.specs.Verdicts.{is_before, earlier, first_of, IsFirstOf}

-- three numbers in order
pub record Ordered (f g c d m n : ℕ) : Type 0 where
  pub file : f ≤ g
  pub card : g ≡ f → c ≤ d
  pub number : g ≡ f → d ≡ c → m ≤ n

before_by : (f g c d m n : ℕ) (a b x y z : Bool) → nat_lt f g ≡ a → nat_eq f g ≡ b → nat_lt c d ≡ x → nat_eq c d ≡ y → nat_lt m n ≡ z →
    (a || (b && (x || (y && z)))) ≡ true → Ordered f g c d m n
before_by f g c d m n true b x y z la lb lx ly lz is =
    let less : f < g = ltb-true f g la in
    record { file = omega arith; card = λ e. omega arith; number = λ e h. omega arith }
before_by f g c d m n false false x y z la lb lx ly lz is = absurd (cc)
before_by f g c d m n false true true y z la lb lx ly lz is =
    let same : f ≡ g = eqb-true f g lb in
    let less : c < d = ltb-true c d lx in
    record { file = omega arith; card = λ e. omega arith; number = λ e h. omega arith }
before_by f g c d m n false true false false z la lb lx ly lz is = absurd (cc)
before_by f g c d m n false true false true false la lb lx ly lz is = absurd (cc)
before_by f g c d m n false true false true true la lb lx ly lz is =
    let same : f ≡ g = eqb-true f g lb in
    let equal : c ≡ d = eqb-true c d ly in
    let less : m < n = ltb-true m n lz in
    record { file = omega arith; card = λ e. omega arith; number = λ e h. omega arith }

before_in_order : (f g c d m n : ℕ) → (nat_lt f g || (nat_eq f g && (nat_lt c d || (nat_eq c d && nat_lt m n)))) ≡ true → Ordered f g c d m n
before_in_order f g c d m n is = before_by f g c d m n (nat_lt f g) (nat_eq f g) (nat_lt c d) (nat_eq c d) (nat_lt m n) refl refl refl refl refl is

behind_by : (f g c d m n : ℕ) (a b x y z : Bool) → nat_lt f g ≡ a → nat_eq f g ≡ b → nat_lt c d ≡ x → nat_eq c d ≡ y → nat_lt m n ≡ z →
    (a || (b && (x || (y && z)))) ≡ false → Ordered g f d c n m
behind_by f g c d m n true b x y z la lb lx ly lz is = absurd (cc)
behind_by f g c d m n false false x y z la lb lx ly lz is =
    let least : g ≤ f = ltb-false f g la in
    let apart : f ≡ g → ⊥ = λ e. both_ways (nat_eq f g) lb (eq-eqb f g e) in
    record { file = least; card = λ e. absurd (apart e); number = λ e h. absurd (apart e) }
behind_by f g c d m n false true true y z la lb lx ly lz is = absurd (cc)
behind_by f g c d m n false true false false z la lb lx ly lz is =
    let same : f ≡ g = eqb-true f g lb in
    let least : d ≤ c = ltb-false c d lx in
    let apart : c ≡ d → ⊥ = λ e. both_ways (nat_eq c d) ly (eq-eqb c d e) in
    record { file = omega arith; card = λ e. least; number = λ e h. absurd (apart h) }
behind_by f g c d m n false true false true false la lb lx ly lz is =
    let same : f ≡ g = eqb-true f g lb in
    let equal : c ≡ d = eqb-true c d ly in
    let least : n ≤ m = ltb-false m n lz in
    record { file = omega arith; card = λ e. omega arith; number = λ e h. least }
behind_by f g c d m n false true false true true la lb lx ly lz is = absurd (cc)

behind_in_order : (f g c d m n : ℕ) → (nat_lt f g || (nat_eq f g && (nat_lt c d || (nat_eq c d && nat_lt m n)))) ≡ false → Ordered g f d c n m
behind_in_order f g c d m n is = behind_by f g c d m n (nat_lt f g) (nat_eq f g) (nat_lt c d) (nat_eq c d) (nat_lt m n) refl refl refl refl refl is

-- REFUSALS in order
ordered_refusals : (r q : Refusal) → Ordered r.file q.file r.card q.card (number_of r.kind) (number_of q.kind) → IsNotAfter r q
ordered_refusals r q o = record { file = o.file; card = o.card; number = o.number }

pub is_before_true : (r q : Refusal) → is_before r q ≡ true → IsNotAfter r q
unfolding is_before
is_before_true r q is = ordered_refusals r q (before_in_order r.file q.file r.card q.card (number_of r.kind) (number_of q.kind) is)

pub is_before_false : (r q : Refusal) → is_before r q ≡ false → IsNotAfter q r
unfolding is_before
is_before_false r q is = ordered_refusals q r (behind_in_order r.file q.file r.card q.card (number_of r.kind) (number_of q.kind) is)

pub not_after_itself : (r : Refusal) → IsNotAfter r r
not_after_itself r = record { file = omega arith; card = λ e. omega arith; number = λ e h. omega arith }

pub not_after_along : (r q p : Refusal) → IsNotAfter r q → IsNotAfter q p → IsNotAfter r p
not_after_along r q p rq qp =
    let a : r.file ≤ q.file = rq.file in
    let b : q.file ≤ p.file = qp.file in
    record {
      file = omega arith;
      card = λ e.
          let i : q.file ≡ r.file = omega arith in
          let j : p.file ≡ q.file = omega arith in
          let c : r.card ≤ q.card = rq.card i in
          let d : q.card ≤ p.card = qp.card j in
          omega arith;
      number = λ e h.
          let i : q.file ≡ r.file = omega arith in
          let j : p.file ≡ q.file = omega arith in
          let c : r.card ≤ q.card = rq.card i in
          let d : q.card ≤ p.card = qp.card j in
          let k : q.card ≡ r.card = omega arith in
          let l : p.card ≡ q.card = omega arith in
          let m : number_of r.kind ≤ number_of q.kind = rq.number i k in
          let n : number_of q.kind ≤ number_of p.kind = qp.number j l in
          omega arith;
    }

-- what comes before is not the later one's equal, nor after it
strict_by : (f g c d m n : ℕ) (a b x y z : Bool) → nat_lt f g ≡ a → nat_eq f g ≡ b → nat_lt c d ≡ x → nat_eq c d ≡ y → nat_lt m n ≡ z →
    (a || (b && (x || (y && z)))) ≡ true → Ordered g f d c n m → ⊥
strict_by f g c d m n true b x y z la lb lx ly lz is o =
    let less : f < g = ltb-true f g la in
    let other : g ≤ f = o.file in
    omega arith
strict_by f g c d m n false false x y z la lb lx ly lz is o = absurd (cc)
strict_by f g c d m n false true true y z la lb lx ly lz is o =
    let same : f ≡ g = eqb-true f g lb in
    let less : c < d = ltb-true c d lx in
    let other : d ≤ c = o.card same in
    omega arith
strict_by f g c d m n false true false false z la lb lx ly lz is o = absurd (cc)
strict_by f g c d m n false true false true false la lb lx ly lz is o = absurd (cc)
strict_by f g c d m n false true false true true la lb lx ly lz is o =
    let same : f ≡ g = eqb-true f g lb in
    let equal : c ≡ d = eqb-true c d ly in
    let less : m < n = ltb-true m n lz in
    let other : n ≤ m = o.number same equal in
    omega arith

pub never_both : (r q : Refusal) → is_before r q ≡ true → IsNotAfter q r → ⊥
unfolding is_before
never_both r q is after =
    strict_by r.file q.file r.card q.card (number_of r.kind) (number_of q.kind) (nat_lt r.file q.file) (nat_eq r.file q.file) (nat_lt r.card q.card)
    (nat_eq r.card q.card) (nat_lt (number_of r.kind) (number_of q.kind)) refl refl refl refl refl is
    (record { file = after.file; card = after.card; number = after.number })

-- what is before one that is before another is before it
pub before_along : (p q r : Refusal) → is_before p q ≡ true → is_before q r ≡ true → is_before p r ≡ true
before_along p q r pq qr = by (is_before p r) refl
  where
    by : (b : Bool) → is_before p r ≡ b → is_before p r ≡ true
    by true is = is
    by false is = absurd (never_both q r qr (not_after_along r p q (is_before_false p r is) (is_before_true p q pq)))

-- what is not before one that is not before another is not before it
pub not_before_along : (p q r : Refusal) → is_before p q ≡ false → is_before q r ≡ false → is_before p r ≡ false
not_before_along p q r pq qr = by (is_before p r) refl
  where
    by : (b : Bool) → is_before p r ≡ b → is_before p r ≡ false
    by false is = is
    by true is = absurd (never_both p r is (not_after_along r q p (is_before_false q r qr) (is_before_false p q pq)))

-- THE FIRST OF SOME
one_alone : (r : Refusal) → IsFirstOf (r ∷ []) r
one_alone r = record { is = first_in; least = λ q among. alone q among }
  where
    alone : (q : Refusal) → IsIn q (r ∷ []) → IsNotAfter r q
    alone q first_in = not_after_itself r
    alone q (later_in among) = elim among [ ]

earlier_first : (r q : Refusal) (rs : List Refusal) → IsFirstOf rs q → (b : Bool) → is_before q r ≡ b → IsFirstOf (r ∷ rs) (if b then q else r)
earlier_first r q rs first true is = record { is = later_in first.is; least = λ p among. least p among }
  where
    least : (p : Refusal) → IsIn p (r ∷ rs) → IsNotAfter q p
    least p first_in = is_before_true q r is
    least p (later_in among) = first.least p among
earlier_first r q rs first false is = record { is = first_in; least = λ p among. least p among }
  where
    least : (p : Refusal) → IsIn p (r ∷ rs) → IsNotAfter r p
    least p first_in = not_after_itself r
    least p (later_in among) = not_after_along r q p (is_before_false q r is) (first.least p among)

pub data IsChosen (rs : List Refusal) : Option Refusal → Type 0 where
  none_there : rs ≡ [] → IsChosen rs None
  first_there : (r : Refusal) → IsFirstOf rs r → IsChosen rs (Some r)

behind_one : (r : Refusal) (rs : List Refusal) (found : Option Refusal) → IsChosen rs found → IsChosen (r ∷ rs) (Some (earlier r found))
unfolding earlier
behind_one r rs _ (none_there is) = first_there r (subst (λ qs. IsFirstOf (r ∷ qs) r) (sym is) (one_alone r))
behind_one r rs _ (first_there q first) = first_there (earlier r (Some q)) (earlier_first r q rs first (is_before q r) refl)

pub first_is_chosen : (rs : List Refusal) → IsChosen rs (first_of rs)
unfolding first_of
first_is_chosen [] = none_there refl
first_is_chosen (r ∷ rs) = behind_one r rs (first_of rs) (first_is_chosen rs)
