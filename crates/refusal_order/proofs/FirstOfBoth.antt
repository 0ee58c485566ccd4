-- The first of some refusals and further ones is the earlier of the first of each; the least row of some and further ones likewise; and rows that
-- stand at one statement.
use Rattle.std.specs.Prelude.{◌≡◌, ℕ, nat_lt, nat_eq, ◌<◌, ◌≤◌, Bool, true, false, List, [], ◌∷◌, ◌++◌, map, Option, Some, None, if◌then◌else◌}
use Rattle.std.proofs.lemmas.Bool.{ltb-true, ltb-false, eq-eqb, both_ways}
use Rattle.std.proofs.Common.{refl, sym, ◌∙◌, ap, arith}
use Rattle.f_tree.specs.declared.refusals.Kind.{Kind}
use Rattle.f_tree.specs.declared.refusals.Refusal.{Refusal}
use Rattle.f_tree.specs.declared.statements.Stmt.{Stmt}
use Rattle.f_tree.specs.RefusalRows.{number_of}
use Rattle.declaration_rows.specs.NameRows.{stood}
use Rattle.declaration_rows.specs.Verdicts.{is_before, earlier, first_of}
use Rattle.refusal_order.specs.Earliest.{earliest, less, least, least_of, refusal_of}
use Rattle.refusal_order.proofs.RefusalOrder.{before_along, not_before_along}

-- OF THREE refusals
other_first : (r q : Refusal) → is_before q r ≡ true → earlier r (Some q) ≡ q
unfolding earlier
other_first r q is = ap (λ b. if b then q else r) is

itself_first : (r q : Refusal) → is_before q r ≡ false → earlier r (Some q) ≡ r
unfolding earlier
itself_first r q is = ap (λ b. if b then q else r) is

of_three : (r q p : Refusal) (a b c : Bool) → is_before q r ≡ a → is_before p q ≡ b → is_before p r ≡ c
    → earlier (earlier r (Some q)) (Some p) ≡ earlier r (Some (earlier q (Some p)))
of_three r q p true true true qr pq pr =
    ap (λ z. earlier z (Some p)) (other_first r q qr) ∙ (other_first q p pq ∙ sym (ap (λ z. earlier r (Some z)) (other_first q p pq) ∙ other_first r p pr))
of_three r q p true true false qr pq pr = absurd (both_ways (is_before p r) pr (before_along p q r pq qr))
of_three r q p true false c qr pq pr =
    ap (λ z. earlier z (Some p)) (other_first r q qr) ∙ (itself_first q p pq ∙ sym (ap (λ z. earlier r (Some z)) (itself_first q p pq) ∙ other_first r q qr))
of_three r q p false true c qr pq pr =
    ap (λ z. earlier z (Some p)) (itself_first r q qr) ∙ sym (ap (λ z. earlier r (Some z)) (other_first q p pq))
of_three r q p false false false qr pq pr =
    ap (λ z. earlier z (Some p)) (itself_first r q qr) ∙ (itself_first r p pr ∙ sym (ap (λ z. earlier r (Some z)) (itself_first q p pq) ∙ itself_first r q qr))
of_three r q p false false true qr pq pr = absurd (both_ways (is_before p r) (not_before_along p q r pq qr) pr)

earlier_along : (r q : Refusal) (other : Option Refusal) → earlier (earlier r (Some q)) other ≡ earlier r (Some (earlier q other))
unfolding earlier
earlier_along r q None = refl
earlier_along r q (Some p) = of_three r q p (is_before q r) (is_before p q) (is_before p r) refl refl refl

pub earliest_along : (a b c : Option Refusal) → earliest (earliest a b) c ≡ earliest a (earliest b c)
unfolding earliest earlier
earliest_along None b c = refl
earliest_along (Some r) None c = refl
earliest_along (Some r) (Some q) c = ap Some (earlier_along r q c)

-- THE FIRST of some refusals and others
pub first_of_both : (rs qs : List Refusal) → first_of (rs ++ qs) ≡ earliest (first_of rs) (first_of qs)
unfolding first_of earliest
first_of_both [] qs = refl
first_of_both (r ∷ rs) qs =
    ap (λ z. Some (earlier r z)) (first_of_both rs qs) ∙ sym (earliest_along (Some r) (first_of rs) (first_of qs))

-- THE LEAST of some rows and others
other_less : (k l : Kind) → nat_lt (number_of l) (number_of k) ≡ true → less k (Some l) ≡ l
unfolding less
other_less k l is = ap (λ b. if b then l else k) is

itself_less : (k l : Kind) → nat_lt (number_of l) (number_of k) ≡ false → less k (Some l) ≡ k
unfolding less
itself_less k l is = ap (λ b. if b then l else k) is

rows_known : (k l m : Kind) (a b c : Bool) → nat_lt (number_of l) (number_of k) ≡ a → nat_lt (number_of m) (number_of l) ≡ b
    → nat_lt (number_of m) (number_of k) ≡ c → less (less k (Some l)) (Some m) ≡ less k (Some (less l (Some m)))
rows_known k l m true true true lk ml mk =
    ap (λ z. less z (Some m)) (other_less k l lk) ∙ (other_less l m ml ∙ sym (ap (λ z. less k (Some z)) (other_less l m ml) ∙ other_less k m mk))
rows_known k l m true true false lk ml mk =
    let one : number_of l < number_of k = ltb-true (number_of l) (number_of k) lk in
    let two : number_of m < number_of l = ltb-true (number_of m) (number_of l) ml in
    let three : number_of k ≤ number_of m = ltb-false (number_of m) (number_of k) mk in
    absurd (omega arith)
rows_known k l m true false c lk ml mk =
    ap (λ z. less z (Some m)) (other_less k l lk) ∙ (itself_less l m ml ∙ sym (ap (λ z. less k (Some z)) (itself_less l m ml) ∙ other_less k l lk))
rows_known k l m false true c lk ml mk =
    ap (λ z. less z (Some m)) (itself_less k l lk) ∙ sym (ap (λ z. less k (Some z)) (other_less l m ml))
rows_known k l m false false false lk ml mk =
    ap (λ z. less z (Some m)) (itself_less k l lk) ∙ (itself_less k m mk ∙ sym (ap (λ z. less k (Some z)) (itself_less l m ml) ∙ itself_less k l lk))
rows_known k l m false false true lk ml mk =
    let one : number_of k ≤ number_of l = ltb-false (number_of l) (number_of k) lk in
    let two : number_of l ≤ number_of m = ltb-false (number_of m) (number_of l) ml in
    let three : number_of m < number_of k = ltb-true (number_of m) (number_of k) mk in
    absurd (omega arith)

less_along : (k l : Kind) (other : Option Kind) → less (less k (Some l)) other ≡ less k (Some (less l other))
unfolding less
less_along k l None = refl
less_along k l (Some m) =
    rows_known k l m (nat_lt (number_of l) (number_of k)) (nat_lt (number_of m) (number_of l)) (nat_lt (number_of m) (number_of k)) refl refl refl

pub least_along : (a b c : Option Kind) → least (least a b) c ≡ least a (least b c)
unfolding least less
least_along None b c = refl
least_along (Some k) None c = refl
least_along (Some k) (Some l) c = ap Some (less_along k l c)

pub least_of_both : (ks ls : List Kind) → least_of (ks ++ ls) ≡ least (least_of ks) (least_of ls)
unfolding least_of least
least_of_both [] ls = refl
least_of_both (k ∷ ks) ls = ap (λ z. Some (less k z)) (least_of_both ks ls) ∙ sym (least_along (Some k) (least_of ks) (least_of ls))

-- NOTHING behind
pub earliest_none : (a : Option Refusal) → earliest a None ≡ a
unfolding earliest earlier
earliest_none None = refl
earliest_none (Some r) = refl

pub least_none : (a : Option Kind) → least a None ≡ a
unfolding least less
least_none None = refl
least_none (Some k) = refl

-- ROWS AT ONE STATEMENT: the first of them is that of the least number
nat_lt_irreflexive : (n : ℕ) → nat_lt n n ≡ false
nat_lt_irreflexive n = by (nat_lt n n) refl
  where
    by : (b : Bool) → nat_lt n n ≡ b → nat_lt n n ≡ false
    by false is = is
    by true is = let below : n < n = ltb-true n n is in absurd (omega arith)

nat_eq_reflexive : (n : ℕ) → nat_eq n n ≡ true
nat_eq_reflexive n = eq-eqb n n refl

pub at_one_card : (file card : ℕ) (k l : Kind) → is_before (record { file = file; card = card; kind = k }) (record { file = file; card = card; kind = l })
    ≡ nat_lt (number_of k) (number_of l)
unfolding is_before
at_one_card file card k l = rw (nat_lt_irreflexive file, nat_eq_reflexive file, nat_lt_irreflexive card, nat_eq_reflexive card)

one_before : (file card : ℕ) (k : Kind) (other : Option Kind) → earliest (refusal_of file card (Some k)) (refusal_of file card other) ≡ refusal_of file card (least (Some k) other)
unfolding earliest refusal_of least earlier less
one_before file card k None = refl
one_before file card k (Some l) = by (nat_lt (number_of l) (number_of k)) refl
  where
    r : Refusal
    r = record { file = file; card = card; kind = k }

    q : Refusal
    q = record { file = file; card = card; kind = l }

    chosen : (b : Bool) → refusal_of file card (Some (if b then l else k)) ≡ Some (if b then q else r)
    chosen true = refl
    chosen false = refl

    by : (b : Bool) → nat_lt (number_of l) (number_of k) ≡ b → Some (if is_before q r then q else r) ≡ refusal_of file card (Some (if nat_lt (number_of l) (number_of k) then l else k))
    by b is =
        ap (λ z. Some (if z then q else r)) (at_one_card file card l k ∙ is) ∙ sym (ap (λ z. refusal_of file card (Some (if z then l else k))) is ∙ chosen b)

pub first_at_statement : (file card : ℕ) (ks : List Kind) → first_of (map (λ k. record { file = file; card = card; kind = k }) ks) ≡ refusal_of file card (least_of ks)
unfolding first_of least_of refusal_of earliest least
first_at_statement file card [] = refl
first_at_statement file card (k ∷ ks) =
    ap (earliest (refusal_of file card (Some k))) (first_at_statement file card ks) ∙ one_before file card k (least_of ks)

pub first_stood : (s : Stmt) (ks : List Kind) → first_of (stood s ks) ≡ refusal_of s.file s.card (least_of ks)
unfolding stood
first_stood s ks = first_at_statement s.file s.card ks
