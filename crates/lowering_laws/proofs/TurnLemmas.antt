-- The turns of a DO loop, counted in exact numbers, and the test that its text makes. ANSI X3.9-1978, section 11.10.
use Rattle.std.specs.Prelude.{◌≡◌, ℕ, zero, suc, ◌+◌, ◌-◌, ◌*◌, ◌/◌, ◌%◌, ◌<◌, ◌≤◌, cond, ltb, ℤ, pos, negsuc, neg_ℤ, ◌+ℤ◌, ◌-ℤ◌, int_lt, int_le, int_div, Bool, true, false, ◌⊎◌, if◌then◌else◌}
use Rattle.std.specs.Ordering.{int_eq}
use Rattle.std.proofs.Common.{refl, sym, ap, ◌∙◌, subst, arith, inl, inr, true≢false}
use Rattle.std.proofs.lemmas.Bool.{cases_Bool, ltb-true, ltb-false, le-ltb}
use Rattle.std.proofs.lemmas.Int.{ints}
use Rattle.std.proofs.lemmas.Nat.{div-mul-add, div-add-mod', div_below}
use lib.IntN.{+ℤ_assoc, +ℤ_comm, +ℤ_invl, neg_ℤ-+ℤ}
use Rattle.fortran_laws.specs.f_tree.Step.{turns_of}

-- does the variable's value allow a turn
abbrev pub allows : ℤ → ℤ → ℤ → Bool
allows v limit by = if int_lt by (pos 0) then int_le limit v else int_le v limit

-- ## Quotients

div_next : (d n : ℕ) → 0 < n → (d + n) / n ≡ suc (d / n)
div_next d n some =
    let parts = div-add-mod' d n in
    let small = mod_small d n some in
    let sum : d + n ≡ suc (d / n) * n + d % n = grind (arith, parts) in
    ap (λ z. z / n) sum ∙ div-mul-add (suc (d / n)) n (d % n) small
  where
    mod_small : (d n : ℕ) → 0 < n → d % n < n
    mod_small d n some' = omega arith

div_none : (d n : ℕ) → d < n → d / n ≡ 0
div_none d n below = let less = div_below d n 1 (omega (arith, below)) (omega (arith, below)) in omega (arith, less)

none_back : (k : ℕ) → turns_of (neg_ℤ (pos k)) ≡ 0
unfolding turns_of
none_back zero = refl
none_back (suc k) = refl

sub_up : (a b : ℕ) → b ≤ a → cond (ltb a b) (negsuc (b - suc a)) (pos (a - b)) ≡ pos (a - b)
sub_up a b le = ap (λ t. cond t (negsuc (b - suc a)) (pos (a - b))) (not_below a b le)
  where
    by_test : (a b : ℕ) (t : Bool) → ltb a b ≡ t → b ≤ a → t ≡ false
    by_test a b true e le' = let less = ltb-true a b e in absurd (omega (arith, less, le'))
    by_test a b false e le' = refl

    not_below : (a b : ℕ) → b ≤ a → ltb a b ≡ false
    not_below a b le' = by_test a b (ltb a b) refl le'

sub_down : (a b : ℕ) → a < b → cond (ltb a b) (negsuc (b - suc a)) (pos (a - b)) ≡ negsuc (b - suc a)
sub_down a b less = ap (λ t. cond t (negsuc (b - suc a)) (pos (a - b))) (is_below a b less)
  where
    by_test : (a b : ℕ) (t : Bool) → ltb a b ≡ t → a < b → t ≡ true
    by_test a b false e less' = let le = ltb-false a b e in absurd (omega (arith, less', le))
    by_test a b true e less' = refl

    is_below : (a b : ℕ) → a < b → ltb a b ≡ true
    is_below a b less' = by_test a b (ltb a b) refl less'

-- where there is a turn, and where there is none
pub record Turns (d by : ℤ) (t : Bool) : Type 0 where
  pub some : t ≡ true → turns_of (int_div (d +ℤ by) by) ≡ suc (turns_of (int_div d by))
  pub none : t ≡ false → turns_of (int_div (d +ℤ by) by) ≡ 0
  pub rest : t ≡ false → turns_of (int_div d by) ≡ 0

-- up, towards a limit that is above
up_above : (d b : ℕ) → Turns (pos d) (pos (suc b)) true
unfolding turns_of
up_above d b = record {
  some = λ e. div_next d (suc b) (omega arith);
  none = λ e. absurd (true≢false e);
  rest = λ e. absurd (true≢false e);
}

less_either : (a b : ℕ) → (a < b) ⊎ (b ≤ a)
less_either a b = by_test (cases_Bool (ltb a b))
  where
    by_test : (ltb a b ≡ true) ⊎ (ltb a b ≡ false) → (a < b) ⊎ (b ≤ a)
    by_test (inl e) = inl (ltb-true a b e)
    by_test (inr e) = inr (ltb-false a b e)

up_none : (b d : ℕ) → (suc b < suc d) ⊎ (suc d ≤ suc b) → turns_of (int_div (cond (ltb (suc b) (suc d)) (negsuc (suc d - suc (suc b))) (pos (suc b - suc d))) (pos (suc b))) ≡ 0
unfolding turns_of
up_none b d (inl less) = ap (λ z. turns_of (int_div z (pos (suc b)))) (sub_down (suc b) (suc d) less) ∙ none_back (suc (suc d - suc (suc b)) / suc b)
up_none b d (inr le) = ap (λ z. turns_of (int_div z (pos (suc b)))) (sub_up (suc b) (suc d) le) ∙ div_none (suc b - suc d) (suc b) (omega arith)

-- up, a limit being below
up_below : (d b : ℕ) → Turns (negsuc d) (pos (suc b)) false
unfolding turns_of
up_below d b = record {
  some = λ e. absurd (true≢false (sym e));
  none = λ e. up_none b d (less_either (suc b) (suc d));
  rest = λ e. none_back (suc d / suc b);
}

-- down, a limit being above
down_none : (d b : ℕ) → (suc d < suc b) ⊎ (suc b ≤ suc d) → turns_of (int_div (cond (ltb (suc d) (suc b)) (negsuc (suc b - suc (suc d))) (pos (suc d - suc b))) (negsuc b)) ≡ 0
unfolding turns_of
down_none d b (inl less) = ap (λ z. turns_of (int_div z (negsuc b))) (sub_down (suc d) (suc b) less) ∙ div_none (suc (suc b - suc (suc d))) (suc b) (omega arith)
down_none d b (inr le) = ap (λ z. turns_of (int_div z (negsuc b))) (sub_up (suc d) (suc b) le) ∙ none_back ((suc d - suc b) / suc b)

down_above : (d b : ℕ) → Turns (pos (suc d)) (negsuc b) false
unfolding turns_of
down_above d b = record {
  some = λ e. absurd (true≢false (sym e));
  none = λ e. down_none d b (less_either (suc d) (suc b));
  rest = λ e. none_back (suc d / suc b);
}

down_same : (b : ℕ) → Turns (pos zero) (negsuc b) true
unfolding turns_of
down_same b = record {
  some = λ e.
      ap (λ z. turns_of (int_div z (negsuc b))) (sub_down 0 (suc b) (omega arith))
      ∙ (let same : suc (suc b - 1) ≡ 0 + suc b = omega arith in ap (λ z. z / suc b) same)
      ∙ div_next 0 (suc b) (omega arith) ∙ ap suc (div_none 0 (suc b) (omega arith) ∙ sym (ap (λ z. turns_of (neg_ℤ (pos z))) (div_none 0 (suc b) (omega arith))));
  none = λ e. absurd (true≢false e);
  rest = λ e. absurd (true≢false e);
}

down_below : (d b : ℕ) → Turns (negsuc d) (negsuc b) true
unfolding turns_of
down_below d b = record {
  some = λ e. (let sum : suc (suc (d + b)) ≡ suc d + suc b = omega arith in ap (λ z. z / suc b) sum) ∙ div_next (suc d) (suc b) (omega arith);
  none = λ e. absurd (true≢false e);
  rest = λ e. absurd (true≢false e);
}

-- ## The test

-- the limit is not below the value, and the other way round
not_below : (v limit : ℤ) (d : ℕ) → limit -ℤ v ≡ pos d → int_le v limit ≡ true
not_below v limit d e = grind (arith, ints)

below : (v limit : ℤ) (d : ℕ) → limit -ℤ v ≡ negsuc d → int_le v limit ≡ false
below v limit d e = grind (arith, ints)

not_above : (v limit : ℤ) (d : ℕ) → limit -ℤ v ≡ negsuc d → int_le limit v ≡ true
not_above v limit d e = grind (arith, ints)

not_above_same : (v limit : ℤ) → limit -ℤ v ≡ pos zero → int_le limit v ≡ true
not_above_same v limit e = grind (arith, ints)

above : (v limit : ℤ) (d : ℕ) → limit -ℤ v ≡ pos (suc d) → int_le limit v ≡ false
above v limit d e = grind (arith, ints)

upwards : (v limit : ℤ) (b : ℕ) → allows v limit (pos (suc b)) ≡ int_le v limit
upwards v limit b = ap (λ t. if t then int_le limit v else int_le v limit) (le-ltb (suc b) 0 (omega arith))

turns_by : (v limit by d : ℤ) → limit -ℤ v ≡ d → int_eq by (pos 0) ≡ false → Turns d by (allows v limit by)
turns_by v limit (pos zero) d e apart = absurd (true≢false apart)
turns_by v limit (pos (suc b)) (pos d) e apart = subst (Turns (pos d) (pos (suc b))) (sym (upwards v limit b ∙ not_below v limit d e)) (up_above d b)
turns_by v limit (pos (suc b)) (negsuc d) e apart = subst (Turns (negsuc d) (pos (suc b))) (sym (upwards v limit b ∙ below v limit d e)) (up_below d b)
turns_by v limit (negsuc b) (pos zero) e apart = subst (Turns (pos zero) (negsuc b)) (sym (not_above_same v limit e)) (down_same b)
turns_by v limit (negsuc b) (pos (suc d)) e apart = subst (Turns (pos (suc d)) (negsuc b)) (sym (above v limit d e)) (down_above d b)
turns_by v limit (negsuc b) (negsuc d) e apart = subst (Turns (negsuc d) (negsuc b)) (sym (not_above v limit d e)) (down_below d b)

-- a value allows a turn exactly where the count says so
pub turns_at : (v limit by : ℤ) → int_eq by (pos 0) ≡ false → Turns (limit -ℤ v) by (allows v limit by)
turns_at v limit by apart = turns_by v limit by (limit -ℤ v) refl apart

-- the value of the next turn
pub next_value : (v limit by : ℤ) → (limit -ℤ (v +ℤ by)) +ℤ by ≡ limit -ℤ v
next_value v limit by =
    ap (λ z. (limit +ℤ z) +ℤ by) (neg_ℤ-+ℤ v by) ∙ +ℤ_assoc limit (neg_ℤ v +ℤ neg_ℤ by) by
    ∙ ap (λ z. limit +ℤ z) (+ℤ_assoc (neg_ℤ v) (neg_ℤ by) by ∙ ap (λ z. neg_ℤ v +ℤ z) (+ℤ_invl by) ∙ +ℤ_comm (neg_ℤ v) (pos 0) ∙ zero_before (neg_ℤ v))
  where
    zero_before : (z : ℤ) → pos 0 +ℤ z ≡ z
    zero_before (pos n) = ap pos (omega arith)
    zero_before (negsuc n) = sub_down 0 (suc n) (omega arith) ∙ ap negsuc (omega arith)
