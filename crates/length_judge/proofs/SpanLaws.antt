-- The characters between two places.
use Rattle.std.specs.Prelude.{◌≡◌, ℕ, suc, ℤ, ◌-ℤ◌, int_lt, nat_abs, Bool, true, false, Some, if◌then◌else◌}
use Rattle.std.proofs.Common.{Result, Ok, Err, IfOk, w64, to_z, of_z, FitsSigned, sym, ap, ◌∙◌}
use Rattle.std.proofs.lemmas.Int.{to_z-of_z}
use Rattle.declaration_rows.specs.LengthRows.{span}

pub order_is : (a b : ℤ) (c : Bool) → FitsSigned w64 a → FitsSigned w64 b → int_lt (to_z w64 (of_z w64 b)) (to_z w64 (of_z w64 a)) ≡ c → int_lt b a ≡ c
order_is a b c one other is = sym (λ i. int_lt (to_z-of_z w64 b other i) (to_z-of_z w64 a one i)) ∙ is

pub span_none : (a b : ℤ) → int_lt b a ≡ true → Some 0 ≡ span (Some a) (Some b)
unfolding span
span_none a b h = sym (ap (λ (c : Bool). if c then Some 0 else Some (suc (nat_abs (b -ℤ a)))) h)

span_some : (a b : ℤ) (n : ℕ) → int_lt b a ≡ false → n ≡ suc (nat_abs (b -ℤ a)) → Some n ≡ span (Some a) (Some b)
unfolding span
span_some a b n h is = ap Some is ∙ sym (ap (λ (c : Bool). if c then Some 0 else Some (suc (nat_abs (b -ℤ a)))) h)

pub span_as : {E : Type 0} (r : Result ℕ E) (a b c d : ℤ) → c ≡ a → d ≡ b → int_lt b a ≡ false → IfOk r (λ n. n ≡ suc (nat_abs (d -ℤ c))) → IfOk r (λ n. Some n ≡ span (Some a) (Some b))
span_as (Ok n) a b c d one other h is = span_some a b n h (is ∙ (λ i. suc (nat_abs (other i -ℤ one i))))
span_as (Err e) a b c d one other h is = is
