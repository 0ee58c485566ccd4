use Rattle.std.proofs.Common.{◌≡◌, ℕ, Bool, true, false, List, Option, Some, None, is_some, if◌then◌else◌, bytes_eq, refl, ap, sym, ◌∙◌, true≢false}
use Rattle.std.proofs.lemmas.Map.Text.{hash_map_updates_str}
use Rattle.std.proofs.lemmas.Slice.Eq.{bytes_eq-Decides}
use Rattle.constant_values.specs.KnownConstants.{entry_in, first_entry}
use Rattle.constant_values.proofs.constants.Constants.define.Goals as goal

module _ {A : Type 0} (f : List ℕ → Option A) (x y : List ℕ) (v : A) where
  first-some : (o : Option A) → is_some o ≡ true → first_entry o v ≡ o
  unfolding first_entry
  first-some None h = absurd (true≢false (sym h))
  first-some (Some a) h = refl

  first-none : (o : Option A) → is_some o ≡ false → first_entry o v ≡ Some v
  unfolding first_entry
  first-none None h = refl
  first-none (Some a) h = absurd (true≢false h)

  same-name : bytes_eq x y ≡ true → is_some (f y) ≡ is_some (f x)
  same-name e = sym (ap (λ z. is_some (f z)) ((bytes_eq-Decides x y).0 e))

  kept-by : (b : Bool) → bytes_eq x y ≡ b → is_some (f x) ≡ true → f y ≡ (if b then first_entry (f y) v else f y)
  kept-by true e h = sym (first-some (f y) (same-name e ∙ h))
  kept-by false e h = refl

  kept : is_some (f x) ≡ true → f y ≡ (if bytes_eq x y then first_entry (f y) v else f y)
  kept h = kept-by (bytes_eq x y) refl h

  put-by : (b : Bool) → bytes_eq x y ≡ b → is_some (f x) ≡ false → (if b then Some v else f y) ≡ (if b then first_entry (f y) v else f y)
  put-by true e h = sym (first-none (f y) (same-name e ∙ h))
  put-by false e h = refl

  put : is_some (f x) ≡ false → (if bytes_eq x y then Some v else f y) ≡ (if bytes_eq x y then first_entry (f y) v else f y)
  put h = put-by (bytes_eq x y) refl h

pub returns-then-has : goal.returns-then-has
returns-then-has c = λ y. kept (entry_in c.args.self.now) c.args.name.now y c.args.value (sym c.has.ensures ∙ c.if-has.true)

pub returns-in-Ok : goal.returns-in-Ok
unfolding entry_in
returns-in-Ok c = λ y.
    hash_map_updates_str c.args.name.now c.args.self.now.values c.insert.new.self (Some c.args.value) c.in-Ok.ensures.updates y
    ∙ put (entry_in c.args.self.now) c.args.name.now y c.args.value (sym c.has.ensures ∙ c.if-has.false)
