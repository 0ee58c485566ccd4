-- The objects of the frame of a function that are told apart: parameters, the result, temporaries, and kept bounds.
use Rattle.std.specs.Prelude.{◌≡◌, ℕ, ◌+◌, ◌<◌, length, Option, Some, None, unwrap_or, bytes_eq}
use Rattle.std.proofs.Common.{sym, ap, ◌∙◌, arith}
use Rattle.emitted_procedures.specs.f_tree.declared.names.Class.{Class}
use Rattle.emitted_procedures.specs.f_tree.declared.names.Class.TheVariants as class
use Rattle.emitted_procedures.specs.f_tree.Values.{Bytes}
use Rattle.emitted_procedures.specs.c_image.Addresses.{Alone, Through}
use Rattle.emitted_procedures.specs.c_image.Elements.{Quantity, Saved}
use Rattle.unit_file_laws.proofs.linking_laws.Places.{within}
use Rattle.unit_file_laws.proofs.main_file_laws.Known.{position_finds}
use Rattle.unit_file_laws.specs.unit_file.UnitFile.{Parameter, Inventory, Bases, frame_count, first_parameter, result_object, first_temporary, first_bound, quantity_in, place_of_parameter, parameter_object, address_in}

module _ (v : Inventory) (b : Bases) where
  -- ## Parameters

  -- a parameter that is passed, or none of the frame
  pub through_parameter : (x : Bytes) (k : Class) (object : ℕ) → address_in v b x k ≡ Through object → object ≡ parameter_object v b x
  unfolding address_in
  through_parameter x class.Dummy object h = through_same object (parameter_object v b x) (sym h)
    where
      through_same : (m n : ℕ) → Through m ≡ Through n → m ≡ n
      through_same m n g = cc
  through_parameter x class.DummyProcedure object h = through_same object (parameter_object v b x) (sym h)
    where
      through_same : (m n : ℕ) → Through m ≡ Through n → m ≡ n
      through_same m n g = cc
  through_parameter x class.Result object h = absurd (cc)
  through_parameter x other object h = absurd (cc)

  pub no_temporary : (k : ℕ) → k < v.temporaries → (x : Bytes) (place : Option ℕ) → place_of_parameter v x ≡ place → first_parameter v b + unwrap_or place (frame_count v) ≡ first_temporary v b + k → ⊥
  no_temporary k below x None placed same = omega (arith, same, below)
  no_temporary k below x (Some i) placed same =
      let f = position_finds (λ (p : Parameter). bytes_eq x p.name) v.parameters i placed in
      let few = within v.parameters i f.one f.at in
      omega (arith, same, few)

  pub no_bound : (k : ℕ) → k < length v.bounds → (x : Bytes) (place : Option ℕ) → place_of_parameter v x ≡ place → first_parameter v b + unwrap_or place (frame_count v) ≡ first_bound v b + k → ⊥
  no_bound k below x None placed same = omega (arith, same, below)
  no_bound k below x (Some i) placed same =
      let f = position_finds (λ (p : Parameter). bytes_eq x p.name) v.parameters i placed in
      let few = within v.parameters i f.one f.at in
      omega (arith, same, few)

  -- the result has its object
  pub result_alone : (x : Bytes) (k : Class) (object : ℕ) → k ≡ class.Result → address_in v b x k ≡ Alone object → object ≡ result_object v b
  unfolding address_in
  result_alone x k object own h = alone_same object (result_object v b) (sym h ∙ ap (address_in v b x) own)
    where
      alone_same : (m n : ℕ) → Alone m ≡ Alone n → m ≡ n
      alone_same m n g = cc

  -- ## Bounds

  -- a bound that is kept has its object behind the temporaries
  pub kept_behind : (k : ℕ) → k < v.temporaries → (found : Option ℕ) (written : Quantity) (saved : ℕ) → (written ≡ Saved saved → ⊥) → quantity_in v b found written ≡ Saved saved → saved ≡ first_temporary v b + k → ⊥
  unfolding quantity_in
  kept_behind k below None written saved never there same = never there
  kept_behind k below (Some i) written saved never there same = let at' = saved_same (first_bound v b + i) saved there in omega (arith, below, at', same)
    where
      saved_same : (m n : ℕ) → Saved m ≡ Saved n → m ≡ n
      saved_same m n h = cc

  pub quantity_kept : (found : Option ℕ) (i : ℕ) (written : Quantity) → found ≡ Some i → quantity_in v b found written ≡ Saved (first_bound v b + i)
  unfolding quantity_in
  quantity_kept found i written kept = ap (λ place. quantity_in v b place written) kept

  pub quantity_written : (found : Option ℕ) (written : Quantity) → found ≡ None → quantity_in v b found written ≡ written
  unfolding quantity_in
  quantity_written found written none = ap (λ place. quantity_in v b place written) none
