-- The storage before the run: undefined units, and what DATA statements define (9, 17.2).
-- ANSI X3.9-1978, sections 9 (DATA) and 17.2.
use Rattle.std.specs.Prelude.{ℕ, zero, suc, ℤ, ◌+ℤ◌, List, [], ◌∷◌, ◌++◌, map}
use Rattle.f_tree.specs.Values.{Spot, Datum, IsInt, IsSpot, NoMeaning, Checked, Gives, Fails, given_that}
use Rattle.f_tree.specs.Terms.{Term}
use Rattle.f_tree.specs.Store.{Store, define, undefined_units, elements}
use Rattle.f_tree.specs.Facts.{DataPlace, DataPlaces, WholeName, OnePlace, EachOf, NoPlaces, AndPlaces, Image, ProgramUnit, Facts}
use Rattle.f_tree.specs.Valuing.{Red, Valued, Bad, reduce}
use Rattle.f_tree.specs.Step.{turns}
use Rattle.f_tree.specs.Association.{integer_of}
use Rattle.f_tree.specs.Attributes.{no_frame}
use Rattle.f_tree.specs.Setting.{Setting, unit_home}

unfoldable pub spot_of : Red Datum Term → Checked Spot
spot_of (Valued (IsSpot p)) = Gives p
spot_of (Bad act) = Fails act
spot_of _ = Fails NoMeaning

-- the places of so many turns, from a value on
unfoldable pub each_turn : ℕ → (ℤ → Checked (List Spot)) → ℤ → ℤ → Checked (List Spot)
each_turn zero f z by = Gives []
each_turn (suc n) f z by = given_that (f z) (λ ps. given_that (each_turn n f (z +ℤ by) by) (λ qs. Gives (ps ++ qs)))

unfoldable mutual
  -- the elements that a DATA statement names, in their order
  pub places_in : Facts → List Datum → DataPlace → Checked (List Spot)
  places_in c env (WholeName t) = given_that (spot_of (reduce c no_frame [] env t)) (λ p. Gives (elements p))
  places_in c env (OnePlace t) = given_that (spot_of (reduce c no_frame [] env t)) (λ p. Gives (p ∷ []))
  places_in c env (EachOf ps first limit by) =
      given_that (integer_of (reduce c no_frame [] env first)) (λ a.
      given_that (integer_of (reduce c no_frame [] env limit)) (λ b.
      given_that (integer_of (reduce c no_frame [] env by)) (λ s.
      each_turn (turns a b s) (λ z. all_places_in c (env ++ IsInt z ∷ []) ps) a s)))

  pub all_places_in : Facts → List Datum → DataPlaces → Checked (List Spot)
  all_places_in c env NoPlaces = Gives []
  all_places_in c env (AndPlaces p ps) = given_that (places_in c env p) (λ qs. given_that (all_places_in c env ps) (λ rs. Gives (qs ++ rs)))

-- each place gets its value
unfoldable pub define_each : Store → List Spot → List Datum → Checked Store
define_each s [] [] = Gives s
define_each s (p ∷ ps) (d ∷ ds) = given_that (define s p d) (λ after. define_each after ps ds)
define_each s _ _ = Fails NoMeaning

unfoldable pub imaged : Facts → Checked Store → List Image → Checked Store
imaged c s [] = s
imaged c s (i ∷ is) = imaged c (given_that s (λ before. given_that (all_places_in c [] i.places) (λ ps. define_each before ps i.values))) is

unfoldable pub images_from : Setting → ℕ → Checked Store → List ProgramUnit → Checked Store
images_from g k s [] = s
images_from g k s (u ∷ us) = images_from g (suc k) (imaged (record { program = u; home = unit_home g k u }) s u.images) us

unfoldable pub undefined_store : Setting → Store
undefined_store g = map undefined_units g.sizes

-- the store when the run begins, where DATA statements are as they must be
unfoldable pub image_store : Setting → List ProgramUnit → Checked Store
image_store g S = images_from g 0 (Gives (undefined_store g)) S

unfoldable pub images_opened : Unit {0}
unfolding spot_of each_turn places_in all_places_in define_each imaged images_from undefined_store image_store
images_opened = tt
