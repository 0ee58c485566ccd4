-- What temporaries keep of numbers, behind steps that give them others.
use Rattle.std.specs.Prelude.{◌≡◌, ℕ, nat_eq, Bool, true, false, ◌&&◌, Option, Some, None, if◌then◌else◌}
use Rattle.std.proofs.Common.{refl, sym, ◌∙◌}
use Rattle.procedure_emission.specs.f_tree.Values.{Datum, IsInt, IsLog}
use Rattle.procedure_emission.specs.f_tree.Store.{Whole}
use Rattle.procedure_emission.specs.l_core.Pures.{Temporaries, with_kept}
use Rattle.procedure_emission.specs.c_image.Held.{whole_for}
use Rattle.procedure_emission.specs.Reading.{number_kept, numbers_kept}

pub left_true : (a b : Bool) → a && b ≡ true → a ≡ true
left_true true b h = refl
left_true false b h = absurd (cc)

pub right_true : (a b : Bool) → a && b ≡ true → b ≡ true
right_true true b h = h
right_true false b h = absurd (cc)

-- ## What temporaries keep

pub whole_number : (d : Datum) (w : Whole) → whole_for d ≡ Some w → number_kept (Some d) ≡ Some d
unfolding number_kept
whole_number (IsInt z) w is = refl
whole_number (IsLog b) w is = refl
whole_number _ w is = absurd (cc)

kept_behind_at : (b : Bool) (d : Datum) (kept : Option Datum) → number_kept (Some d) ≡ Some d → number_kept (if b then Some d else kept) ≡ (if b then Some d else number_kept kept)
kept_behind_at true d kept number = number
kept_behind_at false d kept number = refl

-- a number more is kept
pub numbers_behind : (k : ℕ) (d : Datum) (kept : Temporaries) → number_kept (Some d) ≡ Some d → numbers_kept (with_kept k d kept) ≡ with_kept k d (numbers_kept kept)
unfolding with_kept
numbers_behind k d kept number = λ i j. kept_behind_at (nat_eq j k) d (kept j) number i

lost_behind_at : (b : Bool) (d : Datum) (kept : Option Datum) → number_kept (Some d) ≡ None → (e : Datum) → number_kept (if b then Some d else kept) ≡ Some e → number_kept kept ≡ Some e
lost_behind_at true d kept none e is = absurd (let wrong : None ≡ Some e = sym none ∙ is in cc)
lost_behind_at false d kept none e is = is

-- what is no number is not known behind the step that keeps it
pub numbers_left : (k : ℕ) (d : Datum) (kept : Temporaries) → number_kept (Some d) ≡ None → (j : ℕ) (e : Datum) → numbers_kept (with_kept k d kept) j ≡ Some e → numbers_kept kept j ≡ Some e
unfolding with_kept
numbers_left k d kept none j e is = lost_behind_at (nat_eq j k) d (kept j) none e is
