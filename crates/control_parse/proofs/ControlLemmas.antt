-- The readers of controls, one step at a time.
use Rattle.std.proofs.Common.{◌≡◌, refl, Bool}
use Rattle.fortran_lexemes.specs.Lexemes.{Lexemes}
use Rattle.grammar_laws.specs.Exactness.{Reader}
use Rattle.grammar_laws.specs.FormReading.{going_on, where', where_passes}

pub where-step : {A : Type 0} (test : A → Bool) (read : Reader A) (pieces : Lexemes) → where' test read pieces ≡ going_on (read pieces) (where_passes test)
unfolding where'
where-step test read pieces = refl

pub ruleset where_steps = (where-step)
