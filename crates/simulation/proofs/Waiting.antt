-- What waits below a running text stands each in its own world, from which the present one has grown.
use Rattle.std.specs.Prelude.{ℕ, Bool, List}
use Rattle.simulation.specs.Machine.{Lang, Program, Frame}
use Rattle.simulation.specs.LocalSimulation.{Kit}
use Rattle.simulation.specs.Law.{Linking, Below, bottom, caller, wrapped, Grown, by, WaitingFrames, none, text, wrapper}

module _ {E : Type 0} {A B : Lang E} {K : Kit A B} {P : Program A.sorts} {Q : Program B.sorts} (L : Linking K P Q) where
  pub below_waits : {b : Bool} {μ₀ μ : K.World} {i : ℕ} {us : List (Frame A.sorts)} {fs : List (Frame B.sorts)} →
      Below L b μ₀ i us fs → Grown K μ₀ μ → WaitingFrames L μ us fs
  below_waits (bottom houses) grown = none
  below_waits (caller {j = j} known home grows waits resumes below) grown = text known home grows waits grown (below_waits below (by j grows grown))
  below_waits (wrapped {i = i} named grows hands_on below) grown = wrapper named (below_waits below (by i grows grown))
