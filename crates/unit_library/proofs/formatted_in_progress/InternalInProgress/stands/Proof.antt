-- The field says only that a proof of `StandsIn` exists. An entailment is a proposition, so the proof may be opened in front of the walk that Rattle made.
use seplogic.Bi.Basic.{Entails-prop}
use mathlib.Core.Logic.{∥∥₁_elim}
use base.Logic.{via, mono_r}
use denote.Triple.Entry.{on_entry}
use borrow.Fn.Kinds.{sig_of}
use contract.Monad.{fact_mono}
use Rattle.edit_rules.specs.Walks.{StandsIn}
use Rattle.unit_library.proofs.formatted_in_progress.InternalInProgress.stands.Statement.{statement}
use Rattle.unit_library.proofs.formatted_in_progress.InternalInProgress.stands.Lts as lts
use Rattle.unit_library.proofs.formatted_in_progress.InternalInProgress.stands.Reads as reads
use Rattle.unit_library.proofs.formatted_in_progress.InternalInProgress.stands.Tie as tie

pub stands_spec : {M : Type 1} → statement M
stands_spec {M} =
    tie.close (λ 𝓤 𝓛 𝓣 y.
    ∥∥₁_elim y.0.3.0.stands (Entails-prop 𝓤.op _ _) (λ known.
    via 𝓤 _ (mono_r 𝓤 (on_entry 𝓛 (sig_of 0 lts.ps lts.r) y.0.0 y.0.1 y.0.3 y.0.4) (fact_mono 𝓤 _ (StandsIn y.0.3.0.output.walk y.0.3.0.format) (λ _. known)))
    (lts.spec (λ κs a. StandsIn a.0.output.walk a.0.format) reads.Post (λ c. c.requires) 𝓤 𝓛 𝓣 y)))
