-- What stands in the objects of a state of the C run: storage, the transfer in progress, and what belongs to each active procedure.
use Rattle.std.specs.Prelude.{◌≡◌, ℕ, ◌<◌, List, Option, Some, slice_get}
use Rattle.std.proofs.Common.{refl, sym, ◌∙◌, subst}
use Rattle.lowering_laws.specs.simulation.Machine.{Frame, Has}
use Rattle.lowering_laws.specs.simulation.Law.{Grown, unchanged, by, WaitingFrames, none, text, wrapper}
use Rattle.lowering_laws.specs.f_tree.Values.{Spot}
use Rattle.lowering_laws.specs.f_tree.Facts.{ProgramUnit}
use Rattle.lowering_laws.specs.f_tree.Setting.{Setting}
use Rattle.lowering_laws.specs.f_tree.World as fortran
use Rattle.lowering_laws.specs.f_tree.World.{fortran_sorts}
use Rattle.lowering_laws.specs.l_core.Machine.{View}
use Rattle.lowering_laws.specs.Layer.{lower_kit}
use Rattle.lowering_laws.specs.simulation.Composition.{composite_kit}
use Rattle.emitted_texts.specs.c_tree.declared.file.CFile.{CFile}
use Rattle.emitted_texts.specs.c_tree.Objects.{Object}
use Rattle.emitted_texts.specs.c_tree.World as c
use Rattle.emitted_texts.specs.c_tree.Steps as c_steps
use Rattle.emitted_texts.specs.faithful.StorageImage.{NamesStand}
use Rattle.emitted_texts.specs.faithful.FrameImage as each
use Rattle.emitted_texts.specs.faithful.FrameImage.{Each, ProcedureStands, FrameStands}
use Rattle.emitted_texts.specs.faithful.SameTransfer.{SameMedium, on_unit, in_file, SameTransfer, neither, both}
use Rattle.emitted_texts.specs.c_image.World.{World, Extends}
use Rattle.emitted_texts.proofs.c_image_laws.Growing.{extends_itself, extends_through}
use Rattle.emitted_texts.specs.c_emit_laws.EmittedNumbers.{IsKnown}
use Rattle.emitted_texts.specs.SecondLayer.{TransfersStand, IsFrameOf, emit_kit}
use Rattle.emitted_texts.proofs.Known.{known_later}
use Rattle.bridge.specs.Bridge.{Translation, MayRun, linking_of, IsTranslated}

-- ## Transfers

medium_later : (μ ν : World) (behind : ℕ) (m : fortran.Medium) (m' : c.Medium) → Extends μ ν → ((p : Spot) → m ≡ fortran.Internal p → p.sequence < μ.height) → SameMedium μ.homes behind m m' → SameMedium ν.homes behind m m'
medium_later μ ν behind _ _ grown low (on_unit unit) = on_unit unit
medium_later μ ν behind _ _ grown low (in_file place file same) =
    in_file place file (record { object = grown.homes place.sequence (low place refl) ∙ same.object; offset = same.offset; size = same.size; count = same.count; position = same.position })

same_later : (μ ν : World) (one : Option fortran.Transfer) (other : Option c.Transfer) → Extends μ ν → ((x : fortran.Transfer) (p : Spot) → one ≡ Some x → x.medium ≡ fortran.Internal p → p.sequence < μ.height)
    → SameTransfer μ.homes one other → SameTransfer ν.homes one other
same_later μ ν _ _ grown low neither = neither
same_later μ ν _ _ grown low (both one other agree) =
    both one other (record {
      direction = agree.direction;
      layout = agree.layout;
      medium = medium_later μ ν one.written one.medium other.medium grown (λ p is. low one p refl is) agree.medium;
      progress = agree.progress;
    })

pub transfers_later : (μ ν : World) (one : Option fortran.Transfer) (other : Option c.Transfer) → Extends μ ν → TransfersStand μ one other → SameTransfer ν.homes one other
transfers_later μ ν one other grown stand = same_later μ ν one other grown stand.below stand.same

module _ (g : Setting) (S : List ProgramUnit) (files : List CFile) (t : Translation) (is : IsTranslated g S files t) where
  -- ## Stored names

  pub names_later : (ν : World) → Extends t.surroundings.first ν → NamesStand S g files ν.homes
  names_later ν grown k unit member has among =
      let at = is.names k unit member has among in
      record {
        home = at.home;
        is = at.is;
        object = λ takes. let found = at.object takes in (found.0, found.1, grown.homes at.home.sequence (is.low k unit member at.home has among at.is) ∙ found.2);
      }

  -- ## Procedures

  pub grown_extends : {μ ν : (composite_kit lower_kit (emit_kit t.surroundings)).World} → Grown (composite_kit lower_kit (emit_kit t.surroundings)) μ ν → Extends μ.1 ν.1
  grown_extends (unchanged {μ = μ}) = extends_itself μ.1
  grown_extends (by {μ = μ} {μ' = μ'} {μ'' = μ''} i grows later) = extends_through μ.1 μ'.1 μ''.1 grows.1.extends (grown_extends later)

  module _ (ν : World) (objects : List Object) (held : (k : ℕ) (object : Object) → ν.frozen k ≡ Some object → slice_get objects k ≡ Some object) where
    pub procedure_stands : (i : ℕ) (v : fortran.View) (x : View) → MayRun S i → v.frame ≡ x.frame → IsFrameOf (t.emissions i).writing.facts.program x.frame → IsKnown ν (t.emissions i).writing x.frame x.kept
        → ProcedureStands S files ν.homes objects i v.frame
    procedure_stands i v x known same frame knows =
        subst (ProcedureStands S files ν.homes objects i) (sym same) ((is.units i known).frames ν x.frame x.kept objects frame knows held)

    pub waiting_stand : {μ : (composite_kit lower_kit (emit_kit t.surroundings)).World} {us : List (Frame fortran_sorts)} {fs : List (Frame c_steps.sorts)} → Extends μ.1 ν → WaitingFrames (linking_of g S files t) μ us fs
        → Each (FrameStands S files ν.homes objects) us
    waiting_stand grown none = each.none
    waiting_stand {μ = μ} grown (text {μ' = μ'} {j = j} {v = v} {us = us} known home grows waits later rest) =
        let wait = waits.2 in
        let up : Extends wait.now ν = extends_through wait.now μ'.1 ν wait.grows (extends_through μ'.1 μ.1 ν (grown_extends later) grown) in
        each.more (Has j v) us
        (procedure_stands j v waits.0 known waits.1 wait.frame (known_later wait.now ν (t.emissions j).writing waits.0.frame waits.0.kept up wait.known))
        (waiting_stand grown rest)
    waiting_stand grown (wrapper named rest) = waiting_stand grown rest
