-- What stands in the objects of a state of the C run: storage, the transfer in progress, and what belongs to each active procedure.
use Rattle.std.specs.Prelude.{◌≡◌, ℕ, ◌<◌, List, Option, Some, slice_get}
use Rattle.std.proofs.Common.{refl, sym, ◌∙◌, subst}
use Rattle.lowering_laws.specs.simulation.Machine.{Frame, Has}
use Rattle.lowering_laws.specs.simulation.Law.{Grown, unchanged, by, WaitingFrames, none, text, wrapper}
use Rattle.lowering_laws.specs.f_tree.Values.{Spot}
use Rattle.lowering_laws.specs.f_tree.Facts as fortran_facts
use Rattle.lowering_laws.specs.f_tree.Facts.{ProgramUnit}
use Rattle.lowering_laws.specs.f_tree.Setting.{Setting}
use Rattle.lowering_laws.specs.f_tree.World as fortran
use Rattle.lowering_laws.specs.f_tree.World.{fortran_sorts}
use Rattle.lowering_laws.specs.l_core.Pures.{none_kept}
use Rattle.lowering_laws.specs.l_core.Machine.{View}
use Rattle.lowering_laws.specs.Layer.{lower_kit}
use Rattle.lowering_laws.specs.simulation.Composition.{composite_kit}
use Rattle.procedure_emission.specs.c_tree.declared.file.CFile.{CFile}
use Rattle.procedure_emission.specs.c_tree.Objects.{Object}
use Rattle.procedure_emission.specs.c_tree.World as c
use Rattle.procedure_emission.specs.c_tree.Steps as c_steps
use Rattle.procedure_emission.specs.faithful.StorageImage.{Homes, NamesStand}
use Rattle.procedure_emission.specs.faithful.FrameImage as each
use Rattle.procedure_emission.specs.faithful.FrameImage.{Each, FormalStands, ProcedureStands, FrameStands}
use Rattle.procedure_emission.specs.faithful.SameTransfer.{SameMedium, on_unit, in_file, SameTransfer, neither, both}
use Rattle.procedure_emission.specs.c_image.World.{World, Extends}
use Rattle.procedure_emission.proofs.c_image_laws.Growing.{extends_itself, extends_through}
use Rattle.procedure_emission.specs.c_emit_laws.EmittedNumbers.{IsKnown}
use Rattle.procedure_emission.specs.emitted_texts.SecondLayer.{Surroundings, Emission, TransfersStand}
use Rattle.procedure_emission.proofs.emitted_texts.Known.{known_later}
use Rattle.procedure_emission.specs.kept_bounds.KeptBounds.{without_bounds}
use Rattle.procedure_emission.specs.Reading.{numbers_kept}
use Rattle.procedure_emission.specs.CallLayer.{CallWorld, IsFrameOf, AreProceduresHeld, function_object, call_kit}
use Rattle.call_bridge.specs.CallBridge.{Translation, MayRun, linking_of, IsTranslated}

-- ## Transfers

medium_later : (μ ν : World) (behind : ℕ) (m : fortran.Medium) (m' : c.Medium) → Extends μ ν → ((p : Spot) → m ≡ fortran.Internal p → p.sequence < μ.height) → SameMedium μ.homes behind m m' → SameMedium ν.homes behind m m'
medium_later μ ν behind _ _ grown low (on_unit unit) = on_unit unit
medium_later μ ν behind _ _ grown low (in_file place file same) =
    in_file place file (record { object = grown.homes place.sequence (low place refl) ∙ same.object; offset = same.offset; size = same.size; count = same.count; position = same.position })

same_later : (μ ν : World) (one : Option fortran.Transfer) (other : Option c.Transfer) → Extends μ ν → ((x : fortran.Transfer) (p : Spot) → one ≡ Some x → x.medium ≡ fortran.Internal p → p.sequence < μ.height)
    → SameTransfer μ.homes one other → SameTransfer ν.homes one other
same_later μ ν _ _ grown low neither = neither
same_later μ ν _ _ grown low (both one other agree) =
    both one other (record {
      direction = agree.direction;
      layout = agree.layout;
      medium = medium_later μ ν one.written one.medium other.medium grown (λ p is. low one p refl is) agree.medium;
      progress = agree.progress;
    })

pub transfers_later : (μ ν : World) (one : Option fortran.Transfer) (other : Option c.Transfer) → Extends μ ν → TransfersStand μ one other → SameTransfer ν.homes one other
transfers_later μ ν one other grown stand = same_later μ ν one other grown stand.below stand.same

-- what parameters hold of procedures stays as it is
procedures_later : (s : Surroundings) (e : Emission) (μ ν : World) (f : fortran_facts.Frame) → Extends μ ν → AreProceduresHeld s e μ f → AreProceduresHeld s e ν f
procedures_later s e μ ν f grown procedures x d parameter own bound address =
    let one = procedures x d parameter own bound address in
    (one.0, one.1, one.2, one.3, grown.frozen parameter (function_object one.1) one.4)

-- ## Bounds

-- what belongs to a procedure stands whatever the bounds of its arrays are
module _ (S : List ProgramUnit) (files : List CFile) (homes : Homes) (objects : List Object) (f : fortran_facts.Frame) where
  formal_apart : (function : ℕ) (unit : ProgramUnit) (formal : fortran_facts.Formal) → FormalStands files homes objects function unit (without_bounds f) formal → FormalStands files homes objects function unit f formal
  formal_apart function unit (fortran_facts.Named x) stands = record { parameter = stands.parameter; length = stands.length }
  formal_apart function unit fortran_facts.Alternate stands = tt

  formals_apart : (function : ℕ) (unit : ProgramUnit) (formals : List fortran_facts.Formal) → Each (FormalStands files homes objects function unit (without_bounds f)) formals
      → Each (FormalStands files homes objects function unit f) formals
  formals_apart function unit _ each.none = each.none
  formals_apart function unit _ (each.more formal later stands rest) = each.more formal later (formal_apart function unit formal stands) (formals_apart function unit later rest)

  bounds_apart : (i : ℕ) → ProcedureStands S files homes objects i (without_bounds f) → ProcedureStands S files homes objects i f
  bounds_apart i stands = record {
    unit = stands.unit;
    is = stands.is;
    function = stands.function;
    has = stands.has;
    dummies = formals_apart stands.function stands.unit f.called.formals stands.dummies;
    result = stands.result;
  }

frame_without : (u : ProgramUnit) (μ : CallWorld) (f : fortran_facts.Frame) → IsFrameOf u μ f → IsFrameOf u μ (without_bounds f)
frame_without u μ f is = record { called = is.called; served = is.served; base = is.base; no_result = is.no_result; result = is.result }

module _ (g : Setting) (S : List ProgramUnit) (files : List CFile) (t : Translation) (is : IsTranslated g S files t) where
  -- ## Stored names

  pub names_later : (ν : World) → Extends t.surroundings.first ν → NamesStand S g files ν.homes
  names_later ν grown k unit member has among =
      let at = is.names k unit member has among in
      record {
        home = at.home;
        is = at.is;
        object = λ takes. let found = at.object takes in (found.0, found.1, grown.homes at.home.sequence (is.low k unit member at.home has among at.is) ∙ found.2);
      }

  -- ## Procedures

  pub grown_extends : {μ ν : (composite_kit lower_kit (call_kit t.surroundings)).World} → Grown (composite_kit lower_kit (call_kit t.surroundings)) μ ν → Extends μ.1.image ν.1.image
  grown_extends (unchanged {μ = μ}) = extends_itself μ.1.image
  grown_extends (by {μ = μ} {μ' = μ'} {μ'' = μ''} i grows later) = extends_through μ.1.image μ'.1.image μ''.1.image grows.1.extends (grown_extends later)

  module _ (ν : World) (objects : List Object) (held : (k : ℕ) (object : Object) → ν.frozen k ≡ Some object → slice_get objects k ≡ Some object) where
    pub procedure_stands : (i : ℕ) (μ : CallWorld) (v : fortran.View) (x : View) → MayRun S i → v.frame ≡ x.frame → IsFrameOf (t.emissions i).writing.facts.program μ x.frame → IsKnown ν (t.emissions i).writing x.frame (numbers_kept x.kept)
        → AreProceduresHeld t.surroundings (t.emissions i) ν x.frame → ProcedureStands S files ν.homes objects i v.frame
    procedure_stands i μ v x known same frame knows procedures =
        subst (ProcedureStands S files ν.homes objects i) (sym same) ((is.units i known).frames μ ν x.frame (numbers_kept x.kept) objects frame knows procedures held)

    -- while no array has bounds yet
    pub early_stands : (i : ℕ) (μ : CallWorld) (v : fortran.View) (f : fortran_facts.Frame) → MayRun S i → v.frame ≡ f → IsFrameOf (t.emissions i).writing.facts.program μ f
        → IsKnown ν (t.emissions i).writing (without_bounds f) none_kept → AreProceduresHeld t.surroundings (t.emissions i) ν f → ProcedureStands S files ν.homes objects i v.frame
    early_stands i μ v f known same frame knows procedures =
        subst (ProcedureStands S files ν.homes objects i) (sym same)
        (bounds_apart S files ν.homes objects f i
        ((is.units i known).frames μ ν (without_bounds f) none_kept objects (frame_without (t.emissions i).writing.facts.program μ f frame) knows procedures held))

    pub waiting_stand : {μ : (composite_kit lower_kit (call_kit t.surroundings)).World} {us : List (Frame fortran_sorts)} {fs : List (Frame c_steps.sorts)} → Extends μ.1.image ν → WaitingFrames (linking_of g S files t) μ us fs
        → Each (FrameStands S files ν.homes objects) us
    waiting_stand grown none = each.none
    waiting_stand {μ = μ} grown (text {μ₀ = μ₀} {μ' = μ'} {j = j} {v = v} {us = us} known home grows waits later rest) =
        let wait = waits.2 in
        let up : Extends wait.now ν = extends_through wait.now μ'.1.image ν wait.grows (extends_through μ'.1.image μ.1.image ν (grown_extends later) grown) in
        each.more (Has j v) us
        (procedure_stands j μ₀.1 v waits.0 known waits.1 wait.frame (known_later wait.now ν (t.emissions j).writing waits.0.frame (numbers_kept waits.0.kept) up wait.known)
        (procedures_later t.surroundings (t.emissions j) wait.now ν waits.0.frame up wait.procedures))
        (waiting_stand grown rest)
    waiting_stand grown (wrapper named rest) = waiting_stand grown rest
