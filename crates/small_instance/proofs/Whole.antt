-- Whole programs: the two layers composed, linked, and the law applied.
use Rattle.std.specs.Prelude.{◌≡◌, ℕ, zero, suc, ◌+◌, ◌*◌, ◌/◌, ◌%◌, ◌<◌, ◌≤◌, Bool, true, false, nat_eq, nat_lt, if◌then◌else◌, List, [], ◌∷◌, map, length, slice_get, Option, Some, None, option_map, unwrap_or, refl}
use Rattle.std.proofs.Common.{sym, ap, ◌∙◌, subst, arith, true≢false}
use Rattle.std.proofs.lemmas.Bool.{eq-eqb, ltb-true, lt-ltb}
use Rattle.std.proofs.lemmas.List.{length-map}
use mathlib.Core.Path.{fun_ext}
use Rattle.simulation.specs.Machine.{Frame, State, Over, numbers, run}
use Rattle.simulation.specs.LocalSimulation.{Kit, Local}
use Rattle.simulation.specs.Law.{Linking, couple, Linked, Home, Grown, WaitingFrames, Alike, SameTexts}
use Rattle.simulation.specs.Law as law
use Rattle.simulation.specs.Composition.{composite_kit, composite_pairing, composite_couple}
use Rattle.simulation.proofs.Composing.{composite_simulates}
use Rattle.simulation.proofs.LawProof as law_proof
use Rattle.simulation.proofs.Waiting.{below_waits}
use Rattle.simulation.proofs.Corollaries.{ends_alike, breaks_later, begins_alike, same_texts}
use Rattle.small_instance.specs.Store.{Ending, block, Store, Bound, Called}
use Rattle.small_instance.specs.SourceLanguage.{Text, source_sorts, source_language, source_program}
use Rattle.small_instance.specs.TargetLanguage.{Word, Pointer, Memory, Code, target_sorts, target_language, target_program}
use Rattle.small_instance.specs.Translation.{lowered, item_of, frame_of, wrapper_frame, function_called, inner_code, wrapper_code, translated_from, translated, longest, factor_of}
use Rattle.small_instance.specs.Translates.{Start, store_of, word_of, memory_of, source_after, target_after, BlockImage, DummiesStand, Same, running, over, undefined, Translates}
use Rattle.small_instance.proofs.FirstLayer.{upper_kit, upper_pairing, upper_couple, upper_simulates}
use Rattle.small_instance.proofs.Frames as Frames
use Rattle.small_instance.proofs.Frames.{World, Sane, IsFree, Stands, lower_kit, lower_pairing}
use Rattle.small_instance.proofs.CallWorld.{ne_eqb'}
use Rattle.small_instance.proofs.SecondLayer.{wrapper_under, lower_couple, lower_simulates}

abbrev kit : Kit source_language target_language
kit = composite_kit upper_kit lower_kit

abbrev linking : (us : List Text) (fs : List Code) → Linking kit (source_program us) (target_program fs)
linking us fs = record {
  Known = λ i. i < length us;
  pairing = λ i. composite_pairing (upper_pairing ((source_program us).text i)) (lower_pairing i);
  image = λ i. 2 * i;
  width = λ i. length (lowered ((source_program us).text i));
  wrapper = wrapper_under;
  inner = λ i. 2 * i;
  outer = λ k. nat_eq (k % 2) 1;
  owner = λ k. k / 2;
}

-- the wrapper of unit i under each name
abbrev wrappers_of : (ℕ → Code) → ℕ → ℕ → Option Code
wrappers_of text i n = option_map text (wrapper_under i n)

-- the two layers of unit i
both_layers : (i : ℕ) (u : Text) → Local (composite_couple (upper_couple i u) (lower_couple i (lowered u)))
both_layers i u =
    composite_simulates (upper_couple i u) (lower_couple i (lowered u))
    (record { bare = λ n. refl; stays = λ j μ. tt; tells = λ f e told. absurd told })
    (upper_simulates i u) (lower_simulates i (lowered u))

-- where a translated program has its functions
known_text : (us : List Text) (i : ℕ) → i < length us → (u : Text) × (slice_get us i ≡ Some u)
known_text [] i h = absurd (omega arith)
known_text (u ∷ us) zero h = (u, refl)
known_text (u ∷ us) (suc i) h = known_text us i (omega arith)

function_at : (b : ℕ) (us : List Text) (i : ℕ) (u : Text) → slice_get us i ≡ Some u → slice_get (translated_from b us) (2 * i) ≡ Some (inner_code (b + i) (lowered u))
function_at b [] i u e = absurd (grind arith)
function_at b (x ∷ us) zero u e =
    let e' : Some x ≡ Some u = e in
    let same : x ≡ u = cc in
    let z : b ≡ b + 0 = omega arith in
    ap (λ x. Some (inner_code b (lowered x))) same ∙ ap (λ b. Some (inner_code b (lowered u))) z
function_at b (x ∷ us) (suc i) u e =
    let n : 2 * suc i ≡ suc (suc (2 * i)) = omega arith in
    let s : suc b + i ≡ b + suc i = omega arith in
    ap (slice_get (translated_from b (x ∷ us))) n ∙ function_at (suc b) us i u e ∙ ap (λ b. Some (inner_code b (lowered u))) s

wrapper_at : (b : ℕ) (us : List Text) (i : ℕ) (u : Text) → slice_get us i ≡ Some u → slice_get (translated_from b us) (2 * i + 1) ≡ Some (wrapper_code (b + i))
wrapper_at b [] i u e = absurd (grind arith)
wrapper_at b (x ∷ us) zero u e =
    let z : b ≡ b + 0 = omega arith in
    ap (λ b. Some (wrapper_code b)) z
wrapper_at b (x ∷ us) (suc i) u e =
    let n : 2 * suc i + 1 ≡ suc (suc (2 * i + 1)) = omega arith in
    let s : suc b + i ≡ b + suc i = omega arith in
    ap (slice_get (translated_from b (x ∷ us))) n ∙ wrapper_at (suc b) us i u e ∙ ap (λ b. Some (wrapper_code b)) s

length-translated : (b : ℕ) (us : List Text) → length (translated_from b us) ≡ 2 * length us
length-translated b [] = refl
length-translated b (u ∷ us) = let h : length (translated_from (suc b) us) ≡ 2 * length us = length-translated (suc b) us in omega arith

longest_at : (fs : List Code) (k : ℕ) (f : Code) → slice_get fs k ≡ Some f → length f.items ≤ longest fs
longest_at [] k f e = absurd (grind arith)
longest_at (x ∷ fs) zero f e =
    let e' : Some x ≡ Some f = e in
    let is : x ≡ f = cc in
    let same : length x.items ≡ length f.items = ap {A = Code} (λ c. length c.items) is in
    omega arith
longest_at (x ∷ fs) (suc k) f e = let h : length f.items ≤ longest fs = longest_at fs k f e in omega arith

module _ (us : List Text) where
  unit_number : (i : ℕ) (u : Text) → slice_get us i ≡ Some u → (source_program us).text i ≡ u
  unit_number i u e = ap (λ o. unwrap_or o (record { second = 0; body = [] })) e

  function_number : (i : ℕ) (u : Text) → slice_get us i ≡ Some u → (target_program (translated us)).text (2 * i) ≡ inner_code i (lowered u)
  function_number i u e =
      let z : 0 + i ≡ i = omega arith in
      ap (λ o. unwrap_or o (record { object = 0; cells = 0; selected = false; items = [] })) (function_at 0 us i u e) ∙ ap (λ b. inner_code b (lowered u)) z

  wrapper_number : (i : ℕ) (u : Text) → slice_get us i ≡ Some u → (target_program (translated us)).text (2 * i + 1) ≡ wrapper_code i
  wrapper_number i u e =
      let z : 0 + i ≡ i = omega arith in
      ap (λ o. unwrap_or o (record { object = 0; cells = 0; selected = false; items = [] })) (wrapper_at 0 us i u e) ∙ ap wrapper_code z

  wrappers_same : (i : ℕ) (u : Text) → slice_get us i ≡ Some u → wrappers_of (λ g. wrapper_code i) i ≡ wrappers_of (target_program (translated us)).text i
  wrappers_same i u e = fun_ext (λ n. named n (nat_eq (n % 2) 1))
    where
      named : (n : ℕ) (q : Bool) → option_map (λ g. wrapper_code i) (if q then Some (2 * i + 1) else None) ≡ option_map (target_program (translated us)).text (if q then Some (2 * i + 1) else None)
      named n true = ap Some (sym (wrapper_number i u e))
      named n false = refl

  -- each unit is simulated by its function
  unit_simulated : (i : ℕ) (u : Text) → slice_get us i ≡ Some u → Local (couple (linking us (translated us)) i)
  unit_simulated i u e =
      subst (λ x. Local (record (couple (linking us (translated us)) i) { source = x; pairing = composite_pairing (upper_pairing x) (lower_pairing i); most = λ v. length (lowered x) })) (sym (unit_number i u e))
      (subst (λ w. Local (record (composite_couple (upper_couple i u) (lower_couple i (lowered u))) { target = (target_program (translated us)).text (2 * i); wrapper = w })) (wrappers_same i u e)
      (subst (λ f. Local (record (composite_couple (upper_couple i u) (lower_couple i (lowered u))) { target = f })) (sym (function_number i u e)) (both_layers i u)))

  -- a name that is called finds its function or wrapper
  finds_unit : (n i : ℕ) → (if nat_lt n (length us) then Some n else None) ≡ Some i → (n ≡ i) × (i < length us)
  finds_unit n i e = go (nat_lt n (length us)) refl
    where
      go : (q : Bool) → nat_lt n (length us) ≡ q → (n ≡ i) × (i < length us)
      go true h =
          let value : Some n ≡ Some i = sym (ap (λ q. if q then Some n else None) h) ∙ e in
          let same : n ≡ i = cc in
          (same, subst (λ k. k < length us) same (ltb-true n (length us) h))
      go false h = let value : None ≡ Some i = sym (ap (λ q. if q then Some n else None) h) ∙ e in absurd (cc)

  function_found : (k : ℕ) → k < 2 * length us → (target_program (translated us)).find k ≡ Some k
  function_found k small =
      let size : length (translated us) ≡ 2 * length us = length-translated 0 us in
      let within : k < length (translated us) = omega arith in
      ap (λ q. if q then Some k else None) (lt-ltb k (length (translated us)) within)

  name_found : (unit i : ℕ) (q : Bool) (k : ℕ) → unit ≡ i → i < length us → k ≡ function_called unit q → (target_program (translated us)).find k ≡ Some (unwrap_or (wrapper_under i k) (2 * i))
  name_found unit i false k same small name =
      let k' : k ≡ 2 * unit = name in
      let even : nat_eq (k % 2) 1 ≡ false = ne_eqb' (k % 2) 1 (λ e. omega arith) in
      let is : k ≡ 2 * i = omega arith in
      function_found k (omega arith) ∙ ap Some is ∙ ap (λ q. Some (unwrap_or (if q then Some (2 * i + 1) else None) (2 * i))) (sym even)
  name_found unit i true k same small name =
      let k' : k ≡ 2 * unit + 1 = name in
      let odd : nat_eq (k % 2) 1 ≡ true = eq-eqb (k % 2) 1 (omega arith) in
      let is : k ≡ 2 * i + 1 = omega arith in
      function_found k (omega arith) ∙ ap Some is ∙ ap (λ q. Some (unwrap_or (if q then Some (2 * i + 1) else None) (2 * i))) (sym odd)

  wrapper_is : (i n g : ℕ) → wrapper_under i n ≡ Some g → g ≡ 2 * i + 1
  wrapper_is i n g e = go (nat_eq (n % 2) 1) e
    where
      go : (q : Bool) → (if q then Some (2 * i + 1) else None) ≡ Some g → g ≡ 2 * i + 1
      go true h = let value : Some (2 * i + 1) ≡ Some g = h in cc
      go false h = absurd (grind arith)

  wide : (i : ℕ) → i < length us → suc (length (lowered ((source_program us).text i))) ≤ factor_of (translated us)
  wide i small =
      let k = known_text us i small in
      let fits : length (map item_of (lowered k.0)) ≤ longest (translated us) = longest_at (translated us) (2 * i) (inner_code (0 + i) (lowered k.0)) (function_at 0 us i k.0 k.1) in
      let size : length (map item_of (lowered k.0)) ≡ length (lowered k.0) = length-map (lowered k.0) item_of in
      let same : length (lowered ((source_program us).text i)) ≡ length (lowered k.0) = ap {A = Text} (λ u. length (lowered u)) (unit_number i k.0 k.1) in
      omega arith

  all_linked : Linked (linking us (translated us)) (factor_of (translated us))
  all_linked = record {
    known = λ n i e. (finds_unit n.unit i e).1;
    simulated = λ i small. let k = known_text us i small in unit_simulated i k.0 k.1;
    narrow = λ i small. let h : suc (length (lowered ((source_program us).text i))) ≤ factor_of (translated us) = wide i small in omega arith;
    narrow_wrapped = λ i n g small e. wide i small;
    some_step = omega arith;
    finds = λ μ s n a t n' a' i passed e.
        let unit = finds_unit n.unit i e in
        let same : passed.1.unit ≡ i = ap {A = Called} (λ c. c.unit) (sym passed.3.1) ∙ unit.0 in
        name_found passed.1.unit i passed.1.by_second n' same unit.1 passed.4.name;
    finds_inner = λ i small. function_found (2 * i) (omega arith);
    grows_houses = λ i j μ μ' known grows houses. (tt, grows.1.sane houses.1);
    grows_idle = λ i j μ μ' known differ grows idle.
        let apart : j ≡ i → ⊥ = λ same. true≢false (sym (eq-eqb j i same) ∙ differ) in
        (tt, (grows.1.free (frame_of j) (λ e. apart (odd_frames j i e)) (λ e. parity j i e) idle.1.0, grows.1.free (wrapper_frame j) (λ e. parity i j (sym e)) (λ e. apart (even_frames j i e)) idle.1.1));
    image_inner = λ i. ne_eqb' ((2 * i) % 2) 1 (λ e. omega arith);
    image_owner = λ i. omega arith;
    wrapper_outer = λ i n g e. let is : g ≡ 2 * i + 1 = wrapper_is i n g e in eq-eqb (g % 2) 1 (omega arith);
    wrapper_owner = λ i n g e. let is : g ≡ 2 * i + 1 = wrapper_is i n g e in omega arith;
    same_plain = refl;
    missing_unclaimed = λ claimed. claimed;
    busy_unclaimed = λ claimed. claimed;
  }
    where
      odd_frames : (j i : ℕ) → frame_of j ≡ frame_of i → j ≡ i
      odd_frames j i e = let h : 2 * j + 1 ≡ 2 * i + 1 = e in omega arith

      even_frames : (j i : ℕ) → wrapper_frame j ≡ wrapper_frame i → j ≡ i
      even_frames j i e = let h : 2 * j + 2 ≡ 2 * i + 2 = e in omega arith

      parity : (j i : ℕ) → frame_of j ≡ wrapper_frame i → ⊥
      parity j i e = let h : 2 * j + 1 ≡ 2 * i + 2 = e in omega arith

first_world : World
first_world = record { object = λ c. 0; cell = λ c. c; height = block; frozen = λ o c. None }

first_sane : Sane first_world
unfolding first_world
first_sane = record {
  block_object = λ k small. refl;
  block_cell = λ k small. refl;
  tall = omega arith;
  apart = λ c d hc hd object cell. cell;
  loose = λ c hc. refl;
}

first_free : (o : ℕ) → (0 ≡ o → ⊥) → IsFree o first_world
unfolding first_world
first_free o differ = record { homeless = λ c hc e. differ e; unfrozen = λ c. refl }

first_image : (start : Start) → Stands first_world (store_of start) (memory_of start)
unfolding first_world
first_image start = record {
  high = refl;
  stands = λ c n small e. ap word_of (cell c n (nat_lt c block) e);
  holds = λ o c w frozen. absurd (none w frozen);
}
  where
    cell : (c n : ℕ) (q : Bool) → (if q then start c else None) ≡ Some n → start c ≡ Some n
    cell c n true e = e
    cell c n false e = absurd (grind arith)

    none : (w : Word) → None ≡ Some w → ⊥
    none w e = absurd (cc)

block_stands : (μ : World) (s s' : Store) (m : Memory) → s ≡ s' → Sane μ → Stands μ s' m → BlockImage s m
block_stands μ s s' m same sane image k n small e =
    let tall : block ≤ μ.height = sane.tall in
    sym (ap (λ o. m o (μ.cell k)) (sane.block_object k small) ∙ ap (m 0) (sane.block_cell k small)) ∙ image.stands k n (omega arith) (ap (λ s. s.cells k) (sym same) ∙ e)

-- what is frozen stays so through any growth
stays_frozen : {μ μ' : kit.World} → Grown kit μ μ' → (o c : ℕ) (w : Word) → μ.1.frozen o c ≡ Some w → μ'.1.frozen o c ≡ Some w
stays_frozen law.unchanged o c w frozen = frozen
stays_frozen (law.by i grows later) o c w frozen = stays_frozen later o c w (grows.1.kept o c w frozen)

-- a cell of the block is at home in the block
block_home : (μ : World) → Sane μ → (k : ℕ) → k < block → Frames.home μ k ≡ Pointer 0 k
block_home μ sane k small = ap (λ o. Pointer o (μ.cell k)) (sane.block_object k small) ∙ ap (Pointer 0) (sane.block_cell k small)

-- the units that wait have their dummies behind their parameters
waiting_dummies : (us : List Text) (μ : kit.World) (s : Store) (m : Memory) → Stands μ.1 s m → {ws : List (Frame source_sorts)} {fs : List (Frame target_sorts)} →
    WaitingFrames (linking us (translated us)) μ ws fs → DummiesStand ws m
waiting_dummies us μ s m image law.none = tt
waiting_dummies us μ s m image (law.text {μ₀ = μ₀} {j = j} {v = v} known home grows waits grown later) =
    let sane : Sane μ₀.1 = (home.houses j known).1 in
    let same : v.bound ≡ waits.0.bound = waits.1 in (
      (λ small. image.holds (frame_of j) 0 (Frames.home μ₀.1 waits.0.bound.first) (stays_frozen grown (frame_of j) 0 (Frames.home μ₀.1 waits.0.bound.first) waits.2.first)
          ∙ ap (λ (b : Bound). Frames.home μ₀.1 b.first) (sym same) ∙ block_home μ₀.1 sane v.bound.first small),
      (λ small. image.holds (frame_of j) 1 (Frames.home μ₀.1 waits.0.bound.second) (stays_frozen grown (frame_of j) 1 (Frames.home μ₀.1 waits.0.bound.second) waits.2.second)
          ∙ ap (λ (b : Bound). Frames.home μ₀.1 b.second) (sym same) ∙ block_home μ₀.1 sane v.bound.second small),
      waiting_dummies us μ s m image later,
    )
waiting_dummies us μ s m image (law.wrapper named later) = waiting_dummies us μ s m image later

-- what two ended states say of the block
abbrev EndedImage : State Ending source_sorts → State Ending target_sorts → Type 0
EndedImage (Over e us s) (Over e' fs t) = BlockImage s t
EndedImage x y = Unit {0}

ended_image : (x : State Ending source_sorts) (y : State Ending target_sorts) → Same x y → EndedImage x y
ended_image x y (running same image dummies) = tt
ended_image x y (over same image) = image
ended_image x y undefined = tt

module _ (us : List Text) (some : 0 < length us) where
  -- alike states are the same
  same_of : (x : State Ending source_sorts) (y : State Ending target_sorts) → Alike (linking us (translated us)) x y → Same x y
  unfolding numbers
  same_of x y (law.running {μ = μ} {s = s} {t = t} known home matched below) =
      running (same_texts (linking us (translated us)) (factor_of (translated us)) (all_linked us) (law.running known home matched below))
      (block_stands μ.1 s matched.1 t matched.2.store matched.3.sane matched.3.image)
      (waiting_dummies us μ matched.1 t matched.3.image (below_waits (linking us (translated us)) below law.unchanged))
  same_of x y (law.over {μ = μ} {e = e} {v = v} {s = s} {w = w} {t = t} known home halted below) =
      over {e = e} (same_texts (linking us (translated us)) (factor_of (translated us)) (all_linked us) (law.over {e = e} {v = v} {w = w} known home halted below))
      (block_stands μ.1 s halted.1 t halted.2 halted.3.0 halted.3.1)
  same_of x y (law.finished {μ = μ} {s = s} {t = t} houses given) =
      over {us = []} {fs = []} refl (block_stands μ.1 s given.0 t given.2.0 (houses 0 some).1 given.3.0)
  same_of x y law.undefined = undefined

  begins : (start : Start) → Alike (linking us (translated us)) (source_after us start 0) (target_after (translated us) start 0)
  unfolding first_world run
  begins start =
      begins_alike (linking us (translated us)) (factor_of (translated us)) (all_linked us) (tt, first_world)
      (record { unit = 0; by_second = false }) (record { first = 0; second = 1 }) (store_of start)
      0 (record { first = Pointer 0 0; second = Pointer 0 1; number = Some 0 }) (memory_of start) 0
      (ap (λ q. if q then Some 0 else None) (lt-ltb 0 (length us) some)) refl
      (record {
        houses = λ j known. (tt, first_sane);
        idle = λ j known absent. (tt, (first_free (frame_of j) (λ e. omega arith), first_free (wrapper_frame j) (λ e. omega arith)));
      }) (
        store_of start,
        record { unit = 0; by_second = false },
        record { first = 0; second = 1 },
        (refl, refl, refl),
        record { image = first_image start; name = refl; number = refl; first_there = omega arith; second_there = omega arith; first = refl; second = refl },
      )

  -- the translation of units as lists
  pub translates : Translates us (translated us) (factor_of (translated us))
  unfolding run
  translates = record {
    faithful = λ start n.
        let r = law_proof.law (linking us (translated us)) (factor_of (translated us)) (all_linked us) (begins start) n in
        (r.0, r.1, r.2, same_of (source_after us start n) (target_after (translated us) start r.0) r.3);
    ends = λ start n m e active s ended late.
        let r = ends_alike (linking us (translated us)) (factor_of (translated us)) (all_linked us) (begins start) n m e active s ended late in
        (r.0, r.1, r.2, ended_image (Over e active s) (Over e r.0 r.1) (same_of (Over e active s) (Over e r.0 r.1) r.3));
    faults = λ start. breaks_later (linking us (translated us)) (factor_of (translated us)) (all_linked us) (begins start);
  }

-- as the code has it
pub translates_as : (us : List Text) (fs : List Code) (W : ℕ) → 0 < length us → fs ≡ translated us → W ≡ longest fs + 2 → Translates us fs W
translates_as us fs W some is factor =
    subst (λ W. Translates us fs W) (sym (factor ∙ ap factor_of is)) (subst (λ fs. Translates us fs (factor_of (translated us))) (sym is) (translates us some))
