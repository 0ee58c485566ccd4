-- Functions that are called and answer, on the stack of the code.
use Rattle.std.proofs.Common.{◌≡◌, ℕ, zero, suc, ◌+◌, ◌-◌, ◌^◌, ◌<◌, ◌≤◌, false, ◌||◌, List, [], ◌∷◌, length, drop, set, refl, ap, sym, ◌∙◌, subst, arith, length-drop}
use Rattle.std.specs.Prelude.{Bool, true, Some, None, nat_eq, if◌then◌else◌, get_or, slice_get, option_map}
use Rattle.std.proofs.lemmas.Option.{slice_get-map, slice_get_within, get_or_from_slice_get}
use Rattle.std.proofs.lemmas.Bool.Decides.{nat_tests}
use Rattle.std.proofs.lemmas.Grind.{get_or-set_at}
use Rattle.std.proofs.lemmas.List.{length-set, length-map, drop_more, drop_all, drop-set, get_or-set_other}
use Rattle.c_tree.specs.simulation.Machine.{active, numbers, machine_opened}
use Rattle.item_deeds.specs.declared.views.CallView.{CallView}
use Rattle.program_runner.specs.declared.stack.ActiveFunction.{ActiveFunction}
use Rattle.program_runner.specs.declared.stack.CallFrame.{CallFrame}
use Rattle.program_runner.specs.declared.stack.CallStack.{CallStack}
use Rattle.program_runner.specs.Numbers.{has, Apart, Below}
use Rattle.program_runner.specs.Stacks.{frames_of, numbers_of, waits_in, flags_in, waiting, CanGoOn, IsStack, IsPushed}
use Rattle.program_runner.proofs.FewNumbers.{few}

pub active-has : (number : ℕ) (frames : List ActiveFunction) → active number (frames_of frames) ≡ has number (numbers_of frames)
unfolding machine_opened
active-has number [] = refl
active-has number (frame ∷ later) = ap (λ rest. nat_eq number frame.number || rest) (active-has number later)

pub numbers-same : (frames : List ActiveFunction) → numbers (frames_of frames) ≡ numbers_of frames
unfolding machine_opened
numbers-same [] = refl
numbers-same (frame ∷ later) = ap (λ rest. frame.number ∷ rest) (numbers-same later)

-- one frame more has room
pub has-room : (functions : ℕ) (stack : CallStack) → IsStack functions stack → 0 < stack.free
has-room functions stack is =
    omega (arith, few functions (stack.top.number ∷ numbers_of (waiting stack)) is.apart is.below, length-map (waiting stack) (λ function. function.number), length-drop stack.free (waits_in stack.room.items), length-map stack.room.items (λ frame. frame.waits), is.size, is.within)

pub one-waits : (frames : List ActiveFunction) (free : ℕ) (frame : ActiveFunction) → 0 < free → free ≤ length frames → drop (free - 1) (set frames (free - 1) frame) ≡ frame ∷ drop free frames
one-waits frames free frame some within =
    let next : (free - 1) + 1 ≡ free = omega arith in
    drop-set frames (free - 1) frame (omega arith) ∙ ap (λ n. frame ∷ drop n frames) next

-- a frame at a place, and those behind it
pub one-less : (frames : List ActiveFunction) (free : ℕ) (frame : ActiveFunction) → slice_get frames free ≡ Some frame → drop free frames ≡ frame ∷ drop (free + 1) frames
one-less frames free frame is =
    drop_more frames free frame (slice_get_within frames free frame is) ∙ ap (λ first. first ∷ drop (free + 1) frames) (get_or_from_slice_get frames free frame frame is)

pub none-left : (frames : List ActiveFunction) (free : ℕ) → slice_get frames free ≡ None → drop free frames ≡ []
none-left [] zero is = refl
none-left [] (suc free) is = refl
none-left (frame ∷ later) zero is = absurd (cc)
none-left (frame ∷ later) (suc free) is = none-left later free is

pub found-waits : (room : List CallFrame) (free : ℕ) (frame : CallFrame) → slice_get room free ≡ Some frame → slice_get (waits_in room) free ≡ Some frame.waits
found-waits room free frame is = slice_get-map (λ f. f.waits) room free ∙ ap (option_map (λ f. f.waits)) is

pub none-found : (room : List CallFrame) (free : ℕ) → slice_get room free ≡ None → slice_get (waits_in room) free ≡ None
none-found room free is = slice_get-map (λ f. f.waits) room free ∙ ap (option_map (λ f. f.waits)) is

-- FLAGS
flag-by : (flags : List Bool) (place number : ℕ) (value test : Bool) → nat_eq number place ≡ test → place < length flags →
    get_or (set flags place value) number false ≡ (if test then value else get_or flags number false)
flag-by flags place number value true is within = let same : number ≡ place = grind (arith, nat_tests) in get_or-set_at flags place number value false same within
flag-by flags place number value false is within = get_or-set_other flags place number value false (λ same. absurd (let other : nat_eq number place ≡ false = is in let equal : number ≡ place = same in grind (arith, nat_tests)))

flag-set : (flags : List Bool) (place number : ℕ) (value : Bool) → place < length flags → get_or (set flags place value) number false ≡ (if nat_eq number place then value else get_or flags number false)
flag-set flags place number value within = flag-by flags place number value (nat_eq number place) refl within

pub cleared-one : (flags : List Bool) (number place : ℕ) → number < length flags → ((other : ℕ) → other < number → get_or flags other false ≡ false) → place < number + 1 →
    get_or (set flags number false) place false ≡ false
cleared-one flags number place within before less = flag-set flags number place false within ∙ by (nat_eq place number) refl
  where
    by : (test : Bool) → nat_eq place number ≡ test → (if test then false else get_or flags place false) ≡ false
    by true is = refl
    by false is = before place (grind (arith, nat_tests))

pub first-flag : (flags : List Bool) (number other : ℕ) → number < length flags → get_or flags other false ≡ false → get_or (set flags number true) other false ≡ nat_eq other number
first-flag flags number other within none = flag-set flags number other true within ∙ ap (λ rest. if nat_eq other number then true else rest) none ∙ chosen (nat_eq other number)
  where
    chosen : (test : Bool) → (if test then true else false) ≡ test
    chosen true = refl
    chosen false = refl

or-none : (test : Bool) → test ≡ (test || false)
or-none true = refl
or-none false = refl

or-else : (test rest : Bool) → (if test then true else rest) ≡ (test || rest)
or-else true rest = refl
or-else false rest = refl

but-for : (number top : ℕ) (numbers : List ℕ) (test : Bool) → nat_eq number top ≡ test → has top numbers ≡ false → (if test then false else (test || has number numbers)) ≡ has number numbers
but-for number top numbers true is apart = let same : number ≡ top = grind (arith, nat_tests) in sym (ap (λ n. has n numbers) same ∙ apart)
but-for number top numbers false is apart = refl

pub nobody-waits : (stack : CallStack) → length stack.room.items ≤ stack.free → waiting stack ≡ []
nobody-waits stack all = drop_all stack.free (waits_in stack.room.items) (omega (arith, length-map stack.room.items (λ frame. frame.waits)))

pub alone : (functions : ℕ) (stack : CallStack) → length stack.room.items ≡ functions → stack.free ≡ functions → stack.top.number < functions →
    ((other : ℕ) → other < functions → get_or (flags_in stack.room.items) other false ≡ nat_eq other stack.top.number) → IsStack functions stack
alone functions stack size free below flags =
    let none : waiting stack ≡ [] = nobody-waits stack (omega arith) in
    record {
      size = size;
      within = omega arith;
      apart = subst (λ functions. Apart (stack.top.number ∷ numbers_of functions)) (sym none) (refl, tt);
      below = subst (λ waits. Below functions (stack.top.number ∷ numbers_of waits)) (sym none) (below, tt);
      ready = subst CanGoOn (sym none) tt;
      flags = λ number within.
          flags number within
          ∙ or-none (nat_eq number stack.top.number)
          ∙ ap (λ waits. has number (stack.top.number ∷ numbers_of waits)) (sym none);
    }

pub pushed-waiting : (functions : ℕ) (old new : CallStack) (waits : ActiveFunction) → IsStack functions old → new.free ≡ old.free - 1 →
    waits_in new.room.items ≡ set (waits_in old.room.items) (old.free - 1) waits → waiting new ≡ waits ∷ waiting old
pushed-waiting functions old new waits is free items =
    ap (λ n. drop n (waits_in new.room.items)) free ∙ ap (drop (old.free - 1)) items
    ∙ one-waits (waits_in old.room.items) old.free waits (has-room functions old is) (omega (arith, is.within, is.size, length-map old.room.items (λ frame. frame.waits)))

pub pushed : (old new : CallStack) (view : CallView) (called : ActiveFunction) → IsStack (length old.room.items) old → new.top ≡ called → new.free ≡ old.free - 1 →
    waits_in new.room.items ≡ set (waits_in old.room.items) (old.free - 1) (record { number = old.top.number; view = view }) → flags_in new.room.items ≡ set (flags_in old.room.items) called.number true →
    view.position + 1 < 2 ^ 64 → called.number < length old.room.items → has called.number (old.top.number ∷ numbers_of (waiting old)) ≡ false → IsPushed old new view called
pushed old new view called is top free items flags ready below idle =
    let waits : waiting new ≡ record { number = old.top.number; view = view } ∷ waiting old =
    pushed-waiting (length old.room.items) old new (record { number = old.top.number; view = view }) is free items in
    let called_number : called.number ≡ new.top.number = sym (ap (λ function. function.number) top) in
    record {
      stack = record {
        size = sym (length-map new.room.items (λ frame. frame.waits)) ∙ ap length items
            ∙ length-set (waits_in old.room.items) (old.free - 1) (record { number = old.top.number; view = view }) ∙ length-map old.room.items (λ frame. frame.waits);
        within = omega (arith, is.within);
        apart = subst (λ number. Apart (number ∷ numbers_of (waiting new))) called_number
            (subst (λ frames. Apart (called.number ∷ numbers_of frames)) (sym waits) (idle, is.apart));
        below = subst (λ number. Below (length old.room.items) (number ∷ numbers_of (waiting new))) called_number
            (subst (λ frames. Below (length old.room.items) (called.number ∷ numbers_of frames)) (sym waits) (below, is.below));
        ready = subst CanGoOn (sym waits) (ready, is.ready);
        flags = λ number within.
            ap (λ all. get_or all number false) flags
            ∙ flag-set (flags_in old.room.items) called.number number true (omega (arith, length-map old.room.items (λ frame. frame.active)))
            ∙ ap (λ rest. if nat_eq number called.number then true else rest) (is.flags number within)
            ∙ or-else (nat_eq number called.number) (has number (old.top.number ∷ numbers_of (waiting old)))
            ∙ ap (λ frames. has number (called.number ∷ numbers_of frames)) (sym waits)
            ∙ ap (λ first. has number (first ∷ numbers_of (waiting new))) called_number;
      };
      top = top;
      waits = waits;
    }

pub popped : (functions : ℕ) (old new : CallStack) → IsStack functions old → waits_in new.room.items ≡ waits_in old.room.items → flags_in new.room.items ≡ set (flags_in old.room.items) old.top.number false →
    new.free ≤ functions → waiting old ≡ new.top ∷ waiting new → IsStack functions new
popped functions old new is items flags within waits = record {
  size = sym (length-map new.room.items (λ frame. frame.waits)) ∙ ap length items ∙ length-map old.room.items (λ frame. frame.waits) ∙ is.size;
  within = within;
  apart = let all : Apart (numbers_of (waiting old)) = is.apart.1 in subst (λ frames. Apart (numbers_of frames)) waits all;
  below = let all : Below functions (numbers_of (waiting old)) = is.below.1 in subst (λ frames. Below functions (numbers_of frames)) waits all;
  ready = (subst CanGoOn waits is.ready).1;
  flags = λ number less.
      ap (λ all. get_or all number false) flags
      ∙ flag-set (flags_in old.room.items) old.top.number number false (let top : old.top.number < functions = is.below.0 in omega (arith, is.size, length-map old.room.items (λ frame. frame.active)))
      ∙ ap (λ rest. if nat_eq number old.top.number then false else rest) (is.flags number less)
      ∙ but-for number old.top.number (numbers_of (waiting old)) (nat_eq number old.top.number) refl is.apart.0
      ∙ ap (λ frames. has number (numbers_of frames)) waits;
}

-- another view of the active function
pub with-view : (functions : ℕ) (stack : CallStack) (view : CallView) → IsStack functions stack → IsStack functions (record stack { top = record stack.top { view = view } })
with-view functions stack view is = record {
  size = is.size;
  within = is.within;
  apart = is.apart;
  below = is.below;
  ready = is.ready;
  flags = is.flags;
}
