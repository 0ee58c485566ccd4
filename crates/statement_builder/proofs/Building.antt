-- What a builder gives for the items that are ahead, and what it leaves of them.
use Rattle.std.specs.Prelude.{◌≡◌, ℕ, zero, suc, ◌+◌, ◌-◌, ◌<◌, ◌≤◌, List, [], ◌∷◌, ◌++◌, length, take, drop, Option, Some, None, option_map, option_to_list, slice_get, Result, Ok, Err, IfOk}
use Rattle.std.proofs.Common.{refl, sym, ap, ◌∙◌, subst, arith}
use Rattle.std.proofs.lemmas.List.{append-nil, append_assoc, drop-drop, drop-take, take-take, length-drop, take_all}
use Rattle.c_tree.specs.declared.statement.CStmt.{CStmt}
use Rattle.named_items.specs.declared.item.Item.{Item}
use Rattle.named_items.specs.declared.part.Part.{Part}
use Rattle.named_items.specs.Layouts.{Layout}
use Rattle.named_items.specs.Structured.{Writer, part_at, behind, onward, structured}
use Rattle.statement_builder.specs.Taking.{Leaves, Takes}

-- ## Results

pub if_ok : {A E : Type 0} → (P Q : A → Type 0) (res : Result A E) → ((x : A) → P x → Q x) → IfOk res P → IfOk res Q
if_ok P Q (Ok x) f h = f x h
if_ok P Q (Err e) f h = h

pub if_both : {A E : Type 0} → (P R Q : A → Type 0) (res : Result A E) → ((x : A) → P x → R x → Q x) → IfOk res P → IfOk res R → IfOk res Q
if_both P R Q (Ok x) f h g = f x h g
if_both P R Q (Err e) f h g = h

pub some_same : {A : Type 0} → (x y : A) → Some x ≡ Some y → x ≡ y
some_same x y h = cc

-- ## Lists

pub take_less : {A : Type 0} → (m count : ℕ) (xs : List A) → m ≤ count → take m (take count xs) ≡ take m xs
take_less m count xs h = take-take m count xs h

pub drop_less : {A : Type 0} → (m count : ℕ) (xs : List A) → m ≤ count → drop m (take count xs) ≡ take (count - m) (drop m xs)
drop_less m count xs h = let whole : count ≡ m + (count - m) = omega arith in ap (λ k. drop m (take k xs)) whole ∙ drop-take m (count - m) xs

pub get_less : {A : Type 0} → (k count : ℕ) (xs : List A) → k < count → slice_get (take count xs) k ≡ slice_get xs k
get_less k zero xs h = absurd (omega arith)
get_less k (suc count) [] h = refl
get_less zero (suc count) (x ∷ xs) h = refl
get_less (suc k) (suc count) (x ∷ xs) h = get_less k count xs (omega arith)

-- ## Statements one behind another

-- statements behind those that are written
unfoldable pub behind_all : List CStmt → Option (List CStmt) → Option (List CStmt)
behind_all written found = option_map (λ ss. written ++ ss) found

behind_more : (written : List CStmt) (s : CStmt) (found : Option (List CStmt)) → behind_all written (behind s found) ≡ behind_all (written ++ s ∷ []) found
unfolding behind_all behind
behind_more written s None = refl
behind_more written s (Some ss) = ap Some (sym (append_assoc written (s ∷ []) ss))

behind_none : (written : List CStmt) → behind_all written None ≡ None
unfolding behind_all
behind_none written = refl

behind_done : (written : List CStmt) → behind_all written (Some []) ≡ Some written
unfolding behind_all
behind_done written = ap Some (append-nil written)

behind_first : (found : Option (List CStmt)) → behind_all [] found ≡ found
unfolding behind_all
behind_first None = refl
behind_first (Some ss) = refl

structured_more : (l : Layout) (turns t n count c : ℕ) (queue later : List Item) (i : Item) → turns ≡ suc t → count ≡ suc c → queue ≡ i ∷ later
    → structured l turns n (take count queue) ≡ onward (structured l t) n (take c later) (part_at l (structured l t) n i (take c later))
unfolding structured
structured_more l turns t n count c queue later i one two three = (λ k. structured l (one k) n (take (two k) (three k)))

structured_out : (l : Layout) (turns n count c : ℕ) (queue later : List Item) (i : Item) → turns ≡ 0 → count ≡ suc c → queue ≡ i ∷ later → structured l turns n (take count queue) ≡ None
unfolding structured
structured_out l turns n count c queue later i one two three = (λ k. structured l (one k) n (take (two k) (three k)))

structured_done : (l : Layout) (turns n count : ℕ) (queue : List Item) → count ≡ 0 → structured l turns n (take count queue) ≡ Some []
unfolding structured
structured_done l turns n count queue none = (λ k. structured l turns n (take (none k) queue))

onward_none : (write : Writer) (n : ℕ) (later : List Item) (found : Option Part) → None ≡ found → onward write n later found ≡ None
unfolding onward
onward_none write n later found h = ap (onward write n later) (sym h)

onward_some : (write : Writer) (n : ℕ) (later : List Item) (p : Part) (found : Option Part) → Some p ≡ found → onward write n later found ≡ behind p.statement (write (n + 1 + p.taken) (drop p.taken later))
unfolding onward
onward_some write n later p found h = ap (onward write n later) (sym h)

-- what is written and what is left, of the statements of a span
pub record IsUnderway (l : Layout) (position count turns : ℕ) (queue : List Item) (written : List CStmt) (n left t : ℕ) (rest : List Item) : Type 0 where
  pub told : behind_all written (structured l t n (take left rest)) ≡ structured l turns position (take count queue)
  pub ahead : drop left rest ≡ drop count queue
  pub within : left ≤ length rest
  pub reaches : n + left ≡ position + count
  pub fewer : t ≤ turns

pub underway_first : (l : Layout) (position count turns : ℕ) (queue : List Item) → count ≤ length queue → IsUnderway l position count turns queue [] position count turns queue
underway_first l position count turns queue room = record { told = behind_first (structured l turns position (take count queue)); ahead = refl; within = room; reaches = refl; fewer = omega arith }

module _ (l : Layout) (position count turns : ℕ) (queue : List Item) (written : List CStmt) (n left t : ℕ) (rest : List Item) (is : IsUnderway l position count turns queue written n left t rest) where
  pub underway_done : left ≡ 0 → Some written ≡ structured l turns position (take count queue)
  underway_done none = sym (behind_done written) ∙ ap (behind_all written) (sym (structured_done l t n left rest none)) ∙ is.told

  pub underway_out : (c : ℕ) (later : List Item) (i : Item) → t ≡ 0 → left ≡ suc c → rest ≡ i ∷ later → None ≡ structured l turns position (take count queue)
  underway_out c later i out more first = sym (behind_none written) ∙ ap (behind_all written) (sym (structured_out l t n left c rest later i out more first)) ∙ is.told

  pub underway_none : (c u : ℕ) (later : List Item) (i : Item) → t ≡ suc u → left ≡ suc c → rest ≡ i ∷ later → None ≡ part_at l (structured l u) n i (take c later) → None ≡ structured l turns position (take count queue)
  underway_none c u later i turn more first none =
      sym (behind_none written) ∙ ap (behind_all written) (sym (structured_more l t u n left c rest later i turn more first ∙ onward_none (structured l u) n (take c later) (part_at l (structured l u) n i (take c later)) none)) ∙ is.told

  pub underway_more : (c u : ℕ) (later : List Item) (i : Item) (p : Part) (behind' : List Item) (m c' : ℕ) (all : List CStmt) → t ≡ suc u → left ≡ suc c → rest ≡ i ∷ later → Some p ≡ part_at l (structured l u) n i (take c later)
      → p.taken ≤ c → behind' ≡ drop p.taken later → m ≡ n + 1 + p.taken → c' ≡ c - p.taken → all ≡ written ++ p.statement ∷ []
      → IsUnderway l position count turns queue all m c' u behind'
  underway_more c u later i p behind' m c' all turn more first found less gone at fewer whole =
      let within = is.within in
      let reaches = is.reaches in
      let long : length rest ≡ suc (length later) = ap length first in
      let dropped = ap length gone ∙ length-drop p.taken later in
      let ends : drop c' behind' ≡ drop c later = (λ k. drop (fewer k) (gone k)) ∙ drop-drop (c - p.taken) p.taken later ∙ (let sum : p.taken + (c - p.taken) ≡ c = omega (arith, less) in ap (λ k. drop k later) sum) in
      record {
        told = ap (λ zs. behind_all zs (structured l u m (take c' behind'))) whole ∙ sym (behind_more written p.statement (structured l u m (take c' behind')))
            ∙ ap (λ found. behind_all written (behind p.statement found)) ((λ k. structured l u (at k) (take (fewer k) (gone k))) ∙ ap (structured l u (n + 1 + p.taken)) (sym (drop_less p.taken c later less)))
            ∙ ap (behind_all written) (sym (structured_more l t u n left c rest later i turn more first ∙ onward_some (structured l u) n (take c later) p (part_at l (structured l u) n i (take c later)) found))
            ∙ is.told;
        ahead = ends ∙ sym (λ k. drop (more k) (first k)) ∙ is.ahead;
        within = omega (arith, fewer, dropped, long, within, more, less);
        reaches = omega (arith, at, fewer, reaches, more, less);
        fewer = (let before = is.fewer in omega (arith, before, turn));
      }

  pub underway_rest : left ≡ 0 → rest ≡ drop count queue
  underway_rest none = sym (ap (λ k. drop k rest) none) ∙ is.ahead

pub underway_stuck : (l : Layout) (position count turns : ℕ) (queue : List Item) (written : List CStmt) (n left t : ℕ) (rest : List Item) → IsUnderway l position count turns queue written n left t rest → t ≡ 0 → 0 < left
    → None ≡ structured l turns position (take count queue)
underway_stuck l position count turns queue written n left t [] is out some = let room = is.within in absurd (omega (arith, room, some))
underway_stuck l position count turns queue written n left t (i ∷ later) is out some = underway_out l position count turns queue written n left t (i ∷ later) is (left - 1) later i out (omega arith) refl

pub leaves_some : {A : Type 0} → (old new : List Item) (count : ℕ) (found : Option A) (x : A) → found ≡ Some x → Leaves old new count found → new ≡ drop count old
leaves_some old new count found x is left = subst (Leaves old new count) is left

pub leaves_none : {A : Type 0} → (old new : List Item) (count : ℕ) (found : Option A) → found ≡ None → Leaves old new count found
leaves_none old new count found is = subst (Leaves old new count) (sym is) tt

pub takes_some : (old new : List Item) (count : ℕ) (found : Option Part) (p : Part) → found ≡ Some p → Takes old new count found → (p.taken ≤ count) × (new ≡ drop p.taken old)
takes_some old new count found p is left = subst (Takes old new count) is left

pub whole_built : (l : Layout) (count : ℕ) (items queue : List Item) (r : Option (List CStmt)) → count ≡ length items → queue ≡ items → r ≡ structured l count 0 (take count queue) → r ≡ structured l (length items) 0 items
whole_built l count items queue r long same is = is ∙ (λ k. structured l (long k) 0 (take (long k) (same k))) ∙ ap (structured l (length items) 0) (take_all (length items) items (omega arith))

pub head_got : (r : Option Item) (old new : List Item) → old ≡ option_to_list r ++ new → new ≡ drop 1 old → r ≡ slice_get old 0
head_got (Some i) old new whole rest = sym (ap (λ xs. slice_get xs 0) whole)
head_got None [] new whole rest = refl
head_got None (x ∷ old) new whole rest = let one : suc (length old) ≡ length new = ap length whole in let other : length new ≡ length old = ap length rest in absurd (omega (arith, one, other))

pub dropped_two : (old new last : List Item) → new ≡ drop 1 old → last ≡ drop 1 new → last ≡ drop 2 old
dropped_two old new last one two = two ∙ ap (drop 1) one ∙ drop-drop 1 1 old

pub underway_start : (l : Layout) (position count turns : ℕ) (queue : List Item) (written : List CStmt) → written ≡ [] → count ≤ length queue → IsUnderway l position count turns queue written position count turns queue
underway_start l position count turns queue written none room =
    subst (λ zs. IsUnderway l position count turns queue zs position count turns queue) (sym none) (underway_first l position count turns queue room)

-- items that are let go of, one at a time
pub passed_one : (whole old new : List Item) (left fewer : ℕ) → 0 < left → fewer ≡ left - 1 → new ≡ drop 1 old → drop left old ≡ whole → drop fewer new ≡ whole
passed_one whole old new left fewer some less gone is =
    (λ k. drop (less k) (gone k)) ∙ drop-drop (left - 1) 1 old ∙ (let sum : 1 + (left - 1) ≡ left = omega (arith, some) in ap (λ k. drop k old) sum) ∙ is

pub passed_all : (whole rest : List Item) (left : ℕ) → left ≡ 0 → drop left rest ≡ whole → rest ≡ whole
passed_all whole rest left none is = sym (ap (λ k. drop k rest) none) ∙ is
