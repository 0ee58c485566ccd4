-- The second layer's world: where each cell of the store stands in the target's memory, and what must
-- not change now.
use Rattle.std.specs.Prelude.{◌≡◌, ℕ, ◌<◌, ◌≤◌, Bool, true, false, ◌&&◌, nat_eq, if◌then◌else◌, Option, Some, None, refl}
use Rattle.std.proofs.Common.{sym, ap, ◌∙◌, true≢false}
use Rattle.std.proofs.lemmas.Bool.{eqb-true, eq-eqb}
use Rattle.simulation.specs.LocalSimulation.{Kit, Pairing}
use Rattle.small_instance.specs.Store.{Store, Bound, Called, block, set_cell}
use Rattle.small_instance.specs.MiddleLanguage as M
use Rattle.small_instance.specs.TargetLanguage.{Word, Number, Pointer, Memory, Passing, at_address, set_word, target_language}
use Rattle.small_instance.specs.Translation.{temporary_cell, slot_cell, function_called, number_passed, frame_of, wrapper_frame}

pub record World : Type 0 where
  -- the object and the cell in it, for each cell of the store
  pub object : ℕ → ℕ
  pub cell : ℕ → ℕ
  pub height : ℕ
  -- words that must stay, by object and cell
  pub frozen : ℕ → ℕ → Option Word

-- The block stands in object 0; no two cells share a place, and none stands in a frozen one.
pub record Sane (μ : World) : Type 0 where
  pub block_object : (k : ℕ) → k < block → μ.object k ≡ 0
  pub block_cell : (k : ℕ) → k < block → μ.cell k ≡ k
  pub tall : block ≤ μ.height
  pub apart : (c d : ℕ) → c < μ.height → d < μ.height → μ.object c ≡ μ.object d → μ.cell c ≡ μ.cell d → c ≡ d
  pub loose : (c : ℕ) → c < μ.height → μ.frozen (μ.object c) (μ.cell c) ≡ None

-- the object is nobody's
pub record IsFree (o : ℕ) (μ : World) : Type 0 where
  pub homeless : (c : ℕ) → c < μ.height → μ.object c ≡ o → ⊥
  pub unfrozen : (c : ℕ) → μ.frozen o c ≡ None

-- unit i has put things of its frames into the world; what was frozen stays so
pub record Grown (i : ℕ) (μ μ' : World) : Type 0 where
  pub kept : (o c : ℕ) (w : Word) → μ.frozen o c ≡ Some w → μ'.frozen o c ≡ Some w
  pub sane : Sane μ → Sane μ'
  pub free : (o : ℕ) → (o ≡ frame_of i → ⊥) → (o ≡ wrapper_frame i → ⊥) → IsFree o μ → IsFree o μ'

-- THE IMAGE: every defined cell stands where the world says, and what is frozen is as it was.
pub record Stands (μ : World) (s : Store) (m : Memory) : Type 0 where
  pub high : s.height ≡ μ.height
  pub stands : (c n : ℕ) → c < μ.height → s.cells c ≡ Some n → m (μ.object c) (μ.cell c) ≡ Number n
  pub holds : (o c : ℕ) (w : Word) → μ.frozen o c ≡ Some w → m o c ≡ w

-- the address of a cell
abbrev pub home : World → ℕ → Word
home μ c = Pointer (μ.object c) (μ.cell c)

pub record PassedOn (μ : World) (s : Store) (n : Called) (b : Bound) (m : Memory) (k : ℕ) (p : Passing) : Type 0 where
  pub image : Stands μ s m
  pub name : k ≡ function_called n.unit n.by_second
  pub number : p.number ≡ number_passed n.by_second
  pub first_there : b.first < μ.height
  pub second_there : b.second < μ.height
  pub first : p.first ≡ home μ b.first
  pub second : p.second ≡ home μ b.second

abbrev pub lower_kit : Kit M.middle_language target_language
lower_kit = record {
  World = World;
  Grows = Grown;
  Passed = PassedOn;
  Given = λ μ s r m q. Stands μ s m × (r ≡ q);
  Claimed = λ f. ⊥;
  Told = λ f e. ⊥;
}

-- what a function's frame holds, cell by cell
pub record Frame (μ : World) (x : M.View) (f : ℕ → Word) : Type 0 where
  pub first_there : x.bound.first < μ.height
  pub second_there : x.bound.second < μ.height
  pub first : f 0 ≡ home μ x.bound.first
  pub second : f 1 ≡ home μ x.bound.second
  pub called : f 2 ≡ Number (if x.by_second then 1 else 0)
  pub kept : (k : Bool) (n : ℕ) → M.temporary x k ≡ Some n → f (temporary_cell k) ≡ Number n
  pub filled : (k : Bool) (n : ℕ) → M.slot x k ≡ Some n → f (slot_cell k) ≡ Number n

pub record Paired (i : ℕ) (μ : World) (x : M.View) (s : Store) (w : ℕ) (m : Memory) : Type 0 where
  pub sane : Sane μ
  pub free : IsFree (frame_of i) μ
  pub image : Stands μ s m
  pub at : x.at ≡ w
  pub frame : Frame μ x (m (frame_of i))

-- the parameters of a function that waits are frozen in the world of the function that it called
pub record Parameters (i : ℕ) (μ μ' : World) (b : Bound) : Type 0 where
  pub first : μ'.frozen (frame_of i) 0 ≡ Some (home μ b.first)
  pub second : μ'.frozen (frame_of i) 1 ≡ Some (home μ b.second)

abbrev pub lower_pairing : ℕ → Pairing lower_kit
lower_pairing i = record {
  Houses = Sane;
  Idle = λ μ. IsFree (frame_of i) μ × IsFree (wrapper_frame i) μ;
  Matched = Paired i;
  Halted = λ μ x s w m. Sane μ × Stands μ s m;
  Waits = λ μ μ' x w. Parameters i μ μ' x.bound;
}

-- words at other places
pub other_object : (o c o' c' : ℕ) → (o' ≡ o → ⊥) → at_address o c o' c' ≡ false
other_object o c o' c' h = go (nat_eq o' o) refl
  where
    go : (b : Bool) → nat_eq o' o ≡ b → at_address o c o' c' ≡ false
    go true e = absurd (h (eqb-true o' o e))
    go false e = ap (λ b. b && nat_eq c' c) e

pub other_cell : (o c c' : ℕ) → (c' ≡ c → ⊥) → at_address o c o c' ≡ false
other_cell o c c' h = go (nat_eq c' c) refl
  where
    go : (b : Bool) → nat_eq c' c ≡ b → at_address o c o c' ≡ false
    go true e = absurd (h (eqb-true c' c e))
    go false e = ap (λ b. b && nat_eq c' c) (eq-eqb o o refl) ∙ e

pub word_same : (o c : ℕ) (w : Word) (m : Memory) → set_word o c w m o c ≡ w
word_same o c w m = ap (λ b. if b then w else m o c) (ap (λ b. b && nat_eq c c) (eq-eqb o o refl) ∙ eq-eqb c c refl)

pub word_other : (o c o' c' : ℕ) (w : Word) (m : Memory) → at_address o c o' c' ≡ false → set_word o c w m o' c' ≡ m o' c'
word_other o c o' c' w m e = ap (λ b. if b then w else m o' c') e

-- two cells of the store have two places
pub places_differ : (μ : World) → Sane μ → (c d : ℕ) → c < μ.height → d < μ.height → (d ≡ c → ⊥) → at_address (μ.object c) (μ.cell c) (μ.object d) (μ.cell d) ≡ false
places_differ μ sane c d hc hd differ = go (nat_eq (μ.object d) (μ.object c)) refl (nat_eq (μ.cell d) (μ.cell c)) refl
  where
    go : (a : Bool) → nat_eq (μ.object d) (μ.object c) ≡ a → (b : Bool) → nat_eq (μ.cell d) (μ.cell c) ≡ b → at_address (μ.object c) (μ.cell c) (μ.object d) (μ.cell d) ≡ false
    go true e true e' = absurd (differ (sane.apart d c hd hc (eqb-true (μ.object d) (μ.object c) e) (eqb-true (μ.cell d) (μ.cell c) e')))
    go true e false e' = ap (λ b. b && nat_eq (μ.cell d) (μ.cell c)) e ∙ e'
    go false e b e' = ap (λ b. b && nat_eq (μ.cell d) (μ.cell c)) e

-- a frozen place is no cell's
frozen_apart : (μ : World) → Sane μ → (c : ℕ) → c < μ.height → (o d : ℕ) (w : Word) → μ.frozen o d ≡ Some w → at_address (μ.object c) (μ.cell c) o d ≡ false
frozen_apart μ sane c hc o d w frozen = go (nat_eq o (μ.object c)) refl (nat_eq d (μ.cell c)) refl
  where
    clash : (x : Option Word) → x ≡ Some w → x ≡ None → ⊥
    clash x e e' = let h : Some w ≡ None = sym e ∙ e' in absurd (cc)

    go : (a : Bool) → nat_eq o (μ.object c) ≡ a → (b : Bool) → nat_eq d (μ.cell c) ≡ b → at_address (μ.object c) (μ.cell c) o d ≡ false
    go true e true e' =
        let same : μ.frozen o d ≡ μ.frozen (μ.object c) (μ.cell c) = ap (λ a. μ.frozen a d) (eqb-true o (μ.object c) e) ∙ ap (μ.frozen (μ.object c)) (eqb-true d (μ.cell c) e') in
        absurd (clash (μ.frozen o d) frozen (same ∙ sane.loose c hc))
    go true e false e' = ap (λ b. b && nat_eq d (μ.cell c)) e ∙ e'
    go false e b e' = ap (λ b. b && nat_eq d (μ.cell c)) e

-- a cell is set on both sides
pub stands_set : (μ : World) (s : Store) (m : Memory) (c n : ℕ) → Sane μ → c < μ.height → Stands μ s m → Stands μ (set_cell c n s) (set_word (μ.object c) (μ.cell c) (Number n) m)
stands_set μ s m c n sane hc image = record {
  high = image.high;
  stands = λ d k hd e. cell d k hd (nat_eq d c) refl e;
  holds = λ o d w frozen. word_other (μ.object c) (μ.cell c) o d (Number n) m (frozen_apart μ sane c hc o d w frozen) ∙ image.holds o d w frozen;
}
  where
    cell : (d k : ℕ) → d < μ.height → (b : Bool) → nat_eq d c ≡ b → (if nat_eq d c then Some n else s.cells d) ≡ Some k → set_word (μ.object c) (μ.cell c) (Number n) m (μ.object d) (μ.cell d) ≡ Number k
    cell d k hd true e is =
        let same : d ≡ c = eqb-true d c e in
        let value : Some n ≡ Some k = sym (ap (λ b. if b then Some n else s.cells d) e) ∙ is in
        ap (λ d. set_word (μ.object c) (μ.cell c) (Number n) m (μ.object d) (μ.cell d)) same ∙ word_same (μ.object c) (μ.cell c) (Number n) m ∙ ap Number (cc)
    cell d k hd false e is =
        let value : s.cells d ≡ Some k = sym (ap (λ b. if b then Some n else s.cells d) e) ∙ is in
        let differ : d ≡ c → ⊥ = λ same. true≢false (sym (eq-eqb d c same) ∙ e) in
        word_other (μ.object c) (μ.cell c) (μ.object d) (μ.cell d) (Number n) m (places_differ μ sane c d hc hd differ) ∙ image.stands d k hd value

-- memory may change in an object that is nobody's
pub stands_beside : (μ : World) (s : Store) (m m' : Memory) (o : ℕ) → IsFree o μ → ((o' c : ℕ) → (o' ≡ o → ⊥) → m' o' c ≡ m o' c) → Stands μ s m → Stands μ s m'
stands_beside μ s m m' o free same image = record {
  high = image.high;
  stands = λ c n hc e. same (μ.object c) (μ.cell c) (free.homeless c hc) ∙ image.stands c n hc e;
  holds = λ o' c w frozen. same o' c (λ e. clash (μ.frozen o' c) w frozen (ap (λ o. μ.frozen o c) e ∙ free.unfrozen c)) ∙ image.holds o' c w frozen;
}
  where
    clash : (x : Option Word) (w : Word) → x ≡ Some w → x ≡ None → ⊥
    clash x w e e' = let h : Some w ≡ None = sym e ∙ e' in absurd (cc)
