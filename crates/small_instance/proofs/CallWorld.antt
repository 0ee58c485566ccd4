-- The world of a called function: the caller's two slots are the fresh cells, and the rest of its frame
-- is frozen.
use Rattle.std.specs.Prelude.{◌≡◌, ℕ, ◌+◌, ◌<◌, ◌≤◌, Bool, true, false, nat_eq, nat_lt, if◌then◌else◌, Option, Some, None, refl}
use Rattle.std.proofs.Common.{sym, ap, ◌∙◌, arith, true≢false}
use Rattle.std.proofs.lemmas.Bool.{eqb-true, eq-eqb, ltb-true, lt-ltb}
use Rattle.small_instance.specs.Store.{Store, block, with_fresh, without_fresh}
use Rattle.small_instance.specs.TargetLanguage.{Word, Number, Pointer, Memory}
use Rattle.small_instance.specs.Translation.{slot_cell}
use Rattle.small_instance.proofs.Frames.{World, Sane, IsFree, Stands, home}

abbrev pub called_world : ℕ → Memory → World → World
called_world own m μ = record {
  object = λ c. if nat_eq c μ.height then own else (if nat_eq c (μ.height + 1) then own else μ.object c);
  cell = λ c. if nat_eq c μ.height then 5 else (if nat_eq c (μ.height + 1) then 6 else μ.cell c);
  height = μ.height + 2;
  frozen = λ o c. if nat_eq o own then (if nat_eq c 5 then None else (if nat_eq c 6 then None else Some (m o c))) else μ.frozen o c;
}

-- the fresh cell of an argument
abbrev pub fresh : Bool → ℕ → ℕ
fresh false h = h
fresh true h = h + 1

pub ne_eqb' : (a b : ℕ) → (a ≡ b → ⊥) → nat_eq a b ≡ false
ne_eqb' a b h = go (nat_eq a b) refl
  where
    go : (q : Bool) → nat_eq a b ≡ q → nat_eq a b ≡ false
    go true e = absurd (h (eqb-true a b e))
    go false e = e

not_both : (n : ℕ) → n ≡ 5 → n ≡ 6 → ⊥
not_both n h h' = omega arith

data Which (h c : ℕ) : Type 0 where
  old : c < h → Which h c
  one : c ≡ h → Which h c
  two : c ≡ h + 1 → Which h c

which : (h c : ℕ) → c < h + 2 → Which h c
which h c small = go (nat_lt c h) refl (nat_eq c h) refl
  where
    go : (a : Bool) → nat_lt c h ≡ a → (b : Bool) → nat_eq c h ≡ b → Which h c
    go true e b e' = old (ltb-true c h e)
    go false e true e' = one (eqb-true c h e')
    go false e false e' =
        let not_less : c < h → ⊥ = λ less. true≢false (sym (lt-ltb c h less) ∙ e) in
        let not_equal : c ≡ h → ⊥ = λ same. true≢false (sym (eq-eqb c h same) ∙ e') in
        two (omega arith)

module _ {X : Type 0} (h c : ℕ) (a b d : X) where
  pick_old : c < h → (if nat_eq c h then a else (if nat_eq c (h + 1) then b else d)) ≡ d
  pick_old small =
      ap (λ q. if q then a else (if nat_eq c (h + 1) then b else d)) (ne_eqb' c h (λ e. omega arith)) ∙ ap (λ q. if q then b else d) (ne_eqb' c (h + 1) (λ e. omega arith))

  pick_one : c ≡ h → (if nat_eq c h then a else (if nat_eq c (h + 1) then b else d)) ≡ a
  pick_one same = ap (λ q. if q then a else (if nat_eq c (h + 1) then b else d)) (eq-eqb c h same)

  pick_two : c ≡ h + 1 → (if nat_eq c h then a else (if nat_eq c (h + 1) then b else d)) ≡ b
  pick_two same =
      ap (λ q. if q then a else (if nat_eq c (h + 1) then b else d)) (ne_eqb' c h (λ e. omega arith)) ∙ ap (λ q. if q then b else d) (eq-eqb c (h + 1) same)

module _ (own : ℕ) (m : Memory) (μ : World) where
  pub home_old : (c : ℕ) → c < μ.height → home (called_world own m μ) c ≡ home μ c
  home_old c small =
      ap (λ o. Pointer o ((called_world own m μ).cell c)) (pick_old μ.height c own own (μ.object c) small) ∙ ap (Pointer (μ.object c)) (pick_old μ.height c 5 6 (μ.cell c) small)

  pub home_fresh : (k : Bool) → home (called_world own m μ) (fresh k μ.height) ≡ Pointer own (slot_cell k)
  home_fresh false =
      ap (λ o. Pointer o ((called_world own m μ).cell μ.height)) (pick_one μ.height μ.height own own (μ.object μ.height) refl) ∙ ap (Pointer own) (pick_one μ.height μ.height 5 6 (μ.cell μ.height) refl)
  home_fresh true =
      ap (λ o. Pointer o ((called_world own m μ).cell (μ.height + 1))) (pick_two μ.height (μ.height + 1) own own (μ.object (μ.height + 1)) refl) ∙ ap (Pointer own) (pick_two μ.height (μ.height + 1) 5 6 (μ.cell (μ.height + 1)) refl)

  frozen_other : (o c : ℕ) → (o ≡ own → ⊥) → (called_world own m μ).frozen o c ≡ μ.frozen o c
  frozen_other o c differ = ap (λ q. if q then (if nat_eq c 5 then None else (if nat_eq c 6 then None else Some (m o c))) else μ.frozen o c) (ne_eqb' o own differ)

  frozen_own : (c : ℕ) → (called_world own m μ).frozen own c ≡ (if nat_eq c 5 then None else (if nat_eq c 6 then None else Some (m own c)))
  frozen_own c = ap (λ q. if q then (if nat_eq c 5 then None else (if nat_eq c 6 then None else Some (m own c))) else μ.frozen own c) (eq-eqb own own refl)

  -- the frame is frozen but for the slots
  pub frozen_rest : (c : ℕ) → (c ≡ 5 → ⊥) → (c ≡ 6 → ⊥) → (called_world own m μ).frozen own c ≡ Some (m own c)
  frozen_rest c not5 not6 =
      frozen_own c ∙ ap (λ q. if q then None else (if nat_eq c 6 then None else Some (m own c))) (ne_eqb' c 5 not5) ∙ ap (λ q. if q then None else Some (m own c)) (ne_eqb' c 6 not6)

  -- what was frozen stays so, where the frame was nobody's
  pub kept_called : IsFree own μ → (o c : ℕ) (w : Word) → μ.frozen o c ≡ Some w → (called_world own m μ).frozen o c ≡ Some w
  kept_called free o c w frozen = go (nat_eq o own) refl
    where
      go : (q : Bool) → nat_eq o own ≡ q → (called_world own m μ).frozen o c ≡ Some w
      go true e = absurd (let h : Some w ≡ None = sym frozen ∙ ap (λ o. μ.frozen o c) (eqb-true o own e) ∙ free.unfrozen c in cc)
      go false e = frozen_other o c (λ same. true≢false (sym (eq-eqb o own same) ∙ e)) ∙ frozen

  module _ (sane : Sane μ) (free : IsFree own μ) where
    pub sane_called : Sane (called_world own m μ)
    sane_called = record {
      block_object = λ k small. pick_old μ.height k own own (μ.object k) (let t : block ≤ μ.height = sane.tall in omega arith) ∙ sane.block_object k small;
      block_cell = λ k small. pick_old μ.height k 5 6 (μ.cell k) (let t : block ≤ μ.height = sane.tall in omega arith) ∙ sane.block_cell k small;
      tall = let t : block ≤ μ.height = sane.tall in omega arith;
      apart = λ c d hc hd object cell. go c d (which μ.height c hc) (which μ.height d hd) object cell;
      loose = λ c hc. free_place c (which μ.height c hc);
    }
      where
        object_old : (c : ℕ) → c < μ.height → (called_world own m μ).object c ≡ μ.object c
        object_old c small = pick_old μ.height c own own (μ.object c) small

        object_new : (c : ℕ) → (c ≡ μ.height) → (called_world own m μ).object c ≡ own
        object_new c same = pick_one μ.height c own own (μ.object c) same

        object_new' : (c : ℕ) → (c ≡ μ.height + 1) → (called_world own m μ).object c ≡ own
        object_new' c same = pick_two μ.height c own own (μ.object c) same

        cell_old : (c : ℕ) → c < μ.height → (called_world own m μ).cell c ≡ μ.cell c
        cell_old c small = pick_old μ.height c 5 6 (μ.cell c) small

        cell_new : (c : ℕ) → (c ≡ μ.height) → (called_world own m μ).cell c ≡ 5
        cell_new c same = pick_one μ.height c 5 6 (μ.cell c) same

        cell_new' : (c : ℕ) → (c ≡ μ.height + 1) → (called_world own m μ).cell c ≡ 6
        cell_new' c same = pick_two μ.height c 5 6 (μ.cell c) same

        go : (c d : ℕ) → Which μ.height c → Which μ.height d → (called_world own m μ).object c ≡ (called_world own m μ).object d → (called_world own m μ).cell c ≡ (called_world own m μ).cell d → c ≡ d
        go c d (old hc) (old hd) object cell = sane.apart c d hc hd (sym (object_old c hc) ∙ object ∙ object_old d hd) (sym (cell_old c hc) ∙ cell ∙ cell_old d hd)
        go c d (old hc) (one hd) object cell = absurd (free.homeless c hc (sym (object_old c hc) ∙ object ∙ object_new d hd))
        go c d (old hc) (two hd) object cell = absurd (free.homeless c hc (sym (object_old c hc) ∙ object ∙ object_new' d hd))
        go c d (one hc) (old hd) object cell = absurd (free.homeless d hd (sym (object_old d hd) ∙ sym object ∙ object_new c hc))
        go c d (one hc) (one hd) object cell = hc ∙ sym hd
        go c d (one hc) (two hd) object cell = absurd (not_both ((called_world own m μ).cell c) (cell_new c hc) (cell ∙ cell_new' d hd))
        go c d (two hc) (old hd) object cell = absurd (free.homeless d hd (sym (object_old d hd) ∙ sym object ∙ object_new' c hc))
        go c d (two hc) (one hd) object cell = absurd (not_both ((called_world own m μ).cell c) (cell ∙ cell_new d hd) (cell_new' c hc))
        go c d (two hc) (two hd) object cell = hc ∙ sym hd

        free_place : (c : ℕ) → Which μ.height c → (called_world own m μ).frozen ((called_world own m μ).object c) ((called_world own m μ).cell c) ≡ None
        free_place c (old hc) =
            ap (λ o. (called_world own m μ).frozen o ((called_world own m μ).cell c)) (object_old c hc) ∙ ap ((called_world own m μ).frozen (μ.object c)) (cell_old c hc)
            ∙ frozen_other (μ.object c) (μ.cell c) (free.homeless c hc) ∙ sane.loose c hc
        free_place c (one hc) =
            ap (λ o. (called_world own m μ).frozen o ((called_world own m μ).cell c)) (object_new c hc) ∙ ap ((called_world own m μ).frozen own) (cell_new c hc) ∙ frozen_own 5
        free_place c (two hc) =
            ap (λ o. (called_world own m μ).frozen o ((called_world own m μ).cell c)) (object_new' c hc) ∙ ap ((called_world own m μ).frozen own) (cell_new' c hc) ∙ frozen_own 6

  pub free_called : (o : ℕ) → (o ≡ own → ⊥) → IsFree o μ → IsFree o (called_world own m μ)
  free_called o differ free = record {
    homeless = λ c hc e. go c (which μ.height c hc) e;
    unfrozen = λ c. frozen_other o c differ ∙ free.unfrozen c;
  }
    where
      go : (c : ℕ) → Which μ.height c → (called_world own m μ).object c ≡ o → ⊥
      go c (old hc) e = free.homeless c hc (sym (pick_old μ.height c own own (μ.object c) hc) ∙ e)
      go c (one hc) e = differ (sym e ∙ pick_one μ.height c own own (μ.object c) hc)
      go c (two hc) e = differ (sym e ∙ pick_two μ.height c own own (μ.object c) hc)

  -- at the call the image stands in the new world
  pub stands_called : (s : Store) (y z : Option ℕ) → IsFree own μ → Stands μ s m → ((n : ℕ) → y ≡ Some n → m own 5 ≡ Number n) → ((n : ℕ) → z ≡ Some n → m own 6 ≡ Number n) →
      Stands (called_world own m μ) (with_fresh y z s) m
  stands_called s y z free image first second = record {
    high = ap (λ h. h + 2) image.high;
    stands = λ c n hc e. cell c n (which μ.height c hc) (sym (ap (λ h. if nat_eq c h then y else (if nat_eq c (h + 1) then z else s.cells c)) image.high) ∙ e);
    holds = λ o c w e. held o c w (nat_eq o own) refl e;
  }
    where
      place : (c : ℕ) (w : Word) (o' c' : ℕ) → (called_world own m μ).object c ≡ o' → (called_world own m μ).cell c ≡ c' → m o' c' ≡ w → m ((called_world own m μ).object c) ((called_world own m μ).cell c) ≡ w
      place c w o' c' e e' h = ap (λ o. m o ((called_world own m μ).cell c)) e ∙ ap (m o') e' ∙ h

      cell : (c n : ℕ) → Which μ.height c → (if nat_eq c μ.height then y else (if nat_eq c (μ.height + 1) then z else s.cells c)) ≡ Some n → m ((called_world own m μ).object c) ((called_world own m μ).cell c) ≡ Number n
      cell c n (old hc) e =
          place c (Number n) (μ.object c) (μ.cell c) (pick_old μ.height c own own (μ.object c) hc) (pick_old μ.height c 5 6 (μ.cell c) hc)
          (image.stands c n hc (sym (pick_old μ.height c y z (s.cells c) hc) ∙ e))
      cell c n (one hc) e =
          place c (Number n) own 5 (pick_one μ.height c own own (μ.object c) hc) (pick_one μ.height c 5 6 (μ.cell c) hc) (first n (sym (pick_one μ.height c y z (s.cells c) hc) ∙ e))
      cell c n (two hc) e =
          place c (Number n) own 6 (pick_two μ.height c own own (μ.object c) hc) (pick_two μ.height c 5 6 (μ.cell c) hc) (second n (sym (pick_two μ.height c y z (s.cells c) hc) ∙ e))

      held_own : (c : ℕ) (w : Word) (q q' : Bool) → (if q then None else (if q' then None else Some (m own c))) ≡ Some w → m own c ≡ w
      held_own c w true q' e = absurd (grind arith)
      held_own c w false true e = absurd (grind arith)
      held_own c w false false e = let h : Some (m own c) ≡ Some w = e in cc

      held : (o c : ℕ) (w : Word) (q : Bool) → nat_eq o own ≡ q → (called_world own m μ).frozen o c ≡ Some w → m o c ≡ w
      held o c w true e frozen =
          let same : o ≡ own = eqb-true o own e in
          ap (λ o. m o c) same ∙ held_own c w (nat_eq c 5) (nat_eq c 6) (sym (frozen_own c) ∙ ap (λ o. (called_world own m μ).frozen o c) (sym same) ∙ frozen)
      held o c w false e frozen =
          let differ : o ≡ own → ⊥ = λ same. true≢false (sym (eq-eqb o own same) ∙ e) in
          image.holds o c w (sym (frozen_other o c differ) ∙ frozen)

  -- after the answer it stands in the old one, whatever the caller's frame then takes
  pub stands_returned : (s : Store) (m' m'' : Memory) → IsFree own μ → ((o c : ℕ) → (o ≡ own → ⊥) → m'' o c ≡ m' o c) → Stands (called_world own m μ) s m' → Stands μ (without_fresh s) m''
  stands_returned s m' m'' free same image = record {
    high = let h : s.height ≡ μ.height + 2 = image.high in omega arith;
    stands = λ c n hc e. same (μ.object c) (μ.cell c) (free.homeless c hc)
        ∙ ap (λ o. m' o (μ.cell c)) (sym (pick_old μ.height c own own (μ.object c) hc)) ∙ ap (m' ((called_world own m μ).object c)) (sym (pick_old μ.height c 5 6 (μ.cell c) hc))
        ∙ image.stands c n (omega arith) e;
    holds = λ o c w frozen. apart o c w frozen (nat_eq o own) refl;
  }
    where
      clash : (x : Option Word) (w : Word) → x ≡ Some w → x ≡ None → ⊥
      clash x w e e' = let h : Some w ≡ None = sym e ∙ e' in absurd (cc)

      apart : (o c : ℕ) (w : Word) → μ.frozen o c ≡ Some w → (q : Bool) → nat_eq o own ≡ q → m'' o c ≡ w
      apart o c w frozen true e = absurd (clash (μ.frozen o c) w frozen (ap (λ o. μ.frozen o c) (eqb-true o own e) ∙ free.unfrozen c))
      apart o c w frozen false e =
          let differ : o ≡ own → ⊥ = λ same. true≢false (sym (eq-eqb o own same) ∙ e) in
          same o c differ ∙ image.holds o c w (frozen_other o c differ ∙ frozen)
