-- A lowered text fits where each of its steps does.
use Rattle.std.specs.List.{list_all}
use Rattle.std.specs.Prelude.{◌≡◌, ℕ, suc, ◌+◌, ◌^◌, ◌<◌, ◌≤◌, max, nat_lt, nat_le, Bool, true, false, ◌&&◌, List, [], ◌∷◌, map, length}
use Rattle.std.proofs.Common.{refl, sym, ap, ◌∙◌, arith, get_or}
use Rattle.std.proofs.lemmas.Bool.{and_right, and_from, le-leb, lt-leb, leb-true, leb-false, ltb-true, ltb-false, lt-ltb, le-ltb}
use Rattle.std.proofs.Math.Bool.{and-true}
use Rattle.std.proofs.lemmas.List.{length-map}
use Rattle.std.proofs.lemmas.List.Folds.{list_all-map}
use Rattle.f_tree.specs.Values.{Bytes}
use Rattle.lowered_tree.specs.l_core.Steps.{Step, Keep, Compute, CallFor, Jump, Way}
use Rattle.lowered_tree.specs.declared.pures.Function.{Function}
use Rattle.lowered_tree.specs.declared.pures.Pure.{Pure as LoweredPure}
use Rattle.lowered_tree.specs.declared.steps.Callee.{Callee}
use Rattle.lowered_tree.specs.declared.steps.Step.{Step as LoweredStep}
use Rattle.lowered_tree.specs.declared.steps.Step.TheVariants as lowered
use Rattle.lowered_tree.specs.Shapes.{step_of}
use Rattle.lowered_text.specs.declared.text.LoweredText.{LoweredText}
use Rattle.lowered_text.specs.declared.text.Marked.{Marked}
use Rattle.lowered_text.specs.Texts.{marked_of}
use Rattle.unit_translation.specs.UnitContents.{temporaries_kept}
use Rattle.unit_forms.specs.main_translation.Outlined.{labels_in}
use Rattle.translated_forms.specs.TranslatedForms.{stop_fits}
use Rattle.translated_files.specs.TranslatedFiles.{text_fits}
use Rattle.translator.specs.FittingSteps.{keep_fits, jump_fits, step_fits, FitsIf}

-- ## Truth values

three_more : (a b c x y z : Bool) → ((a && (b && c)) && (x && (y && z))) ≡ ((a && x) && ((b && y) && (c && z)))
three_more false b c x y z = refl
three_more true false c x y z = sym (and_right x false refl)
three_more true true false x y z = sym (and_right x (y && false) (and_right y false refl))
three_more true true true x y z = refl

-- a list passes three tests where each element does
three_tests : {A : Type 0} (p q r : A → Bool) (xs : List A) → list_all (λ a. p a && (q a && r a)) xs ≡ (list_all p xs && (list_all q xs && list_all r xs))
three_tests p q r [] = refl
three_tests p q r (x ∷ xs) =
    ap (λ b. (p x && (q x && r x)) && b) (three_tests p q r xs) ∙ three_more (p x) (q x) (r x) (list_all p xs) (list_all q xs) (list_all r xs)

-- ## Temporaries

most_by : (n m limit : ℕ) (a b : Bool) → nat_lt n limit ≡ a → nat_le (1 + m) limit ≡ b → nat_le (1 + max n m) limit ≡ (a && b)
most_by n m limit true true one other =
    let below : n < limit = ltb-true n limit one in let within : 1 + m ≤ limit = leb-true (1 + m) limit other in le-leb (1 + max n m) limit (omega arith)
most_by n m limit true false one other = let above : limit < 1 + m = leb-false (1 + m) limit other in lt-leb (1 + max n m) limit (omega arith)
most_by n m limit false b one other = let above : limit ≤ n = ltb-false n limit one in lt-leb (1 + max n m) limit (omega arith)

most_fits : (n m limit : ℕ) → nat_le (1 + max n m) limit ≡ (nat_lt n limit && nat_le (1 + m) limit)
most_fits n m limit = most_by n m limit (nat_lt n limit) (nat_le (1 + m) limit) refl refl

keeps_fit : (steps : List Step) → nat_le (1 + temporaries_kept steps) (2 ^ 64) ≡ list_all keep_fits steps
unfolding temporaries_kept keep_fits
keeps_fit [] = refl
keeps_fit (Keep k p ∷ later) = most_fits (suc k) (temporaries_kept later) (2 ^ 64) ∙ ap (λ b. nat_lt (suc k) (2 ^ 64) && b) (keeps_fit later)
keeps_fit (Compute k f ps ∷ later) = most_fits (suc k) (temporaries_kept later) (2 ^ 64) ∙ ap (λ b. nat_lt (suc k) (2 ^ 64) && b) (keeps_fit later)
keeps_fit (CallFor k callee ps ∷ later) = most_fits (suc k) (temporaries_kept later) (2 ^ 64) ∙ ap (λ b. nat_lt (suc k) (2 ^ 64) && b) (keeps_fit later)
keeps_fit (_ ∷ later) = keeps_fit later

-- ## Labels

jumps_fit : (steps : List Step) → list_all (λ label. nat_lt label (2 ^ 64)) (labels_in steps) ≡ list_all jump_fits steps
unfolding labels_in jump_fits
jumps_fit [] = refl
jumps_fit (Jump label ∷ later) = ap (λ b. nat_lt label (2 ^ 64) && b) (jumps_fit later)
jumps_fit (Way label ∷ later) = ap (λ b. nat_lt label (2 ^ 64) && b) (jumps_fit later)
jumps_fit (_ ∷ later) = jumps_fit later

-- ## The whole

all_fit : (steps : List Step) → list_all step_fits steps ≡ (nat_le (1 + temporaries_kept steps) (2 ^ 64) && (list_all (λ label. nat_lt label (2 ^ 64)) (labels_in steps) && list_all stop_fits steps))
unfolding step_fits
all_fit steps =
    three_tests keep_fits jump_fits stop_fits steps
    ∙ ap (λ b. b && (list_all jump_fits steps && list_all stop_fits steps)) (sym (keeps_fit steps))
    ∙ ap (λ b. nat_le (1 + temporaries_kept steps) (2 ^ 64) && (b && list_all stop_fits steps)) (sym (jumps_fit steps))

counts_first : (a c t x : Bool) → (a && (c && (t && x))) ≡ (a && (t && (c && x)))
counts_first false c t x = refl
counts_first true true t x = refl
counts_first true false true x = refl
counts_first true false false x = refl

pub text_fitting : (t : LoweredText) (ss : List LoweredStep) (ms : List Marked) (b : Bool) → ss ≡ t.steps.items → ms ≡ t.marks.items
    → b ≡ (nat_le (1 + length ss) (2 ^ 64) && (nat_le (1 + length ms) (2 ^ 64) && list_all (λ st. step_fits (step_of st)) ss)) → FitsIf t b
unfolding text_fits
text_fitting t ss ms b same_steps same_marks is = record {
  is = λ u text.
      let steps : map step_of ss ≡ u.steps = ap (map step_of) same_steps ∙ text.steps in
      let step_count : length ss ≡ length u.steps = sym (length-map ss step_of) ∙ ap length steps in
      let mark_count : length ms ≡ length u.marks = sym (length-map ms marked_of) ∙ ap length (ap (map marked_of) same_marks ∙ text.marks) in
      is ∙ ap (λ n. nat_le (1 + n) (2 ^ 64) && (nat_le (1 + length ms) (2 ^ 64) && list_all (λ st. step_fits (step_of st)) ss)) step_count
      ∙ ap (λ n. nat_le (1 + length u.steps) (2 ^ 64) && (nat_le (1 + n) (2 ^ 64) && list_all (λ st. step_fits (step_of st)) ss)) mark_count
      ∙ ap (λ e. nat_le (1 + length u.steps) (2 ^ 64) && (nat_le (1 + length u.marks) (2 ^ 64) && e)) (sym (list_all-map step_fits step_of ss) ∙ ap (list_all step_fits) steps ∙ all_fit u.steps)
      ∙ counts_first (nat_le (1 + length u.steps) (2 ^ 64)) (nat_le (1 + length u.marks) (2 ^ 64)) (nat_le (1 + temporaries_kept u.steps) (2 ^ 64))
      (list_all (λ label. nat_lt label (2 ^ 64)) (labels_in u.steps) && list_all stop_fits u.steps);
}

-- each element of a text is a byte
pub bytes_small : (text : Bytes) → ((i : ℕ) → get_or text i 0 < 256) → list_all (λ byte. nat_lt byte 256) text ≡ true
bytes_small [] small = refl
bytes_small (b ∷ bs) small = and_from (nat_lt b 256) (list_all (λ byte. nat_lt byte 256) bs) (lt-ltb b 256 (small 0)) (bytes_small bs (λ i. small (suc i)))

-- ## One step

below_last : (k : ℕ) (b : Bool) → nat_lt k 18446744073709551615 ≡ b → b ≡ nat_lt (suc k) (2 ^ 64)
below_last k true is = let below : k < 18446744073709551615 = ltb-true k 18446744073709551615 is in sym (lt-ltb (suc k) (2 ^ 64) (omega arith))
below_last k false is = let above : 18446744073709551615 ≤ k = ltb-false k 18446744073709551615 is in sym (le-ltb (suc k) (2 ^ 64) (omega arith))

pub fits-Keep : (k : ℕ) (p : LoweredPure) → nat_lt k 18446744073709551615 ≡ step_fits (step_of (lowered.Keep k p))
unfolding step_fits keep_fits jump_fits stop_fits
fits-Keep k p = below_last k (nat_lt k 18446744073709551615) refl ∙ sym (and-true (nat_lt (suc k) (2 ^ 64)))

pub fits-Compute : (k : ℕ) (f : Function) (ps : List LoweredPure) → nat_lt k 18446744073709551615 ≡ step_fits (step_of (lowered.Compute k f ps))
unfolding step_fits keep_fits jump_fits stop_fits
fits-Compute k f ps = below_last k (nat_lt k 18446744073709551615) refl ∙ sym (and-true (nat_lt (suc k) (2 ^ 64)))

pub fits-CallFor : (k : ℕ) (callee : Callee) (ps : List LoweredPure) → nat_lt k 18446744073709551615 ≡ step_fits (step_of (lowered.CallFor k callee ps))
unfolding step_fits keep_fits jump_fits stop_fits
fits-CallFor k callee ps = below_last k (nat_lt k 18446744073709551615) refl ∙ sym (and-true (nat_lt (suc k) (2 ^ 64)))

pub fits-Jump : (label : ℕ) → nat_lt label (2 ^ 64) ≡ step_fits (step_of (lowered.Jump label))
unfolding step_fits keep_fits jump_fits stop_fits
fits-Jump label = sym (and-true (nat_lt label (2 ^ 64)))

pub fits-Way : (label : ℕ) → nat_lt label (2 ^ 64) ≡ step_fits (step_of (lowered.Way label))
unfolding step_fits keep_fits jump_fits stop_fits
fits-Way label = sym (and-true (nat_lt label (2 ^ 64)))

pub fits-Halt : (text : Bytes) → (list_all (λ byte. nat_lt byte 256) text && nat_lt (length text) 2147483648) ≡ step_fits (step_of (lowered.Halt text))
unfolding step_fits keep_fits jump_fits stop_fits
fits-Halt text = refl

pub fits-other : (st : LoweredStep) → ((k : ℕ) (p : LoweredPure) → st ≡ lowered.Keep k p → ⊥) → ((k : ℕ) (f : Function) (ps : List LoweredPure) → st ≡ lowered.Compute k f ps → ⊥) → ((k : ℕ) (callee : Callee) (ps : List LoweredPure) → st ≡ lowered.CallFor k callee ps → ⊥) → ((label : ℕ) → st ≡ lowered.Jump label → ⊥) → ((label : ℕ) → st ≡ lowered.Way label → ⊥) → ((text : Bytes) → st ≡ lowered.Halt text → ⊥)
    → true ≡ step_fits (step_of st)
unfolding step_fits keep_fits jump_fits stop_fits
fits-other (lowered.Keep k p) h0 h1 h2 h3 h4 h5 = absurd (h0 k p refl)
fits-other (lowered.Compute k f ps) h0 h1 h2 h3 h4 h5 = absurd (h1 k f ps refl)
fits-other (lowered.CallFor k callee ps) h0 h1 h2 h3 h4 h5 = absurd (h2 k callee ps refl)
fits-other (lowered.Jump label) h0 h1 h2 h3 h4 h5 = absurd (h3 label refl)
fits-other (lowered.Way label) h0 h1 h2 h3 h4 h5 = absurd (h4 label refl)
fits-other (lowered.Halt text) h0 h1 h2 h3 h4 h5 = absurd (h5 text refl)
fits-other _ h0 h1 h2 h3 h4 h5 = refl
