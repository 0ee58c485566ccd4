-- Blocks that are open, by their number: what opens and what closes them.
use Rattle.std.specs.Prelude.{◌≡◌, ◌<◌, ◌≤◌, ◌+◌, ◌-◌, ℕ, suc, min, nat_eq, nat_lt, Bool, true, false, not, cond, List, [], ◌∷◌, length, filter, unwrap_or, Some, None, if◌then◌else◌}
use Rattle.std.proofs.Common.{refl, sym, ap, ◌∙◌, subst, arith}
use Rattle.std.proofs.lemmas.Bool.{eqb-true, ltb-true, ltb-false, lt-ltb, le-ltb}
use Rattle.std.specs.HashMap.{get}
use Rattle.std.specs.Map.{lookup}
use Rattle.fortran_grammar.specs.SyntaxRows.{Block, IfBlock, LoopTo, is_loop_to, without_if, without_loop, has_loop_to, closed_by_label, ends_labelled_loop}
use Rattle.file_parse.specs.OpenBlocks.{is_conditional, is_unlabelled, is_labelled, raised, tally, loops_to, Counts}
use Rattle.file_parse.specs.declared.nests.OpenBlocks.{OpenBlocks}

tally_none : (test : Block → Bool) → tally test [] ≡ 0
unfolding tally
tally_none test = refl

tally_more : (test : Block → Bool) (block : Block) (blocks : List Block) → tally test (block ∷ blocks) ≡ raised (test block) (tally test blocks)
unfolding tally
tally_more test block blocks = refl

raised_within : (b : Bool) (n m : ℕ) → n ≤ m → raised b n ≤ suc m
raised_within true n m low = omega arith
raised_within false n m low = omega arith

pub tally_within : (test : Block → Bool) (blocks : List Block) → tally test blocks ≤ length blocks
unfolding tally
tally_within test [] = omega arith
tally_within test (block ∷ blocks) = raised_within (test block) (tally test blocks) (length blocks) (tally_within test blocks)

-- IF BLOCKS
if_conditional : (blocks : List Block) → tally is_conditional (without_if blocks) ≡ tally is_conditional blocks - 1
unfolding tally without_if
if_conditional [] = refl
if_conditional (IfBlock ∷ blocks) = omega arith
if_conditional (LoopTo label ∷ blocks) = if_conditional blocks

if_others : (test : Block → Bool) → test IfBlock ≡ false → (blocks : List Block) → tally test (without_if blocks) ≡ tally test blocks
unfolding tally without_if
if_others test not_if [] = refl
if_others test not_if (IfBlock ∷ blocks) = ap (λ b. raised b (tally test blocks)) (sym not_if)
if_others test not_if (LoopTo label ∷ blocks) = ap (raised (test (LoopTo label))) (if_others test not_if blocks)

loop_of_if : (label : ℕ) → is_loop_to label IfBlock ≡ false
unfolding is_loop_to
loop_of_if label = refl

pub closes_if : (old new : OpenBlocks) → new.conditional ≡ old.conditional - 1 → new.unlabelled ≡ old.unlabelled → new.labelled ≡ old.labelled →
    new.by_label ≡ old.by_label → (blocks : List Block) → Counts blocks old → Counts (without_if blocks) new
closes_if old new conditional unlabelled labelled by_label blocks counts = record {
  conditional = conditional ∙ (ap (λ n. n - 1) counts.conditional ∙ sym (if_conditional blocks));
  unlabelled = unlabelled ∙ (counts.unlabelled ∙ sym (if_others is_unlabelled refl blocks));
  labelled = labelled ∙ (counts.labelled ∙ sym (if_others is_labelled refl blocks));
  by_label = λ label. ap (λ m. unwrap_or (get nat_eq m label) 0) by_label ∙ (counts.by_label label ∙ sym (if_others (is_loop_to label) (loop_of_if label) blocks));
}

pub opens_if : (old new : OpenBlocks) (limit : ℕ) → new.conditional ≡ min (old.conditional + 1) limit → new.unlabelled ≡ old.unlabelled → new.labelled ≡ old.labelled →
    new.by_label ≡ old.by_label → (blocks : List Block) → length blocks + 1 ≤ limit → Counts blocks old → Counts (IfBlock ∷ blocks) new
opens_if old new limit conditional unlabelled labelled by_label blocks few counts = record {
  conditional = let is = counts.conditional in let more = tally_more is_conditional IfBlock blocks in let low = tally_within is_conditional blocks in omega arith;
  unlabelled = unlabelled ∙ (counts.unlabelled ∙ sym (tally_more is_unlabelled IfBlock blocks));
  labelled = labelled ∙ (counts.labelled ∙ sym (tally_more is_labelled IfBlock blocks));
  by_label = λ label. ap (λ m. unwrap_or (get nat_eq m label) 0) by_label ∙ (counts.by_label label
      ∙ (ap (λ b. raised b (tally (is_loop_to label) blocks)) (sym (loop_of_if label)) ∙ sym (tally_more (is_loop_to label) IfBlock blocks)));
}

-- LOOPS WITHOUT A LABEL
loop_unlabelled : (blocks : List Block) → tally is_unlabelled (without_loop blocks) ≡ tally is_unlabelled blocks - 1
unfolding tally without_loop
loop_unlabelled [] = refl
loop_unlabelled (IfBlock ∷ blocks) = loop_unlabelled blocks
loop_unlabelled (LoopTo None ∷ blocks) = omega arith
loop_unlabelled (LoopTo (Some label) ∷ blocks) = loop_unlabelled blocks

loop_others : (test : Block → Bool) → test (LoopTo None) ≡ false → (blocks : List Block) → tally test (without_loop blocks) ≡ tally test blocks
unfolding tally without_loop
loop_others test no_loop [] = refl
loop_others test no_loop (IfBlock ∷ blocks) = ap (raised (test IfBlock)) (loop_others test no_loop blocks)
loop_others test no_loop (LoopTo None ∷ blocks) = ap (λ b. raised b (tally test blocks)) (sym no_loop)
loop_others test no_loop (LoopTo (Some label) ∷ blocks) = ap (raised (test (LoopTo (Some label)))) (loop_others test no_loop blocks)

loop_of_none : (label : ℕ) → is_loop_to label (LoopTo None) ≡ false
unfolding is_loop_to
loop_of_none label = refl

pub closes_loop : (old new : OpenBlocks) → new.conditional ≡ old.conditional → new.unlabelled ≡ old.unlabelled - 1 → new.labelled ≡ old.labelled →
    new.by_label ≡ old.by_label → (blocks : List Block) → Counts blocks old → Counts (without_loop blocks) new
closes_loop old new conditional unlabelled labelled by_label blocks counts = record {
  conditional = conditional ∙ (counts.conditional ∙ sym (loop_others is_conditional refl blocks));
  unlabelled = unlabelled ∙ (ap (λ n. n - 1) counts.unlabelled ∙ sym (loop_unlabelled blocks));
  labelled = labelled ∙ (counts.labelled ∙ sym (loop_others is_labelled refl blocks));
  by_label = λ label. ap (λ m. unwrap_or (get nat_eq m label) 0) by_label ∙ (counts.by_label label ∙ sym (loop_others (is_loop_to label) (loop_of_none label) blocks));
}

pub opens_loop : (old new : OpenBlocks) (limit : ℕ) → new.conditional ≡ old.conditional → new.unlabelled ≡ min (old.unlabelled + 1) limit → new.labelled ≡ old.labelled →
    new.by_label ≡ old.by_label → (blocks : List Block) → length blocks + 1 ≤ limit → Counts blocks old → Counts (LoopTo None ∷ blocks) new
opens_loop old new limit conditional unlabelled labelled by_label blocks few counts = record {
  conditional = conditional ∙ (counts.conditional ∙ sym (tally_more is_conditional (LoopTo None) blocks));
  unlabelled = let is = counts.unlabelled in let more = tally_more is_unlabelled (LoopTo None) blocks in let low = tally_within is_unlabelled blocks in omega arith;
  labelled = labelled ∙ (counts.labelled ∙ sym (tally_more is_labelled (LoopTo None) blocks));
  by_label = λ label. ap (λ m. unwrap_or (get nat_eq m label) 0) by_label ∙ (counts.by_label label
      ∙ (ap (λ b. raised b (tally (is_loop_to label) blocks)) (sym (loop_of_none label)) ∙ sym (tally_more (is_loop_to label) (LoopTo None) blocks)));
}

-- LOOPS UP TO A LABEL
loop_to_some : (label other : ℕ) → is_loop_to label (LoopTo (Some other)) ≡ nat_eq label other
unfolding is_loop_to
loop_to_some label other = refl

-- what is in no loop up to the label stays
kept_by : (b : Bool) (test : Block → Bool) (block : Block) (rest blocks : List Block) → (b ≡ true → test block ≡ false) → tally test rest ≡ tally test blocks →
    tally test (cond (not b) (block ∷ rest) rest) ≡ raised (test block) (tally test blocks)
unfolding tally
kept_by true test block rest blocks apart same = same ∙ ap (λ c. raised c (tally test blocks)) (sym (apart refl))
kept_by false test block rest blocks apart same = ap (raised (test block)) same

abbrev left : ℕ → List Block → List Block
left label blocks = filter (λ block. not (is_loop_to label block)) blocks

label_others : (label : ℕ) (test : Block → Bool) → ((block : Block) → is_loop_to label block ≡ true → test block ≡ false) → (blocks : List Block) →
    tally test (left label blocks) ≡ tally test blocks
unfolding tally
label_others label test apart [] = refl
label_others label test apart (block ∷ blocks) =
    kept_by (is_loop_to label block) test block (left label blocks) blocks (apart block) (label_others label test apart blocks)

none_by : (b : Bool) (test : Block → Bool) (block : Block) (rest : List Block) → test block ≡ b → tally test rest ≡ 0 →
    tally test (cond (not b) (block ∷ rest) rest) ≡ 0
unfolding tally
none_by true test block rest is none = none
none_by false test block rest is none = ap (λ c. raised c (tally test rest)) is ∙ none

label_none : (label : ℕ) (blocks : List Block) → tally (is_loop_to label) (left label blocks) ≡ 0
unfolding tally
label_none label [] = refl
label_none label (block ∷ blocks) = none_by (is_loop_to label block) (is_loop_to label) block (left label blocks) refl (label_none label blocks)

fewer_by : (b : Bool) (block : Block) (rest : List Block) (n m : ℕ) → (b ≡ true → is_labelled block ≡ true) → tally is_labelled rest + n ≡ m →
    tally is_labelled (cond (not b) (block ∷ rest) rest) + raised b n ≡ raised (is_labelled block) m
unfolding tally
fewer_by true block rest n m is same = let e : raised (is_labelled block) m ≡ suc m = ap (λ c. raised c m) (is refl) in omega arith
fewer_by false block rest n m is same = either (is_labelled block)
  where
    either : (c : Bool) → raised c (tally is_labelled rest) + n ≡ raised c m
    either true = omega arith
    either false = same

labelled_loop : (label : ℕ) (block : Block) → is_loop_to label block ≡ true → is_labelled block ≡ true
unfolding is_loop_to
labelled_loop label IfBlock is = is
labelled_loop label (LoopTo None) is = is
labelled_loop label (LoopTo (Some other)) is = refl

label_fewer : (label : ℕ) (blocks : List Block) → tally is_labelled (left label blocks) + tally (is_loop_to label) blocks ≡ tally is_labelled blocks
unfolding tally
label_fewer label [] = refl
label_fewer label (block ∷ blocks) =
    fewer_by (is_loop_to label block) block (left label blocks) (tally (is_loop_to label) blocks) (tally is_labelled blocks) (labelled_loop label block)
    (label_fewer label blocks)

loop_apart_if : (label : ℕ) (block : Block) → is_loop_to label block ≡ true → is_conditional block ≡ false
unfolding is_loop_to
loop_apart_if label IfBlock is = absurd (cc)
loop_apart_if label (LoopTo other) is = refl

loop_apart_none : (label : ℕ) (block : Block) → is_loop_to label block ≡ true → is_unlabelled block ≡ false
unfolding is_loop_to
loop_apart_none label IfBlock is = refl
loop_apart_none label (LoopTo None) is = absurd (cc)
loop_apart_none label (LoopTo (Some other)) is = refl

other_label : (a b c : ℕ) → nat_eq a c ≡ true → nat_eq a b ≡ false → nat_eq b c ≡ false
other_label a b c same apart =
    let e : a ≡ c = eqb-true a c same in
    either (nat_eq b c) refl
  where
    either : (t : Bool) → nat_eq b c ≡ t → nat_eq b c ≡ false
    either true is = absurd (opposite (nat_eq a b) apart (subst (λ n. nat_eq n b ≡ true) (sym (eqb-true a c same ∙ sym (eqb-true b c is))) (same_number b)))
      where
        opposite : (t : Bool) → t ≡ false → t ≡ true → ⊥
        opposite t no_more yes_more = let f : false ≡ true = sym no_more ∙ yes_more in absurd (cc)

        same_number : (n : ℕ) → nat_eq n n ≡ true
        same_number n = search (arith)
    either false is = is

loop_apart : (label other : ℕ) → nat_eq label other ≡ false → (block : Block) → is_loop_to label block ≡ true → is_loop_to other block ≡ false
unfolding is_loop_to
loop_apart label other apart IfBlock is = refl
loop_apart label other apart (LoopTo None) is = refl
loop_apart label other apart (LoopTo (Some to)) is = other_label label other to is apart

closed_is : (label : ℕ) (blocks : List Block) → closed_by_label (Some label) blocks ≡ left label blocks
unfolding closed_by_label
closed_is label blocks = refl

pub closes_labelled : (label closed : ℕ) (old new : OpenBlocks) → closed ≡ loops_to old label → new.conditional ≡ old.conditional →
    new.unlabelled ≡ old.unlabelled → new.labelled ≡ old.labelled - closed →
    ((other : ℕ) → get nat_eq new.by_label other ≡ cond (nat_eq label other) None (get nat_eq old.by_label other)) →
    (blocks : List Block) → Counts blocks old → Counts (closed_by_label (Some label) blocks) new
closes_labelled label closed old new closed_is_all conditional unlabelled labelled by_label blocks counts =
    subst (λ bs. Counts bs new) (sym (closed_is label blocks)) (record {
      conditional = conditional ∙ (counts.conditional ∙ sym (label_others label is_conditional (loop_apart_if label) blocks));
      unlabelled = unlabelled ∙ (counts.unlabelled ∙ sym (label_others label is_unlabelled (loop_apart_none label) blocks));
      labelled = let a = counts.labelled in let b = counts.by_label label in let c = label_fewer label blocks in omega arith;
      by_label = λ other. either other (nat_eq label other) refl;
    })
  where
    either : (other : ℕ) (b : Bool) → nat_eq label other ≡ b → loops_to new other ≡ tally (is_loop_to other) (left label blocks)
    either other true is =
        ap (λ o. unwrap_or o 0) (by_label other ∙ ap (λ t. cond t None (get nat_eq old.by_label other)) is)
        ∙ sym (subst (λ n. tally (is_loop_to n) (left label blocks) ≡ 0) (eqb-true label other is) (label_none label blocks))
    either other false is =
        ap (λ o. unwrap_or o 0) (by_label other ∙ ap (λ t. cond t None (get nat_eq old.by_label other)) is)
        ∙ (counts.by_label other ∙ sym (label_others label (is_loop_to other) (loop_apart label other is) blocks))

pub opens_labelled : (label loops limit : ℕ) (old new : OpenBlocks) → loops ≡ min (loops_to old label + 1) limit → new.conditional ≡ old.conditional →
    new.unlabelled ≡ old.unlabelled → new.labelled ≡ min (old.labelled + 1) limit →
    ((other : ℕ) → get nat_eq new.by_label other ≡ cond (nat_eq label other) (Some loops) (get nat_eq old.by_label other)) →
    (blocks : List Block) → length blocks + 1 ≤ limit → Counts blocks old → Counts (LoopTo (Some label) ∷ blocks) new
opens_labelled label loops limit old new loops_are conditional unlabelled labelled by_label blocks few counts = record {
  conditional = conditional ∙ (counts.conditional ∙ sym (tally_more is_conditional (LoopTo (Some label)) blocks));
  unlabelled = unlabelled ∙ (counts.unlabelled ∙ sym (tally_more is_unlabelled (LoopTo (Some label)) blocks));
  labelled = let is = counts.labelled in let more = tally_more is_labelled (LoopTo (Some label)) blocks in let low = tally_within is_labelled blocks in omega arith;
  by_label = λ other. either other (nat_eq label other) refl;
}
  where
    raised_by : (other : ℕ) (b : Bool) → nat_eq other label ≡ b → tally (is_loop_to other) (LoopTo (Some label) ∷ blocks) ≡ raised b (tally (is_loop_to other) blocks)
    raised_by other b is =
        tally_more (is_loop_to other) (LoopTo (Some label)) blocks ∙ ap (λ c. raised c (tally (is_loop_to other) blocks)) (loop_to_some other label ∙ is)

    either : (other : ℕ) (b : Bool) → nat_eq label other ≡ b → loops_to new other ≡ tally (is_loop_to other) (LoopTo (Some label) ∷ blocks)
    either other true is =
        let same : label ≡ other = eqb-true label other is in
        let found : loops_to new other ≡ loops = ap (λ o. unwrap_or o 0) (by_label other ∙ ap (λ t. cond t (Some loops) (get nat_eq old.by_label other)) is) in
        let more : tally (is_loop_to other) (LoopTo (Some label) ∷ blocks) ≡ suc (tally (is_loop_to other) blocks) =
        raised_by other true (subst (λ n. nat_eq other n ≡ true) (sym same) (same_number other)) in
        let old_is : loops_to old label ≡ tally (is_loop_to other) blocks = subst (λ n. loops_to old label ≡ tally (is_loop_to n) blocks) same (counts.by_label label) in
        let low : tally (is_loop_to other) blocks ≤ length blocks = tally_within (is_loop_to other) blocks in
        omega arith
      where
        same_number : (n : ℕ) → nat_eq n n ≡ true
        same_number n = search (arith)
    either other false is =
        ap (λ o. unwrap_or o 0) (by_label other ∙ ap (λ t. cond t (Some loops) (get nat_eq old.by_label other)) is)
        ∙ (counts.by_label other ∙ sym (raised_by other false (turned is)))
      where
        turned : nat_eq label other ≡ false → nat_eq other label ≡ false
        turned apart = search (arith)

-- HOW MANY
raised_all : (blocks : List Block) → tally is_conditional blocks + tally is_unlabelled blocks + tally is_labelled blocks ≡ length blocks
unfolding tally
raised_all [] = refl
raised_all (IfBlock ∷ blocks) = let more = raised_all blocks in omega arith
raised_all (LoopTo None ∷ blocks) = let more = raised_all blocks in omega arith
raised_all (LoopTo (Some label) ∷ blocks) = let more = raised_all blocks in omega arith

pub too_many : (kept : OpenBlocks) (limit : ℕ) → 64 < limit → (blocks : List Block) → Counts blocks kept →
    nat_lt 64 (min (min (kept.conditional + kept.unlabelled) limit + kept.labelled) limit) ≡ nat_lt 64 (length blocks)
too_many kept limit high blocks counts = either (nat_lt 64 (length blocks)) refl
  where
    all_are : kept.conditional + kept.unlabelled + kept.labelled ≡ length blocks
    all_are = let a = counts.conditional in let b = counts.unlabelled in let c = counts.labelled in let d = raised_all blocks in omega arith

    either : (b : Bool) → nat_lt 64 (length blocks) ≡ b → nat_lt 64 (min (min (kept.conditional + kept.unlabelled) limit + kept.labelled) limit) ≡ nat_lt 64 (length blocks)
    either true is = let low : 64 < length blocks = ltb-true 64 (length blocks) is in let a = all_are in
        lt-ltb 64 (min (min (kept.conditional + kept.unlabelled) limit + kept.labelled) limit) (omega arith) ∙ sym is
    either false is = let low : length blocks ≤ 64 = ltb-false 64 (length blocks) is in let a = all_are in
        le-ltb 64 (min (min (kept.conditional + kept.unlabelled) limit + kept.labelled) limit) (omega arith) ∙ sym is

found_by : (b more : Bool) (n : ℕ) → nat_lt 0 n ≡ more → nat_lt 0 (raised b n) ≡ (if b then true else more)
found_by true more n is = lt-ltb 0 (suc n) (omega arith)
found_by false more n is = is

loop_found : (label : ℕ) (blocks : List Block) → nat_lt 0 (tally (is_loop_to label) blocks) ≡ has_loop_to label blocks
unfolding tally has_loop_to
loop_found label [] = refl
loop_found label (block ∷ blocks) =
    found_by (is_loop_to label block) (has_loop_to label blocks) (tally (is_loop_to label) blocks) (loop_found label blocks)

pub ends_some : (kept : OpenBlocks) (label loops : ℕ) → loops ≡ loops_to kept label → (blocks : List Block) → Counts blocks kept →
    nat_lt 0 loops ≡ ends_labelled_loop (Some label) blocks
unfolding ends_labelled_loop
ends_some kept label loops is blocks counts = ap (nat_lt 0) (is ∙ counts.by_label label) ∙ loop_found label blocks

-- NOTHING
pub counts_nothing : (kept : OpenBlocks) → kept.conditional ≡ 0 → kept.unlabelled ≡ 0 → kept.labelled ≡ 0 → kept.by_label.entries ≡ [] → Counts [] kept
unfolding tally
counts_nothing kept conditional unlabelled labelled none = record {
  conditional = conditional;
  unlabelled = unlabelled;
  labelled = labelled;
  by_label = λ label. ap (λ es. unwrap_or (lookup (nat_eq label) es) 0) none;
}
