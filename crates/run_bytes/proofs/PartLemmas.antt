-- Parts of lists, and lists of which one part is another.
use Rattle.std.proofs.Common.{◌≡◌, ℕ, ◌+◌, ◌-◌, ◌≤◌, List, ◌++◌, length, take, drop, ap, sym, ◌∙◌, arith, length-drop}
use Rattle.std.proofs.lemmas.List.{take-take, take_at, drop-drop, drop_at, length-take-le}
use Rattle.std.proofs.lemmas.Slice.{between_is, take-put_mid_below, drop-put_mid}
use borrow.Rule.Slice.PartMut.{put_mid, post_of, same_len_mid}
use Rattle.run_bytes.specs.Layout.{part, SameAround}

-- what stands in the place of a part
pub part-put_mid : {A : Type 0} (xs new : List A) (start n : ℕ) → start ≤ length xs → length new ≡ n → take n (drop start (put_mid start n xs new)) ≡ new
part-put_mid xs new start n h size =
    ap (take n) (drop_at (take start xs) (new ++ post_of start n xs) start (length-take-le start xs h)) ∙ take_at new (post_of start n xs) n size

-- a part that is replaced by another of its length changes nothing around it
pub around-put_mid : {A : Type 0} (xs new : List A) (start count n : ℕ) → n ≡ count → start + count ≤ length xs → length new ≡ length (take n (drop start xs)) →
    SameAround start count xs (put_mid start n xs new)
around-put_mid xs new start count n same h size =
    let all : length (take n (drop start xs)) ≡ n = length-take-le n (drop start xs) (omega (arith, length-drop start xs)) in
    record {
      before = take-put_mid_below start n xs new start (omega arith) (omega arith);
      behind = drop-put_mid start n xs new (start + count) (omega arith) (omega arith) (size ∙ all);
      size = same_len_mid start n xs new size;
    }

-- a part that begins behind a change, and one that ends before it
pub part-behind : {A : Type 0} (xs ys : List A) (start count from : ℕ) → from ≤ start → drop from ys ≡ drop from xs → part start count ys ≡ part start count xs
part-behind xs ys start count from h same =
    let far : from + (start - from) ≡ start = omega arith in
    ap (λ n. take count (drop n ys)) (sym far) ∙ ap (take count) (sym (drop-drop (start - from) from ys))
    ∙ ap (λ rest. take count (drop (start - from) rest)) same
    ∙ ap (take count) (drop-drop (start - from) from xs) ∙ ap (λ n. take count (drop n xs)) far

part-cut : {A : Type 0} (xs : List A) (start count : ℕ) → part start count xs ≡ drop start (take (start + count) xs)
part-cut xs start count =
    let size : count ≡ start + count - start = omega arith in ap (λ n. take n (drop start xs)) size ∙ between_is xs start (start + count)

pub part-before : {A : Type 0} (xs ys : List A) (start count end : ℕ) → start + count ≤ end → take end ys ≡ take end xs → part start count ys ≡ part start count xs
part-before xs ys start count end h same =
    part-cut ys start count ∙ ap (drop start) (sym (take-take (start + count) end ys h) ∙ ap (take (start + count)) same ∙ take-take (start + count) end xs h)
    ∙ sym (part-cut xs start count)
