-- A text that is put together in a buffer.
use Rattle.std.proofs.Common.{◌≡◌, ℕ, ◌+◌, ◌-◌, ◌<◌, ◌≤◌, min, List, ◌++◌, length, take, drop, replicate, refl, ap, sym, ◌∙◌, arith, append-nil, length-append, Bool, true, false}
use Rattle.std.specs.Prelude.{nat_lt}
use Rattle.std.proofs.lemmas.Bool.Decides.{nat_tests}
use Rattle.std.proofs.Math.Seq.{take-append-add}
use Rattle.std.proofs.lemmas.List.{length-take, length-drop, length-replicate, take-append-le, take-take, take_all, take_min}
use Rattle.std.proofs.lemmas.Slice.{take-put_mid}
use borrow.Rule.Slice.PartMut.{put_mid}
use Rattle.c_tree.specs.LibraryArguments.{fitted}
use Rattle.library_texts.specs.Gathered.{Gathers}

-- a text and what is left of a piece are the two together, cut where the buffer ends
short-text : (size used kept : ℕ) (text piece : List ℕ) → length text ≤ size → used ≡ min size (length text) → kept ≡ min (length piece) (size - used) →
    take size text ++ take kept piece ≡ take size (text ++ piece)
short-text size used kept text piece h u k =
    let all : length text + (size - length text) ≡ size = omega arith in
    let cut : min (size - length text) (length piece) ≡ kept = omega arith in
    ap (λ front. front ++ take kept piece) (take_all size text h)
    ∙ ap (λ n. text ++ take n piece) (sym cut) ∙ ap (λ rest. text ++ rest) (take_min (size - length text) piece)
    ∙ sym (take-append-add text piece (size - length text)) ∙ ap (λ n. take n (text ++ piece)) all

long-text : (size used kept : ℕ) (text piece : List ℕ) → size < length text → used ≡ min size (length text) → kept ≡ min (length piece) (size - used) →
    take size text ++ take kept piece ≡ take size (text ++ piece)
long-text size used kept text piece h u k =
    let none : kept ≡ 0 = omega arith in
    ap (λ n. take size text ++ take n piece) none ∙ append-nil (take size text) ∙ sym (take-append-le size text piece (omega arith))

joined : (size used kept : ℕ) (text piece : List ℕ) → used ≡ min size (length text) → kept ≡ min (length piece) (size - used) →
    take size text ++ take kept piece ≡ take size (text ++ piece)
joined size used kept text piece u k =
    by (nat_lt size (length text)) refl
  where
    by : (longer : Bool) → nat_lt size (length text) ≡ longer → take size text ++ take kept piece ≡ take size (text ++ piece)
    by true is = long-text size used kept text piece (grind (arith, nat_tests)) u k
    by false is = short-text size used kept text piece (grind (arith, nat_tests)) u k

-- how much of a text a buffer holds
held-size : (buffer text : List ℕ) (used : ℕ) → used ≤ length buffer → Gathers buffer used text → used ≡ min (length buffer) (length text)
held-size buffer text used h holds =
    let front : length (take used buffer) ≡ length (take (length buffer) text) = ap length holds in
    omega (arith, length-take used buffer, length-take (length buffer) text)

pub appended : (buffer piece text new : List ℕ) (used kept k : ℕ) → used ≤ length buffer → kept ≡ min (length piece) (length buffer - used) →
    new ≡ take kept piece → length (put_mid used k buffer new) ≡ length buffer → Gathers buffer used text →
    Gathers (put_mid used k buffer new) (used + kept) (text ++ piece)
appended buffer piece text new used kept k h least is same so_far =
    let count : used ≡ min (length buffer) (length text) = held-size buffer text used h so_far in
    let size : length new ≡ kept = ap length is ∙ length-take kept piece ∙ omega arith in
    take-put_mid used k buffer new (used + kept) (omega arith) h
    ∙ ap (λ text. text ++ new) so_far ∙ ap (λ piece. take (length buffer) text ++ piece) is
    ∙ joined (length buffer) used kept text piece count least
    ∙ ap (λ n. take n (text ++ piece)) (sym same)

-- blanks behind a text that the buffer holds whole
pub padded : (buffer text new : List ℕ) (used size k : ℕ) → used ≤ length buffer → size ≤ length buffer → Gathers buffer used text → used < size → k ≡ size - used →
    new ≡ replicate (length (take k (drop used buffer))) 32 → take size (put_mid used k buffer new) ≡ fitted size text
padded buffer text new used size k within fits holds short as_many fill =
    let count : used ≡ min (length buffer) (length text) = held-size buffer text used within holds in
    let whole : length text ≡ used = omega arith in
    let wide : length (take k (drop used buffer)) ≡ size - used = omega (arith, length-take k (drop used buffer), length-drop used buffer) in
    let is : new ≡ replicate (size - used) 32 = fill ∙ ap (λ n. replicate n 32) wide in
    let blanks : length new ≡ size - used = ap length is ∙ length-replicate (size - used) 32 in
    let all : length (text ++ new) ≡ size = length-append text new ∙ omega arith in
    take-put_mid used k buffer new size (omega arith) within
    ∙ ap (λ front. front ++ new) (holds ∙ take_all (length buffer) text (omega arith))
    ∙ sym (take_all size (text ++ new) (omega arith))
    ∙ ap (λ behind. take size (text ++ behind)) (is ∙ ap (λ n. replicate (size - n) 32) (sym whole))

pub cut : (buffer text : List ℕ) (used size : ℕ) → used ≤ length buffer → size ≤ length buffer → Gathers buffer used text → size ≤ used → take size buffer ≡ fitted size text
cut buffer text used size within fits holds long =
    let count : used ≡ min (length buffer) (length text) = held-size buffer text used within holds in
    sym (take-take size used buffer long) ∙ ap (take size) holds ∙ take-take size (length buffer) text fits
    ∙ sym (take-append-le size text (replicate (size - length text) 32) (omega arith))
