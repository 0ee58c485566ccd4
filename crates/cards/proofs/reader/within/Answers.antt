use Rattle.std.proofs.Common.{◌≡◌, length, take, min, ap, subst, ◌∙◌}
use Rattle.fortran_text.specs.FirstFault.{most_bytes}
use Rattle.cards.proofs.LimitLemmas.{most_bytes-is, take_least}
use Rattle.cards.proofs.reader.within.Goals as goal

pub returns : goal.returns
returns c =
    let bytes = c.args.bytes.now in
    ap (λ n. take n bytes) c.min.ensures ∙ subst (λ n. take (min (length bytes) n) bytes ≡ take most_bytes bytes) most_bytes-is (take_least most_bytes bytes)
