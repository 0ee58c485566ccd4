use Rattle.std.proofs.Common.{◌≡◌, length}
use Rattle.proto_file.proofs.compare.same_prototypes.Given as goal

-- the lists are the same where what is left of them is
abbrev pub invariant-loop-rest : goal.invariant-loop-rest
invariant-loop-rest l = record {
  from_rest : l.rest ≡ l.others → l.fn.one ≡ l.fn.other;
  to_rest : l.fn.one ≡ l.fn.other → l.rest ≡ l.others;
}

abbrev pub decreases-loop-rest : goal.decreases-loop-rest
decreases-loop-rest l = length l.rest
