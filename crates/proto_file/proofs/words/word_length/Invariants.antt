use Rattle.std.proofs.Common.{◌≡◌, ◌+◌, length}
use Rattle.std.specs.List.{prefix_len}
use Rattle.c_tree.specs.Tokens.{is_word_byte}
use Rattle.proto_file.proofs.words.word_length.Given as goal

abbrev pub invariant-loop-rest : goal.invariant-loop-rest
invariant-loop-rest l = record {
  start : prefix_len is_word_byte l.fn.text ≡ l.passed + prefix_len is_word_byte l.rest;
  counted : l.passed + length l.rest ≡ length l.fn.text;
}

abbrev pub decreases-loop-rest : goal.decreases-loop-rest
decreases-loop-rest l = length l.rest
