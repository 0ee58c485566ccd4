use Rattle.f2c_program.proofs.OriginLemmas.{origin_of}
use Rattle.f2c_program.proofs.top_call.carry_out.Goals as goal

pub split-requires : goal.split-requires
split-requires g c = origin_of c.args.words.now c.command_of_words.result c.in-Split.origin c.command_of_words.ensures c.in-Split.is
