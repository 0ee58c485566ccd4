use Rattle.std.proofs.Common.{◌&&◌, nat_lt, length, sym, ap, arith}
use Rattle.translator.proofs.FitLemmas.{bytes_small}
use Rattle.translator.proofs.fitting.stop_fits.Goals as goal

pub returns : goal.returns
returns c = ap (λ b. b && nat_lt (length c.args.text.now) 2147483648) (sym (bytes_small c.args.text.now (λ i. omega (arith, c.type_inv.text i))))
