-- Telling a refusal's number tells its reason.
use Rattle.std.proofs.Common.{◌≡◌, arith}
use Rattle.layout.specs.Reasons.{number_of}
use Rattle.layout.specs.declared.Reason.{Reason}

-- No two reasons have one number.
pub numbers_differ : (r s : Reason) → number_of r ≡ number_of s → r ≡ s
unfolding number_of
numbers_differ r s e = grind arith
