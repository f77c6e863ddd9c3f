use Rattle.std.proofs.Common.{◌≡◌, drop}
use Rattle.beta_net.specs.Codes.{members_code}
use Rattle.beta_net.proofs.code.members_code.Given as goal

abbrev pub invariant-loop-member : goal.invariant-loop-member
invariant-loop-member l = members_code l.all (drop l.member-index l.members) ≡ members_code l.code l.members
