use Rattle.std.proofs.Common.{◌<◌, ◌≤◌, length, take, get_or}
use Rattle.act_phase.proofs.Copied.{IsCopied}
use Rattle.act_phase.proofs.excerpts.excerpt.Given as goal

abbrev pub invariant-loop-tag : goal.invariant-loop-tag
invariant-loop-tag l = record {
  copied : IsCopied l.store.elements l.store.last (take l.tag-index l.tag-items) l.excerpt;
  order : l.tag-index < length l.tag-items → l.excerpt.last ≤ get_or l.tag-items l.tag-index 0;
}
