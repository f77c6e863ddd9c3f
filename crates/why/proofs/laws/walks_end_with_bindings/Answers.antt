use Rattle.why.proofs.Walks.{meets-meets_with, meets_with-meets}
use Rattle.why.proofs.laws.walks_end_with_bindings.Goals as goal

pub returns : goal.returns
returns c = λ wm parts bindings tags. (
  meets-meets_with wm parts bindings tags,
  λ m. meets_with-meets wm parts bindings tags m.0 m.1,
)
