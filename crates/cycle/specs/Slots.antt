-- The contents of a place that is known to be full.
use Rattle.std.specs.Prelude.{Option, Some, None, IsSome}
use Rattle.std.proofs.lemmas.Bool.{false≢true}

-- the value that is in it
abbrev pub value_of : {T : Type 0} (o : Option T) → IsSome o → T
value_of None h = absurd (false≢true h)
value_of (Some x) h = x
