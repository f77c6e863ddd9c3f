-- A line whose tokens have given codes, with which tests can set up tasks.
use Rattle.std.specs.Prelude.{◌≡◌, ℕ, List}
use Rattle.net_base.specs.declared.tasks.Side.{Side}
use Rattle.token_line.specs.declared.line.Line.{Line}
use Rattle.token_line.specs.Lines.{IsFiled}

-- each token is kept under the code that the function gives it
abbrev pub HasCodes : (List ℕ → ℕ) → Line → Type 0
HasCodes f line = (n c : ℕ) (s : Side) (t : List ℕ) → IsFiled line n c s t → c ≡ f t
