-- A line whose phase stays lawful, as a fact that has at most one proof.
use Rattle.std.specs.Prelude.{ℕ, List, [], ◌∷◌}
use Rattle.std.proofs.Props.{props}
use Rattle.work_store.specs.Stored.{Stored, held_of}
use Rattle.net_base.specs.declared.nodes.Node.{Node}
use Rattle.net_base.specs.Tokens.{Elements}
use Rattle.token_line.specs.declared.line.Entry.{Entry}
use Rattle.token_line.specs.declared.line.Line.{Line}
use Rattle.token_line.specs.Bags.{Bag, after}
use Rattle.step_core.specs.Phases.{AreLawful, IsPhase, before}
use Rattle.step_core.specs.Machine.{Placing, Seen}
use Rattle.step_core.specs.Worlds.{placed, seen}

-- if the phase of the line was lawful in its old state, as line `number` of this many, it is lawful now
abbrev pub KeepsPhase : List Node → Stored → ℕ → ℕ → Line → Line → Type 0
KeepsPhase nodes s lines number was now =
    IsPhase (held_of s) nodes (placed (held_of s) nodes lines) number (seen was) → IsPhase (held_of s) nodes (placed (held_of s) nodes lines) number (seen now)

lawful_prop : (elements : Elements) (nodes : List Node) (b : Bag) (es : List Entry) → IsProp (AreLawful elements nodes b es)
lawful_prop elements nodes b [] = hlevel props
lawful_prop elements nodes b (e ∷ es) = let i = lawful_prop elements nodes (after b e.task) es in hlevel (props, i)

phase_prop : (elements : Elements) (nodes : List Node) (line : Placing) (i : ℕ) (l : Seen) → IsProp (IsPhase elements nodes line i l)
phase_prop elements nodes line i l = let p = lawful_prop elements nodes (before l) l.entries in hlevel (props, p)

pub phased_prop : (nodes : List Node) (s : Stored) (lines number : ℕ) (was now : Line) → IsProp (KeepsPhase nodes s lines number was now)
phased_prop nodes s lines number was now = let p = phase_prop (held_of s) nodes (placed (held_of s) nodes lines) number (seen now) in hlevel (props, p)
