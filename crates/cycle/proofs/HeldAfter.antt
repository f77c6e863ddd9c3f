-- What the names hold after a phase.
use Rattle.std.proofs.Common.{◌≡◌, List, length, Result, Ok, Err, IfOk, sym, subst}
use Rattle.std.specs.Prelude.{IsErrAnd}
use Rattle.ops_base.specs.declared.elements.Change.{Change}
use Rattle.ops_base.specs.declared.elements.Element.{Element}
use Rattle.ops_base.specs.Names.{Spellings}
use Rattle.ops_base.specs.WorkingMemory.{done}
use Rattle.act_phase.specs.Held.{HoldsElements, HoldsMade}
use Rattle.act_phase.proofs.Held.{done_held}

-- a call that has failed leaves nothing of which more would be said
pub nothing_left : {X F : Type 0} (Q : F → Type 0) (P : X → Type 0) (r : Result X F) → IsErrAnd r Q → IfOk r P
nothing_left Q P (Err f) h = tt
nothing_left Q P (Ok x) h = absurd h

-- the elements that a phase leaves are held, where those before it are and those that it makes
pub held_after : (names : Spellings) (before after : List Element) (changes : List Change) → HoldsElements names before → HoldsMade names changes → after ≡ done before changes → HoldsElements names after
held_after names before after changes h made is =
    let P : List Element → Type 0 = HoldsElements names in subst P (sym is) (done_held (length names.held) before changes h made)
