-- Changes done one after another: one more after them, and the first of them.
use Rattle.std.proofs.Common.{◌≡◌, ℕ, List, [], ◌∷◌, ◌++◌, refl}
use Rattle.ops_base.specs.declared.elements.Element.{Element}
use Rattle.ops_base.specs.declared.elements.Change.{Change}
use Rattle.ops_base.specs.declared.elements.Change.TheVariants.{Add, Remove}
use Rattle.ops_base.specs.WorkingMemory.{change_done, done, last_after, Lawful}

pub done_push : (wm : List Element) (cs : List Change) (c : Change) → done wm (cs ++ c ∷ []) ≡ change_done (done wm cs) c
done_push wm [] c = refl
done_push wm (d ∷ cs) c = done_push (change_done wm d) cs c

pub last_after_push : (last : ℕ) (cs : List Change) (c : Change) → last_after last (cs ++ c ∷ []) ≡ last_after (last_after last cs) (c ∷ [])
last_after_push last [] c = refl
last_after_push last (Add e ∷ cs) c = last_after_push e.tag cs c
last_after_push last (Remove tag ∷ cs) c = last_after_push last cs c

-- of lawful changes the first is lawful
pub first_lawful : (wm : List Element) (last : ℕ) (c : Change) (rest : List Change) → Lawful wm last (c ∷ rest) → Lawful wm last (c ∷ [])
first_lawful wm last (Add e) rest p = (p.0, tt)
first_lawful wm last (Remove tag) rest p = (p.0, tt)

-- where it is done, the others are
pub rest_lawful : (wm : List Element) (last : ℕ) (c : Change) (rest : List Change) → Lawful wm last (c ∷ rest) → Lawful (change_done wm c) (last_after last (c ∷ [])) rest
rest_lawful wm last (Add e) rest p = p.1
rest_lawful wm last (Remove tag) rest p = p.1
