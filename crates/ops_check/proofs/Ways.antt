-- Steps of the walk over the words of a command, with more words after.
use Rattle.std.proofs.Common.{◌≡◌, false, true, List, [], ◌∷◌, ◌++◌, refl}
use Rattle.ops_grammar.specs.declared.words.Word.{Word}
use Rattle.ops_grammar.specs.Grammar.{InFixed, Wanted, Shown, ClassName, Terms, State, goes, step, is_right}

-- a class is wanted of the first word, where that does not end the command
pub shown_first : (words rest more : List Word) (w : Word) (ws : List Wanted) (s : State) → words ≡ w ∷ rest → is_right w.kind ≡ false → goes (words ++ more) (Shown ∷ ws) s ≡ goes (words ++ more) (ClassName ∷ Terms InFixed ∷ ws) (record s { fixed = []; shows = true })
unfolding goes step
shown_first words rest more w ws s e other = rw (e, other) refl
