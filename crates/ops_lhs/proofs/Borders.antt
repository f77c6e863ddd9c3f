-- Where a left side begins and ends among its words and its tokens.
use Rattle.std.proofs.Common.{◌≡◌, ℕ, ◌-◌, ◌≤◌, List, ◌++◌, ◌∷◌, [], length, drop, Bool, true, false, if◌then◌else◌, Option, None, Some, refl, sym, ap, ◌∙◌, subst, append_assoc}
use Rattle.ops_base.specs.declared.elements.Class.{Class}
use Rattle.ops_base.specs.declared.actions.Hole.{Hole}
use Rattle.ops_base.specs.declared.conditions.Part.{Part}
use Rattle.ops_base.specs.Names.{Spellings}
use Rattle.ops_base.specs.declared.endings.Fault.TheVariants as fault
use Rattle.ops_base.specs.Valid.{cells_of}
use Rattle.ops_tokens.specs.declared.token.Token.{Token}
use Rattle.ops_tokens.specs.declared.token.TokenKind.{TokenKind}
use Rattle.ops_tokens.specs.declared.token.TokenKind.TheVariants as kind
use Rattle.ops_tokens.specs.Tokens.{spelling}
use Rattle.ops_grammar.specs.declared.words.Word.{Word}
use Rattle.ops_grammar.specs.declared.words.Named.{Named}
use Rattle.ops_grammar.specs.declared.words.Keyword.{Keyword}
use Rattle.ops_grammar.specs.declared.words.Keyword.TheVariants as keyword
use Rattle.ops_grammar.specs.Words.{keyword_of, keyword_in, is_joined, hole_in, minus_before, keyword_before, names_from}
use Rattle.ops_grammar.specs.Grammar.{Outer, Wanted, FirstPattern, Patterns, State, goes, is_arrow, values_around, left_begun, nothing_read}
use Rattle.ops_forms.specs.Forms.{past_last}
use Rattle.ops_forms.specs.Sights.{cells_from}
use Rattle.ops_forms.specs.PlaceWalks.{FailsAmong, words_of_scope, fault_of}
use Rattle.ops_forms.specs.declared.refusals.Refusal.{Refusal}
use Rattle.ops_forms.specs.declared.refusals.Refusal.TheVariants as refusal
use Rattle.ops_forms.specs.declared.scope.Scope.{Scope}
use Rattle.ops_forms.proofs.Borders.{is_unclosed, begins, rest_is, last_is}
use Rattle.ops_forms.specs.WordWalks.{Fails}
use Rattle.ops_lhs.specs.declared.around.Around.{Around}
use Rattle.ops_lhs.specs.Taking.{IsAround}
use Rattle.ops_lhs.specs.LeftSides.{left_started, left_way, left_read, ReadsLeft, RefusesLeft, IsArrow, AreBehindArrow, IsArrowAt, IsLeftSide, IsRefused, at_word, at_end}

-- the words that stand after a left side go on as the words
pub left_goes : (classes : List Class) (around : List Named) (words rest : List Word) (conditions : List Part) (values elements : List Named) (variables counted : ℕ) (holes : List Hole) → ReadsLeft classes around words rest conditions values elements variables counted holes → (o : Option Outer) (s : State) → values_around o ≡ around → s.classes ≡ classes → (more : List Word) (ws : List Wanted) → left_way words o s more ws ≡ goes (rest ++ more) ws (left_read o s conditions values elements variables counted holes)
left_goes classes around words rest conditions values elements variables counted holes r o s v i more ws =
    ap (λ (all : List Word). goes (all ++ more) (FirstPattern ∷ Patterns ∷ ws) (record (left_begun s) { outer = o })) r.split
    ∙ ap (λ (all : List Word). goes all (FirstPattern ∷ Patterns ∷ ws) (record (left_begun s) { outer = o })) (append_assoc r.read rest more)
    ∙ r.reads o s v i (rest ++ more) ws

-- what is refused around it is refused with that around it
pub outermost_fails : (a : Around) (words : List Word) (o : Option Outer) (s : State) → IsAround a (record s { outer = o }) → (e : Refusal) → FailsAmong (IsAround a) (λ more ws t. goes (drop 0 words ++ more) (FirstPattern ∷ Patterns ∷ ws) (left_started t)) e → Fails (left_way words o s) e
outermost_fails a words o s i refusal.OutOfMemory h = tt
outermost_fails a words o s i (refusal.At f None) h = λ ws. h ws (record s { outer = o }) i
outermost_fails a words o s i (refusal.At f (Some w)) h = λ more ws. h more ws (record s { outer = o }) i

-- an arrow is one whatever stands after it
arrow_kept : (k : Keyword) (ts : List Token) → is_arrow (keyword_before k ts) ≡ true → is_arrow k ≡ true
arrow_kept keyword.Minus [] e = e
arrow_kept keyword.Minus (t ∷ ts) e = by t.kind e
  where
    by : (k : TokenKind) → is_arrow (minus_before k) ≡ true → false ≡ true
    by kind.LeftBrace h = h
    by _ h = h
arrow_kept k ts e = e

-- and it is no hole
arrow_said : (text : List ℕ) (names : Spellings) (t : Token) → is_arrow (keyword_in text names t) ≡ true → is_arrow (keyword_of t.kind (spelling text t)) ≡ true
arrow_said text names t = by (is_joined text t)
  where
    by : (b : Bool) → is_arrow (if b then hole_in text names t else keyword_of t.kind (spelling text t)) ≡ true → is_arrow (keyword_of t.kind (spelling text t)) ≡ true
    by true e = absurd cc
    by false e = e

module _ (scope : Scope) (tokens : List Token) (from : ℕ) (rest : List Word) (le : from ≤ length tokens) (b : AreBehindArrow (words_of_scope scope tokens from) rest) where
  arrow_is : IsArrowAt scope.text.items tokens (length tokens - length rest - 1)
  arrow_is =
      let found = last_is IsArrow scope tokens from rest le b in
      record {
        token = found.token;
        there = found.there;
        is = arrow_said scope.text.items found.names found.token (arrow_kept (keyword_in scope.text.items found.names found.token) found.after (ap is_arrow found.keyword ∙ b.is));
      }

  pub left_side_is : (new : Scope) (conditions : List Part) → ReadsLeft scope.classes [] (words_of_scope scope tokens from) rest conditions new.values new.elements new.variables new.counted new.holes.items → new.names ≡ names_from scope.text.items scope.names (drop from tokens) → new.cells ≡ cells_of conditions → new.conditions ≡ cells_from 0 conditions → IsLeftSide scope new tokens from conditions (length tokens - length rest - 1)
  left_side_is new conditions reads names cells are =
      record {
        begins = begins IsArrow scope tokens from rest le b;
        arrow = arrow_is;
        reads = subst (λ (more : List Word). ReadsLeft scope.classes [] (words_of_scope scope tokens from) more conditions new.values new.elements new.variables new.counted new.holes.items) (sym (rest_is IsArrow scope tokens from rest le b)) reads;
        names = names;
        cells = cells;
        conditions_are = are;
      }

pub refused_is : (scope : Scope) (tokens : List Token) (from : ℕ) (e : Refusal) → RefusesLeft scope.classes [] (words_of_scope scope tokens from) e → IsRefused scope tokens from (fault_of e (past_last 0 tokens))
refused_is scope tokens from refusal.OutOfMemory h = tt
refused_is scope tokens from (refusal.At f (Some w)) h = at_word f w h
refused_is scope tokens from (refusal.At f None) h =
    let s = record nothing_read { classes = scope.classes } in
    let words = words_of_scope scope tokens from in
    let open_form : f ≡ fault.Unclosed = is_unclosed (words ++ []) (FirstPattern ∷ Patterns ∷ []) (left_begun s) f (h None s refl refl []) in
    rw open_form (at_end (rw open_form at h))
