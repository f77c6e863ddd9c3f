-- How a fault stands in a text, and which texts are read.
use Rattle.std.proofs.Common.{◌≡◌, ℕ, suc, Bool, true, false, cond, List, [], ◌∷◌, ◌++◌, length, refl, sym, ap, subst, ◌∙◌, Option, Some, None, Result, Ok, Err, nat_lt}
use Rattle.std.specs.List.{list_all}
use Rattle.std.proofs.lemmas.Bool.{and_parts}
use Rattle.std.proofs.lemmas.List.Folds.{list_all-append}
use Rattle.ops_base.specs.declared.values.Sym.{Sym}
use Rattle.ops_base.specs.declared.endings.Fault.{Fault}
use Rattle.ops_base.specs.declared.endings.Fault.TheVariants as fault
use Rattle.ops_base.specs.Names.{Spellings, only_nil}
use Rattle.ops_base.specs.Valid.{longest_list}
use Rattle.ops_tokens.specs.declared.token.LexFault.{LexFault}
use Rattle.ops_grammar.specs.declared.words.Word.{Word}
use Rattle.ops_grammar.specs.Words.{lexed, names_from, tokens_of}
use Rattle.ops_grammar.specs.Grammar.{InPattern, InPut, InFixed, ToTerms, ToConstants, ToItem, ToBind, EndsWhole, Wanted, Forms, Terms, Several, Place, ValueFor, Function, ExpressionUnit, ExpressionRest, Closes, State, Step, Next, Refuses, Outcome, step, ends, after, goes, nothing_read}
use Rattle.ops_grammar.specs.Derivation.{Derives, nothing, no_form, one_more_place, one_more_term, one_more_constant, no_more_of_several, a_bracketed_expression, a_bound_value, a_function_item, IsText}
use Rattle.ops_grammar.specs.Reads.{stands_at as place_of}
use Rattle.ops_grammar.specs.Reads.{Read, Placed, verdict, reads, read_tokens}
use Rattle.ops_grammar.specs.Standing.{words_of, outcome_of, StandsAt, StandsAtWord, IsReadOrInForm}
use Rattle.ops_grammar.proofs.Arranged.{AreArranged, arranged_begun}
use Rattle.ops_grammar.proofs.Derived.{forms_last, taken_derives, taken_last, taken_arranged, refused_in_form}
use Rattle.ops_grammar.proofs.Completed.{completed}
use Rattle.ops_grammar.proofs.Proper.{is_proper, words_proper}
use Rattle.ops_grammar.proofs.Follows.{Went, derived_goes, refused_in_no_form}
use Rattle.ops_grammar.proofs.Reasons.{refused-because}
use Rattle.ops_grammar.proofs.Lowest.{refused-lowest}
use Rattle.ops_grammar.proofs.Reached.{Reached, goes_behind, derives_before, derives_behind, last_behind, arranged_behind, taken_before, stopped}

-- ---- a word that is refused

refuses : (w : Word) (to : List Wanted) (at : State) (f : Fault) (more : List Word) → step w to at ≡ Refuses f → goes (w ∷ more) to at ≡ Err (f, Some w)
unfolding goes
refuses w to at f more e = ap (after (goes more) w) e

module _ (before : List Word) (w : Word) (f : Fault) (to : List Wanted) (at : State) where
  stands_at : Reached to at before (Forms ∷ []) nothing_read → step w to at ≡ Refuses f → list_all is_proper before ≡ true → is_proper w ≡ true → StandsAt f before w
  stands_at reached refused proper own =
      let last : forms_last to ≡ true = last_behind to at before (Forms ∷ []) nothing_read reached arranged_begun refl in
      let arranged : AreArranged to at = arranged_behind to at before (Forms ∷ []) nothing_read reached arranged_begun in
      record {
        taken = taken_before to at before (Forms ∷ []) nothing_read reached;
        refused = λ more. goes_behind to at before (Forms ∷ []) nothing_read reached (w ∷ more) ∙ refuses w to at f more refused;
        because = (to, at, goes_behind to at before (Forms ∷ []) nothing_read reached, refused-because w to at f arranged refused, refused-lowest w to at f arranged own refused);
        goes_on = let c = completed at.vectors to in (c.0, derives_before to at before (Forms ∷ []) nothing_read reached arranged_begun c.0 c.1);
        in_a_form = λ no. let c = refused_in_form w to at arranged f refused no in (c.0, derives_before to at before (Forms ∷ []) nothing_read reached arranged_begun (w ∷ c.0) c.1);
        in_no_form = λ is more d.
            refused_in_no_form w to at arranged last f refused is more (derives_behind to at before (Forms ∷ []) nothing_read reached arranged_begun refl proper (w ∷ more) d);
      }

pub stands_at_word : (text : List ℕ) (f : Fault) (w : Word) → outcome_of (words_of text) ≡ Err (f, Some w) → StandsAtWord text (record { fault = f; at = place_of f w })
stands_at_word text f w e =
    let stop = stopped (words_of text) (Forms ∷ []) nothing_read f w e in
    let proper : list_all is_proper (stop.before ++ w ∷ stop.behind) ≡ true = subst (λ (x : List Word). list_all is_proper x ≡ true) stop.words_are (words_proper text only_nil (tokens_of text)) in
    let parts = and_parts _ _ (sym (list_all-append is_proper stop.before (w ∷ stop.behind)) ∙ proper) in
    record {
      before = stop.before;
      word = w;
      behind = stop.behind;
      words = stop.words_are;
      place = refl;
      stands = stands_at stop.before w f stop.to stop.at stop.reached stop.refused parts.0 (and_parts (is_proper w) (list_all is_proper stop.behind) parts.1).0;
    }

-- ---- the texts that are read

ends_derive : (ws : List Wanted) (s : State) (r : State) → ends ws s ≡ Ok r → Derives s.vectors ws []
unfolding ends
ends_derive [] s r e = nothing
ends_derive (Forms ∷ ws) s r e = no_form (ends_derive ws s r e)
ends_derive (w ∷ ws) s r e = absurd (cc)

derived_by : (w : Word) (words : List Word) (ws : List Wanted) (s : State) (r : State) → AreArranged ws s
    → ((ws' : List Wanted) (s' : State) → AreArranged ws' s' → goes words ws' s' ≡ Ok r → Derives s'.vectors ws' words)
    → (x : Step) → step w ws s ≡ x → after (goes words) w x ≡ Ok r → Derives s.vectors ws (w ∷ words)
derived_by w words ws s r arranged ih (Next ws' s') is e =
    taken_derives w ws s arranged ws' s' is words (ih ws' s' (taken_arranged w ws s arranged ws' s' is) e)
derived_by w words ws s r arranged ih (Refuses f) is e = absurd (cc)

-- Words that are read derive.
pub read_derives : (words : List Word) (ws : List Wanted) (s : State) (r : State) → AreArranged ws s → goes words ws s ≡ Ok r → Derives s.vectors ws words
unfolding goes
read_derives [] ws s r arranged e = ends_derive ws s r e
read_derives (w ∷ words) ws s r arranged e =
    derived_by w words ws s r arranged (λ ws' s' arranged' e'. read_derives words ws' s' r arranged' e') (step w ws s) refl e

verdict_derives : (text : List ℕ) (o : Outcome) (names : Spellings) (stop : Option LexFault) (r : Read) → outcome_of (words_of text) ≡ o → verdict (length text) names stop o ≡ Ok r → IsText (words_of text)
verdict_derives text (Err (f, Some w)) names stop r is e = absurd (cc)
verdict_derives text (Err (f, None)) names stop r is e = absurd (cc)
verdict_derives text (Ok s) names (Some f) r is e = absurd (cc)
verdict_derives text (Ok s) names None r is e = read_derives (words_of text) (Forms ∷ []) nothing_read s arranged_begun is

text_by_length : (text : List ℕ) (r : Read) (long : Bool) → (let x : Result Read Placed = cond long (Err (record { fault = fault.TooLong; at = 0 })) (read_tokens text (lexed text).stop (tokens_of text)) in x ≡ Ok r) → IsText (words_of text)
text_by_length text r true e = absurd (cc)
text_by_length text r false e =
    verdict_derives text (outcome_of (words_of text)) (names_from text only_nil (tokens_of text)) (lexed text).stop r refl e

-- A text that is read is one of the grammar.
pub text-derived : (text : List ℕ) (r : Read) → reads text ≡ Ok r → IsText (words_of text)
unfolding reads
text-derived text r e = text_by_length text r (nat_lt longest_list (length text)) e

-- ---- the texts of the grammar

-- where no word is left, no form is open
abbrev EndsWell : List Word → List Wanted → State → Type 0
EndsWell [] ws s = IsReadOrInForm (ends ws s)
EndsWell (w ∷ words) ws s = Unit {0}

no_form_ends : (words : List Word) (ws : List Wanted) (s : State) → EndsWell words ws s → EndsWell words (Forms ∷ ws) s
unfolding ends
no_form_ends [] ws s h = h
no_form_ends (w ∷ words) ws s h = tt

-- where a form is open, a word is left
open_ends : (words : List Word) (ws ws' : List Wanted) (s : State) → ¬ EndsWell [] ws s → EndsWell words ws s → EndsWell words ws' s
open_ends [] ws ws' s open_yet h = absurd (open_yet h)
open_ends (w ∷ words) ws ws' s open_yet h = tt

derived_ends : (vs : List Sym) (ws : List Wanted) (words : List Word) (s : State) → Derives vs ws words → EndsWell words ws s
unfolding ends
derived_ends vs ws words s nothing = tt
derived_ends vs ws words s (no_form {ws = rest} d) = no_form_ends words rest s (derived_ends vs rest words s d)
derived_ends vs ws words s (one_more_place {f = f} {ws = rest} d) =
    open_ends words (Place f ∷ Several InPattern (suc f) ∷ rest) ws s (λ h. h) (derived_ends vs (Place f ∷ Several InPattern (suc f) ∷ rest) words s d)
derived_ends vs ws words s (one_more_term {f = f} {ws = rest} d) =
    open_ends words (ValueFor ToTerms ∷ Several InPut f ∷ rest) ws s (λ h. h) (derived_ends vs (ValueFor ToTerms ∷ Several InPut f ∷ rest) words s d)
derived_ends vs ws words s (one_more_constant {f = f} {ws = rest} d) =
    open_ends words (ValueFor ToConstants ∷ Several InFixed f ∷ rest) ws s (λ h. h) (derived_ends vs (ValueFor ToConstants ∷ Several InFixed f ∷ rest) words s d)
derived_ends vs ws words s (no_more_of_several {u = u} {ws = rest} d) =
    open_ends words (Terms u ∷ rest) ws s (λ h. h) (derived_ends vs (Terms u ∷ rest) words s d)
derived_ends vs ws words s (a_bracketed_expression {d = depth} {ws = rest} d) =
    open_ends words (ExpressionUnit depth ∷ ExpressionRest depth [] None ∷ rest) ws s (λ h. h) (derived_ends vs (ExpressionUnit depth ∷ ExpressionRest depth [] None ∷ rest) words s d)
derived_ends vs ws words s (a_bound_value {ws = rest} d) =
    open_ends words (ValueFor ToBind ∷ Closes EndsWhole ∷ rest) ws s (λ h. h) (derived_ends vs (ValueFor ToBind ∷ Closes EndsWhole ∷ rest) words s d)
derived_ends vs ws words s (a_function_item {ws = rest} d) =
    open_ends words (Function ToItem ∷ rest) ws s (λ h. h) (derived_ends vs (Function ToItem ∷ rest) words s d)
derived_ends vs ws words s _ = tt

went_read : (w : Word) (words : List Word) (ws : List Wanted) (s : State) → AreArranged ws s → forms_last ws ≡ true → is_proper w ≡ true
    → ((ws' : List Wanted) (s' : State) → AreArranged ws' s' → Derives s'.vectors ws' words → forms_last ws' ≡ true → IsReadOrInForm (goes words ws' s'))
    → (x : Step) → step w ws s ≡ x → Went w words x → IsReadOrInForm (after (goes words) w x)
went_read w words ws s arranged last proper ih (Next ws' s') is go =
    ih ws' s' (taken_arranged w ws s arranged ws' s' is) (go proper) (taken_last w ws s arranged ws' s' is last)
went_read w words ws s arranged last proper ih (Refuses f) is go = go

pub derived_goes_on : (words : List Word) (ws : List Wanted) (s : State) → AreArranged ws s → Derives s.vectors ws words → forms_last ws ≡ true → list_all is_proper words ≡ true → IsReadOrInForm (goes words ws s)
unfolding goes
derived_goes_on [] ws s arranged d last proper = derived_ends s.vectors ws [] s d
derived_goes_on (w ∷ words) ws s arranged d last proper =
    let each = and_parts (is_proper w) (list_all is_proper words) proper in
    went_read w words ws s arranged last each.0 (λ ws' s' arranged' d' last'. derived_goes_on words ws' s' arranged' d' last' each.1) (step w ws s) refl
    (derived_goes ws (w ∷ words) s arranged d last)

-- Words of the grammar are read, or refused in a form, by what was declared and bound before or by a limit.
pub derived-read : (words : List Word) → list_all is_proper words ≡ true → IsText words → IsReadOrInForm (outcome_of words)
derived-read words proper d = derived_goes_on words (Forms ∷ []) nothing_read arranged_begun d refl proper

pub text-read : (text : List ℕ) → IsText (words_of text) → IsReadOrInForm (outcome_of (words_of text))
text-read text d = derived-read (words_of text) (words_proper text only_nil (tokens_of text)) d
