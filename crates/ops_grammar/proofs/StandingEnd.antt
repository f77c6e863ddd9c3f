-- A fault that a text has stands in it: at a word, or where its words end.
use Rattle.std.proofs.Common.{◌≡◌, ℕ, true, false, List, [], ◌∷◌, length, refl, sym, ap, subst, ◌∙◌, inl, inr, Option, Some, None, Result, Ok, Err, Bool, cond, nat_lt}
use Rattle.std.proofs.lemmas.Bool.{ltb-true}
use Rattle.ops_base.specs.declared.endings.Fault.{Fault}
use Rattle.ops_base.specs.declared.endings.Fault.TheVariants as fault
use Rattle.ops_base.specs.Names.{Spellings, only_nil}
use Rattle.ops_base.specs.Valid.{longest_list}
use Rattle.ops_tokens.specs.declared.token.LexFault.{LexFault}
use Rattle.ops_grammar.specs.Words.{lexed, names_from, tokens_of}
use Rattle.ops_grammar.specs.Grammar.{Outcome, Forms, nothing_read}
use Rattle.ops_grammar.specs.Derivation.{IsText}
use Rattle.ops_grammar.specs.Reads.{Read, Placed, verdict, reads, cut_off, between_forms, read_tokens, stands_at}
use Rattle.ops_grammar.specs.Standing.{words_of, outcome_of, IsTaken, IsReadOrInForm, StandsAtWord, StandsAtEnd, Stands}
use Rattle.ops_grammar.proofs.Arranged.{arranged_begun}
use Rattle.ops_grammar.proofs.Completed.{completed}
use Rattle.ops_grammar.proofs.Reached.{taken_reached, derives_before}
use Rattle.ops_grammar.proofs.Standing.{stands_at_word, text-read, read_derives}

-- which fault stands where the words end
record EndsWith (text : List ℕ) (p : Placed) : Type 0 where
  in_a_form : ¬ IsText (words_of text) → p ≡ cut_off (length text) (lexed text).stop
  between : IsText (words_of text) → (f : LexFault) × ((lexed text).stop ≡ Some f) × (p ≡ between_forms f)

-- words that end in a form are no text
open_no_text : (text : List ℕ) (f : Fault) → outcome_of (words_of text) ≡ Err (f, None) → ¬ IsText (words_of text)
open_no_text text f is d = subst IsReadOrInForm is (text-read text d)

verdict_ends : (text : List ℕ) (o : Outcome) (names : Spellings) (stop : Option LexFault) (p : Placed) → (lexed text).stop ≡ stop → outcome_of (words_of text) ≡ o → IsTaken o → verdict (length text) names stop o ≡ Err p → EndsWith text p
verdict_ends text (Err (f, Some w)) names stop p stops is taken e = absurd taken
verdict_ends text (Err (f, None)) names stop p stops is taken e =
    let same : cut_off (length text) stop ≡ p = cc in
    record { in_a_form = λ no. sym same ∙ ap (cut_off (length text)) (sym stops); between = λ d. absurd (open_no_text text f is d) }
verdict_ends text (Ok s) names (Some f) p stops is taken e =
    let same : between_forms f ≡ p = cc in
    record { in_a_form = λ no. absurd (no (read_derives (words_of text) (Forms ∷ []) nothing_read s arranged_begun is)); between = λ d. (f, stops, sym same) }
verdict_ends text (Ok s) names None p stops is taken e = absurd (cc)

stands_at_end : (text : List ℕ) (p : Placed) → IsTaken (outcome_of (words_of text)) → EndsWith text p → StandsAtEnd text p
stands_at_end text p taken e =
    let r = taken_reached (words_of text) (Forms ∷ []) nothing_read taken in
    let c = completed r.1.vectors r.0 in
    record { all_taken = taken; goes_on = (c.0, derives_before r.0 r.1 (words_of text) (Forms ∷ []) nothing_read r.2 arranged_begun c.0 c.1); in_a_form = e.in_a_form; between = e.between }

-- ---- the law

verdict_stands : (text : List ℕ) (o : Outcome) (names : Spellings) (p : Placed) → outcome_of (words_of text) ≡ o → verdict (length text) names (lexed text).stop o ≡ Err p → Stands text p
verdict_stands text (Err (f, Some w)) names p is e =
    let same : record { fault = f; at = stands_at f w } ≡ p = cc in inl (subst (StandsAtWord text) same (stands_at_word text f w is))
verdict_stands text (Err (f, None)) names p is e =
    inr (inl (stands_at_end text p (subst IsTaken (sym is) tt) (verdict_ends text (Err (f, None)) names (lexed text).stop p refl is tt e)))
verdict_stands text (Ok s) names p is e =
    inr (inl (stands_at_end text p (subst IsTaken (sym is) tt) (verdict_ends text (Ok s) names (lexed text).stop p refl is tt e)))

fault_by_length : (text : List ℕ) (p : Placed) (long : Bool) → nat_lt longest_list (length text) ≡ long
    → (let x : Result Read Placed = cond long (Err (record { fault = fault.TooLong; at = 0 })) (read_tokens text (lexed text).stop (tokens_of text)) in x ≡ Err p) → Stands text p
fault_by_length text p true is e = let same : record { fault = fault.TooLong; at = 0 } ≡ p = cc in inr (inr (ltb-true _ _ is, sym same))
fault_by_length text p false is e =
    verdict_stands text (outcome_of (words_of text)) (names_from text only_nil (tokens_of text)) p refl e

-- Where a text has a fault, the fault stands there.
pub fault-stands : (text : List ℕ) (p : Placed) → reads text ≡ Err p → Stands text p
unfolding reads
fault-stands text p e = fault_by_length text p (nat_lt longest_list (length text)) refl e
