use Rattle.std.proofs.Common.{◌≡◌, ◌∷◌, ◌||◌, ◌∙◌, Bool, List, ap, sym, suc, arith}
use Rattle.ops_tokens.specs.declared.token.Token.{Token}
use Rattle.ops_forms.specs.Pairs.{has_hole}
use Rattle.ops_forms.proofs.pairs.has_hole.Goals as goal

pub tokens-preserved : goal.tokens-preserved
tokens-preserved c =
    let text = c.args.text.now in
    let t : Token = c.in-Some.token.now in
    let after : List Token = c.in-Some.after.now in
    let e : c.tokens.rest.now ≡ t ∷ after = c.in-Some.ensures.cases.0 in
    let lie = rw e at c.tokens.invariant.lie in
    record {
      left =
          c.tokens.invariant.left ∙ ap (has_hole text) e
          ∙ ap (λ (b : Bool). b || has_hole text after) (sym c.is_hole.ensures ∙ c.if-is_hole.false);
      lie = λ k d lt. lie (suc k) d (omega (arith, lt));
    }
