use Rattle.std.proofs.Common.{◌≡◌, ◌+◌, ◌-◌, ◌≤◌, ◌∷◌, ◌++◌, [], List, suc, sym, ap, ◌∙◌, length, take, drop, append_assoc, arith}
use Rattle.ops_tokens.specs.declared.token.Token.{Token}
use Rattle.ops_tokens.specs.Tokens.{spelling}
use Rattle.ops_grammar.specs.declared.words.Keyword.{Keyword}
use Rattle.ops_grammar.specs.declared.words.Keyword.TheVariants as keyword
use Rattle.ops_grammar.specs.declared.words.Region.{Region}
use Rattle.ops_grammar.specs.Words.{keyword_of, followed, region_behind, region_after, pair, joined}
use Rattle.ops_forms.specs.Pairs.{variable_behind}
use Rattle.ops_forms.proofs.Borders.{whole_tokens}
use Rattle.ops_forms.proofs.Joined.{alone, paired, deeper, IsPaired}
use Rattle.ops_forms.proofs.pairs.joined.Goals as goal

pub spelling_of-requires : goal.spelling_of-requires
spelling_of-requires c =
    let lie = rw c.in-Some.ensures.cases.0 at c.tokens.invariant.lie in
    lie 0 c.in-Some.token.now (omega arith)

pub tokens-preserved-in-Some-variable_behind : goal.tokens-preserved-in-Some-variable_behind
tokens-preserved-in-Some-variable_behind c =
    let text = c.args.text.now in
    let r : Region = c.tokens.region in
    let all : List Token = c.tokens.all.items in
    let t : Token = c.in-Some.token.now in
    let u : Token = c.in-Some-variable_behind.variable in
    let after : List Token = c.in-Some.after.now in
    let e : c.tokens.rest.now ≡ t ∷ after = c.in-Some.ensures.cases.0 in
    let made = rw e at c.tokens.invariant.made in
    let fits = rw e at c.tokens.invariant.fits in
    let lie = rw e at c.tokens.invariant.lie in
    let word : c.keyword_of-keyword.result ≡ keyword_of t.kind (spelling text t) = c.keyword_of-keyword.ensures ∙ ap (keyword_of t.kind) c.spelling_of.ensures in
    let next : c.region_behind-next.result ≡ region_after text r t = c.region_behind-next.ensures ∙ ap (region_behind r t.kind) word in
    let p : IsPaired text r t u after = paired text r t u after (ap (λ (k : Keyword). variable_behind r k after) (sym word) ∙ sym c.variable_behind.ensures ∙ c.in-Some-variable_behind.is) in
    let rest : take (length after - 1) (drop 1 after) ≡ p.rest = whole_tokens after 1 ∙ ap (λ (ts : List Token). drop 1 ts) p.first in
    let region : c.followed-region.result ≡ followed (region_after text r t) keyword.Other = c.followed-region.ensures ∙ ap (λ (x : Region). followed x keyword.Other) next in
    let both : c.pair.result ≡ pair t u = c.pair.ensures in
    let items : c.push.new.self.items ≡ all ++ pair t u ∷ [] = c.in_ok-push-in-Some-variable_behind.ensures.items ∙ ap (λ (x : Token). all ++ x ∷ []) both in
    let depth : c.followed-region.result.depth ≤ r.depth + 1 = omega (arith, ap (λ (x : Region). x.depth) region, deeper r t.kind (keyword_of t.kind (spelling text t))) in
    let count : length after ≡ suc (length p.rest) = ap (λ (ts : List Token). length ts) p.first in
    record {
      made =
          made ∙ ap (λ (ts : List Token). all ++ ts) p.made
          ∙ sym (append_assoc all (pair t u ∷ []) (joined text (followed (region_after text r t) keyword.Other) p.rest))
          ∙ ap (λ (ts : List Token). ts ++ joined text (followed (region_after text r t) keyword.Other) p.rest) (sym items)
          ∙ ap (λ (x : Region). c.push.new.self.items ++ joined text x p.rest) (sym region)
          ∙ ap (λ (ts : List Token). c.push.new.self.items ++ joined text c.followed-region.result ts) (sym rest);
      fits = rw rest (omega (arith, fits, depth, count));
      lie = rw rest (λ k d lt. rw p.first at lie (suc (suc k)) d (omega (arith, lt)));
    }

pub tokens-preserved : goal.tokens-preserved
tokens-preserved c =
    let text = c.args.text.now in
    let r : Region = c.tokens.region in
    let all : List Token = c.tokens.all.items in
    let t : Token = c.in-Some.token.now in
    let after : List Token = c.in-Some.after.now in
    let e : c.tokens.rest.now ≡ t ∷ after = c.in-Some.ensures.cases.0 in
    let made = rw e at c.tokens.invariant.made in
    let fits = rw e at c.tokens.invariant.fits in
    let lie = rw e at c.tokens.invariant.lie in
    let word : c.keyword_of-keyword.result ≡ keyword_of t.kind (spelling text t) = c.keyword_of-keyword.ensures ∙ ap (keyword_of t.kind) c.spelling_of.ensures in
    let next : c.region_behind-next.result ≡ region_after text r t = c.region_behind-next.ensures ∙ ap (region_behind r t.kind) word in
    let single : joined text r (t ∷ after) ≡ t ∷ joined text (region_after text r t) after = alone text r t after (ap (λ (k : Keyword). variable_behind r k after) (sym word) ∙ sym c.variable_behind.ensures ∙ c.in-None.is) in
    let items : c.push-in-None.new.self.items ≡ all ++ t ∷ [] = c.in_ok-push-in-None.ensures.items in
    let depth : c.region_behind-next.result.depth ≤ r.depth + 1 = omega (arith, ap (λ (x : Region). x.depth) next, deeper r t.kind (keyword_of t.kind (spelling text t))) in
    record {
      made =
          made ∙ ap (λ (ts : List Token). all ++ ts) single
          ∙ sym (append_assoc all (t ∷ []) (joined text (region_after text r t) after))
          ∙ ap (λ (ts : List Token). ts ++ joined text (region_after text r t) after) (sym items)
          ∙ ap (λ (x : Region). c.push-in-None.new.self.items ++ joined text x after) (sym next);
      fits = omega (arith, fits, depth);
      lie = λ k d lt. lie (suc k) d (omega (arith, lt));
    }
