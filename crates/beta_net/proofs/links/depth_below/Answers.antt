use Rattle.std.proofs.Common.{◌≡◌, ◌+◌, List, arith, get_or, ap, sym, ◌∙◌}
use Rattle.beta_net.specs.declared.links.Link.{Link}
use Rattle.beta_net.specs.Linked.{depth_to, depth_in}
use Rattle.beta_net.proofs.Lists.{get_of}
use Rattle.beta_net.proofs.PathLemmas.{depth_least}
use Rattle.beta_net.proofs.links.depth_below.Goals as goal

pub overflow_add-result : goal.overflow_add-result
overflow_add-result c =
    let items = c.args.links.now.list.items in
    let lt = c.requires.within c.in-Some.p c.in-Some.is in
    let is : c.index-list-p.result ≡ get_or items c.in-Some.p c.index-list-p.result = c.index-list-p.is ∙ ap (λ (xs : List Link). get_or xs c.in-Some.p c.index-list-p.result) c.as_slice-list.ensures.value in
    let at = get_of items c.in-Some.p c.index-list-p.result lt is in
    let d = depth_least items c.requires.linked.links (c.in-Some.p + 1) c.in-Some.p c.index-list-p.result (omega arith) at in
    let same = ap (λ (z : Link). z.depth) c.index-list-p.is in
    let small = c.args.links.now.list.small in
    let ok = c.args.links.now.list.ok in
    omega (arith, lt, d, same, small, ok)

pub returns-in-Some : goal.returns-in-Some
returns-in-Some c =
    let items = c.args.links.now.list.items in
    let is : c.index-list-p.result ≡ get_or items c.in-Some.p c.index-list-p.result = c.index-list-p.is ∙ ap (λ (xs : List Link). get_or xs c.in-Some.p c.index-list-p.result) c.as_slice-list.ensures.value in
    let at = get_of items c.in-Some.p c.index-list-p.result (c.requires.within c.in-Some.p c.in-Some.is) is in
    ap (λ (z : Link). z.depth + 1) (sym c.index-list-p.is) ∙ (ap (λ o. depth_in o + 1) (sym at) ∙ ap (λ o. depth_to items o + 1) (sym c.in-Some.is))
