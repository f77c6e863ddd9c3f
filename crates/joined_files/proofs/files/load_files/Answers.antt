use Rattle.std.proofs.Common.{◌≡◌, ◌+◌, ◌<◌, ◌≤◌, ◌∙◌, List, [], length, get_or, Some, sym, subst, arith}
use Rattle.std.proofs.lemmas.Bool.{false≢true}
use Rattle.std.proofs.lemmas.List.{length-map}
use Rattle.std.proofs.lemmas.Result.{err_from_is_err_and}
use Rattle.joined_files.specs.declared.parts.Part.{Part}
use Rattle.ops_jobs.specs.Words.{word_bytes}
use Rattle.joined_files.proofs.Contents.{contents_any}
use Rattle.joined_files.proofs.Loads.{Loaded, name_is, told_still, asked_more, loaded_more, all_come, none_comes, parts_are, ok_of, asked_so_far}
use Rattle.joined_files.proofs.files.load_files.Goals as goal

pub returns-in_err-add_file-clause-fault : goal.returns-in_err-add_file-clause-fault
returns-in_err-add_file-clause-fault g c =
    let names = word_bytes c.args.names.now in
    let i = c.loop-name.name-index in
    let name = c.as_str.result.now in
    let within : i < length names = simp length-map (omega arith) in
    let is : name ≡ get_or names i [] = name_is c.args.names.now i c.name-item.result name (omega arith) c.name-item.is c.as_str.ensures.value in
    let p = err_from_is_err_and c.from_residual.result c.from_residual.ensures.1 in
    rw (p.1, p.2)
    (none_comes (g.H.Shelf.told c.args.shelf.now) names (g.H.Shelf.names c.args.shelf.now) i c.loop-name.text.items c.loop-name.parts.items c.loop-name.invariant.loaded within name is (g.H.Shelf.names c.loop-name.shelf) _ c.loop-name.invariant.names
    Unit c.in_err-add_file.field-0.0 _ _ _ _ _ (c.loop-name.invariant.told name) c.loop-name.invariant.faults c.in_err-add_file.ensures.adds c.in_err-add_file.ensures.cause c.in_err-add_file.ensures.names)

pub returns-in_err-add_file-clause-names : goal.returns-in_err-add_file-clause-names
returns-in_err-add_file-clause-names g c =
    let names = word_bytes c.args.names.now in
    let i = c.loop-name.name-index in
    let name = c.as_str.result.now in
    let within : i < length names = simp length-map (omega arith) in
    let is : name ≡ get_or names i [] = name_is c.args.names.now i c.name-item.result name (omega arith) c.name-item.is c.as_str.ensures.value in
    let p = err_from_is_err_and c.from_residual.result c.from_residual.ensures.1 in
    rw p.1
    (asked_so_far (g.H.Shelf.told c.args.shelf.now) names (g.H.Shelf.names c.args.shelf.now) i c.loop-name.text.items c.loop-name.parts.items c.loop-name.invariant.loaded within name is (g.H.Shelf.names c.loop-name.shelf) _ c.loop-name.invariant.names
    Unit c.in_err-add_file.field-0.0 c.in_err-add_file.ensures.names)

pub returns-then-is_err-clause-names : goal.returns-then-is_err-clause-names
returns-then-is_err-clause-names g c =
    let names = word_bytes c.args.names.now in
    let i = c.loop-name.name-index in
    let within : i ≤ length names = simp length-map (omega arith) in
    record { loads = i; within = within; names = c.loop-name.invariant.names; all_of_them = λ e. absurd (false≢true e) }

pub returns-then-is_err-clause-fault : goal.returns-then-is_err-clause-fault
returns-then-is_err-clause-fault g c = contents_any (g.H.Shelf.told c.args.shelf.now) (word_bytes c.args.names.now) _ (λ cs. tt)

pub loop-name-preserved : goal.loop-name-preserved
loop-name-preserved g c =
    let told = g.H.Shelf.told c.args.shelf.now in
    let names = word_bytes c.args.names.now in
    let i = c.loop-name.name-index in
    let name = c.as_str.result.now in
    let within : i < length names = simp length-map (omega arith) in
    let is : name ≡ get_or names i [] = name_is c.args.names.now i c.name-item.result name (omega arith) c.name-item.is c.as_str.ensures.value in
    let added = c.in_ok-add_file.ensures.adds in
    let known = told_still told (g.H.Shelf.told c.loop-name.shelf) name (Some added.0) c.loop-name.invariant.told added.1 in
    let pushed = ok_of _ c.push_part.result c.push_part.ensures (sym c.is_err.ensures.value ∙ c.if-is_err.false) in
    let size : c.len.result ≡ length c.loop-name.text.items = omega (arith, c.len.ensures, c.loop-name.text.ok.0) in
    let parts = parts_are c.loop-name.parts.items c.push_part.new.parts.items c.loop-name.text.items c.len.result pushed size in
    let L : List Part → Type 0 = λ ps. Loaded told names (i + 1) c.add_file.new.text.items ps in
    record {
      loaded = subst L (sym parts)
          (loaded_more told names i c.loop-name.text.items c.loop-name.parts.items c.loop-name.invariant.loaded within name is added.0 c.add_file.new.text.items known added.2 added.3);
      fits = omega (arith, added.3, c.add_file.new.text.ok.0);
      told = λ n. c.in_ok-add_file.ensures.told n ∙ c.loop-name.invariant.told n;
      faults = c.in_ok-add_file.ensures.cause ∙ c.loop-name.invariant.faults;
      names = asked_more _ _ _ names i name c.loop-name.invariant.names c.in_ok-add_file.ensures.names within is;
    }

pub returns-clause-text : goal.returns-clause-text
returns-clause-text g c =
    let names = word_bytes c.args.names.now in
    let all : length names ≤ c.loop-name.name-index = simp length-map (omega arith) in
    all_come (g.H.Shelf.told c.args.shelf.now) names _ c.loop-name.name-index c.loop-name.text.items c.loop-name.parts.items c.loop-name.invariant.loaded _ _ _ all c.loop-name.invariant.faults
