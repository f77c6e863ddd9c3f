use Rattle.std.proofs.Common.{◌≡◌, ◌+◌, ◌∙◌, ap, sym, drop, take}
use Rattle.std.proofs.lemmas.List.{drop-drop}
use Rattle.ops_io.specs.Input.{InputState}
use Rattle.ops_io.proofs.input.Input.take.Goals as goal

pub returns : goal.returns
returns c =
    let i = c.self.inside in
    let held : drop (i.at + 1) (take i.end i.buffer.items) ≡ drop 1 (drop i.at (take i.end i.buffer.items)) = sym (drop-drop 1 i.at (take i.end i.buffer.items)) in
    let shown : InputState = record { held = drop 1 (drop i.at (take i.end i.buffer.items)); ended = i.ended } in
    ap (λ h. record shown { held = h }) held ∙ ap (λ (s : InputState). record s { held = drop 1 s.held }) c.self.view_is
