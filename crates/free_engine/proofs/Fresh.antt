-- The entries of a slot that is fresh are not signed.
use Rattle.std.proofs.Common.{◌≡◌, List, [], ◌∷◌, map, refl, subst, sym, None}
use Rattle.std.specs.List.{All, AllByRecursion}
use Rattle.std.proofs.lemmas.List.Elements.{All-from_recursion}
use Rattle.token_line.specs.declared.line.Entry.{Entry}
use Rattle.free_engine.specs.declared.slots.Slot.{Slot}
use Rattle.free_engine.specs.declared.slots.Slot.TheVariants.{Pool as InPool, Line as InLine}
use Rattle.free_engine.specs.declared.slots.SlotEntry.{SlotEntry}
use Rattle.free_engine.specs.declared.slots.SlotEntry.TheVariants.{OfPool, OfLine}
use Rattle.free_engine.specs.Slots.{IsFresh, entries, signature}

lines_unsigned : (es : List Entry) → AllByRecursion (λ (e : SlotEntry). signature e ≡ None) (map OfLine es)
lines_unsigned [] = tt
lines_unsigned (e ∷ es) = (refl, lines_unsigned es)

pub unsigned : (x : Slot) → IsFresh x → All (λ (e : SlotEntry). signature e ≡ None) (entries x)
unsigned (InPool q) fresh = All-from_recursion (λ (e : SlotEntry). signature e ≡ None) (entries (InPool q)) (subst (λ es. AllByRecursion (λ (e : SlotEntry). signature e ≡ None) (map OfPool es)) (sym fresh) tt)
unsigned (InLine l) fresh = All-from_recursion (λ (e : SlotEntry). signature e ≡ None) (entries (InLine l)) (lines_unsigned l.value.line.entries.items)
