-- Known bytes that grow twice, and columns that are counted twice.
use Rattle.std.proofs.Common.{◌≡◌, ℕ, List, [], ◌∷◌, ◌++◌, Option, Vec, Some, None, IfSome, refl, ap, append_assoc, sym, subst, ◌∙◌, take, drop, length, length-append, get_or, ◌+◌, ◌-◌, ◌<◌, ◌≤◌, arith}
use Rattle.std.proofs.lemmas.List.{take_rest, drop_more, append-nil, take-append-drop}
use Rattle.std.proofs.Math.Seq.{take-add}
use Rattle.std.specs.Io.KnownBytes.{append_known, Consumes, IsAtEnd}
use Rattle.std.specs.declared.alloc.Global.{Global}
use Rattle.ops_io.specs.Outside.{GrewByPrefix, IsWhole}
use Rattle.ops_io.specs.Output.{PutsOut, column_after, next_column}

pub append_known-twice : (k : Option (List ℕ)) (a b : List ℕ) → append_known (append_known k a) b ≡ append_known k (a ++ b)
append_known-twice None a b = refl
append_known-twice (Some xs) a b = ap Some (append_assoc xs a b)

pub append_known-nothing : (k : Option (List ℕ)) → append_known k [] ≡ k
append_known-nothing None = refl
append_known-nothing (Some xs) = ap Some (append-nil xs)

-- Two puts are one.
pub puts_twice : (k m n : Option (List ℕ)) (a b c x y : List ℕ) → PutsOut k m a b x → PutsOut m n b c y → PutsOut k n a c (x ++ y)
puts_twice k m n a b c x y p q =
    (p.0 ++ q.0, (sym (append_assoc a x y) ∙ ap (λ w. w ++ y) p.1 ∙ append_assoc p.0 b y ∙ ap (λ w. p.0 ++ w) q.1 ∙ sym (append_assoc p.0 q.0 c)), (q.2 ∙ ap (λ w. append_known w q.0) p.2 ∙ append_known-twice k p.0 q.0))

-- After a put, a prefix of what is held and more is a prefix of it all.
pub prefix_after : (k m n : Option (List ℕ)) (a b x y : List ℕ) → PutsOut k m a b x → GrewByPrefix m n (b ++ y) → GrewByPrefix k n (a ++ (x ++ y))
prefix_after k m n a b x y p q =
    (p.0 ++ q.0, q.1, (sym (append_assoc a x y) ∙ ap (λ w. w ++ y) p.1 ∙ append_assoc p.0 b y ∙ ap (λ w. p.0 ++ w) q.2 ∙ sym (append_assoc p.0 q.0 q.1)), (q.3 ∙ ap (λ w. append_known w q.0) p.2 ∙ append_known-twice k p.0 q.0))

-- A prefix of some bytes is a prefix of these and more.
pub prefix_more : (k n : Option (List ℕ)) (x y : List ℕ) → GrewByPrefix k n x → GrewByPrefix k n (x ++ y)
prefix_more k n x y q = (q.0, q.1 ++ y, (ap (λ w. w ++ y) q.2 ∙ append_assoc q.0 q.1 y), q.3)

-- One write more of a list that is written from its front.
pub write_step : (k m n : Option (List ℕ)) (xs : List ℕ) (i j : ℕ) → m ≡ append_known k (take i xs) → n ≡ append_known m (take j (take (length xs - i) (drop i xs))) → n ≡ append_known k (take (i + j) xs)
write_step k m n xs i j p q =
    rw take-add (q ∙ ap (λ w. append_known m (take j w)) (take_rest xs i) ∙ ap (λ w. append_known w (take j (drop i xs))) p ∙ append_known-twice k (take i xs) (take j (drop i xs)))

-- The column after some bytes and more.
pub column-append : (column : ℕ) (xs ys : List ℕ) → column_after column (xs ++ ys) ≡ column_after (column_after column xs) ys
column-append column [] ys = refl
column-append column (x ∷ xs) ys = column-append (next_column column x) xs ys

-- An LF begins a line: only the bytes past it count.
pub column_past_lf : (column : ℕ) (xs : List ℕ) (i at : ℕ) → at ≡ i + 1 → i < length xs → get_or xs i 0 ≡ 10 → column_after column xs ≡ column_after 0 (drop at xs)
column_past_lf column xs i at e lt lf =
    let split : take i xs ++ (10 ∷ drop (i + 1) xs) ≡ xs = ap (λ b. take i xs ++ (b ∷ drop (i + 1) xs)) (sym lf) ∙ ap (λ w. take i xs ++ w) (sym (drop_more xs i 0 lt)) ∙ take-append-drop i xs in
    ap (column_after column) (sym split) ∙ column-append column (take i xs) (10 ∷ drop (i + 1) xs) ∙ ap (λ n. column_after 0 (drop n xs)) (sym e)

-- A reader that gave these bytes and is at its end had no others.
pub whole_at_end : (a b d : Option (List ℕ)) (v : Vec ℕ Global) (n room : ℕ) (buf : List ℕ) → n ≡ 0 → Consumes a b v.items
    → Consumes b d (take n buf) → IsAtEnd d → length v.items ≤ room → IfSome a (λ bytes. IsWhole bytes room (Some v))
whole_at_end None b d v n room buf none p q e h = tt
whole_at_end (Some x) None d v n room buf none p q e h = absurd p
whole_at_end (Some x) (Some y) None v n room buf none p q e h = absurd q
whole_at_end (Some x) (Some y) (Some z) v n room buf none p q e h =
    let all : x ≡ v.items = p ∙ ap (λ w. v.items ++ w) (q ∙ ap (λ k. take k buf ++ z) none ∙ e) ∙ append-nil v.items in
    (sym all, subst (λ w. length w ≤ room) (sym all) h)

-- A reader that gave more than the room had more.
pub more_than_room : (a b d : Option (List ℕ)) (text piece : List ℕ) (n room : ℕ) → n ≡ length piece → Consumes a b text → Consumes b d piece
    → room - length text < n → length text ≤ room → IfSome a (λ bytes. IsWhole bytes room None)
more_than_room None b d text piece n room long p q less h = tt
more_than_room (Some x) None d text piece n room long p q less h = absurd p
more_than_room (Some x) (Some y) None text piece n room long p q less h = absurd q
more_than_room (Some x) (Some y) (Some z) text piece n room long p q less h =
    omega (arith, ap length p, ap length q, length-append text y, length-append piece z, long, less, h)

pub ruleset known = (append_known-twice, append_known-nothing, take-add, take-append-drop)
