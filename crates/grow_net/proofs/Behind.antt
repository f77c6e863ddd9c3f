-- Nodes that are appended to others: their widths, their children, and their tokens.
use Rattle.std.proofs.Common.{◌≡◌, ℕ, zero, suc, ◌+◌, ◌<◌, ◌≤◌, ◌&&◌, Bool, true, false, cond, List, [], ◌∷◌, ◌++◌, length, map, slice_get, Option, Some, None, option_map, refl, sym, ap, ap₂, ◌∙◌, arith, append-nil, length-append}
use Rattle.std.proofs.lemmas.List.{map-append, length-map}
use Rattle.std.proofs.lemmas.Option.{slice_get_within}
use Rattle.net_base.specs.declared.nodes.Kind.{Kind}
use Rattle.net_base.specs.declared.nodes.Kind.TheVariants.{Join, Negated, Group, Terminal}
use Rattle.net_base.specs.declared.nodes.Node.{Node}
use Rattle.net_base.specs.Sound.{is_parent, child_if, children_below, is_giver, right_if, rights_below, depth_of, depth_above, added_tags, width_above, width_of_node, width_below, left_width, is_join, up_parent, up_node, goes_up}
use Rattle.grow_net.specs.Behind.{kind_behind, node_behind}
use Rattle.grow_net.proofs.Joined.{get_same, get_behind, moved_same, moved_off, less_off}
use Rattle.grow_net.proofs.Before.{AreOrdered}

-- ---- what a node names, as its parent or its giver

abbrev Names : Type 0
Names = Node → ℕ → Bool

abbrev one_if : Names → Option Node → ℕ → ℕ → List ℕ
one_if f None n i = []
one_if f (Some x) n i = cond (f x n) (i ∷ []) []

abbrev below : Names → List Node → ℕ → ℕ → List ℕ
below f nodes zero n = []
below f nodes (suc i) n = below f nodes i n ++ one_if f (slice_get nodes i) n i

abbrev by_parent : Names
by_parent x n = is_parent x.parent n

abbrev by_giver : Names
by_giver x n = is_giver x.kind n

children_are : (nodes : List Node) (i n : ℕ) → children_below nodes i n ≡ below by_parent nodes i n
children_are nodes zero n = refl
children_are nodes (suc i) n = ap₂ (λ (a : List ℕ) (b : List ℕ). a ++ b) (children_are nodes i n) (by (slice_get nodes i))
  where
    by : (o : Option Node) → child_if o n i ≡ one_if by_parent o n i
    by None = refl
    by (Some x) = refl

rights_are : (nodes : List Node) (i n : ℕ) → rights_below nodes i n ≡ below by_giver nodes i n
rights_are nodes zero n = refl
rights_are nodes (suc i) n = ap₂ (λ (a : List ℕ) (b : List ℕ). a ++ b) (rights_are nodes i n) (by (slice_get nodes i))
  where
    by : (o : Option Node) → right_if o n i ≡ one_if by_giver o n i
    by None = refl
    by (Some x) = refl

module _ (N M : List Node) (rules : ℕ) (places : List ℕ) where
  abbrev pub all : List Node
  all = N ++ map (node_behind (length N) rules places) M

  abbrev mv : Node → Node
  mv = node_behind (length N) rules places

  -- the node at a place
  get_mapped : {X Y : Type 0} (f : X → Y) (xs : List X) (n : ℕ) → slice_get (map f xs) n ≡ option_map f (slice_get xs n)
  get_mapped f [] n = refl
  get_mapped f (x ∷ xs) zero = refl
  get_mapped f (x ∷ xs) (suc n) = get_mapped f xs n

  pub new_at : (n : ℕ) → slice_get (N ++ map (node_behind (length N) rules places) M) (length N + n) ≡ option_map (node_behind (length N) rules places) (slice_get M n)
  new_at n = get_behind N (map (node_behind (length N) rules places) M) n ∙ get_mapped (node_behind (length N) rules places) M n

  -- ---- children and rights

  module _ (f : Names) (low : (n p : ℕ) (x : Node) → slice_get N n ≡ Some x → length N ≤ p → f x p ≡ false) (off : (n : ℕ) (x : Node) → n < length N → f (node_behind (length N) rules places x) n ≡ false) (same : (n : ℕ) (x : Node) → f (node_behind (length N) rules places x) (length N + n) ≡ f x n) where
    below_old : (k n : ℕ) → k ≤ length N → below f all k n ≡ below f N k n
    below_old zero n le = refl
    below_old (suc k) n le = ap₂ (λ (a : List ℕ) (o : Option Node). a ++ one_if f o n k) (below_old k n (omega arith)) (get_same N (map (node_behind (length N) rules places) M) k (omega arith))

    none_if : (o : Option Node) (n i : ℕ) → ((x : Node) → o ≡ Some x → f x n ≡ false) → one_if f o n i ≡ []
    none_if None n i h = refl
    none_if (Some x) n i h = ap (λ b. cond b (i ∷ []) []) (h x refl)

    below_none : (k n : ℕ) → length N ≤ n → below f N k n ≡ []
    below_none zero n le = refl
    below_none (suc k) n le = ap₂ (λ (a : List ℕ) (b : List ℕ). a ++ b) (below_none k n le) (none_if (slice_get N k) n k (λ x at. low k n x at le))

    mapped_none : (o : Option Node) (n i : ℕ) → n < length N → one_if f (option_map (node_behind (length N) rules places) o) n i ≡ []
    mapped_none None n i lt = refl
    mapped_none (Some x) n i lt = ap (λ b. cond b (i ∷ []) []) (off n x lt)

    -- an earlier node is named by earlier nodes only
    pub named_old : (j n : ℕ) → n < length N → below f all (length N + j) n ≡ below f N (length N) n
    named_old zero n lt = ap (λ k. below f all k n) (let z : length N + 0 ≡ length N = omega arith in z) ∙ below_old (length N) n (omega arith)
    named_old (suc j) n lt =
        ap (λ k. below f all k n) (let z : length N + suc j ≡ suc (length N + j) = omega arith in z)
        ∙ (ap₂ (λ (a : List ℕ) (o : Option Node). a ++ one_if f o n (length N + j)) (named_old j n lt) (new_at j)
        ∙ (ap (λ (b : List ℕ). below f N (length N) n ++ b) (mapped_none (slice_get M j) n (length N + j) lt) ∙ append-nil (below f N (length N) n)))

    mapped_one : (o : Option Node) (n j : ℕ) → one_if f (option_map (node_behind (length N) rules places) o) (length N + n) (length N + j) ≡ map (λ c. length N + c) (one_if f o n j)
    mapped_one None n j = refl
    mapped_one (Some x) n j = ap (λ b. cond b ((length N + j) ∷ []) []) (same n x) ∙ by (f x n)
      where
        by : (b : Bool) → cond b ((length N + j) ∷ []) [] ≡ map (λ c. length N + c) (cond b (j ∷ []) [])
        by true = refl
        by false = refl

    -- an appended node by appended nodes only
    pub named_new : (j n : ℕ) → below f all (length N + j) (length N + n) ≡ map (λ c. length N + c) (below f M j n)
    named_new zero n =
        ap (λ k. below f all k (length N + n)) (let z : length N + 0 ≡ length N = omega arith in z)
        ∙ (below_old (length N) (length N + n) (omega arith) ∙ below_none (length N) (length N + n) (omega arith))
    named_new (suc j) n =
        ap (λ k. below f all k (length N + n)) (let z : length N + suc j ≡ suc (length N + j) = omega arith in z)
        ∙ (ap₂ (λ (a : List ℕ) (o : Option Node). a ++ one_if f o (length N + n) (length N + j)) (named_new j n) (new_at j)
        ∙ (ap (λ (b : List ℕ). map (λ c. length N + c) (below f M j n) ++ b) (mapped_one (slice_get M j) n j) ∙ sym (map-append (λ c. length N + c) (below f M j n) (one_if f (slice_get M j) n j))))

  parent_off : (o : Option ℕ) (n : ℕ) → n < length N → is_parent (option_map (λ p. length N + p) o) n ≡ false
  parent_off None n lt = refl
  parent_off (Some p) n lt = moved_off (length N) p n lt

  pub parent_same : (o : Option ℕ) (n : ℕ) → is_parent (option_map (λ p. length N + p) o) (length N + n) ≡ is_parent o n
  parent_same None n = refl
  parent_same (Some p) n = moved_same (length N) p n

  giver_off : (k : Kind) (n : ℕ) → n < length N → is_giver (kind_behind (length N) rules k) n ≡ false
  giver_off Join n lt = refl
  giver_off Negated n lt = refl
  giver_off (Group g w m) n lt = moved_off (length N) g n lt
  giver_off (Terminal r) n lt = refl

  giver_same : (k : Kind) (n : ℕ) → is_giver (kind_behind (length N) rules k) (length N + n) ≡ is_giver k n
  giver_same Join n = refl
  giver_same Negated n = refl
  giver_same (Group g w m) n = moved_same (length N) g n
  giver_same (Terminal r) n = refl

  module _ (ord : AreOrdered N) where
    parent_low : (n p : ℕ) (x : Node) → slice_get N n ≡ Some x → length N ≤ p → is_parent x.parent p ≡ false
    parent_low n p x at le = by x.parent refl
      where
        by : (o : Option ℕ) → x.parent ≡ o → is_parent o p ≡ false
        by None e = refl
        by (Some q) e = let a = ord.0 n q x at e in let b = slice_get_within N n x at in less_off q p (omega arith)

    giver_low : (n p : ℕ) (x : Node) → slice_get N n ≡ Some x → length N ≤ p → is_giver x.kind p ≡ false
    giver_low n p x at le = by x.kind refl
      where
        by : (k : Kind) → x.kind ≡ k → is_giver k p ≡ false
        by Join e = refl
        by Negated e = refl
        by (Group g w m) e = let a = ord.1 n g w m x at e in let b = slice_get_within N n x at in less_off g p (omega arith)
        by (Terminal r) e = refl

    many : length (N ++ map (node_behind (length N) rules places) M) ≡ length N + length M
    many = let a = length-append N (map (node_behind (length N) rules places) M) in let b = length-map M (node_behind (length N) rules places) in omega (arith, a, b)

    pub children_old : (n : ℕ) → n < length N → children_below all (length all) n ≡ children_below N (length N) n
    children_old n lt =
        children_are all (length all) n
        ∙ (ap (λ k. below by_parent all k n) many
        ∙ (named_old by_parent parent_low (λ m x l. parent_off x.parent m l) (λ m x. parent_same x.parent m) (length M) n lt ∙ sym (children_are N (length N) n)))

    pub children_new : (n : ℕ) → children_below all (length all) (length N + n) ≡ map (λ c. length N + c) (children_below M (length M) n)
    children_new n =
        children_are all (length all) (length N + n)
        ∙ (ap (λ k. below by_parent all k (length N + n)) many
        ∙ (named_new by_parent parent_low (λ m x l. parent_off x.parent m l) (λ m x. parent_same x.parent m) (length M) n ∙ ap (map (λ c. length N + c)) (sym (children_are M (length M) n))))

    pub rights_old : (n : ℕ) → n < length N → rights_below all (length all) n ≡ rights_below N (length N) n
    rights_old n lt =
        rights_are all (length all) n
        ∙ (ap (λ k. below by_giver all k n) many
        ∙ (named_old by_giver giver_low (λ m x l. giver_off x.kind m l) (λ m x. giver_same x.kind m) (length M) n lt ∙ sym (rights_are N (length N) n)))

    pub rights_new : (n : ℕ) → rights_below all (length all) (length N + n) ≡ map (λ c. length N + c) (rights_below M (length M) n)
    rights_new n =
        rights_are all (length all) (length N + n)
        ∙ (ap (λ k. below by_giver all k (length N + n)) many
        ∙ (named_new by_giver giver_low (λ m x l. giver_off x.kind m l) (λ m x. giver_same x.kind m) (length M) n ∙ ap (map (λ c. length N + c)) (sym (rights_are M (length M) n))))

  -- ---- widths and depths of the appended nodes

  added_same : (k : Kind) → added_tags (kind_behind (length N) rules k) ≡ added_tags k
  added_same Join = refl
  added_same Negated = refl
  added_same (Group g w m) = refl
  added_same (Terminal r) = refl

  pub joins_same : (k : Kind) → is_join (kind_behind (length N) rules k) ≡ is_join k
  joins_same Join = refl
  joins_same Negated = refl
  joins_same (Group g w m) = refl
  joins_same (Terminal r) = refl

  depth_some : (o : Option Node) → depth_of (option_map (node_behind (length N) rules places) o) ≡ depth_of o
  depth_some None = refl
  depth_some (Some x) = refl

  pub depth_new : (o : Option ℕ) → depth_above all (option_map (λ p. length N + p) o) ≡ depth_above M o
  depth_new None = refl
  depth_new (Some p) = ap depth_of (new_at p) ∙ depth_some (slice_get M p)

  module _ (ordM : AreOrdered M) where
    width_below_new : (k j n : ℕ) → length N + n < k → n < j → width_below k all (length N + n) ≡ width_below j M n
    width_below_new zero j n a b = absurd (omega arith)
    width_below_new (suc k) zero n a b = absurd (omega arith)
    width_below_new (suc k) (suc j) n a b = ap (width_of_node (width_below k all)) (new_at n) ∙ by (λ p c d. width_below_new k j p c d) (slice_get M n) refl
      where
        by : ((p : ℕ) → length N + p < k → p < j → width_below k all (length N + p) ≡ width_below j M p) → (o : Option Node) → slice_get M n ≡ o
            → width_of_node (width_below k all) (option_map (node_behind (length N) rules places) o) ≡ width_of_node (width_below j M) o
        by ih None at = refl
        by ih (Some x) at = ap₂ (λ v w. v + w) (up x.parent refl) (added_same x.kind)
          where
            up : (o : Option ℕ) → x.parent ≡ o → width_above (width_below k all) (option_map (λ p. length N + p) o) ≡ width_above (width_below j M) o
            up None e = refl
            up (Some p) e = let c = ordM.0 n p x at e in ih p (omega arith) (omega arith)

    pub left_width_new : (o : Option ℕ) → left_width all (option_map (λ p. length N + p) o) ≡ left_width M o
    left_width_new None = refl
    left_width_new (Some p) = width_below_new (suc (length N + p)) (suc p) p (omega arith) (omega arith)

    pub goes_up_new : (k : ℕ) (o : Option ℕ) (n : ℕ) → goes_up all k (option_map (λ p. length N + p) o) (length N + n) ≡ goes_up M k o n
    goes_up_new zero o n = parent_same o n
    goes_up_new (suc k) o n = ap (up_node (goes_up all k (option_map (λ p. length N + p) o))) (new_at n) ∙ by (λ p. goes_up_new k o p) (slice_get M n)
      where
        by : ((p : ℕ) → goes_up all k (option_map (λ q. length N + q) o) (length N + p) ≡ goes_up M k o p) → (q : Option Node)
            → up_node (goes_up all k (option_map (λ p. length N + p) o)) (option_map (node_behind (length N) rules places) q) ≡ up_node (goes_up M k o) q
        by ih None = refl
        by ih (Some x) = ap₂ (λ a b. a && b) (joins_same x.kind) (up x.parent)
          where
            up : (q : Option ℕ) → up_parent (goes_up all k (option_map (λ p. length N + p) o)) (option_map (λ p. length N + p) q) ≡ up_parent (goes_up M k o) q
            up None = refl
            up (Some p) = ih p
