use Rattle.std.proofs.Common.{◌≡◌, ℕ, zero, suc, ◌+◌, ◌<◌, ◌≢◌, max, ltb, eqb, List, length, map, get_or, set, replicate, Some, None, Option, refl, sym, ap, ◌∙◌, subst, add-one, arith, get_or-set_other, get_or-set_same}
use Rattle.std.proofs.Math.ListN.{length-set}
use Rattle.std.proofs.lemmas.List.{get_or_read, map-set, get_or-replicate, length-replicate}
use Rattle.std.proofs.lemmas.Bool.{eq-eqb, ne_eqb, lt-ltb, and_right}
use native.Mathlib.Decide.{ℕ_discrete}
use Rattle.model.specs.Partial.{Partial}
use Rattle.model.specs.Nodes.{SearchNode, no_node, node_at}
use Rattle.nodes.specs.declared.node.Node.{Node}
use Rattle.nodes.specs.View.{the_node}
use Rattle.nodes.specs.Hash.{bucket_of}
use Rattle.nodes.specs.Linked.{last_below, node_bucket, Linked}

-- one number more: f sends it to b, or elsewhere

pub last_here : (f : ℕ → ℕ) (b n : ℕ) → 0 < n → f n ≡ b → last_below f b (n + 1) ≡ Some n
unfolding last_below
last_here f b n h e = rw (add-one n, lt-ltb 0 n h, eq-eqb (f n) b e)

pub last_before : (f : ℕ → ℕ) (b n : ℕ) → f n ≢ b → last_below f b (n + 1) ≡ last_below f b n
unfolding last_below
last_before f b n ne = rw (add-one n, and_right (ltb 0 n) (eqb (f n) b) (ne_eqb (f n) b ne))

pub last-same : (f g : ℕ → ℕ) (b n : ℕ) → ((i : ℕ) → 0 < i → i < n → f i ≡ g i) → last_below f b n ≡ last_below g b n
unfolding last_below
last-same f g b zero h = refl
last-same f g b (suc zero) h = refl
last-same f g b (suc (suc n)) h = rw (h (suc n) (omega arith) (omega arith), last-same f g b (suc n) (λ i p l. h i p (omega arith)))

-- no node is linked
pub nothing_linked : (ns : List SearchNode) (heads next : List (Option ℕ)) (m : ℕ) → m ≡ max (length ns) 1
    → heads ≡ replicate m None → next ≡ replicate (length ns) None → Linked ns heads next 1
unfolding last_below
nothing_linked ns heads next m is hs nx =
    let long : length heads ≡ m = ap (λ (l : List (Option ℕ)). length l) hs ∙ length-replicate m None in
    record {
      many = long ∙ is;
      room = ap (λ (l : List (Option ℕ)). length l) nx ∙ length-replicate (length ns) None;
      above = omega arith;
      within = omega arith;
      head = λ b h. ap (λ (l : List (Option ℕ)). get_or l b None) hs ∙ get_or-replicate m b None None (omega arith);
      behind = λ i p h. absurd (omega arith);
    }

-- the first node that is not linked, put before the head of its chain
pub linked_more : (ns : List SearchNode) (heads next : List (Option ℕ)) (n b : ℕ) → Linked ns heads next n → n < length ns
    → b < length heads → b ≡ node_bucket ns (length heads) n
    → (v : Option ℕ) → v ≡ get_or heads b v → Linked ns (set heads b (Some n)) (set next n v) (n + 1)
linked_more ns heads next n b L more within at v read =
    let f : ℕ → ℕ = node_bucket ns (length heads) in
    let many : length (set heads b (Some n)) ≡ length heads = length-set heads b (Some n) in
    let room : length (set next n v) ≡ length next = length-set next n v in
    record {
      many = many ∙ L.many;
      room = room ∙ L.room;
      above = omega arith;
      within = omega arith;
      head = λ a h. rw many (elim (ℕ_discrete a b) [
        | yes e ↦ ap (λ (k : ℕ). get_or (set heads b (Some n)) k None) e ∙ get_or-set_same heads b (Some n) None within
            ∙ sym (last_here f a n L.above (sym at ∙ sym e))
        | no ne ↦ get_or-set_other heads b a (Some n) None ne ∙ L.head a (omega (arith, many))
            ∙ sym (last_before f a n (λ e. ne (sym e ∙ sym at)))
      ]);
      behind = λ i p h. rw many (elim (ℕ_discrete i n) [
        | yes e ↦ ap (λ (k : ℕ). get_or (set next n v) k None) e ∙ get_or-set_same next n v None (omega (arith, L.room))
            ∙ get_or_read heads b v within read None ∙ L.head b within ∙ ap (λ (k : ℕ). last_below f k n) at ∙ ap (λ (k : ℕ). last_below f (f k) k) (sym e)
        | no ne ↦ get_or-set_other next n i v None ne ∙ L.behind i p (omega arith)
      ]);
    }

-- the last linked node, which heads its chain, taken out of it
pub linked_less : (ns : List SearchNode) (heads next : List (Option ℕ)) (n i b : ℕ) → Linked ns heads next n → i + 1 ≡ n → 0 < i
    → b < length heads → b ≡ node_bucket ns (length heads) i
    → (v : Option ℕ) → v ≡ get_or next i v → Linked ns (set heads b v) next i
linked_less ns heads next n i b L last above within at v read =
    let f : ℕ → ℕ = node_bucket ns (length heads) in
    let many : length (set heads b v) ≡ length heads = length-set heads b v in
    record {
      many = many ∙ L.many;
      room = L.room;
      above = above;
      within = omega (arith, L.within);
      head = λ a h. rw many (elim (ℕ_discrete a b) [
        | yes e ↦ ap (λ (k : ℕ). get_or (set heads b v) k None) e ∙ get_or-set_same heads b v None within
            ∙ get_or_read next i v (omega (arith, L.room, L.within)) read None
            ∙ L.behind i above (omega arith) ∙ ap (λ (k : ℕ). last_below f k i) (sym at ∙ sym e)
        | no ne ↦ get_or-set_other heads b a v None ne ∙ L.head a (omega (arith, many))
            ∙ ap (λ (k : ℕ). last_below f a k) (sym last) ∙ last_before f a i (λ e. ne (sym e ∙ sym at))
      ]);
      behind = λ k p h. rw many (L.behind k p (omega arith));
    }

-- a node written that is node 0 or not linked, or holds what it held
linked_set : (ns : List SearchNode) (heads next : List (Option ℕ)) (n i : ℕ) (x : SearchNode) → Linked ns heads next n
    → (0 < i → i < n → x.partial ≡ (node_at ns i).partial) → Linked (set ns i x) heads next n
linked_set ns heads next n i x L kept =
    let f : ℕ → ℕ = node_bucket ns (length heads) in
    let g : ℕ → ℕ = node_bucket (set ns i x) (length heads) in
    let long : length (set ns i x) ≡ length ns = length-set ns i x in
    let same : (k : ℕ) → 0 < k → k < n → f k ≡ g k = λ k p h. ap (λ (s : Partial). bucket_of s (length heads)) (elim (ℕ_discrete k i) [
      | yes e ↦ ap (λ (j : ℕ). (node_at ns j).partial) e ∙ sym (kept (omega arith) (omega arith))
          ∙ sym (ap (λ (j : ℕ). (node_at (set ns i x) j).partial) e ∙ ap (λ (y : SearchNode). y.partial) (get_or-set_same ns i x no_node (omega (arith, L.within))))
      | no ne ↦ sym (ap (λ (y : SearchNode). y.partial) (get_or-set_other ns i k x no_node ne))
    ]) in
    record {
      many = L.many ∙ ap (λ (k : ℕ). max k 1) (sym long);
      room = L.room ∙ sym long;
      above = L.above;
      within = omega (arith, L.within, long);
      head = λ b h. L.head b h ∙ last-same f g b n same;
      behind = λ k p h. L.behind k p h ∙ ap (λ (b : ℕ). last_below f b k) (same k p h) ∙ last-same f g (g k) k (λ j q l. same j q (omega arith));
    }

-- the same in memory
pub linked_put : (nodes : List Node) (heads next : List (Option ℕ)) (n i : ℕ) (x : Node) → Linked (map the_node nodes) heads next n
    → (0 < i → i < n → (the_node x).partial ≡ (node_at (map the_node nodes) i).partial) → Linked (map the_node (set nodes i x)) heads next n
linked_put nodes heads next n i x L kept =
    subst (λ (ns : List SearchNode). Linked ns heads next n) (sym (map-set the_node nodes i x)) (linked_set (map the_node nodes) heads next n i (the_node x) L kept)
