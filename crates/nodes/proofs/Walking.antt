use Rattle.std.proofs.Common.{◌≡◌, ℕ, zero, suc, ◌<◌, ◌≤◌, ◌≢◌, min, Bool, true, false, ltb, length, get_or, Some, None, Option, refl, sym, ap, ◌∙◌, subst, arith}
use native.Mathlib.Decide.{ℕ_discrete}
use Rattle.std.proofs.lemmas.Bool.{eq-eqb, ne_eqb, lt-ltb, le-ltb, ltb-true, and_parts, and_right}
use Rattle.std.proofs.Math.Bool.{or-false}
use Rattle.std.proofs.lemmas.List.{get_or_read}
use Rattle.model.specs.Range.{any}
use Rattle.model.specs.Partial.{Partial}
use Rattle.model.specs.Nodes.{node_at, is_held}
use Rattle.model.proofs.Range.{any-on, any-off, any-same}
use Rattle.nodes.specs.declared.table.Table.{Table}
use Rattle.nodes.specs.Meaning.{the_nodes}
use Rattle.nodes.specs.Hash.{bucket_of}
use Rattle.nodes.specs.Linked.{last_below, node_bucket, sought}
use Rattle.nodes.proofs.Hashing.{duplicate_bucket}

-- what the last number below n, 0 apart, that f sends to b is
pub record Last (f : ℕ → ℕ) (b n i : ℕ) : Type 0 where
  pub above : 0 < i
  pub below : i < n
  pub there : f i ≡ b
  pub between : (k : ℕ) → i < k → k < n → f k ≢ b

pub last-some : (f : ℕ → ℕ) (b n i : ℕ) → last_below f b n ≡ Some i → Last f b n i
unfolding last_below
last-some f b zero i e = cc
last-some f b (suc zero) i e = cc
last-some f b (suc (suc n)) i e = elim (ℕ_discrete (f (suc n)) b) [
  | yes q ↦
      let same : suc n ≡ i = let s : Some (suc n) ≡ Some i = rw (lt-ltb 0 (suc n) (omega arith), eq-eqb (f (suc n)) b q) at e in cc in
      record { above = omega arith; below = omega arith; there = ap f (sym same) ∙ q; between = λ k l h. absurd (omega arith) }
  | no ne ↦
      let w = last-some f b (suc n) i (rw (lt-ltb 0 (suc n) (omega arith), ne_eqb (f (suc n)) b ne) at e) in
      record {
        above = w.above;
        below = omega (arith, w.below);
        there = w.there;
        between = λ k l h. elim (ℕ_discrete k (suc n)) [ yes z ↦ (λ y. ne (ap f (sym z) ∙ y)) | no nz ↦ w.between k l (omega arith) ];
      }
]

pub last-none : (f : ℕ → ℕ) (b n : ℕ) → last_below f b n ≡ None → (k : ℕ) → 0 < k → k < n → f k ≢ b
unfolding last_below
last-none f b zero e k p h = absurd (omega arith)
last-none f b (suc zero) e k p h = absurd (omega arith)
last-none f b (suc (suc n)) e k p h = elim (ℕ_discrete (f (suc n)) b) [
  | yes q ↦ (let s : Some (suc n) ≡ None = rw (lt-ltb 0 (suc n) (omega arith), eq-eqb (f (suc n)) b q) at e in cc)
  | no ne ↦ elim (ℕ_discrete k (suc n)) [ yes z ↦ (λ y. ne (ap f (sym z) ∙ y)) | no nz ↦ last-none f b (suc n) (rw (lt-ltb 0 (suc n) (omega arith), ne_eqb (f (suc n)) b ne) at e) k p (omega arith) ]
]

-- if no number from i on passes, those below i decide
any_front : (p : ℕ → Bool) (i n : ℕ) → i ≤ n → ((k : ℕ) → i ≤ k → k < n → p k ≡ false) → any n p ≡ any i p
unfolding any
any_front p i zero l h = ap (λ (k : ℕ). any k p) (let z : zero ≡ i = omega arith in z)
any_front p i (suc n) l h = elim (ℕ_discrete i (suc n)) [
  | yes e ↦ ap (λ (k : ℕ). any k p) (sym e)
  | no ne ↦ rw (h n (omega arith) (omega arith), any_front p i n (omega arith) (λ k u v. h k u (omega arith))) (or-false (any i p))
]

-- how far a walk may go
abbrev pub steps_left : Option ℕ → ℕ
steps_left None = 0
steps_left (Some i) = suc i

steps_within : (f : ℕ → ℕ) (b n : ℕ) (at : Option ℕ) → at ≡ last_below f b n → steps_left at ≤ n
steps_within f b n None e = omega arith
steps_within f b n (Some i) e = let w = last-some f b n i (sym e) in omega (arith, w.below)

-- the bucket of each node of a table
abbrev pub bucket_at : Table → ℕ → ℕ
bucket_at t = node_bucket (the_nodes t) (length t.heads.items)

-- a walk down the chain of s's bucket has come to `at`: the nodes below `left` are left to decide
pub record Walked (t : Table) (used : ℕ) (s : Partial) (at : Option ℕ) : Type 0 where
  pub left : ℕ
  pub within : left ≤ t.linked
  pub last : at ≡ last_below (bucket_at t) (bucket_of s (length t.heads.items)) left
  pub decided : any t.linked (sought (the_nodes t) used s) ≡ any left (sought (the_nodes t) used s)

module _ (t : Table) (used : ℕ) (s : Partial) where
  -- what is sought is not node 0 and lies in the bucket of s
  not_sought : (i : ℕ) → (0 < i → bucket_at t i ≢ bucket_of s (length t.heads.items)) → sought (the_nodes t) used s i ≡ false
  not_sought i ne = go (sought (the_nodes t) used s i) refl
    where
      go : (x : Bool) → sought (the_nodes t) used s i ≡ x → sought (the_nodes t) used s i ≡ false
      go true e =
          let is = and_parts _ _ (and_parts _ _ e).1 in
          absurd (ne (ltb-true 0 i is.0) (duplicate_bucket s (node_at (the_nodes t) i).partial (length t.heads.items) is.1))
      go false e = e

  pub walk_starts : (k : ℕ) → k ≡ bucket_of s (length t.heads.items) → k < length t.heads.items
      → (v : Option ℕ) → v ≡ get_or t.heads.items k v → Walked t used s v
  walk_starts k at h v read = record {
    left = t.linked;
    within = omega arith;
    last = get_or_read t.heads.items k v h read None ∙ t.links.head k h ∙ ap (λ (x : ℕ). last_below (bucket_at t) x t.linked) at;
    decided = refl;
  }

  module _ (at : Option ℕ) (w : Walked t used s at) (i : ℕ) (is : at ≡ Some i) where
    come : Last (bucket_at t) (bucket_of s (length t.heads.items)) w.left i
    come = last-some _ _ _ i (sym w.last ∙ is)

    pub walk_above : 0 < i
    walk_above = come.above

    come_linked : i < t.linked
    come_linked = omega (arith, come.below, w.within)

    pub walk_inside : i < length (the_nodes t)
    walk_inside = omega (arith, come.above, come_linked, t.links.within)

    -- node i is not sought: the walk goes to the node behind it
    pub walk_goes : sought (the_nodes t) used s i ≡ false → (v : Option ℕ) → v ≡ get_or t.next.items i v
        → Walked t used s v × (steps_left v < steps_left at)
    walk_goes not v read =
        let last : v ≡ last_below (bucket_at t) (bucket_of s (length t.heads.items)) i =
        get_or_read t.next.items i v (omega (arith, walk_inside, t.links.room)) read None
        ∙ t.links.behind i come.above come_linked ∙ ap (λ (x : ℕ). last_below (bucket_at t) x i) come.there in (
          record {
            left = i;
            within = omega (arith, come_linked);
            last = last;
            decided = w.decided ∙ any_front (sought (the_nodes t) used s) i w.left (omega (arith, come.below))
                (λ k l u. elim (ℕ_discrete k i) [ yes e ↦ ap (sought (the_nodes t) used s) e ∙ not | no ne ↦ not_sought k (λ p. come.between k (omega arith) u) ]);
          },
          subst (λ (x : Option ℕ). steps_left v < steps_left x) (sym is) (omega (arith, steps_within _ _ i v last)),
        )

  sought_held : min used (length (the_nodes t)) ≤ t.linked → any t.linked (sought (the_nodes t) used s) ≡ is_held (the_nodes t) used s
  unfolding is_held
  sought_held h =
      any_front (sought (the_nodes t) used s) (min used (length (the_nodes t))) t.linked h
      (λ k l u. elim (ℕ_discrete k 0) [
        | yes e ↦ ap (sought (the_nodes t) used s) e ∙ and_right (ltb 0 used) _ refl
        | no ne ↦ rw (le-ltb k used (omega (arith, t.links.within)))
      ])
      ∙ any-same (min used (length (the_nodes t))) _ _ (λ k l. rw (lt-ltb k used (omega arith)))

  pub walk_finds : min used (length (the_nodes t)) ≤ t.linked → (at : Option ℕ) (w : Walked t used s at) (i : ℕ) → at ≡ Some i → sought (the_nodes t) used s i ≡ true
      → true ≡ is_held (the_nodes t) used s
  walk_finds h at w i is e = sym (any-on t.linked i (sought (the_nodes t) used s) (come_linked at w i is) e) ∙ sought_held h

  pub walk_ends : min used (length (the_nodes t)) ≤ t.linked → Walked t used s None → false ≡ is_held (the_nodes t) used s
  walk_ends h w =
      sym (any-off w.left (sought (the_nodes t) used s) (λ k l. not_sought k (λ p. last-none _ _ w.left (sym w.last) k p l)))
      ∙ sym w.decided ∙ sought_held h
