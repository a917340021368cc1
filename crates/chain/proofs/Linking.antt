use Rattle.std.proofs.Common.{◌≡◌, ℕ, zero, suc, ◌+◌, ◌-◌, ◌<◌, ◌≤◌, true, false, cond, eqb, List, ◌∷◌, ◌++◌, length, get_or, take, drop, set, sym, refl, ap, ◌∙◌, subst, le_of_suc-le-suc, not-suc-le-zero, add-one, arith, length-set, take-append-drop, get_or-set_other, get_or-set_same}
use native.Mathlib.Decide.{dec_lt}
use Rattle.std.proofs.lemmas.List.{map-append}
use Rattle.bag.specs.Bag.{insert, rest}
use Rattle.queue.specs.declared.entry.Entry.{Entry}
use Rattle.chain.specs.declared.cell.Cell.{Cell}
use Rattle.queue.specs.Entries.{entry_before}
use Rattle.chain.specs.Cells.{blank, after, entry_at, onward, walk, entries_at, occurs, numbers, Apart}
use Rattle.chain.proofs.Walks.{once-here, occurs-append, walk-other, entries-other, entries-same, onward-met}

-- a number that is met is that of a cell
met-inside : (xs : List Cell) (h f n x : ℕ) → Apart xs h f n → 1 ≤ occurs x (numbers xs h f n) → x < length xs
met-inside xs h f n x was met = elim (dec_lt x (length xs)) [ yes p ↦ p | no p ↦ absurd (omega (arith, was.inside x (omega (arith, p)))) ]

pub onward-inside : (xs : List Cell) (h f n k : ℕ) → Apart xs h f n → k < n → onward xs k h < length xs
onward-inside xs h f n k was lt = met-inside xs h f n (onward xs k h) was (omega (arith, occurs-append (onward xs k h) (walk xs n h) (walk xs (length xs - n) f), onward-met xs k n h lt))

-- the first cell is given up
module _ (xs : List Cell) (h f m : ℕ) (was : Apart xs h f (suc m)) where
  abbrev freed : List Cell
  freed = set xs h (record { entry = entry_at xs h; next = f })

  len : length freed ≡ length xs
  len = length-set xs h (record { entry = entry_at xs h; next = f })

  split : (x : ℕ) → occurs x (numbers xs h f (suc m)) ≡ occurs x (walk xs (suc m) h) + occurs x (walk xs (length xs - suc m) f)
  split x = occurs-append x (walk xs (suc m) h) (walk xs (length xs - suc m) f)

  gone : occurs h (walk xs m (after xs h)) + occurs h (walk xs (length xs - suc m) f) ≡ 0
  gone = omega (arith, was.once h, split h, once-here h h refl)

  used : walk freed m (after xs h) ≡ walk xs m (after xs h)
  used = walk-other xs h (record { entry = entry_at xs h; next = f }) m (after xs h) (omega (arith, gone))

  spare : walk freed (length freed - m) h ≡ h ∷ walk xs (length xs - suc m) f
  spare =
      let n : length freed - m ≡ suc (length xs - suc m) = omega (arith, len, was.within) in
      let nx : after freed h ≡ f = ap (λ (k : Cell). k.next) (get_or-set_same xs h (record { entry = entry_at xs h; next = f }) blank (onward-inside xs h f (suc m) 0 was (omega arith))) in
      ap (λ (k : ℕ). walk freed k h) n ∙ ap (λ (l : List ℕ). h ∷ l) (ap (walk freed (length xs - suc m)) nx ∙ walk-other xs h (record { entry = entry_at xs h; next = f }) (length xs - suc m) f (omega (arith, gone)))

  counted : (x : ℕ) → occurs x (numbers freed (after xs h) h m) ≡ occurs x (numbers xs h f (suc m))
  counted x =
      let l : numbers freed (after xs h) h m ≡ walk xs m (after xs h) ++ (h ∷ walk xs (length xs - suc m) f) = (λ t. used t ++ spare t) in
      ap (occurs x) l ∙ omega (arith, occurs-append x (walk xs m (after xs h)) (h ∷ walk xs (length xs - suc m) f), split x)

  pub taken-apart : Apart freed (after xs h) h m
  taken-apart = record { within = omega (arith, was.within, len); once = λ x. omega (arith, counted x, was.once x); inside = λ x p. counted x ∙ was.inside x (omega (arith, len)) }

  pub taken-chain : entries_at freed (walk freed m (after xs h)) ≡ rest (entries_at xs (walk xs (suc m) h))
  taken-chain = ap (entries_at freed) used ∙ entries-other xs h (record { entry = entry_at xs h; next = f }) (walk xs m (after xs h)) (omega (arith, gone))

insert-front : (xs : List Cell) (e : Entry) (n h : ℕ) → (0 < n → entry_before (entry_at xs h) e ≡ false) → insert entry_before e (entries_at xs (walk xs n h)) ≡ e ∷ entries_at xs (walk xs n h)
insert-front xs e zero h s = refl
insert-front xs e (suc n) h s = let p = s (omega arith) in simp p

-- where a cell is free
module _ (xs : List Cell) (h f n : ℕ) (was : Apart xs h f n) (room : n < length xs) where
  halves : (x : ℕ) → occurs x (numbers xs h f n) ≡ occurs x (walk xs n h) + (cond (eqb x f) 1 0 + occurs x (walk xs (length xs - suc n) (after xs f)))
  halves x =
      let s : length xs - n ≡ suc (length xs - suc n) = omega arith in
      omega (arith, occurs-append x (walk xs n h) (walk xs (length xs - n) f), ap (λ (k : ℕ). occurs x (walk xs k f)) s)

  pub free-inside : f < length xs
  free-inside = met-inside xs h f n f was (omega (arith, halves f, once-here f f refl))

  fresh : occurs f (walk xs n h) + occurs f (walk xs (length xs - suc n) (after xs f)) ≡ 0
  fresh = omega (arith, was.once f, halves f, once-here f f refl)

  -- it becomes the head
  module _ (e : Entry) where
    abbrev fronted : List Cell
    fronted = set xs f (record { entry = e; next = h })

    front-used : walk fronted (suc n) f ≡ f ∷ walk xs n h
    front-used =
        let nx : after fronted f ≡ h = ap (λ (k : Cell). k.next) (get_or-set_same xs f (record { entry = e; next = h }) blank free-inside) in
        ap (λ (l : List ℕ). f ∷ l) (ap (walk fronted n) nx ∙ walk-other xs f (record { entry = e; next = h }) n h (omega (arith, fresh)))

    front-spare : walk fronted (length fronted - suc n) (after xs f) ≡ walk xs (length xs - suc n) (after xs f)
    front-spare =
        ap (λ (k : ℕ). walk fronted (k - suc n) (after xs f)) (length-set xs f (record { entry = e; next = h }))
        ∙ walk-other xs f (record { entry = e; next = h }) (length xs - suc n) (after xs f) (omega (arith, fresh))

    front-counted : (x : ℕ) → occurs x (numbers fronted f (after xs f) (suc n)) ≡ occurs x (numbers xs h f n)
    front-counted x =
        let l : numbers fronted f (after xs f) (suc n) ≡ (f ∷ walk xs n h) ++ walk xs (length xs - suc n) (after xs f) = (λ t. front-used t ++ front-spare t) in
        ap (occurs x) l ∙ omega (arith, occurs-append x (f ∷ walk xs n h) (walk xs (length xs - suc n) (after xs f)), halves x)

    pub front-apart : Apart fronted f (after xs f) (suc n)
    front-apart =
        let l = length-set xs f (record { entry = e; next = h }) in
        record { within = omega arith; once = λ x. omega (arith, front-counted x, was.once x); inside = λ x p. front-counted x ∙ was.inside x (omega arith) }

    pub front-chain : (0 < n → entry_before (entry_at xs h) e ≡ false) → entries_at fronted (walk fronted (suc n) f) ≡ insert entry_before e (entries_at xs (walk xs n h))
    front-chain s =
        let a : entry_at fronted f ≡ e = ap (λ (k : Cell). k.entry) (get_or-set_same xs f (record { entry = e; next = h }) blank free-inside) in
        let b : entries_at fronted (walk xs n h) ≡ entries_at xs (walk xs n h) = entries-other xs f (record { entry = e; next = h }) (walk xs n h) (omega (arith, fresh)) in
        ap (entries_at fronted) front-used ∙ (λ t. a t ∷ b t) ∙ sym (insert-front xs e n h s)

-- a fresh cell f between the cell `prev` and the cell `next`
module _ (xs : List Cell) (f prev next : ℕ) (e : Entry) where
  abbrev new : Cell
  new = record { entry = e; next = next }

  abbrev kept : Cell
  kept = record { entry = entry_at xs prev; next = f }

  abbrev pub spliced : List Cell
  spliced = set (set xs f new) prev kept

module _ (xs : List Cell) (f prev next : ℕ) (e : Entry) (f-in : f < length xs) (p-in : prev < length xs) (apart : f ≡ prev → ⊥) where
  still : (n at : ℕ) → occurs f (walk xs n at) ≡ 0 → occurs prev (walk xs n at) ≡ 0 → walk (spliced xs f prev next e) n at ≡ walk xs n at
  still n at p q =
      let one = walk-other xs f (new xs f prev next e) n at p in
      walk-other (set xs f (new xs f prev next e)) prev (kept xs f prev next e) n at (ap (occurs prev) one ∙ q) ∙ one

  at-prev : get_or (spliced xs f prev next e) prev blank ≡ (kept xs f prev next e)
  at-prev = get_or-set_same (set xs f (new xs f prev next e)) prev (kept xs f prev next e) blank (omega (arith, length-set xs f (new xs f prev next e)))

  at-fresh : get_or (spliced xs f prev next e) f blank ≡ (new xs f prev next e)
  at-fresh = get_or-set_other (set xs f (new xs f prev next e)) prev f (kept xs f prev next e) blank apart ∙ get_or-set_same xs f (new xs f prev next e) blank f-in

  at_rest : (x : ℕ) → (x ≡ f → ⊥) → (x ≡ prev → ⊥) → get_or (spliced xs f prev next e) x blank ≡ get_or xs x blank
  at_rest x n m = get_or-set_other (set xs f (new xs f prev next e)) prev x (kept xs f prev next e) blank m ∙ get_or-set_other xs f x (new xs f prev next e) blank n

  splices : (j n at : ℕ) → j < n → prev ≡ onward xs j at → next ≡ onward xs (suc j) at → occurs f (walk xs n at) ≡ 0 → ((x : ℕ) → occurs x (walk xs n at) ≤ 1)
      → walk (spliced xs f prev next e) (suc n) at ≡ take (suc j) (walk xs n at) ++ f ∷ drop (suc j) (walk xs n at)
  splices j zero at lt p q none once = absurd (not-suc-le-zero lt)
  splices zero (suc n) at lt p q none once =
      let a : after (spliced xs f prev next e) at ≡ f = ap (after (spliced xs f prev next e)) (sym p) ∙ ap (λ (k : Cell). k.next) at-prev in
      let b : after (spliced xs f prev next e) f ≡ next = ap (λ (k : Cell). k.next) at-fresh in
      let tail : walk (spliced xs f prev next e) n next ≡ walk xs n (after xs at) = ap (walk (spliced xs f prev next e) n) q ∙ still n (after xs at) (omega arith) (omega (arith, once prev, once-here prev at p)) in
      ap (λ (l : List ℕ). at ∷ l) (ap (walk (spliced xs f prev next e) (suc n)) a ∙ ap (λ (l : List ℕ). f ∷ l) (ap (walk (spliced xs f prev next e) n) b ∙ tail))
  splices (suc j) (suc n) at lt p q none once =
      let met : 1 ≤ occurs prev (walk xs n (after xs at)) = subst (λ (x : ℕ). 1 ≤ occurs x (walk xs n (after xs at))) (sym p) (onward-met xs j n (after xs at) (le_of_suc-le-suc lt)) in
      let n₁ : at ≡ f → ⊥ = λ u. let s = once-here f at (sym u) in omega arith in
      let n₂ : at ≡ prev → ⊥ = λ u. let s = once-here prev at (sym u) in omega (arith, once prev) in
      ap (λ (l : List ℕ). at ∷ l) (ap (walk (spliced xs f prev next e) (suc n)) (ap (λ (k : Cell). k.next) (at_rest at n₁ n₂))
      ∙ splices j n (after xs at) (le_of_suc-le-suc lt) p q (omega arith) (λ x. omega (arith, once x)))

  same_entries : (is : List ℕ) → occurs f is ≡ 0 → entries_at (spliced xs f prev next e) is ≡ entries_at xs is
  same_entries is h =
      let d : entry_at (set xs f (new xs f prev next e)) prev ≡ entry_at xs prev = ap (λ (k : Cell). k.entry) (get_or-set_other xs f prev (new xs f prev next e) blank (λ u. apart (sym u))) in
      entries-same (set xs f (new xs f prev next e)) prev (kept xs f prev next e) is (omega (arith, length-set xs f (new xs f prev next e))) (sym d) ∙ entries-other xs f (new xs f prev next e) is h

-- what stands between the entries that come before e and the others is in its place
placed-chain : (xs : List Cell) (e : Entry) (j n at : ℕ) → j < n → ((i : ℕ) → i < suc j → entry_before (entry_at xs (onward xs i at)) e ≡ true) → (suc j < n → entry_before (entry_at xs (onward xs (suc j) at)) e ≡ false)
    → entries_at xs (take (suc j) (walk xs n at)) ++ e ∷ entries_at xs (drop (suc j) (walk xs n at)) ≡ insert entry_before e (entries_at xs (walk xs n at))
placed-chain xs e j zero at lt pass stop = absurd (not-suc-le-zero lt)
placed-chain xs e zero (suc n) at lt pass stop =
    let p = pass 0 (omega arith) in
    let t = insert-front xs e n (after xs at) (λ m. stop (omega arith)) in
    simp p (ap (λ (l : List Entry). entry_at xs at ∷ l) (sym t))
placed-chain xs e (suc j) (suc n) at lt pass stop =
    let p = pass 0 (omega arith) in
    let t = placed-chain xs e j n (after xs at) (le_of_suc-le-suc lt) (λ i m. pass (suc i) (omega arith)) (λ m. stop (omega arith)) in
    simp p (ap (λ (l : List Entry). entry_at xs at ∷ l) t)

-- a fresh cell behind the first j + 1
module _ (xs : List Cell) (h f n j : ℕ) (e : Entry) (was : Apart xs h f n) (room : n < length xs) (lt : j < n) where
  abbrev prev : ℕ
  prev = onward xs j h

  abbrev next : ℕ
  next = onward xs (suc j) h

  prev-met : 1 ≤ occurs prev (walk xs n h)
  prev-met = onward-met xs j n h lt

  prev-apart : f ≡ prev → ⊥
  prev-apart u = let k : 1 ≤ occurs f (walk xs n h) = subst (λ (x : ℕ). 1 ≤ occurs x (walk xs n h)) (sym u) prev-met in omega (arith, fresh xs h f n was room)

  f-in : f < length xs
  f-in = free-inside xs h f n was room

  p-in : prev < length xs
  p-in = onward-inside xs h f n j was lt

  abbrev behind : List Cell
  behind = spliced xs f prev next e

  long : length behind ≡ length xs
  long = length-set (set xs f (record { entry = e; next = next })) prev (record { entry = entry_at xs prev; next = f }) ∙ length-set xs f (record { entry = e; next = next })

  behind-used : walk behind (suc n) h ≡ take (suc j) (walk xs n h) ++ f ∷ drop (suc j) (walk xs n h)
  behind-used = splices xs f prev next e f-in p-in prev-apart j n h lt refl refl (omega (arith, fresh xs h f n was room)) (λ x. omega (arith, was.once x, halves xs h f n was room x))

  behind-spare : walk behind (length behind - suc n) (after xs f) ≡ walk xs (length xs - suc n) (after xs f)
  behind-spare =
      ap (λ (k : ℕ). walk behind (k - suc n) (after xs f)) long
      ∙ still xs f prev next e f-in p-in prev-apart (length xs - suc n) (after xs f) (omega (arith, fresh xs h f n was room))
      (omega (arith, prev-met, was.once prev, halves xs h f n was room prev))

  parts : (x : ℕ) → occurs x (take (suc j) (walk xs n h)) + occurs x (drop (suc j) (walk xs n h)) ≡ occurs x (walk xs n h)
  parts x = sym (occurs-append x (take (suc j) (walk xs n h)) (drop (suc j) (walk xs n h))) ∙ ap (occurs x) (take-append-drop (suc j) (walk xs n h))

  behind-counted : (x : ℕ) → occurs x (numbers behind h (after xs f) (suc n)) ≡ occurs x (numbers xs h f n)
  behind-counted x =
      let l : numbers behind h (after xs f) (suc n) ≡ (take (suc j) (walk xs n h) ++ f ∷ drop (suc j) (walk xs n h)) ++ walk xs (length xs - suc n) (after xs f) = (λ t. behind-used t ++ behind-spare t) in
      ap (occurs x) l
      ∙ omega (arith, occurs-append x (take (suc j) (walk xs n h) ++ f ∷ drop (suc j) (walk xs n h)) (walk xs (length xs - suc n) (after xs f)), occurs-append x (take (suc j) (walk xs n h)) (f ∷ drop (suc j) (walk xs n h)), parts x, halves xs h f n was room x)

  pub behind-apart : Apart behind h (after xs f) (suc n)
  behind-apart = record { within = omega (arith, long); once = λ x. omega (arith, behind-counted x, was.once x); inside = λ x p. behind-counted x ∙ was.inside x (omega (arith, long)) }

  pub behind-chain : ((i : ℕ) → i < suc j → entry_before (entry_at xs (onward xs i h)) e ≡ true) → (suc j < n → entry_before (entry_at xs next) e ≡ false)
      → entries_at behind (walk behind (suc n) h) ≡ insert entry_before e (entries_at xs (walk xs n h))
  behind-chain pass stop =
      let none = fresh xs h f n was room in
      let a = same_entries xs f prev next e f-in p-in prev-apart (take (suc j) (walk xs n h)) (omega (arith, parts f)) in
      let b : entry_at behind f ≡ e = ap (λ (k : Cell). k.entry) (at-fresh xs f prev next e f-in p-in prev-apart) in
      let d = same_entries xs f prev next e f-in p-in prev-apart (drop (suc j) (walk xs n h)) (omega (arith, parts f)) in
      ap (entries_at behind) behind-used ∙ map-append (entry_at behind) (take (suc j) (walk xs n h)) (f ∷ drop (suc j) (walk xs n h)) ∙ (λ t. a t ++ (b t ∷ d t)) ∙ placed-chain xs e j n h lt pass stop

-- what the calls leave

pub take-leaves : (xs : List Cell) (h f n : ℕ) → Apart xs h f n → 0 < n
    → Apart (set xs h (record { entry = entry_at xs h; next = f })) (after xs h) h (n - 1)
    × (entries_at (set xs h (record { entry = entry_at xs h; next = f })) (walk (set xs h (record { entry = entry_at xs h; next = f })) (n - 1) (after xs h)) ≡ rest (entries_at xs (walk xs n h)))
take-leaves xs h f zero was some = absurd (omega arith)
take-leaves xs h f (suc m) was some =
    let e : m ≡ suc m - 1 = omega arith in
    let ys = set xs h (record { entry = entry_at xs h; next = f }) in
    let at = λ (k : ℕ). Apart ys (after xs h) h k × (entries_at ys (walk ys k (after xs h)) ≡ rest (entries_at xs (walk xs (suc m) h))) in
    subst at e (taken-apart xs h f m was, taken-chain xs h f m was)

pub front-leaves : (xs : List Cell) (h f n : ℕ) (e : Entry) → Apart xs h f n → n < length xs → (0 < n → entry_before (entry_at xs h) e ≡ false)
    → Apart (set xs f (record { entry = e; next = h })) f (after xs f) (n + 1)
    × (entries_at (set xs f (record { entry = e; next = h })) (walk (set xs f (record { entry = e; next = h })) (n + 1) f) ≡ insert entry_before e (entries_at xs (walk xs n h)))
front-leaves xs h f n e was room stop = (rw add-one (front-apart xs h f n was room e), rw add-one (front-chain xs h f n was room e stop))

-- the cells with e in the free cell f, behind the cell `prev` and before the cell `next`
abbrev pub linked_in : List Cell → ℕ → ℕ → ℕ → Entry → List Cell
linked_in xs f prev next e = let ys = set xs f (record { entry = e; next = next }) in set ys prev (record { entry = entry_at ys prev; next = f })

pub behind-leaves : (xs : List Cell) (h f n j : ℕ) (e : Entry) → Apart xs h f n → n < length xs → j < n
    → ((i : ℕ) → i < suc j → entry_before (entry_at xs (onward xs i h)) e ≡ true) → (suc j < n → entry_before (entry_at xs (onward xs (suc j) h)) e ≡ false)
    → Apart (linked_in xs f (onward xs j h) (onward xs (suc j) h) e) h (after xs f) (n + 1)
    × (entries_at (linked_in xs f (onward xs j h) (onward xs (suc j) h) e) (walk (linked_in xs f (onward xs j h) (onward xs (suc j) h) e) (n + 1) h) ≡ insert entry_before e (entries_at xs (walk xs n h)))
behind-leaves xs h f n j e was room lt pass stop =
    let prev = onward xs j h in
    let next = onward xs (suc j) h in
    let fresh : Cell = record { entry = e; next = next } in
    let k : entry_at (set xs f fresh) prev ≡ entry_at xs prev = ap (λ (d : Cell). d.entry) (get_or-set_other xs f prev fresh blank (λ u. prev-apart xs h f n j e was room lt (sym u))) in
    let is : linked_in xs f prev next e ≡ spliced xs f prev next e = (λ t. set (set xs f fresh) prev (record { entry = k t; next = f })) in (
      rw add-one (subst (λ (d : List Cell). Apart d h (after xs f) (suc n)) (sym is) (behind-apart xs h f n j e was room lt)),
      rw add-one (subst (λ (d : List Cell). entries_at d (walk d (suc n) h) ≡ insert entry_before e (entries_at xs (walk xs n h))) (sym is) (behind-chain xs h f n j e was room lt pass stop)),
    )
