use Rattle.std.proofs.Common.{◌≡◌, ℕ, zero, suc, ◌+◌, ◌%◌, ◌<◌, ◌≤◌, Bool, true, false, eqb, refl, sym, ap, ◌∙◌, arith, fold}
use Rattle.std.proofs.lemmas.Bool.{and_parts, eqb-true}
use borrow.Author.Clash.{clash}
use Rattle.std.specs.List.{range_with_len}
use Rattle.model.specs.Partial.{Partial}
use Rattle.model.specs.Nodes.{agree_on, is_duplicate}
use Rattle.model.proofs.Range.{every-all}
use Rattle.nodes.specs.Hash.{word_of, mixed, hash_of, bucket_of}

fold-same : (v w : ℕ → ℕ) (n a h : ℕ) → ((t : ℕ) → a ≤ t → t < a + n → v t ≡ w t)
    → fold (λ h t. mixed h (v t)) h (range_with_len a n) ≡ fold (λ h t. mixed h (w t)) h (range_with_len a n)
fold-same v w zero a h e = refl
fold-same v w (suc n) a h e =
    ap (λ (x : ℕ). fold (λ h t. mixed h (v t)) (mixed h x) (range_with_len (a + 1) n)) (e a (omega arith) (omega arith))
    ∙ fold-same v w n (a + 1) (mixed h (w a)) (λ t l u. e t (omega arith) (omega arith))

-- a task that two partial schedules place alike is the same number in both
agree_word : (a b : Partial) (t : ℕ) → agree_on a b t ≡ true → word_of a t ≡ word_of b t
agree_word a b t e = go (a.placed t) refl (b.placed t) refl
  where
    go : (p : Bool) → a.placed t ≡ p → (q : Bool) → b.placed t ≡ q → word_of a t ≡ word_of b t
    go true x true y =
        let same = and_parts (eqb (a.machine t) (b.machine t)) (eqb (a.start t) (b.start t)) (rw (x, y) at e) in
        rw (x, y) (omega (arith, eqb-true (a.machine t) (b.machine t) same.0, eqb-true (a.start t) (b.start t) same.1))
    go true x false y = clash false (rw (x, y) at e) refl
    go false x true y = clash false (rw (x, y) at e) refl
    go false x false y = rw (x, y)

-- duplicates lie in one bucket
pub duplicate_bucket : (a b : Partial) (m : ℕ) → is_duplicate a b ≡ true → bucket_of b m ≡ bucket_of a m
unfolding is_duplicate hash_of
duplicate_bucket a b m e =
    ap (λ (h : ℕ). h % m) (sym (fold-same (word_of a) (word_of b) 32 0 0 (λ t l u. agree_word a b t (every-all 32 (agree_on a b) e t (omega arith)))))
