use Rattle.std.proofs.Common.{◌≡◌, ℕ, suc, ◌+◌, ◌*◌, ◌<◌, ◌≤◌, List, length, codes, sym, refl, ap, ap₂, ◌∙◌, subst, subst₂, arith}
use Rattle.std.specs.Prelude.{◌≢◌}
use native.Mathlib.Decide.{dec_lt}
use Rattle.planner.specs.declared.setting.Setting.{Setting}
use Rattle.planner.specs.declared.setting.Setting.TheVariants.{Nodes, Budget}
use Rattle.planner.specs.declared.request.Request.{Request}
use Rattle.planner.specs.declared.request.Request.TheVariants.{Search, Help, Bad}
use Rattle.planner.specs.declared.request.CallFault.{CallFault}
use Rattle.planner.specs.declared.request.CallFault.TheVariants.{NoOption, NoValue, BadValue}
use Rattle.planner.specs.Options.{settings, name_of, set, Takes}
use Rattle.planner.specs.Requests.{word_at, Sets, Asks, Alike}
use Rattle.planner.specs.Requests.Sets.{none, more}

-- What the words of a call ask for is one thing.

-- no two options are written alike
one-name : (s t : Setting) → name_of s ≡ name_of t → s ≡ t
one-name Nodes Nodes e = refl
one-name Nodes Budget e = let l : 7 ≡ 8 = ap length e in absurd (omega (arith, l))
one-name Budget Nodes e = let l : 8 ≡ 7 = ap length e in absurd (omega (arith, l))
one-name Budget Budget e = refl

-- nor is one written as help is
no-help : (s : Setting) → name_of s ≡ codes "--help" → ⊥
no-help Nodes e = let l : 7 ≡ 6 = ap length e in omega (arith, l)
no-help Budget e = let l : 8 ≡ 6 = ap length e in omega (arith, l)

module _ (ws : List (List ℕ)) where
  -- at a place is an option, with its value behind it
  abbrev IsOption : ℕ → Type 0
  IsOption i = (s : Setting) × (n : ℕ) × (suc i < length ws) × (word_at ws i ≡ name_of s) × Takes s (word_at ws (suc i)) n

  one-option : (i j : ℕ) → i ≡ j → (a : IsOption i) (b : IsOption j) → (a.0 ≡ b.0) × (a.1 ≡ b.1)
  one-option i j e a b =
      let w : word_at ws i ≡ word_at ws j = ap (word_at ws) e in
      let v : word_at ws (suc i) ≡ word_at ws (suc j) = ap (λ k. word_at ws (suc k)) e in
      let s = one-name a.0 b.0 (sym a.3 ∙ w ∙ b.3) in
      (s, cc)

  -- options are due at odd places
  odd : {i : ℕ} {x : ℕ × ℕ} → Sets ws i x → (k : ℕ) × (i ≡ 1 + 2 * k)
  odd none = (0, refl)
  odd (more s n p l w t) = let k = odd p in (suc k.0, omega (arith, k.1))

  -- up to a place there is one setting
  one-setting : {i j : ℕ} {x y : ℕ × ℕ} → Sets ws i x → Sets ws j y → i ≡ j → x ≡ y
  one-setting none none e = refl
  one-setting none (more t m q k v r) e = absurd (omega (arith, e))
  one-setting (more s n p l w t) none e = absurd (omega (arith, e))
  one-setting (more {i = i} {x = x} s n p l w t) (more {i = j} u m q k v r) e =
      let h : i ≡ j = omega (arith, e) in
      let z = one-setting p q h in
      let o = one-option i j h (s, n, l, w, t) (u, m, k, v, r) in
      ap₂ (λ a b. set a b x) o.0 o.1 ∙ ap (set u m) z

  -- where an option is due and a later place is reached, there is one
  passed : {i j : ℕ} {x y : ℕ × ℕ} → Sets ws i x → Sets ws j y → i < j → IsOption i
  passed p none l = let k = odd p in absurd (omega (arith, l, k.1))
  passed {i = i} p (more {i = j} s n q h w t) l = elim (dec_lt i j) [
    | yes b ↦ passed p q b
    | no b ↦ let k = odd p in let m = odd q in let e : j ≡ i = omega (arith, l, b, k.1, m.1) in subst IsOption e (s, n, h, w, t)
  ]

  -- what is at fault at a place
  abbrev FaultAt : ℕ → CallFault → Type 0
  FaultAt i (NoOption j) = (j ≡ i) × (word_at ws i ≢ codes "--help") × ((s : Setting) → word_at ws i ≢ name_of s)
  FaultAt i (NoValue s) = (word_at ws i ≡ name_of s) × (length ws ≡ suc i)
  FaultAt i (BadValue s j) = (word_at ws i ≡ name_of s) × (j ≡ suc i) × (suc i < length ws) × ((n : ℕ) → Takes s (word_at ws (suc i)) n → ⊥)

  -- what is asked for at a place, behind options that make these settings
  abbrev AsksAt : ℕ → ℕ × ℕ → Request → Type 0
  AsksAt i x (Search o) = (length ws ≤ i) × (settings o ≡ x)
  AsksAt i x Help = (i < length ws) × (word_at ws i ≡ codes "--help")
  AsksAt i x (Bad f) = (i < length ws) × FaultAt i f

  asks-at : (r : Request) → Asks ws r → (i : ℕ) × (x : ℕ × ℕ) × Sets ws i x × AsksAt i x r
  asks-at (Search o) a = (a.0, settings o, a.1, (a.2, refl))
  asks-at Help a = (a.0, a.1.0, a.1.1, (a.1.2, a.2))
  asks-at (Bad (NoOption i)) a = (i, a.0.0, a.0.1, (a.0.2, (refl, a.1, a.2)))
  asks-at (Bad (NoValue s)) a = (a.0, a.1.0, a.1.1, (a.1.2, (a.2, a.3)))
  asks-at (Bad (BadValue s j)) a =
      (a.0, a.1.0, a.1.1, (a.1.2, (a.2, a.3, omega (arith, a.3, a.4), (λ n t. a.5 n (subst (λ k. Takes s (word_at ws k) n) (sym a.3) t)))))

  -- there is then no option with a value
  no-option : (i : ℕ) (x : ℕ × ℕ) (r : Request) → AsksAt i x r → IsOption i → ⊥
  no-option i x (Search o) a b = omega (arith, a.0, b.2)
  no-option i x Help a b = no-help b.0 (sym b.3 ∙ a.1)
  no-option i x (Bad (NoOption j)) a b = a.1.2 b.0 b.3
  no-option i x (Bad (NoValue s)) a b = omega (arith, a.1.1, b.2)
  no-option i x (Bad (BadValue s j)) a b =
      a.1.3 b.1 (subst (λ t. Takes t (word_at ws (suc i)) b.1) (one-name b.0 s (sym b.3 ∙ a.1.0)) b.4)

  -- so two requests are of one place
  one-place : {i j : ℕ} {x y : ℕ × ℕ} (r s : Request) → Sets ws i x → Sets ws j y → AsksAt i x r → AsksAt j y s → i ≡ j
  one-place {i = i} {j = j} {x = x} {y = y} r s p q a b = elim (dec_lt i j) [
    | yes l ↦ absurd (no-option i x r a (passed p q l))
    | no l ↦ elim (dec_lt j i) [
      | yes m ↦ absurd (no-option j y s b (passed q p m))
      | no m ↦ omega (arith, l, m)
    ]
  ]

  help-is-no-fault : (i : ℕ) (f : CallFault) → word_at ws i ≡ codes "--help" → FaultAt i f → ⊥
  help-is-no-fault i (NoOption j) h a = a.1 h
  help-is-no-fault i (NoValue s) h a = no-help s (sym a.0 ∙ h)
  help-is-no-fault i (BadValue s j) h a = no-help s (sym a.0 ∙ h)

  one-fault : (i : ℕ) (f g : CallFault) → FaultAt i f → FaultAt i g → f ≡ g
  one-fault i (NoOption j) (NoOption k) a b = ap NoOption (a.0 ∙ sym b.0)
  one-fault i (NoOption j) (NoValue t) a b = absurd (a.2 t b.0)
  one-fault i (NoOption j) (BadValue t k) a b = absurd (a.2 t b.0)
  one-fault i (NoValue s) (NoOption k) a b = absurd (b.2 s a.0)
  one-fault i (NoValue s) (NoValue t) a b = ap NoValue (one-name s t (sym a.0 ∙ b.0))
  one-fault i (NoValue s) (BadValue t k) a b = absurd (omega (arith, a.1, b.2))
  one-fault i (BadValue s j) (NoOption k) a b = absurd (b.2 s a.0)
  one-fault i (BadValue s j) (NoValue t) a b = absurd (omega (arith, a.2, b.1))
  one-fault i (BadValue s j) (BadValue t k) a b = ap₂ BadValue (one-name s t (sym a.0 ∙ b.0)) (a.1 ∙ sym b.1)

  alike-at : (i : ℕ) (x : ℕ × ℕ) (r s : Request) → AsksAt i x r → AsksAt i x s → Alike r s
  alike-at i x (Search o) (Search p) a b = a.1 ∙ sym b.1
  alike-at i x (Search o) s a b = absurd (omega (arith, a.0, b.0))
  alike-at i x r (Search p) a b = absurd (omega (arith, a.0, b.0))
  alike-at i x Help Help a b = tt
  alike-at i x Help (Bad g) a b = absurd (help-is-no-fault i g a.1 b.1)
  alike-at i x (Bad f) Help a b = absurd (help-is-no-fault i f b.1 a.1)
  alike-at i x (Bad f) (Bad g) a b = one-fault i f g a.1 b.1

  pub asks-once : (r s : Request) → Asks ws r → Asks ws s → Alike r s
  asks-once r s a b =
      let p = asks-at r a in
      let q = asks-at s b in
      let e = one-place r s p.2 q.2 p.3 q.3 in
      alike-at q.0 q.1 r s (subst₂ (λ i x. AsksAt i x r) e (one-setting p.2 q.2 e) p.3) q.3
